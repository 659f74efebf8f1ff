use mathlib.Core.Path.{sym, ap}
use Rattle.fields.specs.Fields.{chained_fields}
use Rattle.fields.proofs.chained_fields.Goals as goal

pub returns-in-Ok : goal.returns-in-Ok
returns-in-Ok c = sym (ap chained_fields c.in-Ok.is)

pub returns-in-Err : goal.returns-in-Err
returns-in-Err c = rw (c.number.ensures, c.place.ensures) (sym (ap chained_fields c.in-Err.is))
