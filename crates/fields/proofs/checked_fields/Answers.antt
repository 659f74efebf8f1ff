use mathlib.Core.Path.{sym, ap}
use mathlib.Core.List.{map}
use Rattle.fields.specs.Fields.{record_fields, verdict_fields}
use Rattle.fields.proofs.checked_fields.Goals as goal

pub returns-in-Ok : goal.returns-in-Ok
returns-in-Ok c = rw c.all_fields-records.ensures (sym (ap (λ v. verdict_fields v (map record_fields c.args.c.records)) c.in-Ok.is))

pub returns-in-Err : goal.returns-in-Err
returns-in-Err c = rw (c.number.ensures, c.place.ensures, c.all_fields-records.ensures) (sym (ap (λ v. verdict_fields v (map record_fields c.args.c.records)) c.in-Err.is))
