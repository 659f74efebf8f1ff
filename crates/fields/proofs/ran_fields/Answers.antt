use mathlib.Core.Path.{sym, ap}
use Rattle.fields.specs.Fields.{ended_fields}
use Rattle.fields.proofs.ran_fields.Goals as goal

pub returns-in-Ok : goal.returns-in-Ok
returns-in-Ok c = rw (c.ending_number.ensures, c.wide_counts-counts.ensures) (sym (ap (λ v. ended_fields v c.args.a.counts) c.in-Ok.is))

pub returns-in-Err : goal.returns-in-Err
returns-in-Err c = rw (c.number.ensures, c.place.ensures, c.wide_counts-counts.ensures) (sym (ap (λ v. ended_fields v c.args.a.counts) c.in-Err.is))
