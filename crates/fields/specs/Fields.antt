-- The answers of the calls as structs of numbers: `refusal` is 0 where the call succeeds, and fields that do not apply are 0.
use Rattle.std.specs.Prelude.{ℕ, List, map, Result, Ok, Err}
use Rattle.definition.specs.Answer.{number, place, ending_number}
use Rattle.definition.specs.Calls.{Part}
use Rattle.definition.specs.declared.Refusal.{Refusal}
use Rattle.definition.specs.declared.Record.{Record}
use Rattle.definition.specs.declared.Checked.{Checked}
use Rattle.definition.specs.declared.Figures.{Figures}
use Rattle.definition.specs.declared.Stopped.{Stopped}
use Rattle.definition.specs.declared.RunAnswer.{RunAnswer}
use Rattle.definition.specs.declared.RefusedJoin.{RefusedJoin}
use Rattle.fields.specs.declared.CRecord.{CRecord}
use Rattle.fields.specs.declared.CChecked.{CChecked}
use Rattle.fields.specs.declared.CRan.{CRan}
use Rattle.fields.specs.declared.CPart.{CPart}
use Rattle.fields.specs.declared.CChained.{CChained}
use Rattle.fields.specs.declared.CJoined.{CJoined}

abbrev pub record_fields : Record → CRecord
record_fields r = record { text = r.text; offset = r.offset; length = r.length; arity = r.arity; first = r.first; count = r.count }

abbrev pub verdict_fields : Result Figures Refusal → List CRecord → CChecked
verdict_fields (Ok f) rs = record { refusal = 0; place = 0; universe = f.universe; words = f.words; relations = f.relations; records = rs }
verdict_fields (Err q) rs = record { refusal = number q; place = place q; universe = 0; words = 0; relations = 0; records = rs }

abbrev pub checked_fields : Checked → CChecked
checked_fields c = verdict_fields c.verdict (map record_fields c.records)

abbrev pub ended_fields : Result Stopped Refusal → List ℕ → CRan
ended_fields (Ok s) cs = record { refusal = 0; place = 0; ending = ending_number s.ending; steps = s.steps; written = s.written; counts = cs }
ended_fields (Err q) cs = record { refusal = number q; place = place q; ending = 0; steps = 0; written = 0; counts = cs }

abbrev pub ran_fields : RunAnswer → CRan
ran_fields a = ended_fields a.ran a.counts

abbrev pub chained_fields : Result ℕ Refusal → CChained
chained_fields (Ok n) = record { refusal = 0; place = 0; count = n }
chained_fields (Err q) = record { refusal = number q; place = place q; count = 0 }

abbrev pub joined_fields : Result ℕ RefusedJoin → CJoined
joined_fields (Ok n) = record { refusal = 0; place = 0; text = 0; length = n }
joined_fields (Err q) = record { refusal = number q.refusal; place = place q.refusal; text = q.text; length = 0 }

abbrev pub part_fields : Part → CPart
part_fields p = record { text = p.text; offset = p.offset; length = p.length }
