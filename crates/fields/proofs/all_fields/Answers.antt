use Rattle.std.proofs.Common.{rules, arith, ◌≡◌, ◌∙◌, sym, ℕ, ◌<◌, length, get_or}
use Rattle.definition.specs.Calls.{no_record}
use Rattle.fields.specs.Fields.{record_fields}
use Rattle.fields.proofs.Copies.{mapped}
use Rattle.fields.proofs.all_fields.Goals as goal

pub returns : goal.returns
returns c =
    let each : (i : ℕ) → i < length c.args.rs → get_or c.map.result i (record_fields no_record) ≡ record_fields (get_or c.args.rs i no_record)
    = λ i l. let h = c.map.ensures.items.at i no_record (record_fields no_record) (omega (arith, c.requires)) in let k = h.2 in search rules in
    mapped record_fields no_record (record_fields no_record) c.args.rs c.map.result (c.map.ensures.items.long ∙ sym c.requires) each
