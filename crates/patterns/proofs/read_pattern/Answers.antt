use mathlib.Core.Path.{sym, ◌∙◌}
use native.Mathlib.Omega.{arith}
use lib.ListN.{length}
use Prim.Native.Nat.{◌<◌}
use Rattle.patterns.proofs.PhraseLaws.{part_of, no_part_of, part_formed, text_short}
use Rattle.patterns.proofs.read_pattern.Goals as goal

pub returns-then-t-gt63 : goal.returns-then-t-gt63
returns-then-t-gt63 c = let h : length c.text_at-t.result.now < 64 = text_short _ c.args.token _ c.text_at-t.ensures in absurd (omega (arith, h, c.if-t-gt63.true))

pub well_formed-requires : goal.well_formed-requires
well_formed-requires c = text_short _ c.args.token _ c.text_at-t.ensures

pub returns-then-well_formed : goal.returns-then-well_formed
returns-then-well_formed c = let q = part_of _ _ c.text_at-t.ensures (sym c.well_formed-2.ensures ∙ c.if-well_formed.true) in
    record { text = q; formed = part_formed _ _ q }

pub returns : goal.returns
returns c = let q = no_part_of _ _ c.text_at-t.ensures (sym c.well_formed-2.ensures ∙ c.if-well_formed.false) in
    record { text = q; formed = part_formed _ _ q }
