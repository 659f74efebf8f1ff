use Prim.Native.Nat.{◌≤◌}
use mathlib.Core.Path.{refl, ◌∙◌}
use lib.ListN.{length}
use native.Mathlib.Omega.{arith}
use Rattle.coding.proofs.Codes.{coded_length, coded_on}
use Rattle.coding.proofs.set_codes.Goals as goal

pub loop-i-init : goal.loop-i-init
loop-i-init c = (refl, (λ i a b. absurd (omega arith)))

pub set_code-requires : goal.set_code-requires
set_code-requires c = record { count_bound = omega arith; shallow = c.requires.shallow }

pub loop-i-preserved : goal.loop-i-preserved
loop-i-preserved c = let l = c.loop-i in
    let a = c.args in
    let room : length a.tokens.now ≤ length l.codes = omega arith in (
      coded_length _ _ _ _ _ _ _ _ l.codes room _ a.words.now _ a.s l.i c.word_at-w.ensures c.set_code.ensures ∙ l.invariant.0,
      coded_on _ _ _ _ _ _ _ _ l.codes room _ a.words.now _ a.s l.i c.word_at-w.ensures c.set_code.ensures l.invariant.1,
    )

pub returns : goal.returns
returns c = let l = c.loop-i in
    λ i a b. l.invariant.1 i a (omega arith)
