use Rattle.free.proofs.Frame.{filled_more, small_more}
use Rattle.slots.specs.Slots.{digit_at}
use lib.ListN.{length-set}
use mathlib.Core.Path.{refl}
use native.Mathlib.Omega.{arith}
use Rattle.free.proofs.fill.Goals as goal

pub loop-k-init : goal.loop-k-init
loop-k-init c = (refl, (λ k a b. absurd (omega arith)), c.requires.small)

pub free_word-requires : goal.free_word-requires
free_word-requires c = record { small = c.loop-k.invariant.2; count_bound = omega arith }

pub loop-k-preserved : goal.loop-k-preserved
loop-k-preserved c = let l = c.loop-k in (
  simp length-set l.invariant.0,
  filled_more c.args.words.now _ l.fr _ l.k c.free_word.result (omega arith) c.free_word.ensures.0 l.invariant.1,
  small_more c.args.words.now (digit_at c.args.f c.args.ids.now) l.fr 0 l.k c.free_word.result (omega arith) c.free_word.ensures.1 l.invariant.2,
)

pub returns : goal.returns
returns c = let l = c.loop-k in
    record { filled = (λ k a b. l.invariant.1 k a (omega arith)); small_2 = l.invariant.2 }
