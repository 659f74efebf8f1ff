use Rattle.std.specs.Prelude.{Ok}
use Prim.Native.Nat.{ℕ, ◌-◌}
use mathlib.Core.List.{List}
use lib.ListN.{length}
use Rattle.simple.proofs.ItemLaws.{IsPrinting}
use Rattle.simple.proofs.print.Given as goal

abbrev pub invariant-loop-words : goal.invariant-loop-words
invariant-loop-words l = (A : List ℕ) → IsPrinting l.tokens l.p l.n l.d A l.initial.words (Ok (l.initial.q, l.initial.m)) → IsPrinting l.tokens l.p l.n l.d A l.words (Ok (l.q, l.m))

abbrev pub decreases-loop-words : goal.decreases-loop-words
decreases-loop-words l = length l.tokens - l.q
