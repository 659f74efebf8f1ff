use Rattle.std.specs.Prelude.{Ok}
use mathlib.Core.List.{List}
use Prim.Native.Nat.{◌+◌, ◌*◌, ◌-◌}
use lib.ListN.{length}
use Rattle.statements.proofs.SequenceLaws.{IsSofar}
use Prim.Native.Nat.{ℕ}
use Rattle.statements.proofs.+block_conditional_for_loop_otherwise_sequence_statement_while_loop.Given as goal

abbrev pub decreases-block : goal.decreases-block
decreases-block l = 3 * (length l.tokens.now - l.p)

abbrev pub decreases-conditional : goal.decreases-conditional
decreases-conditional l = 3 * (length l.tokens.now - l.p)

abbrev pub decreases-for_loop : goal.decreases-for_loop
decreases-for_loop l = 3 * (length l.tokens.now - l.p)

abbrev pub decreases-otherwise : goal.decreases-otherwise
decreases-otherwise l = 3 * (length l.tokens.now - l.p)

abbrev pub decreases-sequence : goal.decreases-sequence
decreases-sequence l = 3 * (length l.tokens.now - l.p) + 2

abbrev pub decreases-statement : goal.decreases-statement
decreases-statement l = 3 * (length l.tokens.now - l.p) + 1

abbrev pub decreases-while_loop : goal.decreases-while_loop
decreases-while_loop l = 3 * (length l.tokens.now - l.p)

abbrev pub invariant-sequence-loop-words : goal.invariant-sequence-loop-words
invariant-sequence-loop-words l = (A : List ℕ) → IsSofar l.tokens l.p l.n l.d A l.initial.words (Ok (l.initial.q, l.initial.m)) → IsSofar l.tokens l.p l.n l.d A l.words (Ok (l.q, l.m))

abbrev pub decreases-sequence-loop-words : goal.decreases-sequence-loop-words
decreases-sequence-loop-words l = length l.tokens - l.q
