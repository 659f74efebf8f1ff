use Prim.Native.Nat.{◌+◌, ◌-◌}
use mathlib.Core.Path.{◌≡◌}
use lib.ListN.{length, replicate}
use Rattle.definition.specs.Accept.{Accepted, words_needed}
use Rattle.facts.specs.Reading.{facts_from}
use Rattle.loading.specs.Given.{Ready, Loaded}
use Rattle.loading.proofs.load_words.Given as goal

abbrev pub invariant-loop-a : goal.invariant-loop-a
invariant-loop-a l = (length l.words ≡ length l.initial.words) × ((w : Accepted) → Ready l.facts l.query l.relations l.places l.firsts l.u w → l.initial.words ≡ replicate (words_needed w) 0 → Loaded w (facts_from l.facts l.at) l.words)

abbrev pub decreases-loop-a : goal.decreases-loop-a
decreases-loop-a l = length l.facts + 1 - l.at
