use Prim.Native.Nat.{ℕ}
use mathlib.Core.Path.{sym, ap, ◌∙◌}
use native.Mathlib.Omega.{arith}
use lib.ListN.{replicate}
use lib.Seq.{length-take-le}
use Rattle.loading.proofs.Steps.{first_zero, first_words, whole_store, later_words, same_words}
use Rattle.loading.proofs.load_facts.Goals as goal

pub slice_bounds-clear-end-2 : goal.slice_bounds-clear-end-2
slice_bounds-clear-end-2 c = let a = c.args in sym (length-take-le a.needed a.store.now (omega arith))

pub slice_bounds-load_words-end-2 : goal.slice_bounds-load_words-end-2
slice_bounds-load_words-end-2 c = first_words c.args.store.now _ c.args.needed c.requires.0 c.clear.ensures

pub returns : goal.returns
returns c = let a = c.args in
    let s = a.store.now in
    let zeros = c.clear.new.words in
    let z = c.clear.ensures in
    let words = c.load_words.new.words in
    let f = c.load_words.ensures in
    let h = c.requires.0 in record { value = λ w r n. whole_store s zeros a.needed h z w words (f.value w r (first_zero s zeros a.needed h z ∙ ap (λ (k : ℕ). replicate k 0) n)) n; later = later_words s zeros a.needed h z words f.size; size = same_words s zeros a.needed h z words f.size }
