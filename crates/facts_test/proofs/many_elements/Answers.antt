use Rattle.std.proofs.Common.{◌≡◌, ℕ, ◌≤◌, List, length, take, sym, arith}
use Rattle.std.proofs.Math.Seq.{length-take-le}
use Rattle.facts_test.proofs.many_elements.Goals as goal

first : (n : ℕ) (l : List ℕ) → n ≤ length l → n ≡ length (take n l)
first n l h = sym (length-take-le n l h)

pub slice_bounds-show_full-end : goal.slice_bounds-show_full-end
slice_bounds-show_full-end g c = first 252 c.loop-i.text (omega arith)

pub slice_bounds-show_full-end-2 : goal.slice_bounds-show_full-end-2
slice_bounds-show_full-end-2 g c = first 256 c.loop-i.text (omega arith)
