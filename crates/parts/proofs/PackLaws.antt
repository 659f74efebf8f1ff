-- What a packed number holds.
use Prim.Native.Nat.{ℕ, ◌+◌, ◌-◌, ◌/◌, ◌%◌, ◌<◌, ◌≤◌}
use mathlib.Core.List.{[]}
use native.Mathlib.Nat.{add-sub_cancel_left}
use lib.ListN.{length, take, drop, drop_of_length-le, length-drop}
use lib.Seq.{take_all, take-nil}
use mathlib.Core.Path.{◌≡◌, refl, sym, ◌∙◌}
use mathlib.Core.Bool.{Bool, true, false, ◌&&◌, cond}
use native.Mathlib.Omega.{arith}
use lib.Dec.{eqb}
use borrow.Author.Tests.{eqb-true}
use Rattle.definition.specs.Text.{Text}
use Rattle.parts.specs.Packed.{pack, tag_of, part_of}
use Rattle.parts.specs.Entries.{quoted_too}

module _ (text offset len tag : ℕ) (x : text < 2) (n : len < 64) (t : tag < 4) where
  pub pack_tag : tag_of (pack text offset len tag) ≡ tag
  pack_tag = omega arith

  pub pack_part : part_of (pack text offset len tag) ≡ record { text = text; offset = offset; length = len }
  pack_part =
      let a : pack text offset len tag / 4 % 2 ≡ text = omega arith in
      let b : pack text offset len tag / 512 ≡ offset = omega arith in
      let c : pack text offset len tag / 8 % 64 ≡ len = omega arith in
      rw (a, b, c)

-- the text stays when an element turns out to be quoted
next_part : (w : ℕ) → w % 4 ≡ 0 → part_of (w + 1) ≡ part_of w
next_part w h =
    let a : (w + 1) / 4 ≡ w / 4 = omega arith in
    let b : (w + 1) / 512 ≡ w / 512 = omega arith in
    let c : (w + 1) / 8 ≡ w / 8 = omega arith in
    rw (a, b, c)

pub quoted_part : (v w : ℕ) → part_of (quoted_too v w) ≡ part_of w
unfolding quoted_too
quoted_part v w = go (eqb (tag_of v) 1) (eqb (tag_of w) 0) refl
  where
    go : (a b : Bool) → eqb (tag_of w) 0 ≡ b → part_of (cond (a && b) (w + 1) w) ≡ part_of w
    go true true e = next_part w (eqb-true (tag_of w) 0 e)
    go true false e = refl
    go false b e = refl

-- the bytes of a text from a place on, as many as there are
module _ (n o : ℕ) (s : Text) where
  pub no_bytes : length s ≤ o → [] ≡ take n (drop o s)
  no_bytes h = rw (drop_of_length-le s) (sym (take-nil n))

  pub few_bytes : length s - o < n → take (length s - o) (drop o s) ≡ take n (drop o s)
  few_bytes h =
      let e : length (drop o s) ≤ length s - o = simp length-drop (omega arith) in
      let f : length (drop o s) ≤ n = simp length-drop (omega arith) in
      take_all (length s - o) (drop o s) e ∙ sym (take_all n (drop o s) f)

  pub all_bytes : take (o + n - o) (drop o s) ≡ take n (drop o s)
  all_bytes = rw add-sub_cancel_left
