-- Parts entered into a list in byte order: each text stands there once, as the first part that was entered with it, and quoted if some part was.
use Rattle.std.specs.Prelude.{if◌then◌else◌}
use Prim.Native.Nat.{ℕ, zero, suc, ◌+◌, ◌%◌, ◌<◌}
use mathlib.Core.Path.{◌≡◌, refl, sym, ap, ap₂, subst, ◌∙◌}
use mathlib.Core.Bool.{Bool, true, false, ◌&&◌, ◌||◌, cond, or-false, or_assoc}
use mathlib.Core.List.{List, [], ◌∷◌}
use native.Mathlib.Omega.{arith}
use borrow.Author.Tests.{eqb-true, eqb-false, eq-eqb}
use lib.Dec.{T, eqb}
use lib.ListN.{length, get_or}
use Rattle.definition.specs.Text.{Text, same, earlier, member, some_of}
use Rattle.definition.specs.Calls.{Part, part_text}
use Rattle.definition.proofs.BoolLaws.{or_left_comm}
use Rattle.definition.proofs.MeaningLaws.{same_eq, same_refl, same_itself}
use Rattle.definition.specs.Facts.{Ascending}
use Rattle.definition.proofs.UniverseLaws.{earlier_not_same, earlier_trans}
use Rattle.parts.specs.Packed.{tag_of, part_of, text_of}
use Rattle.parts.specs.Entries.{quoted_too, enter, enter_all, texts_of}
use Rattle.parts.proofs.PackLaws.{quoted_part}
use Rattle.parts.proofs.HeldLaws.{enter_ascending}

-- a text before the first of an ascending list is not in it
not_same : (t u : Text) → T (earlier t u) → same t u ≡ false
not_same t u h = go (same t u) refl
  where
    go : (b : Bool) → same t u ≡ b → b ≡ false
    go true e = absurd (earlier_not_same t u h (rw e tt))
    go false e = refl

not_member : (t u : Text) (us : List Text) → T (earlier t u) → Ascending (u ∷ us) → member t (u ∷ us) ≡ false
unfolding member some_of
not_member t u [] h a = rw (not_same t u h)
not_member t u (v ∷ us) h a = rw (not_same t u h) (not_member t v us (earlier_trans t u v h a.0) a.1)

-- nor is the first in the list behind it
not_behind : (t u : Text) (us : List Text) → T (same t u) → Ascending (u ∷ us) → member t us ≡ false
unfolding member some_of
not_behind t u [] h a = refl
not_behind t u (v ∷ us) h a = not_member t v us (subst (λ (x : Text). T (earlier x v)) (sym (same_eq t u h)) a.0) a.1

-- equal texts are found equally
same_with : (t u v : Text) → T (same u v) → same t u ≡ same t v
same_with t u v h = ap (same t) (same_eq u v h)

-- tests joined
either : (s a b q : Bool) → (s && (a || b)) || q ≡ (s && a) || ((s && b) || q)
either true true b q = refl
either true false b q = refl
either false a b q = refl

module _ (facts query : Text) where
  -- the first of some parts that has the text t; within if there is none
  unfoldable pub part_in : Text → List ℕ → Part → Part
  part_in t [] within = within
  part_in t (w ∷ ws) within = let r = part_in t ws within in if same t (text_of facts query w) then (part_of w) else r

  -- some part quotes the text t
  unfoldable pub quotes : Text → List ℕ → Bool
  quotes t ws = some_of (λ w. same t (text_of facts query w) && eqb (tag_of w) 1) ws

  part_none : (t : Text) (ws : List ℕ) (within : Part) → member t (texts_of facts query ws) ≡ false → part_in t ws within ≡ within
  unfolding part_in member some_of
  part_none t [] within h = refl
  part_none t (w ∷ ws) within h = go (same t (text_of facts query w)) h (part_none t ws within)
    where
      go : (b : Bool) → b || member t (texts_of facts query ws) ≡ false → (member t (texts_of facts query ws) ≡ false → part_in t ws within ≡ within) → cond b (part_of w) (part_in t ws within) ≡ within
      go true h ih = let z : ◌≡◌ {A = ℕ} 0 1 = cc in absurd (omega arith)
      go false h ih = ih h

  quoted_text : (v w : ℕ) → text_of facts query (quoted_too v w) ≡ text_of facts query w
  unfolding text_of
  quoted_text v w = ap (part_text facts query) (quoted_part v w)

  is_member : (ws : List ℕ) (n : ℕ) → n < length ws → member (text_of facts query (get_or ws n 0)) (texts_of facts query ws) ≡ true
  unfolding member some_of
  is_member [] n h = absurd (omega arith)
  is_member (w ∷ ws) zero h = rw (same_itself (text_of facts query w))
  is_member (w ∷ ws) (suc n) h = go (same (text_of facts query (get_or ws n 0)) (text_of facts query w)) (is_member ws n (omega arith))
    where
      go : (b : Bool) → member (text_of facts query (get_or ws n 0)) (texts_of facts query ws) ≡ true → b || member (text_of facts query (get_or ws n 0)) (texts_of facts query ws) ≡ true
      go true e = refl
      go false e = e

  -- a later text of the list is another
  later_same : (w : ℕ) (ws : List ℕ) (n : ℕ) → Ascending (texts_of facts query (w ∷ ws)) → n < length ws → same (text_of facts query (get_or ws n 0)) (text_of facts query w) ≡ false
  later_same w ws n a h = go (same (text_of facts query (get_or ws n 0)) (text_of facts query w)) refl
    where
      go : (b : Bool) → same (text_of facts query (get_or ws n 0)) (text_of facts query w) ≡ b → b ≡ false
      go true e = sym (is_member ws n h) ∙ not_behind (text_of facts query (get_or ws n 0)) (text_of facts query w) (texts_of facts query ws) (rw e tt) a
      go false e = refl

  -- the part of a text stays the first
  part_enter : (t : Text) (v : ℕ) (ws : List ℕ) (within : Part) → Ascending (texts_of facts query ws)
      → part_in t (enter facts query v ws) within ≡ part_in t ws (if same t (text_of facts query v) then (part_of v) else within)
  unfolding part_in enter
  part_enter t v [] within a = refl
  part_enter t v (w ∷ ws) within a = go (same x y) refl (earlier x y) refl (part_enter t v ws within a.1)
    where
      x : Text
      x = text_of facts query v

      y : Text
      y = text_of facts query w

      -- v is in the list already
      as_first : T (same x y) → (b : Bool) → same t y ≡ b → cond b (part_of (quoted_too v w)) (part_in t ws within) ≡ cond b (part_of w) (part_in t ws (cond (same t x) (part_of v) within))
      as_first e true f = quoted_part v w
      as_first e false f = rw (same_with t x y e ∙ f)

      -- or it stands before all of it
      in_front : T (earlier x y) → (b : Bool) → same t x ≡ b → cond b (part_of v) (part_in t (w ∷ ws) within) ≡ part_in t (w ∷ ws) (cond b (part_of v) within)
      in_front e true f = sym (part_none t (w ∷ ws) (part_of v) (subst (λ (z : Text). member z (texts_of facts query (w ∷ ws)) ≡ false) (sym (same_eq t x (rw f tt))) (not_member x y (texts_of facts query ws) e a)))
      in_front e false f = refl

      go : (b : Bool) → same x y ≡ b → (c : Bool) → earlier x y ≡ c → part_in t (enter facts query v ws) within ≡ part_in t ws (cond (same t x) (part_of v) within)
          → part_in t (cond b (quoted_too v w ∷ ws) (cond c (v ∷ w ∷ ws) (w ∷ enter facts query v ws))) within ≡ part_in t (w ∷ ws) (cond (same t x) (part_of v) within)
      go true e c f ih = ap (λ (z : Text). cond (same t z) (part_of (quoted_too v w)) (part_in t ws within)) (quoted_text v w) ∙ as_first (rw e tt) (same t y) refl
      go false e true f ih = in_front (rw f tt) (same t x) refl
      go false e false f ih = ap (cond (same t y) (part_of w)) ih

  pub part_enter_all : (t : Text) (vs ws : List ℕ) (within : Part) → Ascending (texts_of facts query ws) → part_in t (enter_all facts query vs ws) within ≡ part_in t ws (part_in t vs within)
  unfolding part_in enter_all
  part_enter_all t [] ws within a = refl
  part_enter_all t (v ∷ vs) ws within a = part_enter_all t vs (enter facts query v ws) within (enter_ascending facts query v ws a) ∙ part_enter t v ws (part_in t vs within) a

  -- and is that of its place
  pub part_at : (ws : List ℕ) (n : ℕ) (within : Part) → Ascending (texts_of facts query ws) → n < length ws → part_in (text_of facts query (get_or ws n 0)) ws within ≡ part_of (get_or ws n 0)
  unfolding part_in
  part_at [] n within a h = absurd (omega arith)
  part_at (w ∷ ws) zero within a h = rw (same_itself (text_of facts query w))
  part_at (w ∷ ws) (suc n) within a h = rw (later_same w ws n a (omega arith)) (part_at ws n within a.1 (omega arith))

  -- an entry's tag is 0 or 1
  unfoldable pub Small : List ℕ → Type 0
  Small [] = Unit {0}
  Small (w ∷ ws) = (tag_of w < 2) × Small ws

  quoted_tag : (v w : ℕ) → tag_of w < 2 → eqb (tag_of (quoted_too v w)) 1 ≡ eqb (tag_of v) 1 || eqb (tag_of w) 1
  unfolding quoted_too
  quoted_tag v w h = go (eqb (tag_of v) 1) (eqb (tag_of w) 0) refl
    where
      go : (a b : Bool) → eqb (tag_of w) 0 ≡ b → eqb (tag_of (cond (a && b) (w + 1) w)) 1 ≡ a || eqb (tag_of w) 1
      go true true e = let z : w % 4 ≡ 0 = eqb-true (tag_of w) 0 e in eq-eqb (tag_of (w + 1)) 1 (omega arith)
      go true false e = let z : w % 4 ≡ 0 → ⊥ = eqb-false (tag_of w) 0 e in eq-eqb (tag_of w) 1 (omega (arith, z))
      go false b e = refl

  quoted_small : (v w : ℕ) → tag_of w < 2 → tag_of (quoted_too v w) < 2
  unfolding quoted_too
  quoted_small v w h = go (eqb (tag_of v) 1) (eqb (tag_of w) 0) refl
    where
      go : (a b : Bool) → eqb (tag_of w) 0 ≡ b → tag_of (cond (a && b) (w + 1) w) < 2
      go true true e = let z : w % 4 ≡ 0 = eqb-true (tag_of w) 0 e in omega arith
      go true false e = h
      go false b e = h

  enter_small : (v : ℕ) (ws : List ℕ) → tag_of v < 2 → Small ws → Small (enter facts query v ws)
  unfolding enter Small
  enter_small v [] h s = (h, tt)
  enter_small v (w ∷ ws) h s = go (same (text_of facts query v) (text_of facts query w)) (earlier (text_of facts query v) (text_of facts query w)) (enter_small v ws h s.1)
    where
      go : (a b : Bool) → Small (enter facts query v ws) → Small (cond a (quoted_too v w ∷ ws) (cond b (v ∷ w ∷ ws) (w ∷ enter facts query v ws)))
      go true b ih = (quoted_small v w s.0, s.1)
      go false true ih = (h, s)
      go false false ih = (s.0, ih)

  -- a text is quoted if some part quoted it
  quotes_enter : (t : Text) (v : ℕ) (ws : List ℕ) → Small ws → quotes t (enter facts query v ws) ≡ (same t (text_of facts query v) && eqb (tag_of v) 1) || quotes t ws
  unfolding quotes some_of enter Small
  quotes_enter t v [] s = refl
  quotes_enter t v (w ∷ ws) s = go (same (text_of facts query v) (text_of facts query w)) refl (earlier (text_of facts query v) (text_of facts query w)) (quotes_enter t v ws s.1)
    where
      go : (a : Bool) → same (text_of facts query v) (text_of facts query w) ≡ a → (b : Bool) → quotes t (enter facts query v ws) ≡ (same t (text_of facts query v) && eqb (tag_of v) 1) || quotes t ws
          → quotes t (cond a (quoted_too v w ∷ ws) (cond b (v ∷ w ∷ ws) (w ∷ enter facts query v ws))) ≡ (same t (text_of facts query v) && eqb (tag_of v) 1) || ((same t (text_of facts query w) && eqb (tag_of w) 1) || quotes t ws)
      go true e b ih =
          ap₂ (λ (x : Text) (c : Bool). (same t x && c) || quotes t ws) (quoted_text v w) (quoted_tag v w s.0)
          ∙ either (same t (text_of facts query w)) (eqb (tag_of v) 1) (eqb (tag_of w) 1) (quotes t ws)
          ∙ ap (λ (c : Bool). (c && eqb (tag_of v) 1) || ((same t (text_of facts query w) && eqb (tag_of w) 1) || quotes t ws)) (sym (same_with t (text_of facts query v) (text_of facts query w) (rw e tt)))
      go false e true ih = refl
      go false e false ih = ap (λ (c : Bool). (same t (text_of facts query w) && eqb (tag_of w) 1) || c) ih ∙ or_left_comm (same t (text_of facts query w) && eqb (tag_of w) 1) (same t (text_of facts query v) && eqb (tag_of v) 1) (quotes t ws)

  pub quotes_enter_all : (t : Text) (vs ws : List ℕ) → Small vs → Small ws → quotes t (enter_all facts query vs ws) ≡ quotes t vs || quotes t ws
  unfolding enter_all quotes some_of Small
  quotes_enter_all t [] ws r s = refl
  quotes_enter_all t (v ∷ vs) ws r s =
      quotes_enter_all t vs (enter facts query v ws) r.1 (enter_small v ws r.0 s)
      ∙ ap (λ (c : Bool). quotes t vs || c) (quotes_enter t v ws s)
      ∙ or_left_comm (quotes t vs) (same t (text_of facts query v) && eqb (tag_of v) 1) (quotes t ws) ∙ sym (or_assoc (same t (text_of facts query v) && eqb (tag_of v) 1) (quotes t vs) (quotes t ws))

  pub enter_all_small : (vs ws : List ℕ) → Small vs → Small ws → Small (enter_all facts query vs ws)
  unfolding enter_all Small
  enter_all_small [] ws r s = s
  enter_all_small (v ∷ vs) ws r s = enter_all_small vs (enter facts query v ws) r.1 (enter_small v ws r.0 s)

  quotes_none : (t : Text) (ws : List ℕ) → member t (texts_of facts query ws) ≡ false → quotes t ws ≡ false
  unfolding quotes member some_of
  quotes_none t [] h = refl
  quotes_none t (w ∷ ws) h = go (same t (text_of facts query w)) h (quotes_none t ws)
    where
      go : (b : Bool) → b || member t (texts_of facts query ws) ≡ false → (member t (texts_of facts query ws) ≡ false → quotes t ws ≡ false) → (b && eqb (tag_of w) 1) || quotes t ws ≡ false
      go true h ih = let z : ◌≡◌ {A = ℕ} 0 1 = cc in absurd (omega arith)
      go false h ih = ih h

  -- and then its entry is
  pub quotes_at : (ws : List ℕ) (n : ℕ) → Ascending (texts_of facts query ws) → n < length ws → quotes (text_of facts query (get_or ws n 0)) ws ≡ eqb (tag_of (get_or ws n 0)) 1
  unfolding quotes some_of
  quotes_at [] n a h = absurd (omega arith)
  quotes_at (w ∷ ws) zero a h =
      ap₂ (λ (b c : Bool). (b && eqb (tag_of w) 1) || c) (same_itself (text_of facts query w)) (quotes_none (text_of facts query w) ws (not_behind (text_of facts query w) (text_of facts query w) (texts_of facts query ws) (same_refl (text_of facts query w)) a))
      ∙ or-false (eqb (tag_of w) 1)
  quotes_at (w ∷ ws) (suc n) a h = rw (later_same w ws n a (omega arith)) (quotes_at ws n a.1 (omega arith))
