-- The numbers of names tell their texts apart.
use Prim.Native.Nat.{ℕ, zero, suc, ◌+◌, ◌-◌, ◌/◌, ◌%◌, ◌≤◌, ◌<◌}
use mathlib.Core.Path.{◌≡◌, refl, sym, ap, ◌∙◌}
use mathlib.Core.Bool.{Bool, true, false, cond}
use mathlib.Core.List.{List}
use native.Mathlib.Omega.{arith}
use native.Mathlib.Nat.{add-zero, zero-add}
use borrow.Author.Tests.{eq-eqb, ne_eqb, eqb-true, eqb-false, lt-ltb, le-ltb, ltb-false}
use lib.Seq.{get_or-set_same, get_or-set_other}
use lib.Dec.{eqb, ltb}
use lib.ListN.{length, get_or, set, take, drop}
use Rattle.definition.specs.Text.{Text, same}
use Rattle.definition.proofs.BoolLaws.{is_true}
use Rattle.definition.proofs.MeaningLaws.{same_refl, same_eq}
use Rattle.parts.specs.Packed.{text_of}
use Rattle.intern.specs.Entries.{start_of, text_at}
use Rattle.intern.specs.Numbers.{name_of, seek, number_of, may_be_first, Numbered}

-- the text of a word
pub text_part : (xs : Text) (w a : ℕ) → a ≡ start_of w → take (w / 64 % 64) (drop a xs) ≡ text_at xs w
unfolding text_at
text_part xs w a e = rw e refl

module _ (facts query : Text) (relations tokens : List ℕ) (i : ℕ) where
  pub of_relation : i < length relations → text_of facts query (get_or relations i 0) ≡ name_of facts query relations tokens i
  unfolding name_of
  of_relation h = rw (lt-ltb i (length relations) h)

  pub of_token : length relations ≤ i → text_at query (get_or tokens (i - length relations) 0) ≡ name_of facts query relations tokens i
  unfolding name_of
  of_token h = rw (le-ltb i (length relations) h)

itself : (x : Text) → same x x ≡ true
itself x = is_true (same x x) (same_refl x)

equal : (x y : Text) → same x y ≡ true → x ≡ y
equal x y h = same_eq x y (rw h tt)

module _ (names : ℕ → Text) (x : Text) where
  -- one more place, whose name is y
  pub seek_miss : (i j : ℕ) (y : Text) (b : Bool) → j < i → y ≡ names j → b ≡ same x y → b ≡ false → seek names x (i - j) j ≡ seek names x (i - (j + 1)) (j + 1)
  unfolding seek
  seek_miss i j y b h n e f = let s : i - j ≡ suc (i - (j + 1)) = omega arith in rw (s, ← n, ← e, f) refl

  pub seek_hit : (i j : ℕ) (y : Text) (b : Bool) → j < i → y ≡ names j → b ≡ same x y → b ≡ true → seek names x (i - j) j ≡ j
  unfolding seek
  seek_hit i j y b h n e f = let s : i - j ≡ suc (i - (j + 1)) = omega arith in rw (s, ← n, ← e, f) refl

  pub seek_none : (i j : ℕ) → i ≤ j → seek names x (i - j) j ≡ j
  unfolding seek
  seek_none i j h = let s : i - j ≡ 0 = omega arith in rw s refl

  -- what is found has the text, if the last place has
  found : (f j : ℕ) → same x (names (j + f)) ≡ true → same x (names (seek names x f j)) ≡ true
  unfolding seek
  found zero j h = rw (← add-zero j) h
  found (suc f) j h = go (same x (names j)) refl (λ _. found f (j + 1) (let s : j + suc f ≡ j + 1 + f = omega arith in rw s at h))
    where
      go : (b : Bool) → same x (names j) ≡ b → (Unit {0} → same x (names (seek names x f (j + 1))) ≡ true) → same x (names (cond b j (seek names x f (j + 1)))) ≡ true
      go true e k = e
      go false e k = k tt

  -- and it does not matter at which such place the search would end
  agree : (f g j : ℕ) → same x (names (j + f)) ≡ true → same x (names (j + g)) ≡ true → seek names x f j ≡ seek names x g j
  unfolding seek
  agree zero zero j h k = refl
  agree zero (suc g) j h k = let e : same x (names j) ≡ true = rw (← add-zero j) h in rw e refl
  agree (suc f) zero j h k = let e : same x (names j) ≡ true = rw (← add-zero j) k in rw e refl
  agree (suc f) (suc g) j h k =
      ap (λ (m : ℕ). cond (same x (names j)) j m)
      (agree f g (j + 1) (let s : j + suc f ≡ j + 1 + f = omega arith in rw s at h) (let s : j + suc g ≡ j + 1 + g = omega arith in rw s at k))

  within : (f j : ℕ) → seek names x f j ≤ j + f
  unfolding seek
  within zero j = omega arith
  within (suc f) j = go (same x (names j)) (within f (j + 1))
    where
      go : (b : Bool) → seek names x f (j + 1) ≤ j + 1 + f → cond b j (seek names x f (j + 1)) ≤ j + suc f
      go true h = omega arith
      go false h = omega arith

  at_least : (f j : ℕ) → j ≤ seek names x f j
  unfolding seek
  at_least zero j = omega arith
  at_least (suc f) j = go (same x (names j)) (at_least f (j + 1))
    where
      go : (b : Bool) → j + 1 ≤ seek names x f (j + 1) → j ≤ cond b j (seek names x f (j + 1))
      go true h = omega arith
      go false h = omega arith

-- the search of a name's number, from the start
pub number_start : (names : ℕ → Text) (i : ℕ) (x : Text) → x ≡ names i → number_of names i ≡ seek names x (i - 0) 0
unfolding number_of
number_start names i x e = let s : i - 0 ≡ i = omega arith in rw (s, e)

-- two names have one number if and only if they have one text
pub faithful : (names : ℕ → Text) (s t : ℕ) → same (names s) (names t) ≡ eqb (number_of names s) (number_of names t)
unfolding number_of
faithful names s t = go (same (names s) (names t)) refl
  where
    self : (i : ℕ) → same (names i) (names (0 + i)) ≡ true
    self i = rw zero-add (itself (names i))

    go : (b : Bool) → same (names s) (names t) ≡ b → b ≡ eqb (seek names (names s) s 0) (seek names (names t) t 0)
    go true e =
        let p : names s ≡ names t = equal (names s) (names t) e in
        sym (eq-eqb _ _ (ap (λ (y : Text). seek names y s 0) p ∙ agree names (names t) s t 0 (rw (zero-add, p) (itself (names t))) (self t)))
    go false e =
        sym (ne_eqb _ _ (λ q.
        let a : same (names s) (names (seek names (names s) s 0)) ≡ true = found names (names s) s 0 (self s) in
        let b : same (names t) (names (seek names (names t) t 0)) ≡ true = found names (names t) t 0 (self t) in
        let u : names s ≡ names (seek names (names s) s 0) = equal _ _ a in
        let v : names t ≡ names (seek names (names t) t 0) = equal _ _ b in
        let w : names s ≡ names t = u ∙ ap names q ∙ sym v in
        let z : same (names s) (names t) ≡ true = rw w (itself (names t)) in
        let y : ◌≡◌ {A = ℕ} 0 1 = cc in omega arith))

-- a number is no higher than the name's place
pub number_le : (names : ℕ → Text) (i : ℕ) → number_of names i ≤ i
unfolding number_of
number_le names i = omega (arith, within names (names i) i 0)

-- whether a place may be the first of its text
module _ (k : ℕ) (ids : List ℕ) (j : ℕ) where
  pub first_relation : j < k → true ≡ may_be_first k ids j
  unfolding may_be_first
  first_relation h = rw (lt-ltb j k h) refl

  pub first_token : k ≤ j → j - k < length ids → eqb (get_or ids (j - k) 0) j ≡ may_be_first k ids j
  unfolding may_be_first
  first_token h l = rw (le-ltb j k h, lt-ltb (j - k) (length ids) l) refl

  pub first_past : k ≤ j → length ids ≤ j - k → true ≡ may_be_first k ids j
  unfolding may_be_first
  first_past h l = rw (le-ltb j k h, le-ltb (j - k) (length ids) l) refl

  never : true ≡ false → ⊥
  never e = let z : ◌≡◌ {A = ℕ} 0 1 = cc in omega arith

  not_first : may_be_first k ids j ≡ false → (k ≤ j) × (get_or ids (j - k) 0 ≡ j → ⊥)
  unfolding may_be_first
  not_first h = go (ltb j k) refl (ltb (j - k) (length ids)) h
    where
      go : (b : Bool) → ltb j k ≡ b → (d : Bool) → cond b true (cond d (eqb (get_or ids (j - k) 0) j) true) ≡ false → (k ≤ j) × (get_or ids (j - k) 0 ≡ j → ⊥)
      go true e d q = absurd (never q)
      go false e true q = (ltb-false j k e, eqb-false (get_or ids (j - k) 0) j q)
      go false e false q = absurd (never q)

-- a place with a lower number has another text than one whose text is not found below it
pub seek_skip : (names : ℕ → Text) (x : Text) (k : ℕ) (ids : List ℕ) (i j : ℕ) (b : Bool) → x ≡ names i → j < i → Numbered names k ids (i - k)
    → b ≡ may_be_first k ids j → b ≡ false → number_of names i ≡ seek names x (i - j) j → number_of names i ≡ seek names x (i - (j + 1)) (j + 1)
seek_skip names x k ids i j b ex l numbers eb f h =
    let n = not_first k ids j (sym eb ∙ f) in
    let d : j - k < i - k = omega arith in
    let s : k + (j - k) ≡ j = omega arith in
    let e : get_or ids (j - k) 0 ≡ number_of names j = numbers (j - k) d ∙ ap (number_of names) s in
    let lower : number_of names j < j = below n e (number_le names j) in
    go (same x (names j)) refl lower
  where
    below : (k ≤ j) × (get_or ids (j - k) 0 ≡ j → ⊥) → get_or ids (j - k) 0 ≡ number_of names j → number_of names j ≤ j → number_of names j < j
    below n e m = let z : number_of names j ≡ j → ⊥ = λ q. n.1 (e ∙ q) in omega arith

    go : (b : Bool) → same x (names j) ≡ b → number_of names j < j → number_of names i ≡ seek names x (i - (j + 1)) (j + 1)
    go true q m =
        let p : same (names i) (names j) ≡ true = rw (← ex) q in
        let y : number_of names i ≡ number_of names j = eqb-true _ _ (sym (faithful names i j) ∙ p) in
        absurd (omega (arith, h, at_least names x (i - j) j))
    go false q m = h ∙ seek_miss names x i j (names j) false l refl (sym q) refl

-- an array that is filled from the front has one element more
pub filled : (f : ℕ → ℕ) (xs : List ℕ) (i v : ℕ) → i < length xs → v ≡ f i → ((k : ℕ) → k < i → get_or xs k 0 ≡ f k) → (k : ℕ) → k < i + 1 → get_or (set xs i v) k 0 ≡ f k
filled f xs i v h e below k l = go (eqb k i) refl
  where
    lower : (k i : ℕ) → (k ≡ i → ⊥) → k < i + 1 → k < i
    lower k i n l = omega arith

    go : (b : Bool) → eqb k i ≡ b → get_or (set xs i v) k 0 ≡ f k
    go true q = let z : k ≡ i = eqb-true k i q in rw z (get_or-set_same xs i v 0 h ∙ e)
    go false q = get_or-set_other xs i k v 0 (eqb-false k i q) ∙ below k (lower k i (eqb-false k i q) l)
