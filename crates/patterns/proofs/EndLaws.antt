-- Where the phrases of a pattern end, byte by byte.
use mathlib.Core.Path.{◌≡◌, refl, sym, ap, ◌∙◌, subst}
use mathlib.Core.Bool.{Bool, true, false, ◌&&◌, ◌||◌, not, cond}
use mathlib.Core.List.{List, [], ◌∷◌}
use mathlib.Core.Option.{Option, some, none}
use Prim.Native.Nat.{ℕ, suc, ◌+◌, ◌-◌, ◌≤◌, ◌<◌}
use native.Mathlib.Numerals.{add-one, add-two, add-three, add-four}
use native.Mathlib.Omega.{arith}
use lib.Dec.{T, leb, eqb, leb→le, eqb→eq}
use lib.ListN.{length, take, drop, get_or, length-drop, drop_of_length-le}
use lib.Seq.{drop-cons, drop-drop}
use borrow.Author.Tests.{le-leb}
use Rattle.definition.specs.Text.{Text, ascii, some_of, starts, span}
use Rattle.definition.specs.Pattern.{Range, Pattern, atom, Reading, read, wrong, cut, uncut, onto, repeated_by, from_to, is_character, is_close, no_class, listed, to_close, set_of, set_read, read_set, read_count, read_repeat, read_ordinary, ends_branch, rule, is_some}
use Rattle.patterns.specs.Ends.{ends, simple_at, is_listed, to_close_at}
use Rattle.std.specs.Prelude.{Some, None}
use Rattle.patterns.proofs.ByteLaws.{eqb_sym, eqb_true, eqb_false, starts_byte}

-- the rest from i on begins at i
pub back_at : (s : Text) (i : ℕ) → i ≤ length s → Some i ≡ Some (length s - length (drop i s))
back_at s i h = ap (λ (k : ℕ). Some k) (let e = length-drop i s in omega arith)

pub cons_at : (s : Text) (i : ℕ) → i < length s → drop i s ≡ get_or s i 0 ∷ drop (i + 1) s
cons_at s i h = drop-cons s i 0 h ∙ ap (λ k. get_or s i 0 ∷ drop k s) (sym (add-one i))

pub by_true : {A : Type 0} (x y : A) (b : Bool) → b ≡ true → cond b x y ≡ x
by_true x y b e = rw e

pub by_false : {A : Type 0} (x y : A) (b : Bool) → b ≡ false → cond b x y ≡ y
by_false x y b e = rw e

pub apart : {A : Type 0} → true ≡ false → A
apart e = absurd (subst T e tt)

next_but_one : (i : ℕ) → i + 1 + 1 ≡ i + 2
next_but_one i = omega arith

-- `{m,n}`
four : (s : Text) (i : ℕ) → i + 4 ≤ length s → drop i s ≡ get_or s i 0 ∷ get_or s (i + 1) 0 ∷ get_or s (i + 2) 0 ∷ get_or s (i + 3) 0 ∷ drop (i + 4) s
four s i h =
    rw (add-one i, add-two i, add-three i, add-four i)
    (drop-cons s i 0 (omega arith) ∙ ap (λ x. get_or s i 0 ∷ x)
    (drop-cons s (suc i) 0 (omega arith) ∙ ap (λ x. get_or s (suc i) 0 ∷ x)
    (drop-cons s (suc (suc i)) 0 (omega arith) ∙ ap (λ x. get_or s (suc (suc i)) 0 ∷ x) (drop-cons s (suc (suc (suc i))) 0 (omega arith)))))

count_few : (m : ℕ) (p : Pattern) (xs : Text) → length xs < 4 → None ≡ ends m (read_count p xs)
unfolding read_count
count_few m p [] h = refl
count_few m p (a ∷ []) h = refl
count_few m p (a ∷ b ∷ []) h = refl
count_few m p (a ∷ b ∷ c ∷ []) h = refl
count_few m p (a ∷ b ∷ c ∷ d ∷ xs) h = absurd (omega arith)

pub count_short : (s : Text) (i : ℕ) (p : Pattern) → length s < i + 4 → None ≡ ends (length s) (read_count p (drop i s))
count_short s i p h = count_few (length s) p (drop i s) (let e = length-drop i s in omega arith)

five_false : (a b c d e : Bool) → (T a → T b → T c → T d → T e → ⊥) → a && b && c && d && e ≡ false
five_false false b c d e f = refl
five_false true false c d e f = refl
five_false true true false d e f = refl
five_false true true true false e f = refl
five_false true true true true false f = refl
five_false true true true true true f = absurd (f tt tt tt tt tt)

module _ (s : Text) (i : ℕ) (p : Pattern) (h : i + 4 ≤ length s) where
  abbrev passes : Bool
  passes = leb 48 (get_or s i 0) && leb (get_or s i 0) (get_or s (i + 2) 0) && leb (get_or s (i + 2) 0) 56 && eqb (get_or s (i + 1) 0) 44 && eqb (get_or s (i + 3) 0) 125

  count_at : read_count p (drop i s) ≡ cond passes (read (repeated_by (from_to (get_or s i 0 - 48) (get_or s (i + 2) 0 - 48)) p) (drop (i + 4) s)) wrong
  unfolding read_count
  count_at = ap (read_count p) (four s i h)

  abbrev counted : Reading
  counted = read (repeated_by (from_to (get_or s i 0 - 48) (get_or s (i + 2) 0 - 48)) p) (drop (i + 4) s)

  pub count_wrong : (48 ≤ get_or s i 0 → get_or s i 0 ≤ get_or s (i + 2) 0 → get_or s (i + 2) 0 ≤ 56 → get_or s (i + 1) 0 ≡ 44 → get_or s (i + 3) 0 ≡ 125 → ⊥)
      → None ≡ ends (length s) (read_count p (drop i s))
  count_wrong f =
      let no : passes ≡ false = five_false (leb 48 (get_or s i 0)) (leb (get_or s i 0) (get_or s (i + 2) 0)) (leb (get_or s (i + 2) 0) 56) (eqb (get_or s (i + 1) 0) 44) (eqb (get_or s (i + 3) 0) 125)
      (λ a b c d e. f (leb→le 48 (get_or s i 0) a) (leb→le (get_or s i 0) (get_or s (i + 2) 0) b) (leb→le (get_or s (i + 2) 0) 56 c) (eqb→eq (get_or s (i + 1) 0) 44 d) (eqb→eq (get_or s (i + 3) 0) 125 e)) in
      sym (ap (ends (length s)) (count_at ∙ by_false counted wrong passes no))

  pub count_right : 48 ≤ get_or s i 0 → get_or s i 0 ≤ get_or s (i + 2) 0 → get_or s (i + 2) 0 ≤ 56 → get_or s (i + 1) 0 ≡ 44 → get_or s (i + 3) 0 ≡ 125
      → Some (i + 4) ≡ ends (length s) (read_count p (drop i s))
  count_right a b c d e =
      let yes_all : passes ≡ true = rw (le-leb 48 (get_or s i 0) a, le-leb (get_or s i 0) (get_or s (i + 2) 0) b, le-leb (get_or s (i + 2) 0) 56 c, eqb_true (get_or s (i + 1) 0) 44 d, eqb_true (get_or s (i + 3) 0) 125 e) in
      back_at s (i + 4) h ∙ sym (ap (ends (length s)) (count_at ∙ by_true counted wrong passes yes_all))

-- a repeat sign
pub repeat_none : (s : Text) (i : ℕ) (p : Pattern) → i ≤ length s → length s ≤ i → Some i ≡ ends (length s) (read_repeat p (drop i s))
unfolding read_repeat
repeat_none s i p h l = ap (λ (k : ℕ). Some k) (omega arith) ∙ sym (ap (λ x. ends (length s) (read_repeat p x)) (drop_of_length-le s l))

module _ (s : Text) (i : ℕ) (p : Pattern) (h : i < length s) where
  repeat_at : read_repeat p (drop i s) ≡ read_repeat p (get_or s i 0 ∷ drop (i + 1) s)
  repeat_at = ap (read_repeat p) (cons_at s i h)

  pub repeat_sign : some_of (eqb (get_or s i 0)) (ascii "*+?") ≡ true → Some (i + 1) ≡ ends (length s) (read_repeat p (drop i s))
  repeat_sign e = back_at s (i + 1) (omega arith) ∙ sym (ap (ends (length s)) repeat_at ∙ go (eqb (get_or s i 0) 42) refl (eqb (get_or s i 0) 43) refl (eqb (get_or s i 0) 63) refl e)
    where
      go : (a : Bool) → eqb (get_or s i 0) 42 ≡ a → (b : Bool) → eqb (get_or s i 0) 43 ≡ b → (c : Bool) → eqb (get_or s i 0) 63 ≡ c → some_of (eqb (get_or s i 0)) (ascii "*+?") ≡ true
          → ends (length s) (read_repeat p (get_or s i 0 ∷ drop (i + 1) s)) ≡ Some (length s - length (drop (i + 1) s))
      go true u b v c w e = unfold read_repeat in rw u
      go false u true v c w e = unfold read_repeat in rw (u, v)
      go false u false v true w e = unfold read_repeat in rw (u, v, w)
      go false u false v false w e = unfold some_of in (let z : ◌≡◌ {A = Bool} false true = rw (u, v, w) at e in absurd (subst T (sym z) tt))

  pub repeat_plain : some_of (eqb (get_or s i 0)) (ascii "*+?") ≡ false → (get_or s i 0 ≡ 123 → ⊥) → Some i ≡ ends (length s) (read_repeat p (drop i s))
  repeat_plain e n = back_at s i (omega arith) ∙ ap (λ x. Some (length s - length x)) (cons_at s i h)
      ∙ sym (ap (ends (length s)) repeat_at ∙ go (eqb (get_or s i 0) 42) refl (eqb (get_or s i 0) 43) refl (eqb (get_or s i 0) 63) refl (eqb_false (get_or s i 0) 123 n) e)
    where
      go : (a : Bool) → eqb (get_or s i 0) 42 ≡ a → (b : Bool) → eqb (get_or s i 0) 43 ≡ b → (c : Bool) → eqb (get_or s i 0) 63 ≡ c → eqb (get_or s i 0) 123 ≡ false → some_of (eqb (get_or s i 0)) (ascii "*+?") ≡ false
          → ends (length s) (read_repeat p (get_or s i 0 ∷ drop (i + 1) s)) ≡ Some (length s - length (get_or s i 0 ∷ drop (i + 1) s))
      go true u b v c w n e = unfold some_of in apart (rw u at e)
      go false u true v c w n e = unfold some_of in apart (rw (u, v) at e)
      go false u false v true w n e = unfold some_of in apart (rw (u, v, w) at e)
      go false u false v false w n e = unfold read_repeat in rw (u, v, w, n)

  pub repeat_count : get_or s i 0 ≡ 123 → ends (length s) (read_count p (drop (i + 1) s)) ≡ ends (length s) (read_repeat p (drop i s))
  unfolding read_repeat
  repeat_count e = sym (ap (ends (length s)) (repeat_at ∙ ap (λ c. read_repeat p (c ∷ drop (i + 1) s)) e))

-- the end of a branch
pub branch_none : (s : Text) (i : ℕ) → length s ≤ i → true ≡ ends_branch (drop i s)
unfolding ends_branch
branch_none s i l = sym (ap ends_branch (drop_of_length-le s l))

pub branch_byte : (s : Text) (i : ℕ) → i < length s → some_of (eqb (get_or s i 0)) (ascii "|)") ≡ ends_branch (drop i s)
unfolding ends_branch starts some_of
branch_byte s i h = go (eqb (get_or s i 0) 124) (eqb (get_or s i 0) 41) (eqb_sym 124 (get_or s i 0)) (eqb_sym 41 (get_or s i 0)) ∙ sym (ap ends_branch (cons_at s i h))
  where
    go : (a b : Bool) → eqb 124 (get_or s i 0) ≡ a → eqb 41 (get_or s i 0) ≡ b → a || (b || false) ≡ (eqb 124 (get_or s i 0) && true) || (eqb 41 (get_or s i 0) && true)
    go true b u v = rw u
    go false true u v = rw (u, v)
    go false false u v = rw (u, v)

-- an atom that is no group
pub simple_none : (s : Text) (i : ℕ) → length s ≤ i → None ≡ simple_at s i
unfolding simple_at rule
simple_none s i l = sym (ap (λ x. ends (length s) (rule atom (λ k xs. wrong) x)) (drop_of_length-le s l))

module _ (s : Text) (i : ℕ) (h : i < length s) where
  simple_cons : simple_at s i ≡ ends (length s) (rule atom (λ k xs. wrong) (get_or s i 0 ∷ drop (i + 1) s))
  unfolding simple_at
  simple_cons = ap (λ x. ends (length s) (rule atom (λ k xs. wrong) x)) (cons_at s i h)

  pub simple_character : is_character (get_or s i 0) ≡ true → Some (i + 1) ≡ simple_at s i
  unfolding rule
  simple_character e = back_at s (i + 1) (omega arith) ∙ sym (simple_cons ∙ rw e)

  simple_sign : (k : ℕ) → get_or s i 0 ≡ k → simple_at s i ≡ ends (length s) (rule atom (λ k xs. wrong) (k ∷ drop (i + 1) s))
  simple_sign k e = simple_cons ∙ ap (λ c. ends (length s) (rule atom (λ k xs. wrong) (c ∷ drop (i + 1) s))) e

  pub simple_dot : get_or s i 0 ≡ 46 → Some (i + 1) ≡ simple_at s i
  unfolding rule is_character some_of
  simple_dot e = back_at s (i + 1) (omega arith) ∙ sym (simple_sign 46 e)

  pub simple_ordinary : get_or s i 0 ≡ 92 → i + 1 < length s → Some (i + 2) ≡ simple_at s i
  unfolding rule is_character some_of
  simple_ordinary e l =
      back_at s (i + 2) (omega arith) ∙ sym (simple_sign 92 e ∙ ap (λ x. ends (length s) (read_ordinary x)) (cons_at s (i + 1) l) ∙ ap (λ k. Some (length s - length (drop k s))) (next_but_one i))

  pub simple_trailing : get_or s i 0 ≡ 92 → length s ≤ i + 1 → None ≡ simple_at s i
  unfolding rule is_character some_of
  simple_trailing e l = sym (simple_sign 92 e ∙ ap (λ x. ends (length s) (read_ordinary x)) (drop_of_length-le s l))

  pub simple_wrong : is_character (get_or s i 0) ≡ false → (get_or s i 0 ≡ 46 → ⊥) → (get_or s i 0 ≡ 92 → ⊥) → (get_or s i 0 ≡ 91 → ⊥) → None ≡ simple_at s i
  unfolding rule
  simple_wrong c a b d = sym (simple_cons ∙ go (eqb (get_or s i 0) 40) refl)
    where
      go : (x : Bool) → eqb (get_or s i 0) 40 ≡ x → ends (length s) (rule atom (λ k xs. wrong) (get_or s i 0 ∷ drop (i + 1) s)) ≡ None
      go true e = rw (c, eqb_false (get_or s i 0) 92 b, eqb_false (get_or s i 0) 46 a, eqb_false (get_or s i 0) 91 d, e)
      go false e = rw (c, eqb_false (get_or s i 0) 92 b, eqb_false (get_or s i 0) 46 a, eqb_false (get_or s i 0) 91 d, e)

  pub simple_complement : get_or s i 0 ≡ 91 → get_or s (i + 1) 0 ≡ 94 → ends (length s) (read_set true (drop (i + 2) s)) ≡ simple_at s i
  unfolding rule is_character some_of
  simple_complement e f =
      sym (simple_sign 91 e ∙ ap (λ b. ends (length s) (cond b (read_set true (drop 1 (drop (i + 1) s))) (read_set false (drop (i + 1) s)))) (starts_byte 94 s (i + 1) refl ∙ eqb_true (get_or s (i + 1) 0) 94 f)
      ∙ ap (λ x. ends (length s) (read_set true x)) (drop-drop 1 (i + 1) s ∙ ap (λ k. drop k s) (next_but_one i)))

  pub simple_set : get_or s i 0 ≡ 91 → (get_or s (i + 1) 0 ≡ 94 → ⊥) → ends (length s) (read_set false (drop (i + 1) s)) ≡ simple_at s i
  unfolding rule is_character some_of
  simple_set e f =
      sym (simple_sign 91 e ∙ ap (λ b. ends (length s) (cond b (read_set true (drop 1 (drop (i + 1) s))) (read_set false (drop (i + 1) s)))) (starts_byte 94 s (i + 1) refl ∙ eqb_false (get_or s (i + 1) 0) 94 f))

-- a set
abbrev pub stays : ℕ → Bool
stays x = not (is_close x)

pub uncut_at : (xs : Text) → length xs ≤ span stays xs → to_close xs ≡ uncut
unfolding to_close span
uncut_at [] h = refl
uncut_at (x ∷ xs) h = go (is_close x) h (uncut_at xs)
  where
    go : (b : Bool) → suc (length xs) ≤ cond (not b) (suc (span stays xs)) 0 → (length xs ≤ span stays xs → to_close xs ≡ uncut) → cond b (cut [] xs) (onto x (to_close xs)) ≡ uncut
    go true h ih = absurd (omega arith)
    go false h ih = ap (onto x) (ih (omega arith))

cut_at : (xs : Text) → span stays xs < length xs → to_close xs ≡ cut (take (span stays xs) xs) (drop (suc (span stays xs)) xs)
unfolding to_close span
cut_at [] h = absurd (omega arith)
cut_at (x ∷ xs) h = go (is_close x) h (cut_at xs)
  where
    go : (b : Bool) → cond (not b) (suc (span stays xs)) 0 < suc (length xs) → (span stays xs < length xs → to_close xs ≡ cut (take (span stays xs) xs) (drop (suc (span stays xs)) xs))
        → cond b (cut [] xs) (onto x (to_close xs)) ≡ cut (take (cond (not b) (suc (span stays xs)) 0) (x ∷ xs)) (drop (suc (cond (not b) (suc (span stays xs)) 0)) (x ∷ xs))
    go true h ih = refl
    go false h ih = ap (onto x) (ih (omega arith))

pub set_none : (s : Text) (i : ℕ) (c : Bool) → length s ≤ i → None ≡ ends (length s) (read_set c (drop i s))
unfolding read_set
set_none s i c l = sym (ap (λ x. ends (length s) (read_set c x)) (drop_of_length-le s l))

module _ (s : Text) (i : ℕ) (c : Bool) (h : i < length s) where
  pub set_cons : read_set c (drop i s) ≡ set_read c (onto (get_or s i 0) (to_close (drop (i + 1) s)))
  unfolding read_set
  set_cons = ap (read_set c) (cons_at s i h)

  pub set_unclosed : to_close_at s (i + 1) ≡ length s → None ≡ ends (length s) (read_set c (drop i s))
  unfolding to_close_at
  set_unclosed e =
      let l = length-drop (i + 1) s in
      sym (ap (ends (length s)) (set_cons ∙ ap (λ o. set_read c (onto (get_or s i 0) o)) (uncut_at (drop (i + 1) s) (omega arith))))

  module _ (j : ℕ) (e : j ≡ to_close_at s (i + 1)) (g : j < length s) where
    abbrev pub body : Text
    body = take (j - i) (drop i s)

    pub set_body : read_set c (drop i s) ≡ cond (no_class body) (set_of c (listed body) (drop (j + 1) s)) wrong
    unfolding to_close_at
    set_body =
        let n = span stays (drop (i + 1) s) in
        let l = length-drop (i + 1) s in
        let size : suc n ≡ j - i = omega arith in
        let past : i + 1 + suc n ≡ j + 1 = omega arith in
        let inner : get_or s i 0 ∷ take n (drop (i + 1) s) ≡ body = sym (ap (take (suc n)) (cons_at s i h)) ∙ ap (λ k. take k (drop i s)) size in
        let rest : drop (suc n) (drop (i + 1) s) ≡ drop (j + 1) s = drop-drop (suc n) (i + 1) s ∙ ap (λ k. drop k s) past in
        set_cons ∙ ap (λ o. set_read c (onto (get_or s i 0) o)) (cut_at (drop (i + 1) s) (omega arith))
        ∙ ap (λ x. cond (no_class x) (set_of c (listed x) (drop (suc n) (drop (i + 1) s))) wrong) inner
        ∙ ap (λ y. cond (no_class body) (set_of c (listed body) y) wrong) rest

    pub set_class : no_class body ≡ false → None ≡ ends (length s) (read_set c (drop i s))
    set_class q = sym (ap (ends (length s)) (set_body ∙ by_false _ _ (no_class body) q))

    of_listed : (o : Option (List Range)) → is_some o ≡ false → ends (length s) (set_of c o (drop (j + 1) s)) ≡ None
    of_listed none q = refl
    of_listed (some rs) q = apart q

    to_listed : (o : Option (List Range)) → is_some o ≡ true → ends (length s) (set_of c o (drop (j + 1) s)) ≡ Some (length s - length (drop (j + 1) s))
    to_listed none q = apart (sym q)
    to_listed (some rs) q = refl

    pub set_unlisted : no_class body ≡ true → is_listed body ≡ false → None ≡ ends (length s) (read_set c (drop i s))
    unfolding is_listed
    set_unlisted q r = sym (ap (ends (length s)) (set_body ∙ by_true _ _ (no_class body) q) ∙ of_listed (listed body) r)

    pub set_closed : no_class body ≡ true → is_listed body ≡ true → Some (j + 1) ≡ ends (length s) (read_set c (drop i s))
    unfolding is_listed
    set_closed q r = back_at s (j + 1) (omega arith) ∙ sym (ap (ends (length s)) (set_body ∙ by_true _ _ (no_class body) q) ∙ to_listed (listed body) r)

pub clash : (a b : ℕ) → a ≤ b → b < a → ⊥
clash a b h l = omega arith
