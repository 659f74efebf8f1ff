-- Lists of up to four different digits from 1 to 4, as numbers.
use Prim.Native.Nat.{ℕ, ◌+◌, ◌*◌, ◌/◌, ◌%◌, ◌<◌, ◌≤◌}
use mathlib.Core.Path.{◌≡◌, refl, ap, ◌∙◌}
use mathlib.Core.Bool.{Bool, true, false, cond}
use mathlib.Core.List.{List, [], ◌∷◌, ◌++◌}
use native.Mathlib.Omega.{arith}
use borrow.Author.Tests.{ne_eqb, eqb-false, lt-ltb, le-ltb}
use lib.Dec.{eqb}
use lib.ListN.{length, length-append}
use Rattle.digits.specs.Lists.{member, add, adds, remove, within, pack}
use Rattle.digits.specs.Packed.{has, put, plus, joined, before, without, count, none_or_in, inside}
use Rattle.digits.proofs.Listing.{Within, Listed, few, listed_add, once_snoc, within_snoc}

abbrev num : ℕ → ℕ → ℕ → ℕ → ℕ
num a b c d = a + 8 * b + 64 * c + 512 * d

module _ (a b c d : ℕ) (ha : a < 8) (hb : b < 8) (hc : c < 8) (hd : d < 8) where
  digit_a : num a b c d % 8 ≡ a
  digit_a = omega arith

  digit_b : num a b c d / 8 % 8 ≡ b
  digit_b = let q : num a b c d / 8 ≡ b + 8 * (c + 8 * d) = omega arith in let r : (b + 8 * (c + 8 * d)) % 8 ≡ b = omega arith in rw q r

  digit_c : num a b c d / 64 % 8 ≡ c
  digit_c = let q : num a b c d / 64 ≡ c + 8 * d = omega arith in let r : (c + 8 * d) % 8 ≡ c = omega arith in rw q r

  digit_d : num a b c d / 512 % 8 ≡ d
  digit_d = let q : num a b c d / 512 ≡ d = omega arith in let r : d % 8 ≡ d = omega arith in rw q r

-- a number by its four digits
pub record Four (w a b c d : ℕ) : Type 0 where
  pub sum : w ≡ num a b c d
  pub small_a : a < 8
  pub small_b : b < 8
  pub small_c : c < 8
  pub small_d : d < 8

module _ {w a b c d : ℕ} (f : Four w a b c d) where
  four_a : w % 8 ≡ a
  four_a = rw f.sum (digit_a a b c d f.small_a f.small_b f.small_c f.small_d)

  four_b : w / 8 % 8 ≡ b
  four_b = rw f.sum (digit_b a b c d f.small_a f.small_b f.small_c f.small_d)

  four_c : w / 64 % 8 ≡ c
  four_c = rw f.sum (digit_c a b c d f.small_a f.small_b f.small_c f.small_d)

  four_d : w / 512 % 8 ≡ d
  four_d = rw f.sum (digit_d a b c d f.small_a f.small_b f.small_c f.small_d)

  has_digits : (y : ℕ) → has w y ≡ cond (eqb a y) true (cond (eqb b y) true (cond (eqb c y) true (eqb d y)))
  unfolding has
  has_digits y = rw (four_a, four_b, four_c, four_d) refl

  put_digits : (y : ℕ) → put w y ≡ cond (eqb a 0) (w + y) (cond (eqb b 0) (w + y * 8) (cond (eqb c 0) (w + y * 64) (cond (eqb d 0) (w + y * 512) w)))
  unfolding put
  put_digits y = rw (four_a, four_b, four_c, four_d) refl

  joined_digits : (v : ℕ) → joined v w ≡ plus (plus (plus (plus v a) b) c) d
  unfolding joined
  joined_digits v = rw (four_a, four_b, four_c, four_d) refl

  without_digits : (x : ℕ) → without w x ≡ before x a (before x b (before x c (before x d 0)))
  unfolding without
  without_digits x = rw (four_a, four_b, four_c, four_d) refl

  inside_digits : (v : ℕ) → inside w v ≡ cond (none_or_in a v) (cond (none_or_in b v) (cond (none_or_in c v) (none_or_in d v) false) false) false
  unfolding inside
  inside_digits v = rw (four_a, four_b, four_c, four_d) refl

-- the digits of a list
four_0 : Four (pack []) 0 0 0 0
unfolding pack
four_0 = record { sum = refl; small_a = omega arith; small_b = omega arith; small_c = omega arith; small_d = omega arith }

four_1 : (a : ℕ) → Within 4 (a ∷ []) → Four (pack (a ∷ [])) a 0 0 0
unfolding pack Within
four_1 a w = record { sum = omega arith; small_a = omega (arith, w.1); small_b = omega arith; small_c = omega arith; small_d = omega arith }

four_2 : (a b : ℕ) → Within 4 (a ∷ b ∷ []) → Four (pack (a ∷ b ∷ [])) a b 0 0
unfolding pack Within
four_2 a b w = record { sum = omega arith; small_a = omega (arith, w.1); small_b = omega (arith, w.2.1); small_c = omega arith; small_d = omega arith }

four_3 : (a b c : ℕ) → Within 4 (a ∷ b ∷ c ∷ []) → Four (pack (a ∷ b ∷ c ∷ [])) a b c 0
unfolding pack Within
four_3 a b c w = record { sum = omega arith; small_a = omega (arith, w.1); small_b = omega (arith, w.2.1); small_c = omega (arith, w.2.2.1); small_d = omega arith }

four_4 : (a b c d : ℕ) → Within 4 (a ∷ b ∷ c ∷ d ∷ []) → Four (pack (a ∷ b ∷ c ∷ d ∷ [])) a b c d
unfolding pack Within
four_4 a b c d w =
    record { sum = omega arith; small_a = omega (arith, w.1); small_b = omega (arith, w.2.1); small_c = omega (arith, w.2.2.1); small_d = omega (arith, w.2.2.2.1) }

too_long : {A : Type 0} (xs : List ℕ) → Listed 4 xs → 4 < length xs → A
too_long xs l h = absurd (omega (arith, few 4 xs l.once l.within))

nz : (y : ℕ) → 0 < y → eqb y 0 ≡ false
nz y h = ne_eqb y 0 (λ e. omega arith)

zn : (y : ℕ) → 0 < y → eqb 0 y ≡ false
zn y h = ne_eqb 0 y (λ e. omega arith)

either_false : (b : Bool) → b ≡ cond b true false
either_false true = refl
either_false false = refl

pub has_law : (xs : List ℕ) (y : ℕ) → Listed 4 xs → 0 < y → has (pack xs) y ≡ member y xs
unfolding member
has_law [] y l h = has_digits four_0 y ∙ rw (zn y h) refl
has_law (a ∷ []) y l h = has_digits (four_1 a l.within) y ∙ rw (zn y h) refl
has_law (a ∷ b ∷ []) y l h = has_digits (four_2 a b l.within) y ∙ rw (zn y h) refl
has_law (a ∷ b ∷ c ∷ []) y l h = has_digits (four_3 a b c l.within) y ∙ rw (zn y h) refl
has_law (a ∷ b ∷ c ∷ d ∷ []) y l h =
    has_digits (four_4 a b c d l.within) y ∙ ap (λ (t : Bool). cond (eqb a y) true (cond (eqb b y) true (cond (eqb c y) true t))) (either_false (eqb d y))
has_law (a ∷ b ∷ c ∷ d ∷ e ∷ xs) y l h = too_long (a ∷ b ∷ c ∷ d ∷ e ∷ xs) l (omega arith)

put_law : (xs : List ℕ) (y : ℕ) → Within 4 xs → length xs < 4 → put (pack xs) y ≡ pack (xs ++ (y ∷ []))
unfolding pack Within
put_law [] y w h = put_digits four_0 y ∙ omega arith
put_law (a ∷ []) y w h = put_digits (four_1 a w) y ∙ rw (nz a w.0) (omega arith)
put_law (a ∷ b ∷ []) y w h = put_digits (four_2 a b w) y ∙ rw (nz a w.0, nz b w.2.0) (omega arith)
put_law (a ∷ b ∷ c ∷ []) y w h = put_digits (four_3 a b c w) y ∙ rw (nz a w.0, nz b w.2.0, nz c w.2.2.0) (omega arith)
put_law (a ∷ b ∷ c ∷ d ∷ xs) y w h = absurd (omega arith)

positive : (y : ℕ) → (y ≡ 0 → ⊥) → 0 < y
positive y h = omega arith

-- one digit more
pub plus_law : (xs : List ℕ) (y : ℕ) → Listed 4 xs → y ≤ 4 → plus (pack xs) y ≡ pack (add xs y)
unfolding plus add
plus_law xs y l h = start (eqb y 0) refl
  where
    go : 0 < y → (m : Bool) → member y xs ≡ m → cond m (pack xs) (put (pack xs) y) ≡ pack (cond m xs (xs ++ (y ∷ [])))
    go p true e = refl
    go p false e =
        let n : Listed 4 (xs ++ (y ∷ [])) = record { once = once_snoc y xs l.once e; within = within_snoc 4 y xs l.within p h } in
        put_law xs y l.within (omega (arith, few 4 (xs ++ (y ∷ [])) n.once n.within, length-append xs (y ∷ [])))

    start : (b : Bool) → eqb y 0 ≡ b → cond b (pack xs) (cond (has (pack xs) y) (pack xs) (put (pack xs) y)) ≡ pack (cond b xs (cond (member y xs) xs (xs ++ (y ∷ []))))
    start true e = refl
    start false e =
        let p : 0 < y = positive y (eqb-false y 0 e) in
        rw (has_law xs y l p) (go p (member y xs) refl)

plus_none : (w : ℕ) → plus w 0 ≡ w
unfolding plus
plus_none w = refl

drop_law : (x y : ℕ) (ys : List ℕ) → before x y (pack (remove x ys)) ≡ pack (remove x (y ∷ ys))
unfolding remove pack
drop_law x y ys = go (eqb y x)
  where
    go : (b : Bool) → cond b (pack (remove x ys)) (y + 8 * pack (remove x ys)) ≡ pack (cond b (remove x ys) (y ∷ remove x ys))
    go true = refl
    go false = refl

drop_zero : (x : ℕ) → before x 0 0 ≡ 0
drop_zero x = go (eqb 0 x)
  where
    go : (b : Bool) → cond b 0 (0 + 8 * 0) ≡ 0
    go true = refl
    go false = refl

drop_nil : (x : ℕ) → 0 ≡ pack (remove x [])
unfolding pack remove
drop_nil x = refl

drop_last : (x y : ℕ) → before x y 0 ≡ pack (remove x (y ∷ []))
unfolding remove pack
drop_last x y = go (eqb y x)
  where
    go : (b : Bool) → cond b 0 (y + 8 * 0) ≡ pack (cond b [] (y ∷ []))
    go true = refl
    go false = refl

drop_more : (x y v : ℕ) (ys : List ℕ) → v ≡ pack (remove x ys) → before x y v ≡ pack (remove x (y ∷ ys))
drop_more x y v ys e = rw e (drop_law x y ys)

-- the digits but one
pub without_law : (ys : List ℕ) (x : ℕ) → Listed 4 ys → without (pack ys) x ≡ pack (remove x ys)
without_law [] x l = without_digits four_0 x ∙ simp (drop_zero x) (drop_nil x)
without_law (a ∷ []) x l = without_digits (four_1 a l.within) x ∙ simp (drop_zero x) (drop_last x a)
without_law (a ∷ b ∷ []) x l = without_digits (four_2 a b l.within) x ∙ simp (drop_zero x) (drop_more x a _ (b ∷ []) (drop_last x b))
without_law (a ∷ b ∷ c ∷ []) x l =
    without_digits (four_3 a b c l.within) x ∙ simp (drop_zero x) (drop_more x a _ (b ∷ c ∷ []) (drop_more x b _ (c ∷ []) (drop_last x c)))
without_law (a ∷ b ∷ c ∷ d ∷ []) x l =
    without_digits (four_4 a b c d l.within) x ∙ drop_more x a _ (b ∷ c ∷ d ∷ []) (drop_more x b _ (c ∷ d ∷ []) (drop_more x c _ (d ∷ []) (drop_last x d)))
without_law (a ∷ b ∷ c ∷ d ∷ e ∷ ys) x l = too_long (a ∷ b ∷ c ∷ d ∷ e ∷ ys) l (omega arith)

-- more digits
pub joined_law : (xs ys : List ℕ) → Listed 4 xs → Listed 4 ys → joined (pack xs) (pack ys) ≡ pack (adds xs ys)
unfolding adds Within
joined_law xs [] l m = joined_digits four_0 (pack xs) ∙ simp plus_none
joined_law xs (a ∷ []) l m =
    let w = m.within in
    joined_digits (four_1 a w) (pack xs) ∙ simp plus_none (plus_law xs a l w.1)
joined_law xs (a ∷ b ∷ []) l m =
    let w = m.within in
    let la = listed_add 4 xs a l w.1 in
    joined_digits (four_2 a b w) (pack xs) ∙ simp plus_none (rw (plus_law xs a l w.1) (plus_law (add xs a) b la w.2.1))
joined_law xs (a ∷ b ∷ c ∷ []) l m =
    let w = m.within in
    let la = listed_add 4 xs a l w.1 in
    let lb = listed_add 4 (add xs a) b la w.2.1 in
    joined_digits (four_3 a b c w) (pack xs) ∙ simp plus_none (rw (plus_law xs a l w.1) (rw (plus_law (add xs a) b la w.2.1) (plus_law (add (add xs a) b) c lb w.2.2.1)))
joined_law xs (a ∷ b ∷ c ∷ d ∷ []) l m =
    let w = m.within in
    let la = listed_add 4 xs a l w.1 in
    let lb = listed_add 4 (add xs a) b la w.2.1 in
    let lc = listed_add 4 (add (add xs a) b) c lb w.2.2.1 in
    joined_digits (four_4 a b c d w) (pack xs)
    ∙ rw (plus_law xs a l w.1) (rw (plus_law (add xs a) b la w.2.1) (rw (plus_law (add (add xs a) b) c lb w.2.2.1) (plus_law (add (add (add xs a) b) c) d lc w.2.2.2.1)))
joined_law xs (a ∷ b ∷ c ∷ d ∷ e ∷ ys) l m = too_long (a ∷ b ∷ c ∷ d ∷ e ∷ ys) m (omega arith)

-- how many digits there are
pub count_law : (xs : List ℕ) → Listed 4 xs → count (pack xs) ≡ length xs
unfolding count pack Within
count_law [] l = refl
count_law (a ∷ []) l =
    let w = l.within in
    rw (nz (a + 8 * 0) (omega (arith, w.0)), lt-ltb (a + 8 * 0) 8 (omega (arith, w.1))) refl
count_law (a ∷ b ∷ []) l =
    let w = l.within in
    let v = a + 8 * (b + 8 * 0) in
    rw (nz v (omega (arith, w.0)), le-ltb v 8 (omega (arith, w.2.0)), lt-ltb v 64 (omega (arith, w.1, w.2.1))) refl
count_law (a ∷ b ∷ c ∷ []) l =
    let w = l.within in
    let v = a + 8 * (b + 8 * (c + 8 * 0)) in
    rw (nz v (omega (arith, w.0)), le-ltb v 8 (omega (arith, w.2.0)), le-ltb v 64 (omega (arith, w.2.2.0)), lt-ltb v 512 (omega (arith, w.1, w.2.1, w.2.2.1))) refl
count_law (a ∷ b ∷ c ∷ d ∷ []) l =
    let w = l.within in
    let v = a + 8 * (b + 8 * (c + 8 * (d + 8 * 0))) in
    rw (nz v (omega (arith, w.0)), le-ltb v 8 (omega (arith, w.2.0)), le-ltb v 64 (omega (arith, w.2.2.0)), le-ltb v 512 (omega (arith, w.2.2.2.0))) refl
count_law (a ∷ b ∷ c ∷ d ∷ e ∷ xs) l = too_long (a ∷ b ∷ c ∷ d ∷ e ∷ xs) l (omega arith)

-- each digit is among others
in_law : (x : ℕ) (ys : List ℕ) → Listed 4 ys → 0 < x → none_or_in x (pack ys) ≡ member x ys
unfolding none_or_in
in_law x ys l h = rw (nz x h) (has_law ys x l h)

in_zero : (v : ℕ) → none_or_in 0 v ≡ true
unfolding none_or_in
in_zero v = refl

pub inside_law : (xs ys : List ℕ) → Listed 4 xs → Listed 4 ys → inside (pack xs) (pack ys) ≡ within xs ys
unfolding within Within
inside_law [] ys l m = inside_digits four_0 (pack ys) ∙ rw (in_zero (pack ys)) refl
inside_law (a ∷ []) ys l m =
    let w = l.within in
    inside_digits (four_1 a w) (pack ys) ∙ rw (in_zero (pack ys), in_law a ys m w.0) refl
inside_law (a ∷ b ∷ []) ys l m =
    let w = l.within in
    inside_digits (four_2 a b w) (pack ys) ∙ rw (in_zero (pack ys), in_law a ys m w.0, in_law b ys m w.2.0) refl
inside_law (a ∷ b ∷ c ∷ []) ys l m =
    let w = l.within in
    inside_digits (four_3 a b c w) (pack ys) ∙ rw (in_zero (pack ys), in_law a ys m w.0, in_law b ys m w.2.0, in_law c ys m w.2.2.0) refl
inside_law (a ∷ b ∷ c ∷ d ∷ []) ys l m =
    let w = l.within in
    inside_digits (four_4 a b c d w) (pack ys)
    ∙ rw (in_law a ys m w.0, in_law b ys m w.2.0, in_law c ys m w.2.2.0, in_law d ys m w.2.2.2.0)
    (ap (λ (t : Bool). cond (member a ys) (cond (member b ys) (cond (member c ys) t false) false) false) (either_false (member d ys)))
inside_law (a ∷ b ∷ c ∷ d ∷ e ∷ xs) ys l m = too_long (a ∷ b ∷ c ∷ d ∷ e ∷ xs) l (omega arith)
