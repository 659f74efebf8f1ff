-- The table of the code holds the reserved words: a test at each row, which antt computes, and the law that turns it into the rule.
use Prim.Native.Nat.{ℕ, zero, suc, ◌+◌, ◌*◌, ◌<◌, ◌≤◌}
use mathlib.Core.Path.{◌≡◌, refl, sym, ap, subst, ◌∙◌}
use mathlib.Core.List.{List, [], ◌∷◌}
use mathlib.Core.Bool.{Bool, true, false, ◌&&◌, ◌||◌, cond}
use mathlib.Core.Logic.{⊎_elim}
use native.Mathlib.Nat.{not-suc-le-zero, le_of_suc-le-suc, eq-or-lt_of_le, add-suc}
use native.Mathlib.Numerals.{add-one}
use native.Mathlib.Omega.{arith}
use lib.Dec.{T, leb, leb→le}
use lib.ListN.{length, get_or, take, drop, drop_of_length-le}
use lib.Seq.{drop-cons}
use Rattle.definition.specs.Text.{Text, ascii, same, member, some_of, reserved}
use Rattle.definition.specs.Token.{word_terminal, name, key, FIRST_WORD}
use Rattle.definition.proofs.BoolLaws.{and_left, and_right}
use Rattle.definition.proofs.MeaningLaws.{same_eq, same_refl}
use Rattle.definition.proofs.BoolLaws.{is_true}

-- the constants of the code
unfoldable pub letters : Text
letters =
    ascii
    "AVG    DIV    ELSE   ENDL   EX     EXEC   EXIT   FA     FOR    IF     IN     MAX    MIN    MOD    NUMBER PRINT  RELINFOSTDERR STRING SUM    TC     TCFAST TO     WHILE  TRUE   FALSE  "

unfoldable pub lengths : List ℕ
lengths = 3 ∷ 3 ∷ 4 ∷ 4 ∷ 2 ∷ 4 ∷ 4 ∷ 2 ∷ 3 ∷ 2 ∷ 2 ∷ 3 ∷ 3 ∷ 3 ∷ 6 ∷ 5 ∷ 7 ∷ 6 ∷ 6 ∷ 3 ∷ 2 ∷ 6 ∷ 2 ∷ 5 ∷ 4 ∷ 5 ∷ []

-- the test f passes at each number below n
all_below : ℕ → (ℕ → Bool) → Bool
all_below zero f = true
all_below (suc n) f = f n && all_below n f

below : (f : ℕ → Bool) (n : ℕ) → T (all_below n f) → (k : ℕ) → k < n → T (f k)
unfolding all_below
below f zero t k h = absurd (not-suc-le-zero h)
below f (suc n) t k h =
    ⊎_elim (λ e. subst (λ (m : ℕ). T (f m)) (sym e) (and_left (f n) (all_below n f) t))
    (λ l. below f n (and_right (f n) (all_below n f) t) k l) (eq-or-lt_of_le (le_of_suc-le-suc h))

-- the row k has at most 7 letters, and they are the reserved word k
short : ℕ → Bool
short k = leb (get_or lengths k 0) 7

spelt : ℕ → Bool
spelt k = same (take (get_or lengths k 0) (drop (k * 7) letters)) (get_or reserved k [])

right : ℕ → Bool
right k = short k && spelt k

all : T (all_below 26 right)
unfolding all_below right short spelt lengths letters reserved same
all = tt

module _ (k : ℕ) (h : k < 26) where
  at : T (short k && spelt k)
  unfolding right
  at = below right 26 all k h

  pub row_short : get_or lengths k 0 ≤ 7
  unfolding short
  row_short = leb→le _ _ (and_left (short k) (spelt k) at)

  pub row_word : take (get_or lengths k 0) (drop (k * 7) letters) ≡ get_or reserved k []
  unfolding spelt
  row_word = same_eq _ _ (and_right (short k) (spelt k) at)

  within_words : k < length reserved
  unfolding reserved
  within_words = h

pub same_sym : (a b : Text) → same a b ≡ same b a
same_sym a b = go (same a b) refl (same b a) refl
  where
    go : (p : Bool) → same a b ≡ p → (q : Bool) → same b a ≡ q → p ≡ q
    go true e true f = refl
    go false e false f = refl
    go true e false f = sym (is_true (same a a) (same_refl a)) ∙ ap (λ (c : Text). same c a) (same_eq a b (rw e tt)) ∙ f
    go false e true f = sym e ∙ ap (λ (c : Text). same c b) (sym (same_eq b a (rw f tt))) ∙ is_true (same b b) (same_refl b)

-- the search for the word w may go on from the row k
pub record Unlisted (w : Text) (k : ℕ) : Type 0 where
  pub listed : member w reserved ≡ member w (drop k reserved)
  pub terminal : (i : ℕ) → word_terminal reserved FIRST_WORD w i ≡ word_terminal (drop k reserved) (FIRST_WORD + k) w i

pub search_start : (w : Text) → Unlisted w 0
search_start w = record { listed = refl; terminal = λ i. refl }

module _ (w : Text) (k : ℕ) (h : k < 26) (u : Unlisted w k) where
  pub search_found : same (get_or reserved k []) w ≡ true → (true ≡ member w reserved) × ((i : ℕ) → word_terminal reserved FIRST_WORD w i ≡ key (FIRST_WORD + k))
  unfolding member some_of word_terminal
  search_found e =
      let d : same w (get_or reserved k []) ≡ true = same_sym w (get_or reserved k []) ∙ e in (
        sym (u.listed ∙ rw (drop-cons reserved k [] (within_words k h), d)),
        λ i. u.terminal i ∙ rw (drop-cons reserved k [] (within_words k h), e),
      )

  pub search_next : same (get_or reserved k []) w ≡ false → Unlisted w (k + 1)
  unfolding member some_of word_terminal
  search_next e =
      let d : same w (get_or reserved k []) ≡ false = same_sym w (get_or reserved k []) ∙ e in
      record {
        listed = u.listed ∙ rw (drop-cons reserved k [] (within_words k h), d, add-one);
        terminal = λ i. u.terminal i ∙ rw (drop-cons reserved k [] (within_words k h), e, add-one k, add-suc FIRST_WORD k);
      }

pub search_end : (w : Text) (k : ℕ) → 26 ≤ k → Unlisted w k → (false ≡ member w reserved) × ((i : ℕ) → word_terminal reserved FIRST_WORD w i ≡ name i)
unfolding reserved member some_of word_terminal
search_end w k h u =
    let e : drop k reserved ≡ [] = drop_of_length-le reserved h in
    (sym (u.listed ∙ rw e), λ i. u.terminal i ∙ rw e)

-- ---- a word that no row can be

-- the row k has from 2 to 7 letters, the second of them no later than Z
capital : ℕ → Bool
capital k = leb 2 (length (get_or reserved k [])) && (leb (length (get_or reserved k [])) 7 && leb (get_or (get_or reserved k []) 1 0) 90)

all_capital : T (all_below 26 capital)
unfolding all_below capital reserved
all_capital = tt

pub record Capital (w : Text) : Type 0 where
  pub long : 2 ≤ length w
  pub short : length w ≤ 7
  pub second : get_or w 1 0 ≤ 90

row_capital : (k : ℕ) → k < 26 → Capital (get_or reserved k [])
unfolding capital
row_capital k h =
    let t = below capital 26 all_capital k h in
    let u = and_right (leb 2 (length (get_or reserved k []))) _ t in
    record {
      long = leb→le _ _ (and_left (leb 2 (length (get_or reserved k []))) _ t);
      short = leb→le _ _ (and_left (leb (length (get_or reserved k [])) 7) _ u);
      second = leb→le _ _ (and_right (leb (length (get_or reserved k [])) 7) _ u);
    }

none_of : (w : Text) (ws : List Text) → ((k : ℕ) → k < length ws → same w (get_or ws k []) ≡ false) → member w ws ≡ false
unfolding member some_of
none_of w [] h = refl
none_of w (v ∷ ws) h = rw (h 0 (omega arith)) (none_of w ws (λ k l. h (suc k) (omega arith)))

pub not_reserved : (w : Text) → (Capital w → ⊥) → member w reserved ≡ false
unfolding reserved
not_reserved w n = none_of w reserved (λ k h. go k h (same w (get_or reserved k [])) refl)
  where
    go : (k : ℕ) → k < 26 → (b : Bool) → same w (get_or reserved k []) ≡ b → b ≡ false
    go k h true e = absurd (n (subst Capital (sym (same_eq w (get_or reserved k []) (rw e tt))) (row_capital k h)))
    go k h false e = refl

-- such a word is a name to the grammar
pub name_terminal : (w : Text) (ws : List Text) (n i : ℕ) → member w ws ≡ false → word_terminal ws n w i ≡ name i
unfolding member some_of word_terminal
name_terminal w [] n i e = refl
name_terminal w (v ∷ ws) n i e = go (same v w) (same_sym w v) e (name_terminal w ws (suc n) i)
  where
    go : (b : Bool) → same w v ≡ b → same w v || member w ws ≡ false → (member w ws ≡ false → word_terminal ws (suc n) w i ≡ name i) → cond b (key n) (word_terminal ws (suc n) w i) ≡ name i
    go true s e ih = let z : ◌≡◌ {A = Bool} true false = sym (ap (λ (b : Bool). b || member w ws) s) ∙ e in let y : ◌≡◌ {A = ℕ} 0 1 = cc in absurd (omega arith)
    go false s e ih = ih (sym (ap (λ (b : Bool). b || member w ws) s) ∙ e)
