-- The words of tables, one relation after another, and as the definition counts them.
use Prim.Native.Nat.{ℕ, zero, suc, ◌+◌, ◌*◌, ◌<◌, ◌≤◌, max}
use mathlib.Core.Path.{◌≡◌, refl, sym, ap, ap₂, ◌∙◌}
use mathlib.Core.List.{List, [], ◌∷◌, ◌++◌, map}
use native.Mathlib.Numerals.{add-one}
use native.Mathlib.Nat.{add_assoc, suc-mul}
use native.Mathlib.Omega.{arith}
use native.Mathlib.Decide.{dec_lt}
use lib.ListN.{length, get_or, take, drop, set, length-map, drop_of_length-le}
use lib.Seq.{take-suc, drop-cons, get_or-set_same, get_or-set_other, take_all}
use Rattle.definition.specs.Text.{Text}
use Rattle.definition.specs.Limits.{CLOSURES}
use Rattle.definition.specs.Tables.{table_words}
use Rattle.definition.specs.Accept.{Accepted, elements, relation_words, largest_words, scratch_words, words_needed}
use Rattle.tuples.proofs.Turns.{words_le}
use Rattle.parts.specs.Packed.{tag_of}
use Rattle.facts.specs.Words.{relation_of}
use Rattle.layout.specs.Sizes.{all_words, most_words, TablesAt, ClosuresAt, LaidOut}

-- one table is small
pub few_words : (u r : ℕ) → u ≤ 64 → table_words u (tag_of r) ≤ 262144
few_words u r h = words_le u 64 (tag_of r) h (omega arith) (omega arith)

all_append : (u : ℕ) (rs : List ℕ) (r : ℕ) → all_words u (rs ++ (r ∷ [])) ≡ all_words u rs + table_words u (tag_of r)
unfolding all_words
all_append u [] r = omega arith
all_append u (x ∷ rs) r = ap (λ (k : ℕ). table_words u (tag_of x) + k) (all_append u rs r) ∙ sym (add_assoc (table_words u (tag_of x)) (all_words u rs) (table_words u (tag_of r)))

pub all_next : (u : ℕ) (rs : List ℕ) (i : ℕ) → i < length rs → all_words u (take (i + 1) rs) ≡ all_words u (take i rs) + table_words u (tag_of (get_or rs i 0))
all_next u rs i h = ap (λ (k : ℕ). all_words u (take k rs)) (add-one i) ∙ ap (all_words u) (take-suc rs i 0 h) ∙ all_append u (take i rs) (get_or rs i 0)

-- the tables of the first i relations are laid
pub record Laying (u : ℕ) (rs firsts : List ℕ) (next i : ℕ) : Type 0 where
  pub next_is : next ≡ all_words u (take i rs)
  pub small : next ≤ i * 262144
  pub at : (j : ℕ) → j < i → get_or firsts j 0 ≡ all_words u (take j rs)

pub laying_start : (u : ℕ) (rs firsts : List ℕ) → Laying u rs firsts 0 0
unfolding all_words
laying_start u rs firsts = record { next_is = refl; small = omega arith; at = λ j h. absurd (omega arith) }

pub laying_next : (u : ℕ) (rs firsts : List ℕ) (next i : ℕ) → Laying u rs firsts next i → u ≤ 64 → i < length rs → i < length firsts
    → Laying u rs (set firsts i next) (next + table_words u (tag_of (get_or rs i 0))) (i + 1)
laying_next u rs firsts next i h v l m =
    record {
      next_is = ap (λ (k : ℕ). k + table_words u (tag_of (get_or rs i 0))) h.next_is ∙ sym (all_next u rs i l);
      small = omega (arith, h.small, few_words u (get_or rs i 0) v);
      at = λ j k. go j k (dec_lt j i);
    }
  where
    go : (j : ℕ) → j < i + 1 → Dec (j < i) → get_or (set firsts i next) j 0 ≡ all_words u (take j rs)
    go j k (yes g) = get_or-set_other firsts i j next 0 (λ e. omega arith) ∙ h.at j g
    go j k (no g) = let e : j ≡ i = omega arith in rw e (get_or-set_same firsts i next 0 m ∙ h.next_is)

pub laying_end : (u : ℕ) (rs firsts : List ℕ) (next i : ℕ) → Laying u rs firsts next i → length rs ≤ i → i ≤ length rs → (next ≡ all_words u rs) × TablesAt u rs firsts
laying_end u rs firsts next i h a b = (h.next_is ∙ ap (all_words u) (take_all i rs a), λ j l. h.at j (omega arith))

-- the tables of the first c closures are
pub record Closing (u f : ℕ) (old firsts : List ℕ) (next c : ℕ) : Type 0 where
  pub next_is : next ≡ f + c * u
  pub small : next ≤ f + c * 64
  pub at : (j : ℕ) → j < c → get_or firsts (16 + j) 0 ≡ f + j * u
  pub before : (i : ℕ) → i < 16 → get_or firsts i 0 ≡ get_or old i 0

pub closing_start : (u f : ℕ) (old : List ℕ) → Closing u f old old f 0
closing_start u f old = record { next_is = omega arith; small = omega arith; at = λ j h. absurd (omega arith); before = λ i h. refl }

pub closing_next : (u f : ℕ) (old firsts : List ℕ) (next c : ℕ) → Closing u f old firsts next c → u ≤ 64 → 16 + c < length firsts → Closing u f old (set firsts (16 + c) next) (next + u) (c + 1)
closing_next u f old firsts next c h v l =
    record {
      next_is = let e : (c + 1) * u ≡ c * u + u = ap (λ (k : ℕ). k * u) (add-one c) ∙ suc-mul c u in omega (arith, h.next_is, e);
      small = omega (arith, h.small);
      at = λ j k. go j k (dec_lt j c);
      before = λ i k. get_or-set_other firsts (16 + c) i next 0 (λ e. omega arith) ∙ h.before i k;
    }
  where
    go : (j : ℕ) → j < c + 1 → Dec (j < c) → get_or (set firsts (16 + c) next) (16 + j) 0 ≡ f + j * u
    go j k (yes g) = get_or-set_other firsts (16 + c) (16 + j) next 0 (λ e. omega arith) ∙ h.at j g
    go j k (no g) = let e : j ≡ c = omega arith in rw e (get_or-set_same firsts (16 + c) next 0 l ∙ h.next_is)

-- the largest of the first i tables
pub record Seeking (u : ℕ) (rs : List ℕ) (most i : ℕ) : Type 0 where
  pub is : max most (most_words u (drop i rs)) ≡ most_words u rs
  pub small : most ≤ 262144

pub seeking_start : (u : ℕ) (rs : List ℕ) → Seeking u rs 0 0
seeking_start u rs = record { is = omega arith; small = omega arith }

module _ (u : ℕ) (rs : List ℕ) (most i : ℕ) (h : Seeking u rs most i) where
  pub seeking_next : i < length rs → u ≤ 64 → Seeking u rs (max most (table_words u (tag_of (get_or rs i 0)))) (i + 1)
  unfolding most_words
  seeking_next l v =
      let e : most_words u (drop i rs) ≡ max (table_words u (tag_of (get_or rs i 0))) (most_words u (drop (i + 1) rs)) = ap (most_words u) (drop-cons rs i 0 l) ∙ ap (λ (k : ℕ). max (table_words u (tag_of (get_or rs i 0))) (most_words u (drop k rs))) (sym (add-one i)) in
      record { is = omega (arith, h.is, e); small = omega (arith, h.small, few_words u (get_or rs i 0) v) }

  pub seeking_end : length rs ≤ i → most ≡ most_words u rs
  unfolding most_words
  seeking_end l = let e : most_words u (drop i rs) ≡ 0 = ap (most_words u) (drop_of_length-le rs {i = i} l) in omega (arith, h.is, e)

-- the definition's counts
module _ (facts query : Text) (u : ℕ) where
  pub words_are : (rs : List ℕ) → relation_words u (map (relation_of facts query) rs) ≡ all_words u rs
  unfolding relation_words all_words
  words_are [] = refl
  words_are (r ∷ rs) = ap (λ (k : ℕ). table_words u (tag_of r) + k) (words_are rs)

  most_are : (rs : List ℕ) → largest_words u (map (relation_of facts query) rs) ≡ most_words u rs
  unfolding largest_words most_words
  most_are [] = refl
  most_are (r ∷ rs) = ap (max (table_words u (tag_of r))) (most_are rs)

map_take : {A B : Type 0} (f : A → B) (n : ℕ) (xs : List A) → take n (map f xs) ≡ map f (take n xs)
map_take f zero xs = refl
map_take f (suc n) [] = refl
map_take f (suc n) (x ∷ xs) = ap (λ ys. f x ∷ ys) (map_take f n xs)

pub laid_out : (u : ℕ) (rs firsts : List ℕ) (from scratch words most : ℕ) → from ≡ all_words u rs → TablesAt u rs firsts → scratch ≡ from + 16 * u → ClosuresAt u from firsts → most ≡ most_words u rs
    → words ≡ scratch + most → (facts query : Text) (w : Accepted) → map (relation_of facts query) rs ≡ w.relations → elements w ≡ u → LaidOut w firsts scratch words
unfolding words_needed scratch_words
laid_out u rs firsts from scratch words most a b c d e f facts query w r n =
    let k : length w.relations ≡ length rs = ap length (sym r) ∙ length-map rs (relation_of facts query) in
    let all : relation_words (elements w) w.relations ≡ from = ap₂ relation_words n (sym r) ∙ words_are facts query u rs ∙ sym a in
    let largest : largest_words (elements w) w.relations ≡ most = ap₂ largest_words n (sym r) ∙ most_are facts query u rs ∙ sym e in
    record {
      laid =
          record {
            relations = λ i l.
                b i (omega (arith, k)) ∙ sym (words_are facts query u (take i rs)) ∙ ap₂ relation_words (sym n) (sym (map_take (relation_of facts query) i rs) ∙ ap (take i) r);
            closures = λ j l. d j l ∙ ap₂ (λ (x y : ℕ). x + j * y) (sym all) (sym n);
            new_table = c ∙ ap₂ (λ (x y : ℕ). x + 16 * y) (sym all) (sym n);
          };
      needed = let q : CLOSURES * elements w ≡ 16 * u = ap (λ (x : ℕ). 16 * x) n in omega (arith, f, c, all, largest, q);
    }
