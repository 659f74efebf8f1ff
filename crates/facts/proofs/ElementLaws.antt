-- The elements of a line, one after another.
use Prim.Native.Nat.{ℕ, zero, suc, ◌+◌, ◌-◌, ◌<◌}
use mathlib.Core.Path.{◌≡◌, refl, sym, ap, subst, ◌∙◌}
use mathlib.Core.List.{List, [], ◌∷◌, ◌++◌, append_assoc, append-nil}
use mathlib.Core.Bool.{Bool, true, false, ◌&&◌, not, cond}
use native.Mathlib.Omega.{arith}
use lib.Dec.{eqb, leb}
use lib.ListN.{take, drop}
use lib.Seq.{drop-drop}
use Rattle.definition.specs.Text.{Text, span, starts, some_of, is_blank}
use Rattle.definition.specs.Limits.{ARITY, WORD_BYTES}
use Rattle.definition.specs.Answer.{Answer, ok, refused, ◌>>=◌}
use Rattle.definition.specs.Facts.{Element, Word, none, one, wrong, is_inside, word, quoted_word, bare_word, elements}
use Rattle.facts.specs.declared.Item.{Item}
use Rattle.facts.specs.declared.FactLine.{FactLine}
use Rattle.facts.specs.Lines.{element_of, elements_of, items_of, fact_of, next_word, says, says_elements}

-- what was found stands where it was looked for
data Stands (p : ℕ) : Word → Type 0 where
  none_stands : Stands p none
  wrong_stands : {q : ℕ} → Stands p (wrong q)
  one_stands : {e : Element} {n : ℕ} → e.at ≡ p → Stands p (one e n)

by_test : {p : ℕ} (b : Bool) {v w : Word} → Stands p v → Stands p w → Stands p (cond b v w)
by_test true s t = s
by_test false s t = t

a_word : {p : ℕ} (b : Bool) (v : Text) (q : Bool) (n : ℕ) → Stands p (cond b (one (record { value = v; quoted = q; at = p }) n) (wrong p))
a_word b v q n = by_test b (one_stands {e = record { value = v; quoted = q; at = _ }} {n = n} refl) (wrong_stands {q = _})

stands_quoted : (p : ℕ) (xs : Text) → Stands p (quoted_word p xs)
unfolding quoted_word
stands_quoted p xs =
    let n = span (λ y. not (eqb y 34)) xs in
    a_word (starts (34 ∷ []) (drop n xs) && leb n WORD_BYTES && leb (span is_inside (drop n xs)) 1) (take n xs) true (n + 2)

stands_bare : (p : ℕ) (xs : Text) → Stands p (bare_word p xs)
unfolding bare_word
stands_bare p xs =
    let n = span is_inside xs in
    a_word (leb n WORD_BYTES && not (some_of (eqb 34) (take n xs))) (take n xs) false n

stands : (p : ℕ) (xs : Text) → Stands p (word p xs)
unfolding word
stands p [] = none_stands
stands p (x ∷ xs) = by_test (eqb x 34) (stands_quoted p xs) (stands_bare p (x ∷ xs))

place_of : {p : ℕ} {e : Element} {n : ℕ} → Stands p (one e n) → e.at ≡ p
place_of (one_stands h) = h

module _ (l : Text) (j : ℕ) where
  -- the blanks in front
  blanks : ℕ
  blanks = span is_blank (drop j l)

  found_place : (i : ℕ) (x : Item) (m : ℕ) → next_word l i j ≡ one (element_of l i x) m → i + x.place ≡ i + j + blanks
  unfolding next_word blanks
  found_place i x m h = place_of (subst (Stands (i + j + blanks)) h (stands (i + j + blanks) (drop blanks (drop j l))))

  pub elements_nothing : (i k : ℕ) → next_word l i j ≡ none → elements k (i + j) (drop j l) ≡ ok []
  unfolding next_word elements
  elements_nothing i zero h = rw h
  elements_nothing i (suc k) h = rw h

  pub elements_wrong : (i k p : ℕ) → next_word l i j ≡ wrong p → elements k (i + j) (drop j l) ≡ refused 4 p
  unfolding next_word elements
  elements_wrong i zero p h = rw h
  elements_wrong i (suc k) p h = rw h

  module _ (i : ℕ) (x : Item) (m : ℕ) (h : next_word l i j ≡ one (element_of l i x) m) where
    pub elements_many : elements 0 (i + j) (drop j l) ≡ refused 5 (i + x.place)
    unfolding next_word elements
    elements_many = rw h

    after : i + j + blanks + m ≡ i + (x.place + m)
    after = omega (arith, found_place i x m h)

    rest : drop (blanks + m) (drop j l) ≡ drop (x.place + m) l
    rest = let e : j + (blanks + m) ≡ x.place + m = omega (arith, found_place i x m h) in rw (drop-drop, e)

    pub elements_found : (k : ℕ) → elements (suc k) (i + j) (drop j l) ≡ ◌>>=◌ (elements k (i + (x.place + m)) (drop (x.place + m) l)) (λ es. ok (element_of l i x ∷ es))
    unfolding next_word elements blanks
    elements_found k = rw (h, ← after, ← rest)

-- what was read before, in front of what follows
abbrev pub prepend : List Element → Answer (List Element) → Answer (List Element)
prepend xs m = ◌>>=◌ m (λ es. ok (xs ++ es))

pub prepend_nothing : (m : Answer (List Element)) → m ≡ prepend [] m
prepend_nothing (ok es) = refl
prepend_nothing (refused r p) = refl

pub prepend_one : (xs : List Element) (e : Element) (m : Answer (List Element)) → prepend xs (◌>>=◌ m (λ es. ok (e ∷ es))) ≡ prepend (xs ++ (e ∷ [])) m
prepend_one xs e (ok es) = rw (append_assoc)
prepend_one xs e (refused r p) = refl

elements_append : (l : Text) (i : ℕ) (xs : List Item) (x : Item) → elements_of l i (xs ++ (x ∷ [])) ≡ elements_of l i xs ++ (element_of l i x ∷ [])
elements_append l i [] x = refl
elements_append l i (y ∷ xs) x = ap (λ (es : List Element). element_of l i y ∷ es) (elements_append l i xs x)

-- the elements read so far, and those that the line has from the place j on
pub record ReadTo (l : Text) (n : ℕ) (f : FactLine) (j : ℕ) : Type 0 where
  pub so_far : (i : ℕ) → elements ARITY (i + n) (drop n l) ≡ prepend (elements_of l i (items_of f)) (elements (ARITY - f.arity) (i + j) (drop j l))

pub read_start : (l : Text) (n : ℕ) (f : FactLine) → f.arity ≡ 0 → ReadTo l n f n
read_start l n f h = record { so_far = λ i. rw h (prepend_nothing (elements ARITY (i + n) (drop n l))) }

module _ (l : Text) (n : ℕ) (f : FactLine) (j : ℕ) (named : f.name_len ≡ n) (r : ReadTo l n f j) where
  pub read_nothing : ((i : ℕ) → next_word l i j ≡ none) → (i : ℕ) → says (ok (fact_of l i f)) ≡ says_elements l i n
  unfolding says_elements
  read_nothing h i = rw (r.so_far i, elements_nothing l j i (ARITY - f.arity) (h i), append-nil, named)

  pub read_wrong : (p : ℕ) → ((i : ℕ) → next_word l i j ≡ wrong (i + p)) → (i : ℕ) → says (refused 4 (i + p)) ≡ says_elements l i n
  unfolding says_elements
  read_wrong p h i = rw (r.so_far i, elements_wrong l j i (ARITY - f.arity) (i + p) (h i))

  module _ (x : Item) (m : ℕ) (h : (i : ℕ) → next_word l i j ≡ one (element_of l i x) m) where
    pub read_many : f.arity ≡ 3 → (i : ℕ) → says (refused 5 (i + x.place)) ≡ says_elements l i n
    unfolding says_elements
    read_many a i = rw (r.so_far i, a, elements_many l j i x m (h i))

    pub read_more : (g : FactLine) → f.arity < 3 → g.arity ≡ f.arity + 1 → items_of g ≡ items_of f ++ (x ∷ []) → ReadTo l n g (x.place + m)
    read_more g a b c =
        let k : ARITY - f.arity ≡ suc (ARITY - g.arity) = omega arith in
        record {
          so_far = λ i.
              r.so_far i
              ∙ ap (λ (n : ℕ). prepend (elements_of l i (items_of f)) (elements n (i + j) (drop j l))) k
              ∙ ap (prepend (elements_of l i (items_of f))) (elements_found l j i x m (h i) (ARITY - g.arity))
              ∙ prepend_one (elements_of l i (items_of f)) (element_of l i x) (elements (ARITY - g.arity) (i + (x.place + m)) (drop (x.place + m) l))
              ∙ ap (λ (es : List Element). prepend es (elements (ARITY - g.arity) (i + (x.place + m)) (drop (x.place + m) l)))
              (sym (ap (elements_of l i) c ∙ elements_append l i (items_of f) x));
        }
