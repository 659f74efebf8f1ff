-- What stands at a place of a line, by the ends of the runs of bytes from there.
use Prim.Native.Nat.{ℕ, zero, suc, ◌+◌, ◌-◌, ◌<◌, ◌≤◌}
use mathlib.Core.Path.{◌≡◌, refl, sym, ap, ◌∙◌}
use mathlib.Core.List.{[], ◌∷◌}
use mathlib.Core.Bool.{Bool, true, false, ◌&&◌, not, cond}
use native.Mathlib.Numerals.{add-one}
use native.Mathlib.Nat.{add_assoc}
use native.Mathlib.Omega.{arith}
use lib.Dec.{eqb}
use lib.ListN.{length, get_or, take, drop, drop_of_length-le, length-drop}
use lib.Seq.{drop-cons, drop-drop, get_or-drop}
use borrow.Author.Tests.{eq-eqb, ne_eqb, le-leb, lt-leb, eqb-true, eqb-false}
use Rattle.definition.specs.Text.{Text, span, starts, some_of, is_blank}
use Rattle.definition.specs.Facts.{none, one, wrong, is_inside, word, quoted_word, bare_word}
use Rattle.texts.proofs.RunLaws.{span_within}
use Rattle.facts.specs.Lines.{element_of, next_word}

abbrev pub no_quote : ℕ → Bool
no_quote y = not (eqb y 34)

pub no_and : (b : Bool) → b && false ≡ false
no_and true = refl
no_and false = refl

-- the byte that ends a run
stops : (xs : Text) → span no_quote xs < length xs → starts (34 ∷ []) (drop (span no_quote xs) xs) ≡ true
unfolding span starts
stops [] h = absurd (omega arith)
stops (x ∷ xs) h = go (eqb x 34) refl h (stops xs)
  where
    go : (b : Bool) → eqb x 34 ≡ b → cond (not b) (suc (span no_quote xs)) 0 < suc (length xs)
        → (span no_quote xs < length xs → starts (34 ∷ []) (drop (span no_quote xs) xs) ≡ true)
        → starts (34 ∷ []) (drop (cond (not b) (suc (span no_quote xs)) 0) (x ∷ xs)) ≡ true
    go true e h ih = ap (λ (k : ℕ). eqb 34 k && true) (eqb-true x 34 e)
    go false e h ih = ih (omega arith)

-- an element in quotes, whose bytes after the opening one are xs
module _ (i : ℕ) (xs : Text) where
  quoted_open : span no_quote xs ≡ length xs → quoted_word i xs ≡ wrong i
  unfolding quoted_word starts
  quoted_open h = let g : length xs ≤ span no_quote xs = omega arith in rw (drop_of_length-le xs)

  quoted_long : 32 < span no_quote xs → quoted_word i xs ≡ wrong i
  unfolding quoted_word
  quoted_long h = rw (lt-leb (span no_quote xs) 32 h) (simp no_and)

  quoted_joined : 1 < span is_inside (drop (span no_quote xs) xs) → quoted_word i xs ≡ wrong i
  unfolding quoted_word
  quoted_joined h = rw (lt-leb (span is_inside (drop (span no_quote xs) xs)) 1 h) (simp no_and)

  quoted_good : span no_quote xs < length xs → span no_quote xs ≤ 32 → span is_inside (drop (span no_quote xs) xs) ≤ 1
      → quoted_word i xs ≡ one (record { value = take (span no_quote xs) xs; quoted = true; at = i }) (span no_quote xs + 2)
  unfolding quoted_word
  quoted_good h k j = rw (stops xs h, le-leb (span no_quote xs) 32 k, le-leb (span is_inside (drop (span no_quote xs) xs)) 1 j)

-- a bare one
has_quote : (n : ℕ) (xs : Text) → span no_quote xs < n → n ≤ length xs → some_of (eqb 34) (take n xs) ≡ true
unfolding span some_of
has_quote zero xs h k = absurd (omega arith)
has_quote (suc n) [] h k = absurd (omega arith)
has_quote (suc n) (x ∷ xs) h k = go (eqb x 34) refl h (λ g. has_quote n xs g (omega arith))
  where
    go : (b : Bool) → eqb x 34 ≡ b → cond (not b) (suc (span no_quote xs)) 0 < suc n → (span no_quote xs < n → some_of (eqb 34) (take n xs) ≡ true)
        → some_of (eqb 34) (x ∷ take n xs) ≡ true
    go true e h ih = rw (eqb-true x 34 e)
    go false e h ih = rw (ne_eqb 34 x (λ d. eqb-false x 34 e (sym d))) (ih (omega arith))

no_quotes : (n : ℕ) (xs : Text) → n ≤ span no_quote xs → some_of (eqb 34) (take n xs) ≡ false
unfolding span some_of
no_quotes zero xs h = refl
no_quotes (suc n) [] h = refl
no_quotes (suc n) (x ∷ xs) h = go (eqb x 34) refl h (no_quotes n xs)
  where
    go : (b : Bool) → eqb x 34 ≡ b → suc n ≤ cond (not b) (suc (span no_quote xs)) 0 → (n ≤ span no_quote xs → some_of (eqb 34) (take n xs) ≡ false)
        → some_of (eqb 34) (x ∷ take n xs) ≡ false
    go true e h ih = absurd (omega arith)
    go false e h ih = rw (ne_eqb 34 x (λ d. eqb-false x 34 e (sym d))) (ih (omega arith))

-- the run up to a quote or a blank
abbrev pub bare : ℕ → Bool
bare y = not (eqb y 34) && is_inside y

bare_inside : (xs : Text) → span bare xs ≤ span is_inside xs
unfolding span
bare_inside [] = omega arith
bare_inside (x ∷ xs) = go (eqb x 34) (is_blank x) (bare_inside xs)
  where
    go : (a c : Bool) → span bare xs ≤ span is_inside xs → cond (not a && not c) (suc (span bare xs)) 0 ≤ cond (not c) (suc (span is_inside xs)) 0
    go true true ih = omega arith
    go true false ih = omega arith
    go false true ih = omega arith
    go false false ih = omega arith

bare_no_quote : (xs : Text) → span bare xs ≤ span no_quote xs
unfolding span
bare_no_quote [] = omega arith
bare_no_quote (x ∷ xs) = go (eqb x 34) (is_blank x) (bare_no_quote xs)
  where
    go : (a c : Bool) → span bare xs ≤ span no_quote xs → cond (not a && not c) (suc (span bare xs)) 0 ≤ cond (not a) (suc (span no_quote xs)) 0
    go true true ih = omega arith
    go true false ih = omega arith
    go false true ih = omega arith
    go false false ih = omega arith

inside_quote : (x : ℕ) → x ≡ 34 → is_blank x ≡ false
unfolding is_blank
inside_quote x e = rw e

-- at a quote it ends before the element does, else with it
bare_stop : (xs : Text) → get_or xs (span bare xs) 0 ≡ 34 → span no_quote xs < span is_inside xs
unfolding span
bare_stop [] h = absurd (omega arith)
bare_stop (x ∷ xs) h = go (eqb x 34) refl (is_blank x) refl h (bare_stop xs)
  where
    go : (a : Bool) → eqb x 34 ≡ a → (c : Bool) → is_blank x ≡ c → get_or (x ∷ xs) (cond (not a && not c) (suc (span bare xs)) 0) 0 ≡ 34 → (get_or xs (span bare xs) 0 ≡ 34 → span no_quote xs < span is_inside xs)
        → cond (not a) (suc (span no_quote xs)) 0 < cond (not c) (suc (span is_inside xs)) 0
    go true e true f h ih = let z : ◌≡◌ {A = Bool} true false = sym f ∙ inside_quote x (eqb-true x 34 e) in let y : ◌≡◌ {A = ℕ} 0 1 = cc in absurd (omega arith)
    go true e false f h ih = omega arith
    go false e true f h ih = absurd (eqb-false x 34 e h)
    go false e false f h ih = let l = ih h in omega arith

bare_end : (xs : Text) → (get_or xs (span bare xs) 0 ≡ 34 → ⊥) → span is_inside xs ≡ span bare xs
unfolding span
bare_end [] h = refl
bare_end (x ∷ xs) h = go (eqb x 34) refl (is_blank x) h (bare_end xs)
  where
    go : (a : Bool) → eqb x 34 ≡ a → (c : Bool) → (get_or (x ∷ xs) (cond (not a && not c) (suc (span bare xs)) 0) 0 ≡ 34 → ⊥) → ((get_or xs (span bare xs) 0 ≡ 34 → ⊥) → span is_inside xs ≡ span bare xs)
        → cond (not c) (suc (span is_inside xs)) 0 ≡ cond (not a && not c) (suc (span bare xs)) 0
    go true e c h ih = absurd (h (eqb-true x 34 e))
    go false e true h ih = refl
    go false e false h ih = ap suc (ih h)

module _ (i : ℕ) (xs : Text) where
  bare_long : 32 < span is_inside xs → bare_word i xs ≡ wrong i
  unfolding bare_word
  bare_long h = rw (lt-leb (span is_inside xs) 32 h)

  bare_quote : span no_quote xs < span is_inside xs → span is_inside xs ≤ length xs → bare_word i xs ≡ wrong i
  unfolding bare_word
  bare_quote h k = rw (has_quote (span is_inside xs) xs h k) (simp no_and)

  bare_good : span is_inside xs ≤ 32 → span is_inside xs ≤ span no_quote xs
      → bare_word i xs ≡ one (record { value = take (span is_inside xs) xs; quoted = false; at = i }) (span is_inside xs)
  unfolding bare_word
  bare_good h k = rw (le-leb (span is_inside xs) 32 h, no_quotes (span is_inside xs) xs k)

-- the same by places of the line l: the element starts at b, and its value's run ends at e
module _ (l : Text) (b e : ℕ) (h : b < length l) where
  module _ (q : get_or l b 0 ≡ 34) (r : e ≡ (b + 1) + span no_quote (drop (b + 1) l)) where
    is_quoted : (i : ℕ) → word (i + b) (drop b l) ≡ quoted_word (i + b) (drop (b + 1) l)
    unfolding word
    is_quoted i = rw (drop-cons l b 0, eq-eqb (get_or l b 0) 34 q, add-one)

    run : span no_quote (drop (b + 1) l) ≡ e - (b + 1)
    run = omega (arith, r)

    rest : drop (span no_quote (drop (b + 1) l)) (drop (b + 1) l) ≡ drop e l
    rest = drop-drop _ (b + 1) l ∙ ap (λ (k : ℕ). drop k l) (sym r)

    pub quoted_open_at : e ≡ length l → (i : ℕ) → word (i + b) (drop b l) ≡ wrong (i + b)
    quoted_open_at k i = is_quoted i ∙ quoted_open (i + b) (drop (b + 1) l) (run ∙ simp length-drop (omega arith))

    pub quoted_long_at : 32 < e - (b + 1) → (i : ℕ) → word (i + b) (drop b l) ≡ wrong (i + b)
    quoted_long_at k i = is_quoted i ∙ quoted_long (i + b) (drop (b + 1) l) (omega (arith, run))

    module _ (x : ℕ) (s : x ≡ e + span is_inside (drop e l)) where
      pub quoted_joined_at : 1 < x - e → (i : ℕ) → word (i + b) (drop b l) ≡ wrong (i + b)
      quoted_joined_at k i = is_quoted i ∙ quoted_joined (i + b) (drop (b + 1) l) (rw rest (omega (arith, s)))

      pub quoted_good_at : e < length l → e - (b + 1) ≤ 32 → x - e ≤ 1 → (i : ℕ)
          → word (i + b) (drop b l) ≡ one (element_of l i (record { place = b; len = e - (b + 1); quoted = true })) (e - (b + 1) + 2)
      quoted_good_at k j m i =
          is_quoted i
          ∙ quoted_good (i + b) (drop (b + 1) l) (rw (run, length-drop) (omega arith)) (omega (arith, run)) (rw rest (omega (arith, s)))
          ∙ rw run

  module _ (q : get_or l b 0 ≡ 34 → ⊥) (r : e ≡ b + span bare (drop b l)) where
    is_bare : (i : ℕ) → word (i + b) (drop b l) ≡ bare_word (i + b) (drop b l)
    unfolding word
    is_bare i = rw (drop-cons l b 0, ne_eqb (get_or l b 0) 34 q)

    run_bare : span bare (drop b l) ≡ e - b
    run_bare = omega (arith, r)

    end : get_or (drop b l) (span bare (drop b l)) 0 ≡ get_or l e 0
    end = get_or-drop b l (span bare (drop b l)) 0 ∙ ap (λ (k : ℕ). get_or l k 0) (sym r)

    pub bare_long_at : 32 < e - b → (i : ℕ) → word (i + b) (drop b l) ≡ wrong (i + b)
    bare_long_at k i = is_bare i ∙ bare_long (i + b) (drop b l) (omega (arith, run_bare, bare_inside (drop b l)))

    pub bare_quote_at : get_or l e 0 ≡ 34 → (i : ℕ) → word (i + b) (drop b l) ≡ wrong (i + b)
    bare_quote_at k i = is_bare i ∙ bare_quote (i + b) (drop b l) (bare_stop (drop b l) (end ∙ k)) (span_within is_inside (drop b l))

    pub bare_good_at : e - b ≤ 32 → (get_or l e 0 ≡ 34 → ⊥) → (i : ℕ)
        → word (i + b) (drop b l) ≡ one (element_of l i (record { place = b; len = e - b; quoted = false })) (e - b)
    bare_good_at k m i =
        let f : span is_inside (drop b l) ≡ span bare (drop b l) = bare_end (drop b l) (λ d. m (sym end ∙ d)) in
        is_bare i ∙ bare_good (i + b) (drop b l) (omega (arith, run_bare, f)) (omega (arith, f, bare_no_quote (drop b l))) ∙ rw (f, run_bare)

-- past blanks
module _ (l : Text) (j b : ℕ) (within : j ≤ length l) (r : b ≡ j + span is_blank (drop j l)) where
  pub next_is : (i : ℕ) → next_word l i j ≡ word (i + b) (drop b l)
  unfolding next_word
  next_is i = rw (drop-drop, ← r, add_assoc, ← r)

  pub next_nothing : b ≡ length l → (i : ℕ) → next_word l i j ≡ none
  unfolding word
  next_nothing h i = let g : length l ≤ b = omega arith in next_is i ∙ rw (drop_of_length-le l)
