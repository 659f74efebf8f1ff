-- The rows filled fact by fact are the table of the name's pairs.
use Prim.Native.Nat.{ℕ, ◌+◌, ◌*◌, ◌<◌, ◌≤◌}
use mathlib.Core.Path.{◌≡◌, refl, sym, ap, ap₂, ◌∙◌}
use mathlib.Core.Bool.{Bool, true, false, cond, ◌&&◌, ◌||◌, and-false, or-false, and_assoc, and-true}
use mathlib.Core.List.{List, [], ◌∷◌, ◌++◌, append_assoc, append-nil}
use native.Mathlib.Omega.{arith}
use native.Mathlib.Decide.{dec_lt}
use borrow.Author.Tests.{eq-eqb, ne_eqb, lt-ltb, le-ltb}
use lib.Dec.{eqb, ltb}
use lib.ListN.{length, get_or, set, take, drop, replicate, length-map}
use lib.Seq.{length-take-le}
use Rattle.definition.specs.Text.{Text, same, some_of}
use Rattle.definition.specs.Limits.{ARITY}
use Rattle.definition.specs.Facts.{Facts, Fact, Relation, Ascending}
use Rattle.definition.specs.Tables.{Tuple, table, table_words}
use Rattle.definition.specs.Calls.{is_element, is_pair}
use Rattle.definition.proofs.TableLaws.{Below, length_table}
use Rattle.bits.specs.Bits.{with_bit}
use Rattle.parts.specs.Entries.{position, texts_of}
use Rattle.parts.proofs.HeldLaws.{length_texts}
use Rattle.facts.specs.Lines.{items_of}
use Rattle.facts.specs.Words.{element_at, elements_at, fact_at}
use Rattle.facts.specs.declared.FactLine.{FactLine}
use Rattle.tuples.specs.Places.{with_tuple}
use Rattle.tuples.proofs.Tables.{table_same, table_none, insert_table}
use Rattle.tuples.proofs.Loading.{some_snoc}
use Rattle.closure.proofs.Laws.{rows_table}
use Rattle.chain.specs.Fill.{value_at, with_pair, with_fact, fill}
use Rattle.chain.proofs.Places.{element_only}

-- ---- a pair and a fact added, by the tests of the code

module _ (rows : List ℕ) (a b : ℕ) where
  abbrev added : Bool → List ℕ
  added t = cond t (set rows a (with_bit (get_or rows a 0) b)) rows

  pub pair_past_first : length rows ≤ a → rows ≡ with_pair rows a b
  unfolding with_pair
  pair_past_first h = sym (ap (λ (t : Bool). added (t && ltb b (length rows))) (le-ltb a (length rows) h))

  pub pair_past_second : length rows ≤ b → rows ≡ with_pair rows a b
  unfolding with_pair
  pair_past_second h = sym (ap (λ (t : Bool). added (ltb a (length rows) && t)) (le-ltb b (length rows) h) ∙ ap added (and-false (ltb a (length rows))))

  pub pair_in : a < length rows → b < length rows → set rows a (with_bit (get_or rows a 0) b) ≡ with_pair rows a b
  unfolding with_pair
  pair_in h l = sym (ap₂ (λ (s t : Bool). added (s && t)) (lt-ltb a (length rows) h) (lt-ltb b (length rows) l))

module _ (facts : Text) (ws : List ℕ) (r : Text) (rows : List ℕ) (g : Fact) where
  abbrev paired : List ℕ
  paired = with_pair rows (position facts facts (value_at g.elements 0) ws) (position facts facts (value_at g.elements 1) ws)

  pub fact_other_name : same r g.name ≡ false → rows ≡ with_fact facts ws r rows g
  unfolding with_fact
  fact_other_name e = sym (ap (λ (t : Bool). cond (t && eqb (length g.elements) 2) paired rows) e)

  pub fact_other_arity : eqb (length g.elements) 2 ≡ false → rows ≡ with_fact facts ws r rows g
  unfolding with_fact
  fact_other_arity e = sym (ap (λ (t : Bool). cond (same r g.name && t) paired rows) e ∙ ap (λ (t : Bool). cond t paired rows) (and-false (same r g.name)))

  pub fact_adds : same r g.name ≡ true → eqb (length g.elements) 2 ≡ true → paired ≡ with_fact facts ws r rows g
  unfolding with_fact
  fact_adds e n = sym (ap₂ (λ (s t : Bool). cond (s && t) paired rows) e n)

  pub fill_end : (gs : List Fact) (whole : List ℕ) → gs ≡ [] → fill facts ws r rows gs ≡ whole → rows ≡ whole
  unfolding fill
  fill_end gs whole e h = sym (ap (fill facts ws r rows) e) ∙ h

  pub fill_next : (hs gs : List Fact) (new whole : List ℕ) → hs ≡ g ∷ gs → new ≡ with_fact facts ws r rows g → fill facts ws r rows hs ≡ whole → fill facts ws r new gs ≡ whole
  unfolding fill
  fill_next hs gs new whole e n h = ap (λ (l : List ℕ). fill facts ws r l gs) n ∙ sym (ap (fill facts ws r rows) e) ∙ h

-- the same of a fact of the line that starts at a
module _ (facts : Text) (ws : List ℕ) (r : Text) (rows : List ℕ) (a : ℕ) (f : FactLine) where
  arity_is : f.arity ≤ ARITY → length (elements_at facts a (items_of f)) ≡ f.arity
  arity_is h = rw length-map (length-take-le f.arity (f.first ∷ f.second ∷ f.third ∷ []) h)

  pub line_other_arity : f.arity ≤ ARITY → (f.arity ≡ 2 → ⊥) → rows ≡ with_fact facts ws r rows (fact_at facts a f)
  line_other_arity h n = fact_other_arity facts ws r rows (fact_at facts a f) (ne_eqb (length (elements_at facts a (items_of f))) 2 (λ e. n (sym (arity_is h) ∙ e)))

  pub line_adds : (x y : ℕ) → same r (take f.name_len (drop a facts)) ≡ true → f.arity ≤ ARITY → f.arity ≡ 2
      → x ≡ position facts facts (element_at facts a f.first).value ws → y ≡ position facts facts (element_at facts a f.second).value ws
      → with_pair rows x y ≡ with_fact facts ws r rows (fact_at facts a f)
  line_adds x y e h n p q =
      ap₂ (with_pair rows) (p ∙ ap (λ (k : ℕ). position facts facts (value_at (elements_at facts a (take k (f.first ∷ f.second ∷ f.third ∷ []))) 0) ws) (sym n))
      (q ∙ ap (λ (k : ℕ). position facts facts (value_at (elements_at facts a (take k (f.first ∷ f.second ∷ f.third ∷ []))) 1) ws) (sym n))
      ∙ fact_adds facts ws r rows (fact_at facts a f) e (eq-eqb (length (elements_at facts a (items_of f))) 2 (arity_is h ∙ n))

-- ---- the table of the pairs

two : (u : ℕ) (p q : Tuple → Bool) → ((x y : ℕ) → x < u → y < u → p (x ∷ y ∷ []) ≡ q (x ∷ y ∷ [])) → (t : Tuple) → length t ≡ 2 → Below u t → p t ≡ q t
two u p q f [] l h = absurd (omega arith)
two u p q f (x ∷ []) l h = absurd (omega arith)
two u p q f (x ∷ y ∷ []) l h = f x y h.0 h.1.0
two u p q f (x ∷ y ∷ z ∷ t) l h = absurd (omega arith)

module _ (facts : Text) (ws : List ℕ) (r : Text) (rs : List Relation) (order : Ascending (texts_of facts facts ws)) (few : length ws ≤ 64) where
  abbrev us : List Text
  us = texts_of facts facts ws

  abbrev u : ℕ
  u = length us

  abbrev given : List Fact → Facts
  given gs = record { relations = rs; universe = us; facts = gs }

  abbrev test : List Fact → Tuple → Bool
  test gs p = is_pair (given gs) r (get_or p 0 0) (get_or p 1 0)

  abbrev pub pairs : List Fact → List ℕ
  pairs gs = table u 2 (test gs)

  abbrev first : Fact → ℕ
  first g = position facts facts (value_at g.elements 0) ws

  abbrev second : Fact → ℕ
  second g = position facts facts (value_at g.elements 1) ws

  abbrev binary : Fact → Bool
  binary g = same r g.name && eqb (length g.elements) 2

  element : (g : Fact) (i x : ℕ) → x < u → is_element (given []) g.elements i x ≡ eqb x (position facts facts (value_at g.elements i) ws)
  element g i x h =
      ap (λ (t : Bool). t && same (value_at g.elements i) (get_or us x [])) (lt-ltb x u h)
      ∙ element_only facts (value_at g.elements i) ws order x (let k = length_texts facts facts ws in omega arith)

  -- one fact more
  pair_more : (hs : List Fact) (g : Fact) (x y : ℕ) → x < u → y < u → test (hs ++ (g ∷ [])) (x ∷ y ∷ []) ≡ test hs (x ∷ y ∷ []) || (binary g && (eqb x (first g) && eqb y (second g)))
  unfolding is_pair
  pair_more hs g x y h l =
      some_snoc (λ g. same r g.name && eqb (length g.elements) 2 && is_element (given []) g.elements 0 x && is_element (given []) g.elements 1 y) hs g
      ∙ ap (λ (t : Bool). some_of (λ g. same r g.name && eqb (length g.elements) 2 && is_element (given []) g.elements 0 x && is_element (given []) g.elements 1 y) hs || t)
      (and_assoc (binary g) (is_element (given []) g.elements 0 x) (is_element (given []) g.elements 1 y)
      ∙ ap₂ (λ (s t : Bool). binary g && (s && t)) (element g 0 x h) (element g 1 y l))

  rows_size : (gs : List Fact) → length (pairs gs) ≡ u
  rows_size gs = rows_table u (test gs)

  stays : (hs : List Fact) (g : Fact) → ((x y : ℕ) → x < u → y < u → binary g && (eqb x (first g) && eqb y (second g)) ≡ false) → pairs hs ≡ pairs (hs ++ (g ∷ []))
  stays hs g f =
      table_same u 2 (test hs) (test (hs ++ (g ∷ [])))
      (two u (test hs) (test (hs ++ (g ∷ []))) (λ x y h l. sym (pair_more hs g x y h l ∙ ap (λ (t : Bool). test hs (x ∷ y ∷ []) || t) (f x y h l) ∙ or-false (test hs (x ∷ y ∷ [])))))

  grows : (hs : List Fact) (g : Fact) → binary g ≡ true → first g < u → second g < u → with_pair (pairs hs) (first g) (second g) ≡ pairs (hs ++ (g ∷ []))
  unfolding with_tuple same
  grows hs g e h l =
      let n = rows_size hs in
      let v : u ≤ 64 = (let k = length_texts facts facts ws in omega arith) in
      let z : u * 0 + first g ≡ first g = omega arith in
      sym (pair_in (pairs hs) (first g) (second g) (omega arith) (omega arith))
      ∙ ap (λ (k : ℕ). set (pairs hs) k (with_bit (get_or (pairs hs) k 0) (second g))) (sym z)
      ∙ insert_table u (first g ∷ second g ∷ []) (h, (l, tt)) v (test hs)
      ∙ table_same u 2 (λ s. test hs s || same s (first g ∷ second g ∷ [])) (test (hs ++ (g ∷ [])))
      (two u (λ s. test hs s || same s (first g ∷ second g ∷ [])) (test (hs ++ (g ∷ [])))
      (λ x y i j. sym (pair_more hs g x y i j
      ∙ ap (λ (t : Bool). test hs (x ∷ y ∷ []) || (t && (eqb x (first g) && eqb y (second g)))) e
      ∙ ap (λ (t : Bool). test hs (x ∷ y ∷ []) || (eqb x (first g) && t)) (sym (and-true (eqb y (second g)))))))

  step : (hs : List Fact) (g : Fact) → with_fact facts ws r (pairs hs) g ≡ pairs (hs ++ (g ∷ []))
  unfolding with_fact
  step hs g = go (binary g) refl
    where
      new : List ℕ
      new = with_pair (pairs hs) (first g) (second g)

      by : binary g ≡ true → Dec (first g < u) → Dec (second g < u) → new ≡ pairs (hs ++ (g ∷ []))
      by e (yes h) (yes l) = grows hs g e h l
      by e (no h) d =
          sym (pair_past_first (pairs hs) (first g) (second g) (let n = rows_size hs in omega arith))
          ∙ stays hs g (λ x y i j. ap₂ (λ (s t : Bool). s && (t && eqb y (second g))) e (ne_eqb x (first g) (λ q. omega arith)))
      by e (yes h) (no l) =
          sym (pair_past_second (pairs hs) (first g) (second g) (let n = rows_size hs in omega arith))
          ∙ stays hs g (λ x y i j. ap₂ (λ (s t : Bool). s && (eqb x (first g) && t)) e (ne_eqb y (second g) (λ q. omega arith)) ∙ and-false (eqb x (first g)))

      go : (b : Bool) → binary g ≡ b → cond (binary g) new (pairs hs) ≡ pairs (hs ++ (g ∷ []))
      go true e = ap (λ (t : Bool). cond t new (pairs hs)) e ∙ by e (dec_lt (first g) u) (dec_lt (second g) u)
      go false e = ap (λ (t : Bool). cond t new (pairs hs)) e ∙ stays hs g (λ x y i j. ap (λ (t : Bool). t && (eqb x (first g) && eqb y (second g))) e)

  filled : (hs gs : List Fact) → fill facts ws r (pairs hs) gs ≡ pairs (hs ++ gs)
  unfolding fill
  filled hs [] = ap pairs (sym (append-nil hs))
  filled hs (g ∷ gs) = ap (λ (l : List ℕ). fill facts ws r l gs) (step hs g) ∙ filled (hs ++ (g ∷ [])) gs ∙ ap pairs (append_assoc hs (g ∷ []) gs)

  no_pairs : replicate (length ws) 0 ≡ pairs []
  unfolding is_pair some_of
  no_pairs =
      let e : table_words u 2 ≡ u = sym (length_table u 2 (test [])) ∙ rows_table u (test []) in
      let n : length ws ≡ table_words u 2 = (let k = length_texts facts facts ws in omega arith) in
      ap (λ (k : ℕ). replicate k 0) n ∙ table_none u 2

  -- zero rows, filled with all facts
  pub rows_filled : (gs : List Fact) → fill facts ws r (replicate (length ws) 0) gs ≡ pairs gs
  rows_filled gs = ap (λ (l : List ℕ). fill facts ws r l gs) no_pairs ∙ filled [] gs

  pub length_filled : (gs : List Fact) → length (fill facts ws r (replicate (length ws) 0) gs) ≡ length ws
  length_filled gs = ap length (rows_filled gs) ∙ rows_size gs ∙ length_texts facts facts ws
