-- What a number says of a name, a string's number in the universe, and a relation's number.
use Prim.Native.Nat.{ℕ, zero, suc, ◌+◌, ◌-◌, ◌/◌, ◌%◌, ◌<◌, ◌≤◌}
use mathlib.Core.Path.{◌≡◌, refl, sym, ap, ◌∙◌}
use mathlib.Core.Bool.{Bool, true, false, not, cond, ◌||◌}
use mathlib.Core.List.{List, [], ◌∷◌, map}
use native.Mathlib.Omega.{arith}
use native.Mathlib.Nat.{zero-add}
use borrow.Author.Tests.{lt-ltb}
use lib.Dec.{T, ltb}
use lib.ListN.{length, get_or}
use Rattle.definition.specs.Text.{Text, same, member, some_of, span}
use Rattle.definition.specs.Calls.{part_text}
use Rattle.definition.specs.Facts.{Relation, Ascending}
use Rattle.definition.specs.Meaning.{numbers}
use Rattle.definition.specs.Names.{Known, nothing, attribute, variable, open_variable, relation, Kinds, is_variable, numbered}
use Rattle.definition.proofs.RelationLaws.{place_of}
use Rattle.definition.proofs.NameLaws.{as_relation, Numbered}
use Rattle.definition.proofs.UniverseLaws.{number_of, no_number}
use Rattle.definition.proofs.BoolLaws.{contradiction}
use Rattle.kinds.specs.Walk.{known_of}
use Rattle.kinds.proofs.Meaning.{known_relation}
use Rattle.parts.specs.Packed.{text_of}
use Rattle.parts.specs.Entries.{index}
use Rattle.parts.proofs.PackLaws.{pack_part}
use Rattle.parts.proofs.HeldLaws.{length_texts}
use Rattle.intern.specs.Entries.{start_of, text_at}
use Rattle.slots.specs.Slots.{of_loop}
use Rattle.coding.specs.Pass.{token_part}

-- an attribute, a loop variable, a relation
pub attribute_number : (a : ℕ) → known_of a ≡ attribute → a ≡ 1
unfolding known_of
attribute_number zero e = absurd (let z : ◌≡◌ {A = ℕ} 0 1 = cc in omega arith)
attribute_number (suc zero) e = refl
attribute_number (suc (suc zero)) e = absurd (let z : ◌≡◌ {A = ℕ} 0 1 = cc in omega arith)
attribute_number (suc (suc (suc zero))) e = absurd (let z : ◌≡◌ {A = ℕ} 0 1 = cc in omega arith)
attribute_number (suc (suc (suc (suc a)))) e =
    let f = known_relation (suc (suc (suc (suc a)))) (omega arith) in
    absurd (let z : ◌≡◌ {A = ℕ} 0 1 = cc in omega arith)

pub loop_number : (a : ℕ) → is_variable (known_of a) ≡ true → (of_loop a ≡ true) × (ltb 3 a ≡ false)
unfolding known_of of_loop
loop_number zero e = contradiction false e refl
loop_number (suc zero) e = contradiction false e refl
loop_number (suc (suc zero)) e = (refl, refl)
loop_number (suc (suc (suc zero))) e = (refl, refl)
loop_number (suc (suc (suc (suc a)))) e =
    let f = known_relation (suc (suc (suc (suc a)))) (omega arith) in
    contradiction (is_variable (known_of (suc (suc (suc (suc a)))))) e (ap is_variable f)

pub relation_number : (a i n : ℕ) → known_of a ≡ relation i n → (ltb 3 a ≡ true) × ((a - 4) / 4 ≡ i)
unfolding known_of
relation_number zero i n e = absurd (let z : ◌≡◌ {A = ℕ} 0 1 = cc in omega arith)
relation_number (suc zero) i n e = absurd (let z : ◌≡◌ {A = ℕ} 0 1 = cc in omega arith)
relation_number (suc (suc zero)) i n e = absurd (let z : ◌≡◌ {A = ℕ} 0 1 = cc in omega arith)
relation_number (suc (suc (suc zero))) i n e = absurd (let z : ◌≡◌ {A = ℕ} 0 1 = cc in omega arith)
relation_number (suc (suc (suc (suc a)))) i n e =
    let b = suc (suc (suc (suc a))) in
    let f = known_relation b (omega arith) in
    (lt-ltb 3 b (omega arith), number_same (sym f ∙ e))
  where
    number_in : Known → ℕ
    number_in (relation j m) = j
    number_in nothing = 0
    number_in attribute = 0
    number_in variable = 0
    number_in open_variable = 0

    number_same : {j m j' m' : ℕ} → relation j m ≡ relation j' m' → j ≡ j'
    number_same h = ap number_in h

-- a name that stands among the relations is known by its place there
place_numbered : (j : ℕ) (rs : List Relation) (x : Text) → place_of x rs < length rs → (n : ℕ) × (numbered j rs x ≡ relation (j + place_of x rs) n)
unfolding numbered place_of
place_numbered j [] x h = absurd (omega arith)
place_numbered j (q ∷ qs) x h = go (same x q.name) h (place_numbered (suc j) qs x)
  where
    go : (b : Bool) → cond b 0 (suc (place_of x qs)) < suc (length qs) → (place_of x qs < length qs → (n : ℕ) × (numbered (suc j) qs x ≡ relation (suc j + place_of x qs) n))
        → (n : ℕ) × (cond b (relation j q.arity) (numbered (suc j) qs x) ≡ relation (j + cond b 0 (suc (place_of x qs))) n)
    go true h more = (q.arity, ap (λ (i : ℕ). relation i q.arity) (omega arith))
    go false h more = let (n, e) = more (omega arith) in (n, e ∙ ap (λ (i : ℕ). relation i n) (omega arith))

still_relation : (v : Known) (i n : ℕ) → as_relation v ≡ relation i n → v ≡ relation i n
still_relation nothing i n e = absurd (let z : ◌≡◌ {A = ℕ} 0 1 = cc in omega arith)
still_relation attribute i n e = absurd (let z : ◌≡◌ {A = ℕ} 0 1 = cc in omega arith)
still_relation variable i n e = absurd (let z : ◌≡◌ {A = ℕ} 0 1 = cc in omega arith)
still_relation open_variable i n e = absurd (let z : ◌≡◌ {A = ℕ} 0 1 = cc in omega arith)
still_relation (relation j m) i n e = e

pub place_known : (k : Kinds) → Numbered k → (x : Text) → place_of x k.relations < length k.relations → (n : ℕ) × (k.known x ≡ relation (place_of x k.relations) n)
place_known k m x h =
    let (n, e) = place_numbered 0 k.relations x h in
    (n, still_relation (k.known x) (place_of x k.relations) n (m.by_place x ∙ e ∙ ap (λ (i : ℕ). relation i n) (zero-add (place_of x k.relations))))

-- the part of a token is its text
pub part_is : (facts query : Text) (x : ℕ) → text_of facts query (token_part x) ≡ text_at query x
unfolding text_of text_at
part_is facts query x = ap (part_text facts query) (pack_part 1 (start_of x) (x / 64 % 64) 0 (omega arith) (omega arith) (omega arith))

module _ (facts query : Text) (v : ℕ) where
  abbrev text : Text
  text = text_of facts query v

  abbrev texts : List ℕ → List Text
  texts ws = map (text_of facts query) ws

  abbrev later : List ℕ → ℕ
  later ws = span (λ y. not (same text (text_of facts query y))) ws

  found_at : (ws : List ℕ) → index facts query v ws < length ws → T (same text (get_or (texts ws) (index facts query v ws) []))
  unfolding index span
  found_at [] h = absurd (omega arith)
  found_at (u ∷ ws) h = go (same text (text_of facts query u)) refl h (found_at ws)
    where
      go : (b : Bool) → same text (text_of facts query u) ≡ b → cond (not b) (suc (later ws)) 0 < suc (length ws) → (later ws < length ws → T (same text (get_or (texts ws) (later ws) [])))
          → T (same text (get_or (texts (u ∷ ws)) (cond (not b) (suc (later ws)) 0) []))
      go true e h more = rw e tt
      go false e h more = more (omega arith)

  none_at : (ws : List ℕ) → length ws ≤ index facts query v ws → member text (texts ws) ≡ false
  unfolding index span member some_of
  none_at [] h = refl
  none_at (u ∷ ws) h = go (same text (text_of facts query u)) refl h (none_at ws)
    where
      go : (b : Bool) → same text (text_of facts query u) ≡ b → suc (length ws) ≤ cond (not b) (suc (later ws)) 0 → (length ws ≤ later ws → member text (texts ws) ≡ false)
          → b || member text (texts ws) ≡ false
      go true e h more = absurd (omega arith)
      go false e h more = more (omega arith)

  -- the number of its element, or none
  pub index_found : (ws : List ℕ) → Ascending (texts ws) → index facts query v ws < length ws → numbers text (texts ws) 0 ≡ index facts query v ws ∷ []
  index_found ws a h =
      number_of text (texts ws) 0 (index facts query v ws) a (rw (length_texts facts query ws) h) (found_at ws h) ∙ ap (λ (i : ℕ). i ∷ []) (zero-add (index facts query v ws))

  pub index_none : (ws : List ℕ) → length ws ≤ index facts query v ws → numbers text (texts ws) 0 ≡ []
  index_none ws h = no_number text (texts ws) 0 (none_at ws h)
