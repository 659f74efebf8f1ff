-- The slots of a statement's names, by number and by text.
use Prim.Native.Nat.{ℕ, ◌+◌, ◌<◌, ◌≤◌}
use mathlib.Core.Path.{◌≡◌, refl, sym, ap, ◌∙◌}
use mathlib.Core.Bool.{Bool, true, false, cond, not, ◌&&◌, ◌||◌}
use mathlib.Core.List.{List, [], ◌∷◌}
use native.Mathlib.Omega.{arith}
use borrow.Author.Tests.{lt-ltb, le-ltb}
use lib.Dec.{ltb}
use lib.ListN.{length, get_or, take}
use lib.Seq.{length-take-le}
use Rattle.definition.specs.Text.{Text, same, some_of, member, keep}
use Rattle.definition.specs.Token.{Token}
use Rattle.definition.specs.Names.{Use, join, takes_attribute, attribute_names}
use Rattle.definition.proofs.MeaningLaws.{same_eq}
use Rattle.words.specs.Fields.{word}
use Rattle.words.specs.Raw.{number}
use Rattle.words.specs.Tokens.{OwnName}
use Rattle.words.proofs.FieldLaws.{kind_word, p_word}
use Rattle.slots.specs.declared.Found.{Found}
use Rattle.slots.specs.Slots.{takes, names_of, Holds, fits, over, place_from, digit_at}
use Rattle.slots.proofs.Attributes as Attributes
use Rattle.slots.proofs.Attributes.{Coded, nil, cons}
use Rattle.free.proofs.Slotted.{pos_from, slot}
use Rattle.rows.specs.Statements.{Setting}

-- attributes are no loop variables
module _ (v : Text → Bool) (x : Text) (h : v x ≡ true) where
  never : {A : Type 0} (b : Bool) → b ≡ false → b ≡ true → A
  never b e f = absurd (let z : ◌≡◌ {A = ℕ} 0 1 = cc in omega arith)

  not_kept : (p : Text → Bool) (rs : List Text) → member x rs ≡ false → member x (keep p rs) ≡ false
  unfolding keep member some_of
  not_kept p [] e = refl
  not_kept p (r ∷ rs) e = go (p r) (same x r) refl e (not_kept p rs)
    where
      go : (b c : Bool) → same x r ≡ c → c || member x rs ≡ false → (member x rs ≡ false → member x (keep p rs) ≡ false) → member x (cond b (r ∷ keep p rs) (keep p rs)) ≡ false
      go b true f k more = never true k refl
      go true false f k more = rw f (more k)
      go false false f k more = more k

  not_joined : (y : Text) (rs : List Text) → v y ≡ false → member x rs ≡ false → member x (join (y ∷ []) rs) ≡ false
  unfolding join member some_of
  not_joined y rs e k = go (same x y) refl (not_kept (λ z. not (member z (y ∷ []))) rs k)
    where
      go : (b : Bool) → same x y ≡ b → member x (keep (λ z. not (member z (y ∷ []))) rs) ≡ false → b || member x (keep (λ z. not (member z (y ∷ []))) rs) ≡ false
      go true f m = never (v y) e (rw (← same_eq x y (rw f tt)) h)
      go false f m = m

  pub no_attribute : (us : List Use) → member x (attribute_names v us) ≡ false
  unfolding attribute_names member some_of
  no_attribute [] = refl
  no_attribute (u ∷ us) = go (takes_attribute u.role) (v u.token.text) refl (no_attribute us)
    where
      go : (a b : Bool) → v u.token.text ≡ b → member x (attribute_names v us) ≡ false → member x (cond (a && not b) (join (u.token.text ∷ []) (attribute_names v us)) (attribute_names v us)) ≡ false
      go true true e m = m
      go false b e m = m
      go true false e m = not_joined u.token.text (attribute_names v us) e m

module _ (words ids known : List ℕ) (S : Setting words ids known) where
  abbrev pub CodedHere : List ℕ → List Text → Type 0
  CodedHere = Coded S.facts S.query S.tokens ids known S.relations S.count S.kinds S.stands S.ts S.stand

  coded_place : {ms : List ℕ} {xs : List Text} (t j : ℕ) → t < length S.tokens → CodedHere ms xs → place_from (get_or ids t 0) ms j ≡ pos_from (Attributes.name_at S.facts S.query S.tokens ids known S.relations S.count S.kinds S.stands S.ts S.stand t) xs j
  unfolding place_from pos_from
  coded_place t j h nil = refl
  coded_place t j h (cons s l c) =
      rw (S.stands.apart t s h l, Attributes.eqb_sym (get_or ids s 0) (get_or ids t 0), coded_place t (j + 1) h c) refl

  -- what was found: the names if they fit, and whether they are too many
  module _ (f : Found) (part : List ℕ) (names : List Text) (coded : CodedHere (names_of ids known [] part) names) (holds : Holds (names_of ids known [] part) f) where
    same_length : length (names_of ids known [] part) ≡ length names
    same_length = Attributes.coded_length S.facts S.query S.tokens ids known S.relations S.count S.kinds S.stands S.ts S.stand coded

    pub found_over : ltb 4 f.count ≡ ltb 4 (length names)
    found_over = go holds
      where
        go : Holds (names_of ids known [] part) f → ltb 4 f.count ≡ ltb 4 (length names)
        go (fits l c e) =
            let n : length names ≤ 4 = omega (arith, same_length, ap length e, length-take-le f.count f.names (omega arith)) in
            le-ltb 4 f.count c ∙ sym (le-ltb 4 (length names) n)
        go (over c l) =
            let n : 4 < length names = omega (arith, same_length) in
            lt-ltb 4 f.count (omega arith) ∙ sym (lt-ltb 4 (length names) n)

    pub found_short : f.count ≤ 4 → length names ≤ 4
    found_short h = go holds
      where
        go : Holds (names_of ids known [] part) f → length names ≤ 4
        go (fits l c e) = omega (arith, same_length, ap length e, length-take-le f.count f.names (omega arith))
        go (over c l) = absurd (omega arith)

    found_names : f.count ≤ 4 → names_of ids known [] part ≡ take f.count f.names
    found_names h = go holds
      where
        go : Holds (names_of ids known [] part) f → names_of ids known [] part ≡ take f.count f.names
        go (fits l c e) = e
        go (over c l) = absurd (omega arith)

    -- the digits at words
    pub named_digit : f.count ≤ 4 → (k : ℕ) (t : Token) → takes k ≡ true → k < 256 → OwnName S.ts t → digit_at f ids (word k (number t) 0 0) ≡ slot names t.text
    unfolding digit_at
    named_digit h k t e l o =
        let n : number t < 65536 = omega (arith, o.inside, S.few) in
        let text : t.text ≡ Attributes.name_at S.facts S.query S.tokens ids known S.relations S.count S.kinds S.stands S.ts S.stand (number t) =
        Attributes.the_text S.facts S.query S.tokens ids known S.relations S.count S.kinds S.stands S.ts S.stand t o in
        rw (kind_word k (number t) 0 0 l, p_word k (number t) 0 0 l n, e, ← found_names h, text)
        (coded_place (number t) 0 (Attributes.here S.facts S.query S.tokens ids known S.relations S.count S.kinds S.stands S.ts S.stand t o) coded)

    pub other_digit : (k p : ℕ) → takes k ≡ false → k < 256 → digit_at f ids (word k p 0 0) ≡ 0
    unfolding digit_at
    other_digit k p e l = rw (kind_word k p 0 0 l, e) refl
