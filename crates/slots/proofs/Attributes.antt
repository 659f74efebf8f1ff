-- The names that a statement's words show as attributes are the definition's.
use Prim.Native.Nat.{ℕ, zero, suc, ◌<◌}
use mathlib.Core.Path.{◌≡◌, refl, sym, ap, ◌∙◌}
use mathlib.Core.Bool.{Bool, true, false, cond, not, ◌&&◌, ◌||◌}
use mathlib.Core.List.{List, [], ◌∷◌, ◌++◌}
use native.Mathlib.Omega.{arith}
use borrow.Author.Tests.{eq-eqb, ne_eqb, eqb-true, eqb-false}
use lib.Dec.{eqb}
use lib.ListN.{length, get_or}
use Rattle.definition.specs.Text.{Text, some_of, member}
use Rattle.definition.specs.Token.{Token}
use Rattle.definition.specs.Names.{variable_only, after_for, enter, leave, Use, use_as, Kinds, is_variable, variables, join, takes_attribute, attribute_names}
use Rattle.words.specs.Fields.{kind_of, p_of, WORD, BIND, RANGE, NEXT}
use Rattle.words.specs.Raw.{number}
use Rattle.words.specs.Tokens.{OwnName}
use Rattle.words.specs.Shown.{role_of, Shows, none, other, named}
use Rattle.intern.specs.Entries.{text_at, Stand}
use Rattle.kinds.specs.Walk.{known_of}
use Rattle.kinds.specs.Resolved.{Stands}
use Rattle.digits.specs.Lists as Lists
use Rattle.slots.specs.Slots.{takes, of_loop, add_name, add_word, names_of}
use Rattle.slots.proofs.Texts.{add_text, join_add, join_nil, nil_join}

pub eqb_sym : (a b : ℕ) → eqb a b ≡ eqb b a
eqb_sym a b = go (eqb a b) refl
  where
    go : (t : Bool) → eqb a b ≡ t → t ≡ eqb b a
    go true e = sym (eq-eqb b a (sym (eqb-true a b e)))
    go false e = sym (ne_eqb b a (λ z. eqb-false a b e (sym z)))

-- loop variables, by number and by kind
loop_known : (k : ℕ) → is_variable (known_of k) ≡ of_loop k
unfolding known_of of_loop
loop_known zero = refl
loop_known (suc zero) = refl
loop_known (suc (suc zero)) = refl
loop_known (suc (suc (suc zero))) = refl
loop_known (suc (suc (suc (suc k)))) =
    let n = suc (suc (suc (suc k))) in
    rw (ne_eqb n 0 (λ e. omega arith), ne_eqb n 1 (λ e. omega arith), ne_eqb n 2 (λ e. omega arith), ne_eqb n 3 (λ e. omega arith)) refl

-- the places that take an attribute
takes_role : (c q : ℕ) → 0 < c → takes_attribute (role_of c q) ≡ takes c
unfolding role_of takes
takes_role zero q h = absurd (omega arith)
takes_role (suc zero) q h = refl
takes_role (suc (suc zero)) q h = refl
takes_role (suc (suc (suc zero))) q h = refl
takes_role (suc (suc (suc (suc k)))) q h =
    let n = suc (suc (suc (suc k))) in
    rw (ne_eqb n 1 (λ e. omega arith), ne_eqb n 2 (λ e. omega arith), ne_eqb n 3 (λ e. omega arith)) (go (eqb n WORD) (eqb n BIND) (eqb n RANGE))
  where
    go : (a b c : Bool) → takes_attribute (cond a variable_only (cond b after_for (cond c enter leave))) ≡ false
    go true b c = refl
    go false true c = refl
    go false false true = refl
    go false false false = refl

takes_none : (k : ℕ) → NEXT < k → takes k ≡ false
unfolding takes
takes_none k h = rw (ne_eqb k 2 (λ e. omega arith), ne_eqb k 3 (λ e. omega arith)) refl

module _ (facts query : Text) (tokens ids known relations : List ℕ) (count : ℕ) (K : Kinds) (stands : Stands facts query tokens ids known relations count K) (ts : List Token) (stand : Stand query tokens ts) where
  abbrev pub name_at : ℕ → Text
  name_at t = text_at query (get_or tokens t 0)

  -- numbers of names, and the names
  pub data Coded : List ℕ → List Text → Type 0 where
    nil : Coded [] []
    cons : {ms : List ℕ} {xs : List Text} (t : ℕ) → t < length tokens → Coded ms xs → Coded (get_or ids t 0 ∷ ms) (name_at t ∷ xs)

  module _ (t : Token) (o : OwnName ts t) where
    pub here : number t < length tokens
    here = omega (arith, o.inside, stand.count)

    pub the_text : t.text ≡ name_at (number t)
    the_text = ap (λ (u : Token). u.text) (sym o.found) ∙ stand.texts (number t) here

    is_loop : variables K t.text ≡ of_loop (get_or known (get_or ids (number t) 0) 0)
    is_loop = ap (variables K) the_text ∙ ap is_variable (stands.knows (number t) here) ∙ loop_known (get_or known (get_or ids (number t) 0) 0)

  coded_member : {ms : List ℕ} {xs : List Text} (t : ℕ) → t < length tokens → Coded ms xs → Lists.member (get_or ids t 0) ms ≡ member (name_at t) xs
  unfolding Lists.member member some_of
  coded_member t h nil = refl
  coded_member t h (cons {ms} {xs} s l c) =
      rw (stands.apart t s h l, eqb_sym (get_or ids s 0) (get_or ids t 0)) (go (eqb (get_or ids t 0) (get_or ids s 0)) (coded_member t h c))
    where
      go : (b : Bool) → Lists.member (get_or ids t 0) ms ≡ member (name_at t) xs → cond b true (Lists.member (get_or ids t 0) ms) ≡ b || member (name_at t) xs
      go true ih = refl
      go false ih = ih

  coded_last : {ms : List ℕ} {xs : List Text} (t : ℕ) → t < length tokens → Coded ms xs → Coded (ms ++ (get_or ids t 0 ∷ [])) (xs ++ (name_at t ∷ []))
  coded_last t h nil = cons t h nil
  coded_last t h (cons s l c) = cons s l (coded_last t h c)

  coded_add : (ms : List ℕ) (xs : List Text) (t : ℕ) → t < length tokens → Coded ms xs → Coded (add_name ms (get_or ids t 0)) (add_text xs (name_at t))
  unfolding add_name
  coded_add ms xs t h c = rw (coded_member t h c) (go (member (name_at t) xs))
    where
      go : (b : Bool) → Coded (cond b ms (ms ++ (get_or ids t 0 ∷ []))) (cond b xs (xs ++ (name_at t ∷ [])))
      go true = c
      go false = coded_last t h c

  pub coded_length : {ms : List ℕ} {xs : List Text} → Coded ms xs → length ms ≡ length xs
  coded_length nil = refl
  coded_length (cons t h c) = ap suc (coded_length c)

  -- one word
  names_named : (w : ℕ) (ws : List ℕ) (us : List Use) (t : Token) (c q : ℕ) (ms : List ℕ) (xs : List Text) → kind_of w ≡ c → p_of w ≡ number t → 0 < c → OwnName ts t → Coded ms xs →
      ((ms' : List ℕ) (xs' : List Text) → Coded ms' xs' → Coded (names_of ids known ms' ws) (join xs' (attribute_names (variables K) us))) →
      Coded (names_of ids known ms (w ∷ ws)) (join xs (attribute_names (variables K) (use_as (role_of c q) t ∷ us)))
  unfolding names_of add_word attribute_names
  names_named w ws us t c q ms xs ek ep h o C more =
      rw (ek, ep, takes_role c q h, is_loop t o) (go (takes c) (of_loop (get_or known (get_or ids (number t) 0) 0)))
    where
      go : (a b : Bool) →
          Coded (names_of ids known (cond a (cond b ms (add_name ms (get_or ids (number t) 0))) ms) ws)
          (join xs (cond (a && not b) (join (t.text ∷ []) (attribute_names (variables K) us)) (attribute_names (variables K) us)))
      go true true = more ms xs C
      go false b = more ms xs C
      go true false =
          rw (the_text t o, join_add xs (name_at (number t)) (attribute_names (variables K) us))
          (more (add_name ms (get_or ids (number t) 0)) (add_text xs (name_at (number t))) (coded_add ms xs (number t) (here t o) C))

  names_other : (w : ℕ) (ws ms : List ℕ) (xs : List Text) → NEXT < kind_of w → Coded (names_of ids known ms ws) xs → Coded (names_of ids known ms (w ∷ ws)) xs
  unfolding names_of add_word
  names_other w ws ms xs h C = rw (takes_none (kind_of w) h) C

  names_shown : {ws : List ℕ} {us : List Use} (ms : List ℕ) (xs : List Text) → Shows ts ws us → Coded ms xs → Coded (names_of ids known ms ws) (join xs (attribute_names (variables K) us))
  unfolding names_of attribute_names
  names_shown ms xs none C = rw (join_nil xs) C
  names_shown ms xs (other {w} {ws} {us} h more) C = names_other w ws ms (join xs (attribute_names (variables K) us)) h (names_shown ms xs more C)
  names_shown ms xs (named {w} {ws} {us} {t} {k = c} {q} ek eq h l ep o more) C = names_named w ws us t c q ms xs ek ep h o C (λ ms' xs' C'. names_shown ms' xs' more C')

  -- the names of a statement's words
  pub statement_names : {ws : List ℕ} {us : List Use} → Shows ts ws us → Coded (names_of ids known [] ws) (attribute_names (variables K) us)
  statement_names {ws} {us} s = rw (← nil_join (attribute_names (variables K) us)) (names_shown [] [] s nil)
