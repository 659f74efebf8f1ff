-- The walk by numbers is the definition's pass over the uses of names.
use Prim.Native.Nat.{ℕ, zero, suc, ◌+◌, ◌*◌, ◌/◌, ◌%◌, ◌-◌, ◌<◌, ◌≤◌}
use mathlib.Core.Path.{◌≡◌, refl, sym, ap, ap₂, ◌∙◌}
use mathlib.Core.Bool.{Bool, true, false, cond}
use mathlib.Core.List.{List, [], ◌∷◌, ◌++◌, map, map-append}
use native.Mathlib.Omega.{arith}
use native.Mathlib.Numerals.{add-one}
use borrow.Author.Tests.{lt-ltb, le-ltb, ne_eqb, eqb-true, eqb-false, ltb-true, ltb-false, leb-true, leb-false}
use lib.Dec.{eqb, ltb, leb}
use lib.ListN.{length, get_or, set, take, length-set, length-map}
use lib.Seq.{get_or-set_same, get_or-set_other, take-suc-set, length-take-le}
use Rattle.definition.specs.Text.{Text, same}
use Rattle.definition.specs.Limits.{document_01}
use Rattle.definition.specs.Token.{Token}
use Rattle.definition.specs.Answer.{Answer, ok, refused, ◌>>=◌, ◌>>◌, refuse_if}
use Rattle.definition.specs.Facts.{Relation, add_relation}
use Rattle.definition.specs.Names.{before_terms, attribute_only, term, variable_only, after_for, enter, leave, Use, use_as, Known, relation, becomes, first, row, rule, Kinds, learn, follow, use_name, use_names}
use Rattle.definition.specs.Names as Names
use Rattle.words.specs.Fields.{kind_of, RELATION_NAME, ATTRIBUTE, TERM, WORD, BIND, RANGE, NEXT}
use Rattle.words.specs.Raw.{number}
use Rattle.words.specs.Tokens.{OwnName}
use Rattle.words.specs.Shown.{role_of, Shows, none, other, named}
use Rattle.parts.specs.Packed.{text_of}
use Rattle.facts.specs.Words.{relation_of}
use Rattle.intern.specs.Entries.{QUOTED, text_at, Stand}
use Rattle.kinds.specs.declared.Rule.{Rule}
use Rattle.kinds.specs.declared.Rule.TheVariants.{Keep, Fresh, Kind, Arity}
use Rattle.kinds.specs.Walk.{known_of, relation_code, relation_rule, attribute_rule, turn_rule, term_rule, bind_rule, rule_of, relation_word, State, state, Walked, went, stopped, apply, use_at, step, walk, after}
use Rattle.kinds.proofs.Steps.{fresh_small}

-- what a rule on numbers says
means : Rule → Names.Rule
means (Keep v) = becomes (known_of v)
means (Fresh n) = first n
means Kind = row 11
means Arity = row 5

data Code : ℕ → Type 0 where
  c0 : Code 0
  c1 : Code 1
  c2 : Code 2
  c3 : Code 3
  c4 : {k : ℕ} → 4 ≤ k → Code k

code : (k : ℕ) → Code k
code zero = c0
code (suc zero) = c1
code (suc (suc zero)) = c2
code (suc (suc (suc zero))) = c3
code (suc (suc (suc (suc k)))) = c4 {k = suc (suc (suc (suc k)))} (omega arith)

pub known_relation : (k : ℕ) → 4 ≤ k → known_of k ≡ relation ((k - 4) / 4) (k % 4)
unfolding known_of
known_relation k h = rw (ne_eqb k 0 (λ e. omega arith), ne_eqb k 1 (λ e. omega arith), ne_eqb k 2 (λ e. omega arith), ne_eqb k 3 (λ e. omega arith)) refl

-- the rule on numbers is the definition's, role by role
either : (b : Bool) (x y : Rule) → means (cond b x y) ≡ cond b (means x) (means y)
either true x y = refl
either false x y = refl

again : (k n : ℕ) → 4 ≤ k → means (cond (eqb (k % 4) n) (Keep k) Arity) ≡ cond (eqb (k % 4) n) (becomes (relation ((k - 4) / 4) (k % 4))) (row 5)
unfolding means
again k n h = either (eqb (k % 4) n) (Keep k) Arity ∙ rw (known_relation k h) refl

as_relation : {k : ℕ} (n : ℕ) → Code k → means (relation_rule k n) ≡ rule (before_terms n) (known_of k)
unfolding rule known_of means
as_relation n c0 = either (ltb 3 n) Arity (Fresh n)
as_relation n c1 = refl
as_relation n c2 = refl
as_relation n c3 = refl
as_relation {k} n (c4 h) = rw (known_relation k h, ne_eqb k 0 (λ e. omega arith), le-ltb k 4 h) (again k n h)

as_attribute : {k : ℕ} → Code k → means (attribute_rule k) ≡ rule attribute_only (known_of k)
unfolding rule known_of means
as_attribute c0 = refl
as_attribute c1 = refl
as_attribute c2 = refl
as_attribute c3 = refl
as_attribute {k} (c4 h) = rw (known_relation k h, le-ltb k 2 (omega arith)) refl

as_term : {k : ℕ} → Code k → means (term_rule k) ≡ rule term (known_of k)
unfolding rule known_of means
as_term c0 = refl
as_term c1 = refl
as_term c2 = refl
as_term c3 = refl
as_term {k} (c4 h) = rw (known_relation k h, le-ltb k 2 (omega arith), ne_eqb k 3 (λ e. omega arith)) refl

as_variable : {k : ℕ} → Code k → means (turn_rule k 3 3) ≡ rule variable_only (known_of k)
unfolding rule known_of means
as_variable c0 = refl
as_variable c1 = refl
as_variable c2 = refl
as_variable c3 = refl
as_variable {k} (c4 h) = rw (known_relation k h, ne_eqb k 3 (λ e. omega arith)) refl

as_bind : {k : ℕ} → Code k → means (bind_rule k) ≡ rule after_for (known_of k)
unfolding rule known_of means
as_bind c0 = refl
as_bind c1 = refl
as_bind c2 = refl
as_bind c3 = refl
as_bind {k} (c4 h) = rw (known_relation k h, ne_eqb k 0 (λ e. omega arith), ne_eqb k 2 (λ e. omega arith)) refl

as_enter : {k : ℕ} → Code k → means (turn_rule k 2 3) ≡ rule enter (known_of k)
unfolding rule known_of means
as_enter c0 = refl
as_enter c1 = refl
as_enter c2 = refl
as_enter c3 = refl
as_enter {k} (c4 h) = rw (known_relation k h, ne_eqb k 2 (λ e. omega arith)) refl

as_leave : {k : ℕ} → Code k → means (turn_rule k 3 2) ≡ rule leave (known_of k)
unfolding rule known_of means
as_leave c0 = refl
as_leave c1 = refl
as_leave c2 = refl
as_leave c3 = refl
as_leave {k} (c4 h) = rw (known_relation k h, ne_eqb k 3 (λ e. omega arith)) refl

lawful : (k r n : ℕ) → means (rule_of k r n) ≡ rule (role_of r n) (known_of k)
unfolding rule_of role_of means known_of
lawful k r n = go (eqb r RELATION_NAME) (eqb r ATTRIBUTE) (eqb r TERM) (eqb r WORD) (eqb r BIND) (eqb r RANGE)
  where
    go : (b1 b2 b3 b4 b5 b6 : Bool) →
        means (cond b1 (relation_rule k n) (cond b2 (attribute_rule k) (cond b3 (term_rule k) (cond b4 (turn_rule k 3 3) (cond b5 (bind_rule k) (cond b6 (turn_rule k 2 3) (turn_rule k 3 2)))))))
        ≡ rule (cond b1 (before_terms n) (cond b2 attribute_only (cond b3 term (cond b4 variable_only (cond b5 after_for (cond b6 enter leave)))))) (known_of k)
    go true b2 b3 b4 b5 b6 = as_relation n (code k)
    go false true b3 b4 b5 b6 = as_attribute (code k)
    go false false true b4 b5 b6 = as_term (code k)
    go false false false true b5 b6 = as_variable (code k)
    go false false false false true b6 = as_bind (code k)
    go false false false false false true = as_enter (code k)
    go false false false false false false = as_leave (code k)

-- the word of a new relation
relation_at : (facts query : Text) (v w n : ℕ) → v / 4 % 2 ≡ 1 → v % 4 ≡ n → v / 8 % 64 ≡ w / 64 % 64 → v / 512 ≡ w / 4096 → (w % 64 ≡ QUOTED → ⊥) →
    relation_of facts query v ≡ record { name = text_at query w; arity = n; text = 1; at = w / 4096 }
unfolding text_of text_at
relation_at facts query v w n e f g h q =
    let z : w / 4096 + 0 ≡ w / 4096 = omega arith in
    rw (e, f, g, h, ne_eqb (w % 64) QUOTED q, z) refl

new_relation : (facts query : Text) (w n : ℕ) → n ≤ 3 → (w % 64 ≡ QUOTED → ⊥) →
    relation_of facts query (relation_word w n) ≡ record { name = text_at query w; arity = n; text = 1; at = w / 4096 }
new_relation facts query w n h q =
    let a = w / 4096 in
    let l = w / 64 % 64 in
    let e : (a * 512 + l * 8 + 4 + n) / 4 ≡ a * 128 + l * 2 + 1 = omega arith in
    let e' : (a * 128 + l * 2 + 1) % 2 ≡ 1 = omega arith in
    let g : (a * 512 + l * 8 + 4 + n) / 8 ≡ a * 64 + l = omega arith in
    let g' : (a * 64 + l) % 64 ≡ l = omega arith in
    relation_at facts query (relation_word w n) w n (rw e e') (omega arith) (rw g g') (omega arith) q

module _ (facts query : Text) (tokens ids : List ℕ) (ts : List Token) (stand : Stand query tokens ts) (L : ℕ)
    (apart : (s t : ℕ) → s < length tokens → t < length tokens → same (text_at query (get_or tokens s 0)) (text_at query (get_or tokens t 0)) ≡ eqb (get_or ids s 0) (get_or ids t 0))
    (inside : (t : ℕ) → t < length tokens → get_or ids t 0 < L) where
  abbrev name_at : ℕ → Text
  name_at t = text_at query (get_or tokens t 0)

  -- the state stands for what the definition knows
  pub record Rep (s : State) (k : Kinds) : Type 0 where
    pub long : length s.known ≡ L
    pub knows : (t : ℕ) → t < length tokens → k.known (name_at t) ≡ known_of (get_or s.known (get_or ids t 0) 0)
    pub named : k.relations ≡ map (relation_of facts query) (take s.count s.relations)
    pub room : length s.relations ≡ 16
    pub few : s.count ≤ 16

  abbrev pub Sim : Walked → Answer Kinds → Type 0
  Sim (went s) (ok k) = Rep s k
  Sim (went s) (refused r p) = ⊥
  Sim (stopped r p) (ok k) = ⊥
  Sim (stopped r p) (refused r' p') = (r ≡ r') × (p ≡ p')

  module _ (t : Token) (o : OwnName ts t) where
    here : number t < length tokens
    here = omega (arith, o.inside, stand.count)

    the_text : t.text ≡ name_at (number t)
    the_text = ap (λ (u : Token). u.text) (sym o.found) ∙ stand.texts (number t) here

    the_place : t.at ≡ get_or tokens (number t) 0 / 4096
    the_place = ap (λ (u : Token). u.at) (sym o.found) ∙ stand.places (number t) here

    no_string : get_or tokens (number t) 0 % 64 ≡ QUOTED → ⊥
    no_string = stand.names (number t) here (ap (λ (u : Token). u.terminal) o.found ∙ o.is_name)

    -- one name's entry changes
    set_knows : (known : List ℕ) (K : Text → Known) (v : ℕ) (x : Known) → length known ≡ L → x ≡ known_of v →
        ((u : ℕ) → u < length tokens → K (name_at u) ≡ known_of (get_or known (get_or ids u 0) 0)) →
        (u : ℕ) → u < length tokens → learn t.text x K (name_at u) ≡ known_of (get_or (set known (get_or ids (number t) 0) v) (get_or ids u 0) 0)
    unfolding learn
    set_knows known K v x l e knows u hu = rw (the_text, apart (number t) u here hu) (go (eqb (get_or ids (number t) 0) (get_or ids u 0)) refl)
      where
        go : (b : Bool) → eqb (get_or ids (number t) 0) (get_or ids u 0) ≡ b → cond b x (K (name_at u)) ≡ known_of (get_or (set known (get_or ids (number t) 0) v) (get_or ids u 0) 0)
        go true q =
            let i : get_or ids (number t) 0 ≡ get_or ids u 0 = eqb-true _ _ q in
            e ∙ ap known_of (sym (rw (← i) (get_or-set_same known (get_or ids (number t) 0) v 0 (omega (arith, inside (number t) here)))))
        go false q = knows u hu ∙ ap known_of (sym (get_or-set_other known (get_or ids (number t) 0) (get_or ids u 0) v 0 (λ z. eqb-false _ _ q (sym z))))

    few_relations : (s : State) (k : Kinds) → Rep s k → length k.relations ≡ s.count
    few_relations s k R =
        ap length R.named ∙ length-map (take s.count s.relations) (relation_of facts query) ∙ length-take-le s.count s.relations (omega (arith, R.few, R.room))

    -- a relation more
    new_kinds : (s : State) (k : Kinds) (n : ℕ) → Rep s k → n ≤ 3 → s.count < 16 →
        Rep (state (set s.known (get_or ids (number t) 0) (relation_code s.count n)) (set s.relations s.count (relation_word (get_or tokens (number t) 0) n)) (s.count + 1))
        (record { known = learn t.text (relation s.count n) k.known; relations = k.relations ++ (record { name = t.text; arity = n; text = 1; at = t.at } ∷ []) })
    new_kinds s k n R h l =
        let v = relation_code s.count n in
        let w = relation_word (get_or tokens (number t) 0) n in
        let a : (v - 4) / 4 ≡ s.count = omega arith in
        let b : v % 4 ≡ n = omega arith in
        let kn : known_of v ≡ relation s.count n = known_relation v (omega arith) ∙ ap₂ relation a b in
        let i : take (s.count + 1) (set s.relations s.count w) ≡ take s.count s.relations ++ (w ∷ []) = rw add-one (take-suc-set s.relations s.count w (omega (arith, R.room))) in
        let q : ◌≡◌ {A = Relation} (record { name = t.text; arity = n; text = 1; at = t.at }) (relation_of facts query w) =
        rw (the_text, the_place) (sym (new_relation facts query (get_or tokens (number t) 0) n h no_string)) in
        record {
          long = length-set s.known (get_or ids (number t) 0) v ∙ R.long;
          knows = set_knows s.known k.known v (relation s.count n) R.long (sym kn) R.knows;
          named = ap₂ (λ (rs : List Relation) (r : Relation). rs ++ (r ∷ [])) R.named q
              ∙ sym (map-append (relation_of facts query) (take s.count s.relations) (w ∷ []))
              ∙ ap (map (relation_of facts query)) (sym i);
          room = length-set s.relations s.count w ∙ R.room;
          few = omega arith;
        }

    sim_rule : (s : State) (k : Kinds) (a : Rule) → Rep s k → ((m : ℕ) → a ≡ Fresh m → m ≤ 3) →
        Sim (apply s (get_or tokens (number t) 0) (get_or ids (number t) 0) a) (follow document_01 k t (means a))
    unfolding means add_relation
    sim_rule s k Kind R f = (refl, sym the_place)
    sim_rule s k Arity R f = (refl, sym the_place)
    sim_rule s k (Keep v) R f =
        record {
          long = length-set s.known (get_or ids (number t) 0) v ∙ R.long;
          knows = set_knows s.known k.known v (known_of v) R.long refl R.knows;
          named = R.named;
          room = R.room;
          few = R.few;
        }
    sim_rule s k (Fresh n) R f = rw (few_relations s k R) (go (ltb s.count 16) refl (leb 16 s.count) refl)
      where
        go : (b : Bool) → ltb s.count 16 ≡ b → (d : Bool) → leb 16 s.count ≡ d →
            Sim
            (cond b
            (went (state (set s.known (get_or ids (number t) 0) (relation_code s.count n)) (set s.relations s.count (relation_word (get_or tokens (number t) 0) n)) (s.count + 1)))
            (stopped 6 (get_or tokens (number t) 0 / 4096)))
            (◌>>=◌ (◌>>◌ (refuse_if d 6 t.at) (ok (k.relations ++ (record { name = t.text; arity = n; text = 1; at = t.at } ∷ []))))
            (λ (rs : List Relation). ok (record { known = learn t.text (relation s.count n) k.known; relations = rs })))
        go false e true e' = (refl, sym the_place)
        go true e false e' = new_kinds s k n R (f n refl) (ltb-true _ _ e)
        go false e false e' = absurd (omega (arith, ltb-false s.count 16 e, leb-false 16 s.count e'))
        go true e true e' = absurd (omega (arith, ltb-true s.count 16 e, leb-true 16 s.count e'))

  sim_use : (s : State) (k : Kinds) (r n : ℕ) (t : Token) → Rep s k → OwnName ts t →
      Sim (use_at tokens ids s r (number t) n) (use_name document_01 k (use_as (role_of r n) t))
  unfolding use_at use_name
  sim_use s k r n t R o =
      let v = get_or s.known (get_or ids (number t) 0) 0 in
      let e : k.known t.text ≡ known_of v = ap k.known (the_text t o) ∙ R.knows (number t) (here t o) in
      rw (e, ← lawful v r n) (sim_rule t o s k (rule_of v r n) R (λ m e. fresh_small v r n m _ refl e))

  chained : (o : Walked) (a : Answer Kinds) (f : State → Walked) (g : Kinds → Answer Kinds) → Sim o a → ((s : State) (k : Kinds) → Rep s k → Sim (f s) (g k)) → Sim (after o f) (◌>>=◌ a g)
  chained (went s) (ok k) f g m h = h s k m
  chained (went s) (refused r p) f g m h = absurd m
  chained (stopped r p) (ok k) f g m h = absurd m
  chained (stopped r p) (refused r' p') f g m h = m

  -- the walk of the code is the definition's pass over the uses that the words show
  pub walk_uses : {ws : List ℕ} {us : List Use} (s : State) (k : Kinds) → Shows ts ws us → Rep s k → Sim (walk tokens ids ws s) (use_names document_01 us k)
  unfolding walk use_names step
  walk_uses s k none R = R
  walk_uses s k (other {w} h more) R = rw (ne_eqb (kind_of w) 0 (λ e. omega arith), lt-ltb NEXT (kind_of w) h) (walk_uses s k more R)
  walk_uses s k (named {w} {ws} {us} {t} {k = c} {q} ek eq h l ep o more) R =
      rw (ek, eq, ep, ne_eqb c 0 (λ e. omega arith), le-ltb NEXT c l)
      (chained (use_at tokens ids s c (number t) q) (use_name document_01 k (use_as (role_of c q) t)) (walk tokens ids ws) (use_names document_01 us) (sim_use s k c q t R o) (λ s' k' R'. walk_uses s' k' more R'))
