-- Where one statement stands: its part of the words, its names, and the depths of the open loop variables.
use Prim.Native.Nat.{ℕ, suc, ◌+◌, ◌-◌, ◌<◌, ◌≤◌}
use mathlib.Core.Path.{◌≡◌, refl, sym, ap, subst, ◌∙◌}
use mathlib.Core.Bool.{Bool, true, false, not, cond, ◌&&◌, ◌||◌, or-false}
use mathlib.Core.Logic.{inl, inr}
use mathlib.Core.List.{List, [], ◌∷◌, ◌++◌}
use native.Mathlib.Omega.{arith}
use borrow.Author.Tests.{ne_eqb}
use lib.ListN.{length, get_or, take, drop, length-append}
use Rattle.definition.specs.Text.{Text, same, member, some_of, gather}
use Rattle.definition.specs.Token.{Token}
use Rattle.definition.specs.Syntax.{Expression}
use Rattle.definition.specs.Names.{Role, before_terms, attribute_only, term, variable_only, after_for, enter, leave, Use, use_as, Known, attribute, is_variable, join, takes_attribute, attribute_names, closures}
use Rattle.definition.specs.Accept.{elements}
use Rattle.definition.proofs.BoolLaws.{is_true, contradiction}
use Rattle.definition.proofs.MeaningLaws.{same_equal}
use Rattle.definition.proofs.NameLaws.{Fits, Fitting, one}
use Rattle.definition.proofs.RowLaws.{StatementOk}
use Rattle.words.specs.Fields.{word, kind_of, NEXT, CLOSURE}
use Rattle.words.specs.Raw.{number}
use Rattle.words.specs.Tokens.{OwnName}
use Rattle.words.specs.Standing.{Has}
use Rattle.words.specs.Shown.{Shows}
use Rattle.words.specs.Shown as Shown
use Rattle.words.proofs.FieldLaws.{kind_word}
use Rattle.words.proofs.Places.{has_append, has_part}
use Rattle.words.proofs.StatementParts.{Quiet}
use Rattle.slots.specs.Slots.{one_closure, closure_count}
use Rattle.slots.proofs.Attributes.{Coded, coded_length, statement_names}
use Rattle.slots.specs.Slots.{names_of}
use Rattle.lowering.specs.Lowering.{at, closures_before}
use Rattle.lowering.proofs.Filling.{none_before}
use Rattle.lowering.proofs.Places.{closures_has}
use Rattle.lowering.proofs.Masks.{some_join}
use Rattle.actions.specs.Parts.{is_statement, start}
use Rattle.actions.proofs.Parts.{start_quiet}
use Rattle.code.specs.Statements.{depth_in, Whole}
use Rattle.coding.specs.Pass.{Depths, names_between, Made}
use Rattle.coded.proofs.Given.{Case, depths_before, Place, values_of}
use Rattle.coded.proofs.Agreeing.{is_loop, filled}
use Rattle.coded.proofs.Quiet.{start_after, quiet_words, quiet_low, own_low}

-- an attribute name is known as an attribute
fits_attribute : (p : Role) (x : Known) → takes_attribute p ≡ true → is_variable x ≡ false → Fits p x → x ≡ attribute
fits_attribute (before_terms n) x e f h = contradiction false e refl
fits_attribute attribute_only x e f h = h
fits_attribute term x e f (inl h) = h
fits_attribute term x e f (inr t) = contradiction (is_variable x) (is_true (is_variable x) t) f
fits_attribute variable_only x e f h = contradiction false e refl
fits_attribute after_for x e f h = contradiction false e refl
fits_attribute enter x e f h = contradiction false e refl
fits_attribute leave x e f h = contradiction false e refl

member_join : (x y : Text) (rs : List Text) → member x (join (y ∷ []) rs) ≡ same x y || member x rs
unfolding member some_of
member_join x y rs = some_join (same x) (y ∷ []) rs ∙ ap (λ (b : Bool). b || some_of (same x) rs) (or-false (same x y))

pub names_attributes : (v : Text → Bool) (known : Text → Known) → ((x : Text) → is_variable (known x) ≡ v x) → (us : List Use) → Fitting known us → (x : Text) → member x (attribute_names v us) ≡ true → known x ≡ attribute
unfolding attribute_names member some_of
names_attributes v known k [] f x m = contradiction false m refl
names_attributes v known k (u ∷ us) (one h f) x m = go (takes_attribute u.role) (v u.token.text) refl refl m (names_attributes v known k us f x)
  where
    first_or : (b : Bool) → same x u.token.text ≡ b → takes_attribute u.role ≡ true → v u.token.text ≡ false → b || member x (attribute_names v us) ≡ true → (member x (attribute_names v us) ≡ true → known x ≡ attribute)
        → known x ≡ attribute
    first_or true g a e n more =
        subst (λ (z : Text). known z ≡ attribute) (sym (same_equal x u.token.text g))
        (fits_attribute u.role (known u.token.text) a (k u.token.text ∙ e) h)
    first_or false g a e n more = more n

    go : (a b : Bool) → takes_attribute u.role ≡ a → v u.token.text ≡ b → member x (cond (a && not b) (join (u.token.text ∷ []) (attribute_names v us)) (attribute_names v us)) ≡ true
        → (member x (attribute_names v us) ≡ true → known x ≡ attribute) → known x ≡ attribute
    go false b a e n more = more n
    go true true a e n more = more n
    go true false a e n more = first_or (same x u.token.text) refl a e (sym (member_join x u.token.text (attribute_names v us)) ∙ n) more

-- one use more, of no attribute
pub names_last : (v : Text → Bool) (us : List Use) (p : Role) (t : Token) → takes_attribute p ≡ false → attribute_names v (us ++ (use_as p t ∷ [])) ≡ attribute_names v us
unfolding attribute_names
names_last v [] p t e = rw e refl
names_last v (u ∷ us) p t e = ap (λ (r : List Text). cond (takes_attribute u.role && not (v u.token.text)) (join (u.token.text ∷ []) r) r) (names_last v us p t e)

-- one word more, of no name and no closure
pub shows_last : (ts : List Token) {xs : List ℕ} {us : List Use} (w : ℕ) → NEXT < kind_of w → Shows ts xs us → Shows ts (xs ++ (w ∷ [])) us
shows_last ts w h Shown.none = Shown.other h Shown.none
shows_last ts w h (Shown.other l s) = Shown.other l (shows_last ts w h s)
shows_last ts w h (Shown.named {t = t} {k = k} {q = q} a b c d e f s) = Shown.named {t = t} {k = k} {q = q} a b c d e f (shows_last ts w h s)

pub count_last : (xs : List ℕ) (K p q r : ℕ) → K < 256 → (K ≡ CLOSURE → ⊥) → closure_count (xs ++ (word K p q r ∷ [])) ≡ closure_count xs
unfolding closure_count one_closure
count_last [] K p q r h n = rw (kind_word K p q r h, ne_eqb K CLOSURE n) refl
count_last (x ∷ xs) K p q r h n = ap (λ (c : ℕ). one_closure x + c) (count_last xs K p q r h n)

-- the words of a statement from s up to its own at k, with the definition's names and expressions
pub record Shape (C : Case) (s k : ℕ) (us : List Use) (es : List Expression) : Type 0 where
  pub ws : List ℕ
  pub own : ℕ
  pub has : Has C.words s (ws ++ (own ∷ []))
  pub long : k ≡ s + length ws
  pub quiet : Quiet ws
  pub statement : is_statement (kind_of own) ≡ true
  pub uses : List Use
  pub shows : Shows C.ts (ws ++ (own ∷ [])) uses
  pub names : attribute_names C.w.variables uses ≡ attribute_names C.w.variables us
  pub count : closure_count (ws ++ (own ∷ [])) ≡ length (gather closures es)
  pub inside : k < length C.words

-- the depths of the open loop variables
pub record Deep (C : Case) (scope : List Text) (d : Depths) : Type 0 where
  pub deep : d.deep ≡ length scope
  pub room : length d.depths ≡ length C.first.depths
  pub held : (t : Token) → OwnName C.ts t → member t.text scope ≡ true → get_or d.depths (get_or C.ids (number t) 0) 0 ≡ depth_in t.text scope

-- before a statement
pub record Begun (C : Case) (scope : List Text) (n : ℕ) : Type 0 where
  pub start_words : start C.words n ≡ n
  pub start_low : start C.low n ≡ n
  pub depths : Deep C scope (depths_before C n)

module _ (C : Case) (scope : List Text) (s k : ℕ) (us : List Use) (es : List Expression) (S : Shape C s k us es) (begins : start C.words s ≡ s) where
  abbrev v : Text → Bool
  v = C.w.variables

  abbrev all : List ℕ
  all = S.ws ++ (S.own ∷ [])

  all_long : s + length all ≡ suc k
  all_long = omega (arith, S.long, length-append S.ws (S.own ∷ []))

  pub own_word : get_or C.words k 0 ≡ S.own
  unfolding Has
  own_word = let t = has_append C.words s S.ws (S.own ∷ []) S.has in subst (λ (j : ℕ). get_or C.words j 0 ≡ S.own) (sym S.long) t.1.0

  own_statement : is_statement (kind_of (get_or C.words k 0)) ≡ true
  own_statement = rw own_word S.statement

  pub quiet_before : (i : ℕ) → s ≤ i → i < k → is_statement (kind_of (get_or C.words i 0)) ≡ false
  quiet_before i l h = quiet_words C.words S.ws s (has_append C.words s S.ws (S.own ∷ []) S.has).0 S.quiet i l (omega (arith, S.long, h))

  start_own : start C.words k ≡ s
  start_own = subst (λ (j : ℕ). start C.words j ≡ s) (sym S.long) (start_quiet C.words s (length S.ws) begins (λ i l h. quiet_before i l (omega (arith, S.long, h))))

  part_is : take (suc k - s) (drop s C.words) ≡ all
  part_is = let e : suc k - s ≡ length all = omega (arith, all_long) in rw e (has_part C.words s all (omega (arith, all_long, S.inside)) S.has)

  abbrev Names : List ℕ → List Text → Type 0
  Names = Coded C.facts C.query C.tokens C.ids C.known C.relations C.count C.kinds C.stands C.ts C.stand

  coded : Names (names_between C.facts C.query C.places C.tokens C.ids C.known C.words s k) (attribute_names v us)
  coded =
      let a = statement_names C.facts C.query C.tokens C.ids C.known C.relations C.count C.kinds C.stands C.ts C.stand S.shows in
      let b : Names (names_of C.ids C.known [] all) (attribute_names v S.uses) = subst (λ (vs : Text → Bool). Names (names_of C.ids C.known [] all) (attribute_names vs S.uses)) C.same_variables a in
      subst (λ (ws : List ℕ). Names (names_of C.ids C.known [] ws) (attribute_names v us)) (sym part_is) (subst (Names (names_of C.ids C.known [] all)) S.names b)

  module _ (O : StatementOk v us es) where
    few : length (names_between C.facts C.query C.places C.tokens C.ids C.known C.words (start C.words k) k) ≤ 4
    few =
        let n = coded_length C.facts C.query C.tokens C.ids C.known C.relations C.count C.kinds C.stands C.ts C.stand coded in
        rw start_own (omega (arith, n, O.few_attributes))

    made : Made C.facts C.query C.places C.tokens C.ids C.known C.words C.low (elements C.w) (depths_before C (suc k)).depths s k
    made =
        subst (λ (j : ℕ). Made C.facts C.query C.places C.tokens C.ids C.known C.words C.low (elements C.w) (depths_before C (suc k)).depths j k) start_own
        (C.passed.made k S.inside own_statement few)

    few_closures : closures_before (at C.words) s (suc k) ≤ 16
    few_closures =
        let c = closures_has C.words s all s (omega arith) S.has in
        let z = none_before (at C.words) s s (omega arith) in
        subst (λ (j : ℕ). closures_before (at C.words) s j ≤ 16) all_long (omega (arith, c, z, S.count, O.few_closures))

    module _ (fit : Fitting C.kinds.known us) (loops : (x : Text) → member x scope ≡ true → v x ≡ true) (shallow : length scope ≤ 32)
        (held : (t : Token) → OwnName C.ts t → member t.text scope ≡ true → get_or (depths_before C (suc k)).depths (get_or C.ids (number t) 0) 0 ≡ depth_in t.text scope) where
      pub placed : Place C scope s k (attribute_names v us)
      placed = record {
        made = made;
        coded = coded;
        attributes = names_attributes v C.kinds.known (is_loop C) us fit;
        loops = loops;
        shallow = shallow;
        deep = held;
        few_closures = few_closures;
        order = omega (arith, S.long);
        inside = S.inside;
      }

      pub whole : start C.low s ≡ s → Whole C.low s k
      whole e = record {
        begins = e;
        order = omega (arith, S.long);
        quiet = λ i l h.
            quiet_low C.words placed.made.codes C.tokens placed.made.fr (values_of C) (elements C.w) s (suc k) C.low (filled C scope s k (attribute_names v us) placed) i l (omega (arith, h)) (quiet_before i l h);
      }

      pub after_words : start C.words (suc k) ≡ suc k
      after_words = start_after C.words k own_statement

      pub after_low : start C.low (suc k) ≡ suc k
      after_low =
          start_after C.low k
          (own_low C.words placed.made.codes C.tokens placed.made.fr (values_of C) (elements C.w) s (suc k) C.low (filled C scope s k (attribute_names v us) placed) k (omega (arith, S.long)) (omega arith) own_statement)
