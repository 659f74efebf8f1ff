-- Operands that stand for terms may stand for the same elements, and their tuples are the same.
use Prim.Native.Nat.{ℕ, suc, ◌<◌}
use mathlib.Core.Path.{◌≡◌, refl, sym, ap, ap₂, ◌∙◌}
use mathlib.Core.Logic.{◌⊎◌, inl, inr}
use mathlib.Core.Bool.{Bool, true, false, not, ◌||◌, ◌&&◌, and-false}
use mathlib.Core.List.{List, [], ◌∷◌, map}
use lib.Dec.{T}
use lib.ListN.{length}
use Rattle.definition.specs.Text.{Text, member, some_of, all_of, gather, below}
use Rattle.definition.specs.Token.{Token}
use Rattle.definition.specs.Syntax.{Term, name, string, anything}
use Rattle.definition.specs.Names.{attributes}
use Rattle.definition.specs.Tables.{Tuple}
use Rattle.definition.specs.Accept.{Accepted, elements}
use Rattle.definition.specs.Meaning as Definition
use Rattle.definition.specs.Meaning.{Environment, nowhere}
use Rattle.definition.proofs.BoolLaws.{not_both}
use Rattle.definition.proofs.TableLaws.{Below}
use Rattle.definition.proofs.MeaningLaws.{head_in, tail_in}
use Rattle.eval.specs.Nodes.{Operand}
use Rattle.eval.specs.Meaning.{choices, readings}
use Rattle.eval.proofs.Operands.{some_gather, some_one}
use Rattle.meaning.specs.Lowered.{Naming, Stands, attribute, loop_variable, found, missing, Stand, none, more}
use Rattle.meaning.specs.Lowered
use Rattle.meaning.specs.Ready.{Fits}
use Rattle.meaning.proofs.Numbers.{some_same}
use Rattle.meaning.proofs.Fit.{weaken}

module _ (w : Accepted) (β : Text → ℕ) (loops : List Text) (vs : List ℕ) (naming : Naming β loops) where
  abbrev u : ℕ
  u = elements w

  -- the tail of a list of terms
  rest : (p : Term) (ps : List Term) {env : Environment} {σ : List ℕ} → Fits w β loops vs (attributes w.variables (p ∷ ps)) env σ → Fits w β loops vs (attributes w.variables ps) env σ
  rest (name t) ps f = weaken w β loops vs naming (tail_in w.variables t ps) f
  rest (string t) ps f = unfold attributes in f
  rest anything ps f = unfold attributes in f

  -- what a term is: one element below u; none; any element
  data Chosen (env : Environment) (σ : List ℕ) (p : Term) (o : Operand) : Type 0 where
    one : (a : ℕ) → a < u → Definition.choices w env p ≡ a ∷ [] → choices u vs σ o ≡ a ∷ [] → Chosen env σ p o
    nothing : Definition.choices w env p ≡ [] → choices u vs σ o ≡ [] → Chosen env σ p o
    each : Definition.choices w env p ≡ below u → choices u vs σ o ≡ below u → Chosen env σ p o

  attribute_in : (t : Token) (ps : List Term) → T (not (w.variables t.text)) → T (member t.text (attributes w.variables (name t ∷ ps)))
  attribute_in t ps n = go (head_in w.variables t ps)
    where
      go : T (w.variables t.text) ⊎ T (member t.text (attributes w.variables (name t ∷ ps))) → T (member t.text (attributes w.variables (name t ∷ ps)))
      go (inl v) = absurd (not_both (w.variables t.text) v n)
      go (inr m) = m

  chosen : (p : Term) (o : Operand) (ps : List Term) {env : Environment} {σ : List ℕ} → Stands w β loops p o → Fits w β loops vs (attributes w.variables (p ∷ ps)) env σ → Chosen env σ p o
  unfolding Definition.choices choices
  chosen (name t) o ps {env} {σ} (attribute n) f = let m = attribute_in t ps n in one (env t.text) (f.within t.text m) refl (f.value t.text m)
  chosen (name t) o ps {env} {σ} (loop_variable m) f =
      one (env t.text) (f.variables.within t.text m) refl
      (ap (choices u vs σ) (naming.depths t.text m) ∙ ap (λ (a : ℕ). a ∷ []) (f.variables.value t.text m))
  chosen (string t) o ps (found {a = a} e l) f = one a l e refl
  chosen (string t) o ps (missing e) f = nothing e refl
  chosen anything o ps Lowered.any f = each refl refl

  choices_same : {env : Environment} {σ : List ℕ} {p : Term} {o : Operand} → Chosen env σ p o → Definition.choices w env p ≡ choices u vs σ o
  choices_same (one a l d e) = d ∙ sym e
  choices_same (nothing d e) = d ∙ sym e
  choices_same (each d e) = d ∙ sym e

  -- tests that agree on elements
  some_choices : (f g : ℕ → Bool) {env : Environment} {σ : List ℕ} {p : Term} {o : Operand} → ((a : ℕ) → a < u → f a ≡ g a) → Chosen env σ p o → some_of f (choices u vs σ o) ≡ some_of g (choices u vs σ o)
  some_choices f g h (one a l d e) = rw e (unfold some_of in ap (λ (b : Bool). b || false) (h a l))
  some_choices f g h (nothing d e) = rw e (unfold some_of in refl)
  some_choices f g h (each d e) = rw e (some_same f g u h)

  -- one term, and tests that agree on elements
  pub some_term : (f g : ℕ → Bool) {env : Environment} {σ : List ℕ} {p : Term} {o : Operand} → ((a : ℕ) → a < u → f a ≡ g a) → Stands w β loops p o → Fits w β loops vs (attributes w.variables (p ∷ [])) env σ
      → some_of f (choices u vs σ o) ≡ some_of g (Definition.choices w env p)
  some_term f g {p = p} {o = o} h s fit = let c = chosen p o [] s fit in some_choices f g h c ∙ ap (some_of g) (sym (choices_same c))

  pub readings_same : {ps : List Term} {os : List Operand} {env : Environment} {σ : List ℕ} → Stand w β loops ps os → Fits w β loops vs (attributes w.variables ps) env σ
      → Definition.readings w env ps ≡ readings u vs σ os
  unfolding Definition.readings readings
  readings_same none f = refl
  readings_same {env = env} {σ = σ} (more {p} {o} {ps} {os} s ss) f =
      ap₂ (λ (r : List Tuple) (cs : List ℕ). gather (λ a. map (λ t. a ∷ t) r) cs) (readings_same ss (rest p ps f)) (choices_same (chosen p o ps s f))

  pub some_readings : {ps : List Term} {os : List Operand} {env : Environment} {σ : List ℕ} (f g : Tuple → Bool) → Stand w β loops ps os → Fits w β loops vs (attributes w.variables ps) env σ
      → ((t : Tuple) → Below u t → length t ≡ length ps → f t ≡ g t) → some_of f (readings u vs σ os) ≡ some_of g (readings u vs σ os)
  unfolding readings
  some_readings f g none fit h = some_one f ∙ h [] tt refl ∙ sym (some_one g)
  some_readings {env = env} {σ = σ} f g (more {p} {o} {ps} {os} s ss) fit h =
      some_gather f (readings u vs σ os) (choices u vs σ o)
      ∙ some_choices (λ a. some_of (λ t. f (a ∷ t)) (readings u vs σ os)) (λ a. some_of (λ t. g (a ∷ t)) (readings u vs σ os))
      (λ a l. some_readings (λ t. f (a ∷ t)) (λ t. g (a ∷ t)) ss (rest p ps fit) (λ t b e. h (a ∷ t) (l, b) (ap suc e))) (chosen p o ps s fit)
      ∙ sym (some_gather g (readings u vs σ os) (choices u vs σ o))

  -- TRUE's terms may stand for a tuple where each may stand for an element, whatever the names are
  some_const : (b : Bool) (cs : List ℕ) → some_of (λ a. b) cs ≡ some_of (λ a. true) cs && b
  unfolding some_of
  some_const b [] = refl
  some_const true (c ∷ cs) = refl
  some_const false (c ∷ cs) = some_const false cs ∙ and-false (some_of (λ a. true) cs)

  chosen_anyhow : (env : Environment) (p : Term) → some_of (λ a. true) (Definition.choices w env p) ≡ some_of (λ a. true) (Definition.choices w nowhere p)
  unfolding Definition.choices some_of
  chosen_anyhow env (name t) = refl
  chosen_anyhow env (string t) = refl
  chosen_anyhow env anything = refl

  pub truth_readings : (env : Environment) (ps : List Term) → some_of (λ t. true) (Definition.readings w env ps) ≡ all_of (λ p. some_of (λ a. true) (Definition.choices w nowhere p)) ps
  unfolding Definition.readings all_of
  truth_readings env [] = unfold some_of in refl
  truth_readings env (p ∷ ps) =
      some_gather (λ t. true) (Definition.readings w env ps) (Definition.choices w env p)
      ∙ some_const (some_of (λ t. true) (Definition.readings w env ps)) (Definition.choices w env p)
      ∙ ap₂ ◌&&◌ (chosen_anyhow env p) (truth_readings env ps)
