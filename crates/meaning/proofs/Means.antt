-- A lowered expression's node means what the expression means, and comes to what it comes to, up to the limit of a word's sums.
use Prim.Native.Nat.{ℕ, ◌+◌, ◌-◌, ◌%◌, ◌<◌}
use mathlib.Core.Path.{◌≡◌, refl, sym, ap, ap₂, ◌∙◌}
use mathlib.Core.Bool.{Bool, true, false, not, ◌||◌, ◌&&◌, beq, cond}
use mathlib.Core.List.{List, [], ◌∷◌, map}
use native.Mathlib.Nat.{add-mod, mod-eq_of_lt, min-eq_left}
use native.Mathlib.Omega.{arith}
use lib.Dec.{T, ltb, leb}
use lib.ListN.{get_or, set}
use Rattle.definition.specs.Text.{Text, same, member, some_of, all_of}
use Rattle.definition.specs.Syntax.{Expression, atom, truth, falsity, compare, matching, negation, conjunction, disjunction, implication, equivalence, exists, for_all, closure_of, compare_relations, literal, count_of, sum_of, ratio_of, compare_figures}
use Rattle.definition.specs.Names.{free, join}
use Rattle.definition.specs.Tables.{bit, holds, table, closure}
use Rattle.definition.specs.Pattern.{matches}
use Rattle.definition.specs.Accept.{Accepted, elements}
use Rattle.definition.specs.Meaning as Definition
use Rattle.definition.specs.Meaning.{nowhere, Tables, Environment, bind, bind_all, table_of, mean, compares, compares_relations, Figure, whole, share, top, bottom, compares_figures}
use Rattle.definition.proofs.MeaningLaws.{other, member_first, member_later, member_keep, member_join_left, member_join_right}
use Rattle.definition.proofs.RelationLaws.{place_of}
use Rattle.words.specs.Fields.{p_of}
use Rattle.words.specs.Raw.{size}
use Rattle.eval.specs.Nodes.{Node, slot, operand, node_at, a_of, b_of, d_of, half_of}
use Rattle.eval.specs.Nodes as Nodes
use Rattle.eval.specs.Meaning.{WRAP, World, world, table_at, choices, tally, meaning, figure}
use Rattle.meaning.specs.Lowered.{root, closure_count, Naming, none, more, Bounded, Lowered}
use Rattle.meaning.specs.Ready.{Fits, Tabled, Held}
use Rattle.meaning.proofs.Numbers.{some_same, all_same}
use Rattle.meaning.proofs.Distinct.{join_distinct, free_distinct}
use Rattle.meaning.proofs.Fit.{weaken, fits_bind}
use Rattle.meaning.proofs.Assignments.{all_assignments, count_assignments}
use Rattle.meaning.proofs.Terms.{some_term, readings_same, some_readings, truth_readings}
use Rattle.meaning.proofs.Halves.{first_half, second_half, some_halves}
use Rattle.meaning.proofs.Decoded.{Shape, decoded}

-- a quantity by the last 32 bits of its parts
unfoldable wrapped : Figure → Figure
wrapped (whole n) = whole (n % WRAP)
wrapped (share a b) = share (a % WRAP) (b % WRAP)

top_wrapped : (p : Figure) → top (wrapped p) ≡ top p % WRAP
unfolding wrapped
top_wrapped (whole n) = refl
top_wrapped (share a b) = refl

-- which are all of them where they are small
wrapped_small : (p : Figure) → top p < WRAP → bottom p < WRAP → wrapped p ≡ p
unfolding wrapped
wrapped_small (whole n) h k = ap whole (mod-eq_of_lt h)
wrapped_small (share a b) h k = ap₂ share (mod-eq_of_lt h) (mod-eq_of_lt k)

module _ (w : Accepted) (β : Text → ℕ) (loops : List Text) (vs : List ℕ) (naming : Naming β loops) where
  abbrev u : ℕ
  u = elements w

  abbrev vars : Text → Bool
  vars = w.variables

  abbrev Fit : List Text → Environment → List ℕ → Type 0
  Fit = Fits w β loops vs

  -- two attributes at two slots
  at_slots : (xs : List Text) (i j : ℕ) (env : Environment) (σ : List ℕ) → map (λ x. operand (β x)) xs ≡ slot i ∷ slot j ∷ [] → Fit xs env σ
      → (map env xs ≡ get_or σ i 0 ∷ get_or σ j 0 ∷ []) × ((get_or σ i 0 < u) × (get_or σ j 0 < u))
  unfolding choices
  at_slots [] i j env σ e f = let z : ◌≡◌ {A = ℕ} 0 1 = cc in absurd (omega arith)
  at_slots (x ∷ []) i j env σ e f = let z : ◌≡◌ {A = ℕ} 0 1 = cc in absurd (omega arith)
  at_slots (x ∷ y ∷ z ∷ xs) i j env σ e f = let z : ◌≡◌ {A = ℕ} 0 1 = cc in absurd (omega arith)
  at_slots (x ∷ y ∷ []) i j env σ e f =
      let mx : T (member x (x ∷ y ∷ [])) = member_first x (y ∷ []) in
      let my : T (member y (x ∷ y ∷ [])) = member_later x y (y ∷ []) (member_first y []) in
      let ox : operand (β x) ≡ slot i = cc in
      let oy : operand (β y) ≡ slot j = cc in
      let vx : get_or σ i 0 ∷ [] ≡ env x ∷ [] = ap (choices u vs σ) (sym ox) ∙ f.value x mx in
      let vy : get_or σ j 0 ∷ [] ≡ env y ∷ [] = ap (choices u vs σ) (sym oy) ∙ f.value y my in
      let ex : get_or σ i 0 ≡ env x = cc in
      let ey : get_or σ j 0 ≡ env y = cc in
      (ap₂ (λ (a b : ℕ). a ∷ b ∷ []) (sym ex) (sym ey), (rw ex (f.within x mx), rw ey (f.within y my)))

  module _ (low : List ℕ) (ts : Tables) (store firsts : List ℕ) (tabled : Tabled w β loops vs ts store firsts) where
    abbrev Here : World
    Here = world store firsts vs u

    -- the node at the place of an expression's own word
    abbrev NodeOf : Expression → ℕ → Node
    NodeOf e n = node_at low (root e n)

    -- what it means and comes to, by its kind
    read_as : (e : Expression) (n c : ℕ) (σ : List ℕ) → Lowered w β loops low e n c → meaning Here (NodeOf e n) σ ≡ meaning Here (Shape w β loops low e n c) σ
    read_as e n c σ l = ap (λ (x : Node). meaning Here x σ) (decoded w β loops low e n c l)

    comes_as : (e : Expression) (n c : ℕ) (σ : List ℕ) → Lowered w β loops low e n c → figure Here (NodeOf e n) σ ≡ figure Here (Shape w β loops low e n c) σ
    comes_as e n c σ l = ap (λ (x : Node). figure Here x σ) (decoded w β loops low e n c l)

    decided : (b : Bool) (σ : List ℕ) → meaning Here (cond b Nodes.yes Nodes.no) σ ≡ b
    unfolding meaning
    decided true σ = refl
    decided false σ = refl

    no_figure : (b : Bool) (σ : List ℕ) → figure Here (cond b Nodes.yes Nodes.no) σ ≡ whole 0
    unfolding meaning
    no_figure true σ = refl
    no_figure false σ = refl

    left : (a b : Expression) {env : Environment} {σ : List ℕ} → Fit (join (free vars a) (free vars b)) env σ → Fit (free vars a) env σ
    left a b f = weaken w β loops vs naming (λ y m. member_join_left y (free vars a) (free vars b) m) f

    right : (a b : Expression) {env : Environment} {σ : List ℕ} → Fit (join (free vars a) (free vars b)) env σ → Fit (free vars b) env σ
    right a b f = weaken w β loops vs naming (λ y m. member_join_right y (free vars a) (free vars b) m) f

    -- THE LAW: names and slots mean the same
    mutual
      unfolding Lowered Held meaning mean free size Shape wrapped

      pub means : (e : Expression) (n c : ℕ) (env : Environment) (σ : List ℕ) → Lowered w β loops low e n c → Held w β loops vs ts store firsts e c → Fit (free vars e) env σ
          → meaning Here (node_at low (root e n)) σ ≡ mean w ts env e
      means (atom r ps) n c env σ l h f =
          let i = place_of r.text w.relations in
          let a = l.1 in
          read_as (atom r ps) n c σ l
          ∙ some_readings w β loops vs naming (holds u (table_at Here i)) (holds u (table_of r.text w.relations ts)) a.terms f
          (λ t b e. tabled.same r.text t a.known (e ∙ a.arity) b)
          ∙ ap (some_of (holds u (table_of r.text w.relations ts))) (sym (readings_same w β loops vs naming a.terms f))
      means (truth ps) n c env σ l h f =
          read_as (truth ps) n c σ l ∙ decided (all_of (λ p. some_of (λ a. true) (Definition.choices w nowhere p)) ps) σ ∙ sym (truth_readings w β loops vs naming env ps)
      means (falsity ps) n c env σ l h f = read_as (falsity ps) n c σ l
      means (compare g p q) n c env σ l h f =
          read_as (compare g p q) n c σ l
          ∙ ap (some_of (λ t. compares g (get_or t 0 0) (get_or t 1 0))) (sym (readings_same w β loops vs naming (more l.1.left (more l.1.right none)) f))
      means (matching s p) n c env σ l h f =
          let a = l.1.0 in
          let b = l.1.1.0 in
          let M : ℕ → Bool = λ i. matches s.text (get_or w.universe i []) in
          let x = half_of (get_or low (n + 1) 0) in
          let y = half_of (get_or low (n + 2) 0) in
          read_as (matching s p) n c σ l
          ∙ ap₂ ◌||◌
          (some_term w β loops vs naming (λ i. leb 0 i && bit x (i - 0)) (λ i. ltb i 32 && M i) (λ i k. first_half M x u i (omega arith) a.set k) a.term f)
          (some_term w β loops vs naming (λ i. leb 32 i && bit y (i - 32)) (λ i. leb 32 i && M i) (λ i k. second_half M y u i b.few b.set k) b.term f)
          ∙ some_halves M (Definition.choices w env p)
      means (negation e) n c env σ l h f = read_as (negation e) n c σ l ∙ ap not (means e n c env σ l.0 h f)
      means (conjunction a b) n c env σ l h f =
          read_as (conjunction a b) n c σ l
          ∙ ap₂ ◌&&◌ (means a n c env σ l.0 h.0 (left a b f)) (means b (n + size a) (c + closure_count a) env σ l.1.0 h.1 (right a b f))
      means (disjunction a b) n c env σ l h f =
          read_as (disjunction a b) n c σ l
          ∙ ap₂ ◌||◌ (means a n c env σ l.0 h.0 (left a b f)) (means b (n + size a) (c + closure_count a) env σ l.1.0 h.1 (right a b f))
      means (implication a b) n c env σ l h f =
          read_as (implication a b) n c σ l
          ∙ ap₂ (λ (x y : Bool). not x || y) (means a n c env σ l.0 h.0 (left a b f)) (means b (n + size a) (c + closure_count a) env σ l.1.0 h.1 (right a b f))
      means (equivalence a b) n c env σ l h f =
          read_as (equivalence a b) n c σ l
          ∙ ap₂ beq (means a n c env σ l.0 h.0 (left a b f)) (means b (n + size a) (c + closure_count a) env σ l.1.0 h.1 (right a b f))
      means (exists x e) n c env σ l h f =
          let i = p_of (get_or low (n + 1 + size e) 0) % 8 in
          read_as (exists x e) n c σ l
          ∙ some_same (λ v. meaning Here (NodeOf e (n + 1)) (set σ i v)) (λ v. mean w ts (bind x.text v env) e) u
          (λ v hv. means e (n + 1) c (bind x.text v env) (set σ i v) l.1.0 h (fits_bind w β loops vs naming x.text i v l.1.1.place hv (λ y m d. member_keep (λ y. not (same y x.text)) y (free vars e) m (other x.text y d)) f))
      means (for_all x e) n c env σ l h f =
          let i = p_of (get_or low (n + 1 + size e) 0) % 8 in
          read_as (for_all x e) n c σ l
          ∙ all_same (λ v. meaning Here (NodeOf e (n + 1)) (set σ i v)) (λ v. mean w ts (bind x.text v env) e) u
          (λ v hv. means e (n + 1) c (bind x.text v env) (set σ i v) l.1.0 h (fits_bind w β loops vs naming x.text i v l.1.1.place hv (λ y m d. member_keep (λ y. not (same y x.text)) y (free vars e) m (other x.text y d)) f))
      means (closure_of e) n c env σ l h f =
          let k = n + size e in
          let x = a_of (get_or low k 0) % 8 in
          let y = b_of (get_or low k 0) % 8 in
          let s = at_slots (free vars e) x y env σ l.1.slots f in
          read_as (closure_of e) n c σ l
          ∙ h.1.pairs env f.variables (get_or σ x 0) (get_or σ y 0) s.1.0 s.1.1
          ∙ ap (holds u (closure u (table u 2 (λ t. mean w ts (bind_all (free vars e) t env) e)))) (sym s.0)
      means (compare_relations g a b) n c env σ l h f =
          let xs = join (free vars a) (free vars b) in
          let d = join_distinct (free vars a) (free vars b) (free_distinct vars a) (free_distinct vars b) in
          let A : (env' : Environment) (σ' : List ℕ) → Fit xs env' σ' → meaning Here (NodeOf a n) σ' ≡ mean w ts env' a = λ env' σ' f'. means a n c env' σ' l.0 h.0 (left a b f') in
          let B : (env' : Environment) (σ' : List ℕ) → Fit xs env' σ' → meaning Here (NodeOf b (n + size a)) σ' ≡ mean w ts env' b = λ env' σ' f'. means b (n + size a) (c + closure_count a) env' σ' l.1.0 h.1 (right a b f') in
          read_as (compare_relations g a b) n c σ l
          ∙ ap₂ (compares_relations g)
          (all_assignments w β loops vs naming low (n + size a + size b) xs (λ v. not (mean w ts v a) || mean w ts v b) (λ τ. not (meaning Here (NodeOf a n) τ) || meaning Here (NodeOf b (n + size a)) τ) env σ l.1.1.mask d
          (λ v τ f'. ap₂ (λ (x y : Bool). not x || y) (A v τ f') (B v τ f')) f)
          (all_assignments w β loops vs naming low (n + size a + size b) xs (λ v. not (mean w ts v b) || mean w ts v a) (λ τ. not (meaning Here (NodeOf b (n + size a)) τ) || meaning Here (NodeOf a n) τ) env σ l.1.1.mask d
          (λ v τ f'. ap₂ (λ (x y : Bool). not x || y) (B v τ f') (A v τ f')) f)
      means (compare_figures g a b) n c env σ l h f =
          read_as (compare_figures g a b) n c σ l
          ∙ ap₂ (compares_figures g)
          (comes_modulo a n c env σ l.0 h.0 f ∙ wrapped_small (Definition.figure w ts env a) (l.1.1.1.0 ts env).0 (l.1.1.1.0 ts env).1)
          (comes_modulo b (n + size a) (c + closure_count a) env σ l.1.0 h.1 f ∙ wrapped_small (Definition.figure w ts env b) (l.1.1.1.1 ts env).0 (l.1.1.1.1 ts env).1)
      means (literal t) n c env σ l h f = read_as (literal t) n c σ l
      means (count_of e) n c env σ l h f = read_as (count_of e) n c σ l
      means (sum_of a b) n c env σ l h f = read_as (sum_of a b) n c σ l
      means (ratio_of a b) n c env σ l h f = read_as (ratio_of a b) n c σ l

      -- a quantity comes to the same in the last 32 bits
      comes_modulo : (e : Expression) (n c : ℕ) (env : Environment) (σ : List ℕ) → Lowered w β loops low e n c → Held w β loops vs ts store firsts e c → Fit [] env σ
          → figure Here (node_at low (root e n)) σ ≡ wrapped (Definition.figure w ts env e)
      comes_modulo (literal t) n c env σ l h f = comes_as (literal t) n c σ l
      comes_modulo (count_of e) n c env σ l h f =
          let k = n + size e in
          let L = l.1 in
          let Q : List ℕ → Bool = λ τ. meaning Here (NodeOf e n) τ in
          comes_as (count_of e) n c σ l
          ∙ ap (λ (m : ℕ). whole (m % WRAP))
          (ap (λ (m : ℕ). tally m (d_of (get_or low k 0)) 8 Q σ) (min-eq_left L.few)
          ∙ count_assignments w β loops vs naming low k (free vars e) (λ v. mean w ts v e) Q env σ L.mask (free_distinct vars e) (λ v τ g. means e n c v τ l.0 h g) f)
      comes_modulo (sum_of a b) n c env σ l h f =
          let p = Definition.figure w ts env a in
          let q = Definition.figure w ts env b in
          comes_as (sum_of a b) n c σ l
          ∙ ap₂ (λ (x y : Figure). whole ((top x + top y) % WRAP)) (comes_modulo a n c env σ l.0 h.0 f) (comes_modulo b (n + size a) (c + closure_count a) env σ l.1.0 h.1 f)
          ∙ ap₂ (λ (x y : ℕ). whole ((x + y) % WRAP)) (top_wrapped p) (top_wrapped q)
          ∙ ap whole (sym (add-mod (top p) (top q) WRAP))
      comes_modulo (ratio_of a b) n c env σ l h f =
          let p = Definition.figure w ts env a in
          let q = Definition.figure w ts env b in
          comes_as (ratio_of a b) n c σ l
          ∙ ap₂ (λ (x y : Figure). share (top x) (top y)) (comes_modulo a n c env σ l.0 h.0 f) (comes_modulo b (n + size a) (c + closure_count a) env σ l.1.0 h.1 f)
          ∙ ap₂ share (top_wrapped p) (top_wrapped q)
      comes_modulo (atom r ps) n c env σ l h f = comes_as (atom r ps) n c σ l
      comes_modulo (truth ps) n c env σ l h f = comes_as (truth ps) n c σ l ∙ no_figure (all_of (λ p. some_of (λ a. true) (Definition.choices w nowhere p)) ps) σ
      comes_modulo (falsity ps) n c env σ l h f = comes_as (falsity ps) n c σ l
      comes_modulo (compare g p q) n c env σ l h f = comes_as (compare g p q) n c σ l
      comes_modulo (matching s p) n c env σ l h f = comes_as (matching s p) n c σ l
      comes_modulo (negation e) n c env σ l h f = comes_as (negation e) n c σ l
      comes_modulo (conjunction a b) n c env σ l h f = comes_as (conjunction a b) n c σ l
      comes_modulo (disjunction a b) n c env σ l h f = comes_as (disjunction a b) n c σ l
      comes_modulo (implication a b) n c env σ l h f = comes_as (implication a b) n c σ l
      comes_modulo (equivalence a b) n c env σ l h f = comes_as (equivalence a b) n c σ l
      comes_modulo (exists x e) n c env σ l h f = comes_as (exists x e) n c σ l
      comes_modulo (for_all x e) n c env σ l h f = comes_as (for_all x e) n c σ l
      comes_modulo (closure_of e) n c env σ l h f = comes_as (closure_of e) n c σ l
      comes_modulo (compare_relations g a b) n c env σ l h f = comes_as (compare_relations g a b) n c σ l
      comes_modulo (compare_figures g a b) n c env σ l h f = comes_as (compare_figures g a b) n c σ l

    -- and wholly, where its parts are small
    pub comes : (e : Expression) (n c : ℕ) (env : Environment) (σ : List ℕ) → Bounded w e → Lowered w β loops low e n c → Held w β loops vs ts store firsts e c → Fit [] env σ
        → figure Here (node_at low (root e n)) σ ≡ Definition.figure w ts env e
    comes e n c env σ b l h f = comes_modulo e n c env σ l h f ∙ wrapped_small (Definition.figure w ts env e) (b ts env).0 (b ts env).1
