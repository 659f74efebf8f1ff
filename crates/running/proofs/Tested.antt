-- The tests of IF and WHILE, and the sets of FORs, are what the definition says.
use Prim.Native.Nat.{ℕ, zero, suc, ◌+◌, ◌-◌, ◌%◌, ◌<◌}
use mathlib.Core.Path.{◌≡◌, refl, sym, ap, ap₂, subst, ◌∙◌}
use mathlib.Core.Bool.{Bool, cond}
use mathlib.Core.List.{List, [], ◌∷◌, map}
use native.Mathlib.Nat.{zero-add, add-zero}
use native.Mathlib.Omega.{arith}
use lib.ListN.{get_or, set, replicate}
use Rattle.definition.specs.Text.{Text, member, some_of, keep, from}
use Rattle.definition.specs.Syntax.{Expression}
use Rattle.definition.specs.Tables.{bit, word}
use Rattle.definition.specs.Accept.{Accepted, elements}
use Rattle.definition.specs.Meaning.{bind, mean}
use Rattle.definition.specs.Run.{point}
use Rattle.definition.proofs.RunLaws.{point_shaped}
use Rattle.definition.proofs.TableLaws.{bit_word}
use Rattle.definition.proofs.TupleLaws.{for_set}
use Rattle.words.specs.Raw.{size}
use Rattle.eval.specs.Nodes.{node_at, c_of}
use Rattle.eval.specs.Meaning.{world, meaning}
use Rattle.meaning.specs.Lowered.{Placed, none, leaves, expression}
use Rattle.meaning.specs.Ready.{Fits, HeldAll}
use Rattle.meaning.proofs.Fit.{fits_bind, rest_in}
use Rattle.actions.specs.Doing.{filled, test_by, range_by}
use Rattle.code.specs.Layout.{Laid}
use Rattle.code.specs.Statements.{Named, Whole, TestCode, RangeCode}
use Rattle.machine.specs.Actions.{Actions, Tests, Ranges, Handed, members, single, scope_environment, store_at}
use Rattle.machine.specs.Bound.{actions}
use Rattle.running.proofs.Scopes.{open_loops}
use Rattle.running.proofs.Parted.{Part, leaves_same}
use Rattle.running.proofs.Worked.{means_there, worked}

-- a statement with one expression, at p, after words that are no closures
abbrev pub only : Expression → ℕ → List Placed
only e p = record { expression = e; place = p; before = 0 } ∷ []

-- tests that agree on the numbers passed
keep_same : (p q : ℕ → Bool) (n a : ℕ) → ((i : ℕ) → i < n → p (a + i) ≡ q (a + i)) → keep p (from n a) ≡ keep q (from n a)
unfolding keep from
keep_same p q zero a h = refl
keep_same p q (suc n) a h =
    ap₂ (λ (b : Bool) (l : List ℕ). cond b (a ∷ l) l) (ap p (sym (add-zero a)) ∙ h 0 (omega arith) ∙ ap q (add-zero a))
    (keep_same p q n (suc a) (λ i l. let e : a + suc i ≡ suc a + i = omega arith in ap p (sym e) ∙ h (suc i) (omega arith) ∙ ap q e))

module _ (w : Accepted) (firsts : List ℕ) (scr : ℕ) (laid : Laid w firsts scr) (low : List ℕ) (prints : List ℕ → List ℕ → ℕ → Text) (query : Text) (scope : List Text) (s k : ℕ) (whole : Whole low s k) where
  abbrev u : ℕ
  u = elements w

  abbrev A : Actions
  A = actions low firsts u scr prints

  no_attribute : (β : Text → ℕ) → Named scope β → (vs store₀ : List ℕ) → Handed w A scope vs store₀ → Fits w β scope vs [] (scope_environment scope vs) (replicate 8 0)
  no_attribute β named vs store₀ h =
      record {
        long = refl;
        value = λ x m. absurd (unfold member some_of in m);
        within = λ x m. absurd (unfold member some_of in m);
        variables = open_loops w β scope named vs h.inside;
      }

  test_part : {e : Expression} (c : TestCode w query low scope s k e) → Part w c.β scope low s (size e + 0) k (only e s)
  test_part {e} c = record { named = c.named; whole = whole; own = omega (arith, c.own); words = expression e c.words none }

  pub tests_so : {e : Expression} → TestCode w query low scope s k e → Tests w A scope k e
  unfolding test_by HeldAll
  tests_so {e} c =
      record {
        leaves = leaves_same w firsts scr laid low (test_part c) A (λ vs store. refl);
        right = λ n vs store₀ h.
            means_there w firsts scr laid low (test_part c) (point w n).tables (point_shaped w n) vs store₀ h.long e s c.words
            (worked w firsts scr laid low (test_part c) (point w n).tables (point_shaped w n) vs store₀ h.long).held.0
            (scope_environment scope vs) (replicate 8 0) (subst (λ (xs : List Text). Fits w c.β scope vs xs (scope_environment scope vs) (replicate 8 0)) (sym c.none) (no_attribute c.β c.named vs store₀ h)) k c.own;
      }

  range_part : {e : Expression} (c : RangeCode w query low scope s k e) → Part w c.β scope low s (1 + (size e + 0)) k (only e (s + 1))
  range_part {e} c = record { named = c.named; whole = whole; own = omega (arith, c.own); words = leaves 1 c.first (expression e c.words none) }

  pub ranges_so : {e : Expression} → RangeCode w query low scope s k e → Ranges w A scope k e
  unfolding range_by HeldAll members
  ranges_so {e} c =
      record {
        leaves = leaves_same w firsts scr laid low (range_part c) A (λ vs store. refl);
        right = λ n vs store₀ h.
            let ts = (point w n).tables in
            let env = scope_environment scope vs in
            let x = c.attribute in
            let i = c_of (get_or low k 0) % 8 in
            let given : ℕ → Bool = λ v. meaning (world (filled low firsts u vs (store_at w A n store₀) k) firsts vs u) (node_at low (k - 1)) (set (replicate 8 0) i v) in
            for_set w ts env e x c.one
            ∙ ap (map single) (keep_same (λ a. mean w ts (bind x a env) e) (bit (word u 0 given)) u 0
            (λ a l. let l' : 0 + a < u = omega arith in
            sym (means_there w firsts scr laid low (range_part c) ts (point_shaped w n) vs store₀ h.long e (s + 1) c.words
            (worked w firsts scr laid low (range_part c) ts (point_shaped w n) vs store₀ h.long).held.0
            (bind x (0 + a) env) (set (replicate 8 0) i (0 + a))
            (subst (λ (xs : List Text). Fits w c.β scope vs xs (bind x (0 + a) env) (set (replicate 8 0) i (0 + a))) (sym c.one)
            (fits_bind w c.β scope vs c.named.naming {xs = []} x i (0 + a) c.place l' (λ y m d. rest_in x y [] m d) (no_attribute c.β c.named vs store₀ h)))
            k c.own)
            ∙ sym (bit_word u 0 given (0 + a) l' ∙ ap given (zero-add (0 + a)))));
      }
