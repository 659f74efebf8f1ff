-- A statement's words, from its first one up to its own: where its closures are worked out, and that the store is left as it was.
use Prim.Native.Nat.{ℕ, ◌+◌, ◌-◌, ◌*◌, ◌<◌, ◌≤◌}
use mathlib.Core.Path.{◌≡◌, refl, ap, ap₂, subst, ◌∙◌}
use mathlib.Core.Bool.{true}
use mathlib.Core.List.{List}
use native.Mathlib.Nat.{mul-le-mul_right}
use native.Mathlib.Omega.{arith}
use lib.ListN.{length, get_or}
use Rattle.definition.specs.Text.{Text}
use Rattle.definition.specs.Accept.{Accepted, elements, relation_words, scratch_words}
use Rattle.definition.specs.Meaning.{Tables}
use Rattle.definition.specs.Run.{point}
use Rattle.definition.specs.Claim.{store_image}
use Rattle.definition.proofs.RunLaws.{Shaped, image_length, point_shaped}
use Rattle.words.specs.Fields.{kind_of}
use Rattle.eval.specs.Nodes.{c_of}
use Rattle.closures.specs.Filling.{fill_words}
use Rattle.meaning.specs.Lowered.{Placed, Sequence}
use Rattle.actions.specs.Parts.{start, clear_words}
use Rattle.actions.specs.Doing.{filled, cleared, left_by}
use Rattle.actions.proofs.Restored.{touched, touching, restored}
use Rattle.actions.proofs.Parts.{start_quiet}
use Rattle.code.specs.Layout.{Laid}
use Rattle.code.specs.Statements.{Named, Whole}
use Rattle.machine.specs.Actions.{Actions, Leaves}
use Rattle.running.proofs.Numbered.{few_sequence}
use Rattle.running.proofs.Stores.{zero_behind}

-- m words from s on with the expressions es, and the own word of their statement at k
pub record Part (w : Accepted) (β : Text → ℕ) (scope : List Text) (low : List ℕ) (s m k : ℕ) (es : List Placed) : Type 0 where
  pub named : Named scope β
  pub whole : Whole low s k
  pub own : k ≡ s + m
  pub words : Sequence w β scope low s m 0 es

module _ (w : Accepted) (firsts : List ℕ) (scr : ℕ) (laid : Laid w firsts scr) (low : List ℕ) {β : Text → ℕ} {scope : List Text} {s m k : ℕ} {es : List Placed}
    (part : Part w β scope low s m k es) where
  abbrev u : ℕ
  u = elements w

  abbrev base : ℕ
  base = relation_words u w.relations

  starts : start low k ≡ s
  starts = ap (start low) part.own ∙ start_quiet low s m part.whole.begins (λ i h l. part.whole.quiet i h (omega (arith, part.own)))

  count : k - start low k ≡ m
  count = omega (arith, starts, part.own)

  pub filled_as : (vs store : List ℕ) → filled low firsts u vs store k ≡ fill_words firsts vs u low m s store
  unfolding filled
  filled_as vs store = ap₂ (λ (a b : ℕ). fill_words firsts vs u low a b store) count starts

  pub cleared_as : (store : List ℕ) → cleared low firsts u store k ≡ clear_words firsts u low m s store
  unfolding cleared
  cleared_as store = ap₂ (λ (a b : ℕ). clear_words firsts u low a b store) count starts

  -- a word of a closure's table stands in the scratch words
  pub record InScratch (i : ℕ) : Type 0 where
    pub low_end : base ≤ i
    pub high_end : i < base + 16 * u

  pub in_scratch : (vs : List ℕ) (size i : ℕ) → touched firsts vs u low size m s i ≡ true → InScratch i
  in_scratch vs size i e =
      let t = touching firsts vs u low size m s i e in
      let q : s + (t.place - s) ≡ t.place = omega (arith, t.after) in
      let f : c_of (get_or low t.place 0) < 16 =
      subst (λ (j : ℕ). kind_of (get_or low j 0) ≡ 21 → c_of (get_or low j 0) < 16) q ((few_sequence w β scope low part.words).few (t.place - s) (omega (arith, t.after, t.before))) t.closure in
      let p : get_or firsts (16 + c_of (get_or low t.place 0)) 0 ≡ base + c_of (get_or low t.place 0) * u = laid.closures (c_of (get_or low t.place 0)) f in
      record { low_end = omega (arith, t.low); high_end = omega (arith, t.high, mul-le-mul_right u f) }

  -- at every point of the run the closures' words are zero
  pub closures_zero : (ts : Tables) → Shaped u w.relations ts → (vs store₀ : List ℕ) (size i : ℕ) → touched firsts vs u low size m s i ≡ true → get_or (store_image w ts store₀) i 0 ≡ 0
  unfolding scratch_words
  closures_zero ts shaped vs store₀ size i e =
      let t = in_scratch vs size i e in
      zero_behind w ts (image_length shaped) store₀ i t.low_end (omega (arith, t.high_end))

  -- so an action that changes no table leaves the store as it was
  pub leaves_same : (A : Actions) → ((vs store : List ℕ) → A.leaves vs store k ≡ left_by low firsts u vs store k) → Leaves w A scope k
  unfolding left_by
  leaves_same A same =
      record {
        right = λ n vs store₀ h.
            let S = store_image w (point w n).tables store₀ in
            same vs S
            ∙ ap (λ (x : List ℕ). cleared low firsts u x k) (filled_as vs S)
            ∙ cleared_as (fill_words firsts vs u low m s S)
            ∙ restored firsts vs u low (length S) m s S refl (λ i e. closures_zero (point w n).tables (point_shaped w n) vs store₀ (length S) i e);
      }
