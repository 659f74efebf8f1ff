-- A statement's closures, once they are worked out at a point of the run; and what its expressions then mean.
use Prim.Native.Nat.{ℕ, ◌+◌, ◌-◌, ◌*◌, ◌≤◌}
use mathlib.Core.Path.{◌≡◌, ap₂, ◌∙◌}
use mathlib.Core.List.{List, ◌++◌}
use native.Mathlib.Omega.{arith}
use lib.ListN.{length, take, drop, replicate}
use lib.Seq.{take_at}
use Rattle.definition.specs.Text.{Text}
use Rattle.definition.specs.Syntax.{Expression}
use Rattle.definition.specs.Names.{free}
use Rattle.definition.specs.Accept.{Accepted, elements, relation_words, scratch_words, words_needed}
use Rattle.definition.specs.Meaning.{Tables, Environment, mean}
use Rattle.definition.specs.Claim.{table_image, store_image}
use Rattle.definition.proofs.RunLaws.{Shaped, image_length}
use Rattle.words.specs.Raw.{size}
use Rattle.eval.specs.Nodes.{node_at}
use Rattle.eval.specs.Meaning.{world, meaning}
use Rattle.closures.specs.Filling.{fill_words}
use Rattle.meaning.specs.Lowered.{Placed, Lowered}
use Rattle.meaning.specs.Ready.{Fits, Tabled, Held}
use Rattle.meaning.proofs.Stored.{stored}
use Rattle.meaning.proofs.Filled.{shorter}
use Rattle.meaning.proofs.Statements.{FilledAll, filled_all}
use Rattle.meaning.proofs.Means.{means}
use Rattle.actions.specs.Doing.{filled}
use Rattle.code.specs.Layout.{Laid}
use Rattle.running.proofs.Stores.{room}
use Rattle.running.proofs.Parted.{Part, filled_as}

module _ (w : Accepted) (firsts : List ℕ) (scr : ℕ) (laid : Laid w firsts scr) (low : List ℕ) {β : Text → ℕ} {scope : List Text} {s m k : ℕ} {es : List Placed}
    (part : Part w β scope low s m k es) (ts : Tables) (shaped : Shaped (elements w) w.relations ts) (vs store₀ : List ℕ) (long : words_needed w ≤ length store₀) where
  abbrev pub u : ℕ
  u = elements w

  abbrev pub base : ℕ
  base = relation_words u w.relations

  -- the store before and after the closures are worked out
  abbrev pub before : List ℕ
  before = store_image w ts store₀

  abbrev pub after : List ℕ
  after = fill_words firsts vs u low m s before

  pub tabled_at : (t : List ℕ) → take base t ≡ table_image ts → Tabled w β scope vs ts t firsts
  tabled_at = stored w β scope vs ts firsts shaped laid.relations

  pub front_before : take base before ≡ table_image ts
  unfolding store_image
  front_before = take_at (table_image ts) (replicate (scratch_words w) 0 ++ drop (words_needed w) store₀) base (image_length shaped)

  pub worked : FilledAll w β scope vs part.named.naming low ts firsts base laid.closures (table_image ts) tabled_at before after 0 es
  worked = filled_all w β scope vs part.named.naming low ts firsts base laid.closures (table_image ts) tabled_at s m 0 es before part.words (room w ts (image_length shaped) store₀ long) front_before

  pub front_after : take base after ≡ table_image ts
  front_after = shorter base (base + 0 * u) before after (omega arith) worked.front ∙ front_before

  -- an expression whose closures are the statement's first
  pub means_there : (e : Expression) (p : ℕ) → Lowered w β scope low e p 0 → Held w β scope vs ts after firsts e 0 → (env : Environment) (σ : List ℕ) → Fits w β scope vs (free w.variables e) env σ
      → (at : ℕ) → at ≡ p + size e → meaning (world (filled low firsts u vs before k) firsts vs u) (node_at low (at - 1)) σ ≡ mean w ts env e
  means_there e p l h env σ f at q =
      ap₂ (λ (x : List ℕ) (j : ℕ). meaning (world x firsts vs u) (node_at low (j - 1)) σ) (filled_as w firsts scr laid low part vs before) q
      ∙ means w β scope vs part.named.naming low ts after firsts (tabled_at after front_after) e p 0 env σ l h f
