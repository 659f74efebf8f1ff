-- Laws of quantities: `#(e)` counts the answers of e; comparison by cross products, false where a bottom is 0; plain sums as numbers.
use mathlib.Core.Path.{◌≡◌, refl, ap₂, ◌∙◌}
use mathlib.Core.Bool.{Bool, true, false, ◌&&◌, ◌||◌, not}
use mathlib.Core.List.{[]}
use Prim.Native.Nat.{ℕ, ◌*◌}
use native.Mathlib.Nat.{mul-one}
use lib.Dec.{eqb}
use lib.ListN.{length}
use borrow.Author.Tests.{ne_eqb, eq-eqb}
use Rattle.definition.specs.Text.{some_of, keep}
use Rattle.definition.specs.Token.{Sign}
use Rattle.definition.specs.Syntax.{Expression, truth, count_of, compare_figures}
use Rattle.definition.specs.Names.{attributes, free}
use Rattle.definition.specs.Tables.{tuples}
use Rattle.definition.specs.Accept.{Accepted}
use Rattle.definition.specs.Meaning.{Tables, Environment, compares, Figure, whole, top, bottom, compares_figures, readings, mean, figure, answers}

module _ (w : Accepted) (ts : Tables) (env : Environment) where
  -- "`#(e)` counts the assignments to e's free attributes that make e true": as many as the lines that PRINT would put for e
  pub counts_answers : (e : Expression) → figure w ts env (count_of e) ≡ whole (length (answers w ts env e))
  unfolding mean answers
  counts_answers e = refl

  -- "`#(TRUE())` is 1"
  pub counts_truth : figure w ts env (count_of (truth [])) ≡ whole 1
  unfolding mean free attributes tuples keep readings some_of
  counts_truth = refl

  pub compared : (g : Sign) (a b : Expression) → mean w ts env (compare_figures g a b) ≡ compares_figures g (figure w ts env a) (figure w ts env b)
  unfolding mean
  compared g a b = refl

or_true : (b : Bool) → (b || true) ≡ true
or_true true = refl
or_true false = refl

-- "A ratio with bottom 0 makes every comparison false", on either side and for all six signs
pub none_left_of : (g : Sign) (p q : Figure) → bottom p ≡ 0 → compares_figures g p q ≡ false
unfolding compares_figures
none_left_of g p q h = rw (eq-eqb (bottom p) 0 h)

pub none_right_of : (g : Sign) (p q : Figure) → bottom q ≡ 0 → compares_figures g p q ≡ false
unfolding compares_figures
none_right_of g p q h = rw (eq-eqb (bottom q) 0 h, or_true (eqb (bottom p) 0))

-- "Ratios compare by cross products"
pub cross : (g : Sign) (p q : Figure) → (bottom p ≡ 0 → ⊥) → (bottom q ≡ 0 → ⊥) → compares_figures g p q ≡ compares g (top p * bottom q) (top q * bottom p)
unfolding compares_figures
cross g p q h i = rw (ne_eqb (bottom p) 0 h, ne_eqb (bottom q) 0 i)

-- plain sums compare as numbers
pub wholes : (g : Sign) (a b : ℕ) → compares_figures g (whole a) (whole b) ≡ compares g a b
unfolding compares_figures
wholes g a b = ap₂ (compares g) (mul-one a) (mul-one b)
