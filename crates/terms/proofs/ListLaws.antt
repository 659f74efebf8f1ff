-- A list of terms in brackets, read from left to right.
use Rattle.std.specs.Prelude.{Ok, Err}
use mathlib.Core.List.{List, [], ◌∷◌, ◌++◌, append_assoc}
use mathlib.Core.Path.{◌≡◌, refl, sym, subst, ◌∙◌}
use native.Mathlib.Omega.{arith}
use Prim.Native.Nat.{ℕ, ◌+◌, ◌*◌, ◌≤◌}
use lib.ListN.{length, set, length-set}
use Rattle.definition.specs.Token.{COMMA, RPAREN}
use Rattle.terms.proofs.LeafLaws.{leaf_within}
use Rattle.terms.proofs.TokenLaws.{kind_within}
use Rattle.terms.proofs.WriteLaws.{wrote_none, wrote_next}
use Rattle.terms.specs.declared.ParseError.TheVariants.{NoProgram}
use Rattle.terms.specs.Phrases.{kind_in, Wrote}
use Rattle.terms.specs.Terms.{leaf_in, Items, last_item, more_items, Broken, no_item, no_comma, later, no_items, items, IsListed}

-- the terms from p up to q are read, and another must stand at q
pub record Run (ws : List ℕ) (k p n : ℕ) (A A' : List ℕ) (q m : ℕ) : Type 0 where
  pub unclosed : kind_in ws p ≡ RPAREN → ⊥
  pub sofar : List ℕ
  pub on : (r : ℕ) (xs : List ℕ) → Items ws k q r xs → Items ws k p r (sofar ++ xs)
  pub bad : (r : ℕ) → Broken ws k q r → Broken ws k p r
  pub wrote : Wrote A n sofar m A'
  pub long : length A' ≡ length A
  pub used : n ≤ m
  pub paid : 2 * m + p ≡ 2 * n + q
  pub place : q ≤ length ws

pub run_starts : {ws : List ℕ} {k p n : ℕ} {A : List ℕ} → (kind_in ws p ≡ RPAREN → ⊥) → p ≤ length ws → Run ws k p n A A p n
run_starts {n = n} {A} h l = record { unclosed = h; sofar = []; on = λ r xs i. i; bad = λ r b. b; wrote = wrote_none A n; long = refl; used = omega arith; paid = refl; place = l }

module _ {ws : List ℕ} {k p n : ℕ} {A A' : List ℕ} {q m : ℕ} (f : Run ws k p n A A' q m) where
  pub run_none : leaf_in ws q k ≡ 0 → IsListed ws k p n A A' (Err (NoProgram q))
  run_none e = record { is = record { ten = refl; unclosed = f.unclosed; broken = f.bad q (no_item e); within = f.place } }

  module _ (w : ℕ) (is : w ≡ leaf_in ws q k) (some : w ≡ 0 → ⊥) where
    there : leaf_in ws q k ≡ 0 → ⊥
    there e = some (is ∙ e)

    pub run_stops : (kind_in ws (q + 1) ≡ RPAREN → ⊥) → (kind_in ws (q + 1) ≡ COMMA → ⊥) → {B : List ℕ} → IsListed ws k p n A B (Err (NoProgram (q + 1)))
    run_stops g h = let l = leaf_within ws q k there in record { is = record { ten = refl; unclosed = f.unclosed; broken = f.bad (q + 1) (no_comma there g h); within = omega arith } }

    pub run_ends : kind_in ws (q + 1) ≡ RPAREN → IsListed ws k p n A (set A' m w) (Ok (q + 2, m + 1))
    run_ends e =
        let l = kind_within ws (q + 1) (omega arith) in
        record {
          is = record {
            words = f.sofar ++ (w ∷ []);
            brackets = items {p = p} {q = q + 2} {xs = f.sofar ++ (w ∷ [])} (rw is (f.on (q + 2) (leaf_in ws q k ∷ []) (last_item there e)));
            wrote = wrote_next f.wrote w;
            more = omega (arith, f.used);
            far = omega (arith, f.used, f.paid);
            paid = omega (arith, f.paid);
            within = omega arith;
          };
        }

    pub run_on : kind_in ws (q + 1) ≡ COMMA → Run ws k p n A (set A' m w) (q + 2) (m + 1)
    run_on e =
        let l = kind_within ws (q + 1) (omega arith) in
        record {
          unclosed = f.unclosed;
          sofar = f.sofar ++ (w ∷ []);
          on = λ r xs i. subst (λ ys. Items ws k p r ys) (sym (append_assoc f.sofar (w ∷ []) xs)) (rw is (f.on r (leaf_in ws q k ∷ xs) (more_items there e i)));
          bad = λ r b. f.bad r (later there e b);
          wrote = wrote_next f.wrote w;
          long = length-set A' m w ∙ f.long;
          used = omega (arith, f.used);
          paid = omega (arith, f.paid);
          place = omega arith;
        }

pub run_empty : {ws : List ℕ} {k p n : ℕ} {A : List ℕ} → kind_in ws p ≡ RPAREN → IsListed ws k p n A A (Ok (p + 1, n))
run_empty {ws} {k} {p} {n} {A} e =
    let l = kind_within ws p (omega arith) in
    record { is = record { words = []; brackets = no_items e; wrote = wrote_none A n; more = omega arith; far = omega arith; paid = omega arith; within = omega arith } }
