use mathlib.Core.Path.{sym, subst, ◌∙◌}
use Prim.Native.Nat.{ℕ, ◌-◌, ◌<◌}
use native.Mathlib.Omega.{arith}
use lib.ListN.{drop}
use Rattle.std.specs.Prelude.{Option}
use Rattle.texts.specs.Words.{index_of}
use Rattle.lexer.proofs.Identifiers.{word_long, word_any, word_reserved, word_name, any_packs, reserved_packs, name_packs}
use Rattle.lexer.proofs.word_at.Goals as goal

pub returns-then-n-gt32 : goal.returns-then-n-gt32
returns-then-n-gt32 c = let a = c.args in
    let e = c.run_end-end in
    record { value = word_long (drop a.at a.text.now) (e.result - a.at) (omega (arith, e.ensures.value)) c.if-n-gt32.true; small = tt }

pub returns-then-same : goal.returns-then-same
returns-then-same c = let a = c.args in
    let e = c.run_end-end in record { value = word_any (drop a.at a.text.now) (e.result - a.at) (omega (arith, e.ensures.value)) c.if-n-gt32.false (sym c.same.ensures ∙ c.if-same.true); small = any_packs }

pub overflow_add-result : goal.overflow_add-result
overflow_add-result c = let h = subst (λ (w : Option ℕ). index_of w < 26) c.in-Some.is c.reserved_word.ensures.index in
    omega arith

pub returns-in-Some : goal.returns-in-Some
returns-in-Some c = let a = c.args in
    let e = c.run_end-end in
    let w = c.reserved_word in
    let h = subst (λ (w : Option ℕ). index_of w < 26) c.in-Some.is w.ensures.index in record {
      value = word_reserved (drop a.at a.text.now) (e.result - a.at) (omega (arith, e.ensures.value)) c.if-n-gt32.false c.in-Some.k h
          (sym c.same.ensures ∙ c.if-same.false) (λ i. w.ensures.terminal i ∙ rw c.in-Some.is);
      small = reserved_packs c.in-Some.k (e.result - a.at) h c.if-n-gt32.false;
    }

pub returns-in-None : goal.returns-in-None
returns-in-None c = let a = c.args in
    let e = c.run_end-end in
    let w = c.reserved_word in record {
      value = word_name (drop a.at a.text.now) (e.result - a.at) (omega (arith, e.ensures.value)) c.if-n-gt32.false
          (sym c.same.ensures ∙ c.if-same.false) (λ i. w.ensures.terminal i ∙ rw c.in-None.is);
      small = name_packs (e.result - a.at) c.if-n-gt32.false;
    }
