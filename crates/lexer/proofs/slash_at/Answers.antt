use mathlib.Core.Path.{◌≡◌, sym, ◌∙◌}
use mathlib.Core.Bool.{not}
use Prim.Native.Nat.{◌+◌, ◌-◌}
use native.Mathlib.Omega.{arith}
use lib.Dec.{eqb}
use lib.ListN.{drop}
use Rattle.definition.specs.Text.{span}
use Rattle.lexer.proofs.Pieces.{line_comment, open_comment, no_comment, byte_within}
use Rattle.lexer.proofs.slash_at.Goals as goal

pub comment_at-requires : goal.comment_at-requires
comment_at-requires c = let a = c.args in
    omega (arith, byte_within a.text.now (a.at + 1) 41 (sym c.byte_at-next.ensures ∙ c.if-next-eq42.true))

pub returns-then-next-eq42 : goal.returns-then-next-eq42
returns-then-next-eq42 c = let a = c.args in
    let h = c.requires in record { value = c.comment_at.ensures.value ∙ open_comment a.text.now a.at h.0 h.1 (sym c.byte_at-next.ensures ∙ c.if-next-eq42.true); small = c.comment_at.ensures.small }

pub returns-then-next-eq47 : goal.returns-then-next-eq47
returns-then-next-eq47 c = let a = c.args in
    let h = c.requires in
    let e : c.run_end.result - a.at ≡ span (λ y. not (eqb y 10)) (drop a.at a.text.now) = omega (arith, c.run_end.ensures.value) in record { value = rw e (line_comment a.text.now a.at h.0 h.1 (sym c.byte_at-next.ensures ∙ c.if-next-eq47.true)); small = tt }

pub returns : goal.returns
returns c = let a = c.args in
    let h = c.requires in
    let y = c.byte_at-next.ensures in record { value = c.mark_at.ensures.value ∙ no_comment a.text.now a.at h.0 h.1 (λ e. c.if-next-eq47.false (y ∙ e)) (λ e. c.if-next-eq42.false (y ∙ e)); small = c.mark_at.ensures.small }
