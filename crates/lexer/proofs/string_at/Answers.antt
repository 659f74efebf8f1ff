use mathlib.Core.Path.{sym, ◌∙◌}
use Prim.Native.Nat.{◌+◌, ◌-◌}
use Rattle.lexer.proofs.Strings.{string_closed, string_open, string_long, string_packs}
use Rattle.lexer.proofs.string_at.Goals as goal

pub returns-then-size-gt32 : goal.returns-then-size-gt32
returns-then-size-gt32 c = let f = c.run_end-end in
    let a = c.args in
    record { value = string_long a.text.now a.at f.result f.ensures.value c.if-size-gt32.true; small = tt }

pub returns-then-byte_at-ne34 : goal.returns-then-byte_at-ne34
returns-then-byte_at-ne34 c = let f = c.run_end-end in
    let a = c.args in
    record { value = string_open a.text.now a.at f.result f.ensures.value (λ e. c.if-byte_at-ne34.true (c.byte_at.ensures ∙ e)); small = tt }

pub returns : goal.returns
returns c = let f = c.run_end-end in
    let a = c.args in record { value = string_closed a.text.now a.at f.result f.ensures.value c.if-size-gt32.false (sym c.byte_at.ensures ∙ c.if-byte_at-ne34.false); small = string_packs (f.result - (a.at + 1)) c.if-size-gt32.false }
