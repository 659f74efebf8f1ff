use Prim.Native.Nat.{◌-◌}
use native.Mathlib.Omega.{arith}
use lib.ListN.{drop}
use Rattle.lexer.proofs.Numerals.{numeral_long, numeral_number, numeral_large, number_packs, large_packs}
use Rattle.lexer.proofs.digits_at.Goals as goal

pub returns-then-n-gt32 : goal.returns-then-n-gt32
returns-then-n-gt32 c = let a = c.args in
    let e = c.run_end-end in
    record { value = numeral_long (drop a.at a.text.now) (e.result - a.at) (omega (arith, e.ensures.value)) c.if-n-gt32.true; small = tt }

pub returns-then-value-lt1000000 : goal.returns-then-value-lt1000000
returns-then-value-lt1000000 c = let a = c.args in
    let e = c.run_end-end in
    let short = c.if-n-gt32.false in record { value = numeral_number (drop a.at a.text.now) (e.result - a.at) (omega (arith, e.ensures.value)) short (omega (arith, c.value.ensures, c.if-value-lt1000000.true)); small = number_packs (e.result - a.at) short }

pub returns : goal.returns
returns c = let a = c.args in
    let e = c.run_end-end in
    let short = c.if-n-gt32.false in record { value = numeral_large (drop a.at a.text.now) (e.result - a.at) (omega (arith, e.ensures.value)) short (omega (arith, c.value.ensures, c.if-value-lt1000000.false)); small = large_packs (e.result - a.at) short }
