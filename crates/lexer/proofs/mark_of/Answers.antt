use mathlib.Core.Path.{refl, ◌∙◌}
use Rattle.definition.specs.Text.{starts}
use Rattle.definition.specs.Token.{first_mark, marks}
use Rattle.lexer.specs.Tokens.{terminal_of, sign_of, quote_of}
use Rattle.lexer.proofs.Marks.{is_mark, small, no_mark, colon, bang, dash, less, more}
use Rattle.lexer.proofs.mark_of.Goals as goal

pub returns-in-40 : goal.returns-in-40
unfolding first_mark marks starts terminal_of sign_of quote_of
returns-in-40 c = is_mark refl c.in-40.is (record { piece = λ xs. refl; small = small 0 1 tt tt })

pub returns-in-41 : goal.returns-in-41
unfolding first_mark marks starts terminal_of sign_of quote_of
returns-in-41 c = is_mark refl c.in-41.is (record { piece = λ xs. refl; small = small 1 1 tt tt })

pub returns-in-123 : goal.returns-in-123
unfolding first_mark marks starts terminal_of sign_of quote_of
returns-in-123 c = is_mark refl c.in-123.is (record { piece = λ xs. refl; small = small 2 1 tt tt })

pub returns-in-125 : goal.returns-in-125
unfolding first_mark marks starts terminal_of sign_of quote_of
returns-in-125 c = is_mark refl c.in-125.is (record { piece = λ xs. refl; small = small 3 1 tt tt })

pub returns-in-91 : goal.returns-in-91
unfolding first_mark marks starts terminal_of sign_of quote_of
returns-in-91 c = is_mark refl c.in-91.is (record { piece = λ xs. refl; small = small 4 1 tt tt })

pub returns-in-93 : goal.returns-in-93
unfolding first_mark marks starts terminal_of sign_of quote_of
returns-in-93 c = is_mark refl c.in-93.is (record { piece = λ xs. refl; small = small 5 1 tt tt })

pub returns-in-44 : goal.returns-in-44
unfolding first_mark marks starts terminal_of sign_of quote_of
returns-in-44 c = is_mark refl c.in-44.is (record { piece = λ xs. refl; small = small 6 1 tt tt })

pub returns-in-59 : goal.returns-in-59
unfolding first_mark marks starts terminal_of sign_of quote_of
returns-in-59 c = is_mark refl c.in-59.is (record { piece = λ xs. refl; small = small 7 1 tt tt })

pub returns-in-58 : goal.returns-in-58
returns-in-58 c = let a = c.args in
    is_mark c.longer.ensures c.in-58.is (colon a.y a.z)

pub returns-in-38 : goal.returns-in-38
unfolding first_mark marks starts terminal_of sign_of quote_of
returns-in-38 c = is_mark refl c.in-38.is (record { piece = λ xs. refl; small = small 9 1 tt tt })

pub returns-in-124 : goal.returns-in-124
unfolding first_mark marks starts terminal_of sign_of quote_of
returns-in-124 c = is_mark refl c.in-124.is (record { piece = λ xs. refl; small = small 10 1 tt tt })

pub returns-in-33 : goal.returns-in-33
returns-in-33 c = let a = c.args in
    is_mark c.longer-in-33.ensures c.in-33.is (bang a.y a.z)

pub returns-in-45 : goal.returns-in-45
returns-in-45 c = let a = c.args in
    is_mark c.longer-in-45.ensures c.in-45.is (dash a.y a.z)

pub returns-in-61 : goal.returns-in-61
unfolding first_mark marks starts terminal_of sign_of quote_of
returns-in-61 c = is_mark refl c.in-61.is (record { piece = λ xs. refl; small = small 41 1 tt tt })

pub returns-in-60 : goal.returns-in-60
returns-in-60 c = let a = c.args in
    is_mark (c.both_ways.ensures ∙ rw c.longer-in-60.ensures) c.in-60.is (less a.y a.z)

pub returns-in-62 : goal.returns-in-62
returns-in-62 c = let a = c.args in
    is_mark c.longer-in-62.ensures c.in-62.is (more a.y a.z)

pub returns-in-64 : goal.returns-in-64
unfolding first_mark marks starts terminal_of sign_of quote_of
returns-in-64 c = is_mark refl c.in-64.is (record { piece = λ xs. refl; small = small 49 1 tt tt })

pub returns-in-35 : goal.returns-in-35
unfolding first_mark marks starts terminal_of sign_of quote_of
returns-in-35 c = is_mark refl c.in-35.is (record { piece = λ xs. refl; small = small 50 1 tt tt })

pub returns-in-43 : goal.returns-in-43
unfolding first_mark marks starts terminal_of sign_of quote_of
returns-in-43 c = is_mark refl c.in-43.is (record { piece = λ xs. refl; small = small 51 1 tt tt })

pub returns-in-47 : goal.returns-in-47
unfolding first_mark marks starts terminal_of sign_of quote_of
returns-in-47 c = is_mark refl c.in-47.is (record { piece = λ xs. refl; small = small 52 1 tt tt })

pub returns-in_default : goal.returns-in_default
returns-in_default c = let a = c.args in no_mark a.x a.y a.z c.in_default.in_default-own.rest
