use native.Mathlib.Omega.{arith}
use mathlib.Core.Path.{sym}
use Rattle.std.proofs.lemmas.Result.{err_from_is_err_and}
use Rattle.parser.proofs.QueryLaws.{lexed_few, lexes, all_read, not_lexed}
use lib.Seq.{length-take-le}
use Rattle.parser.proofs.read_query.Goals as goal

pub slice_bounds-read_tokens-end : goal.slice_bounds-read_tokens-end
slice_bounds-read_tokens-end c = let h = lexed_few c.in_ok-n.was c.lex.ensures.within.0 in omega arith

pub slice_bounds-read_tokens-end-2 : goal.slice_bounds-read_tokens-end-2
slice_bounds-read_tokens-end-2 c = let h = lexed_few c.in_ok-n.was c.lex.ensures.within.0 in sym (length-take-le _ c.lex.new.words (omega (arith, c.lex.auto.words)))

pub read_tokens-requires : goal.read_tokens-requires
read_tokens-requires c = lexes _ c.lex.new.words c.in_ok-n.was c.lex.ensures.value c.lex.ensures.within.0 c.lex.ensures.within.1 (omega (arith, c.lex.auto.words)) (omega arith)

pub returns : goal.returns
returns c = let h = lexed_few c.in_ok-n.was c.lex.ensures.within.0 in all_read _ c.lex.new.words c.read_tokens.new.words c.in_ok-n.n c.read_tokens.result (omega (arith, c.lex.auto.words)) c.read_tokens.ensures

pub returns-in_err-n : goal.returns-in_err-n
returns-in_err-n c = let p = err_from_is_err_and c.from_residual.result c.from_residual.ensures.1 in
    rw (p.1, p.2) (not_lexed _ c.lex.new.words c.in_err-n.was c.lex.ensures.value)
