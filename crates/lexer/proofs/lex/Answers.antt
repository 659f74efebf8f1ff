use mathlib.Core.Path.{subst, ◌∙◌}
use native.Mathlib.Nat.{zero-add, not-suc-le-zero}
use native.Mathlib.Omega.{arith}
use Rattle.definition.specs.Text.{span, is_legal}
use Rattle.lexer.specs.Scans.{Scanned}
use Rattle.lexer.proofs.Queries.{too_long, no_token, bad_byte, too_many, all_read, all_inside}
use Rattle.lexer.proofs.lex.Goals as goal

pub returns-then-query-gt16384 : goal.returns-then-query-gt16384
returns-then-query-gt16384 c = record { value = too_long c.args.query.now c.if-query-gt16384.true; within = (omega arith, λ i l. absurd (not-suc-le-zero l)) }

pub returns-then-legal-query : goal.returns-then-legal-query
returns-then-legal-query c = let q = c.args.query.now in
    let f = c.scan_query in
    let e = c.run_end-legal.ensures.value ∙ zero-add (span is_legal q) in
    let h = c.if-query-gt16384.false in
    let b = subst (Scanned q f.new.words) c.in-Ok.is f.ensures in
    record { value = rw e (bad_byte q h b (rw e at c.if-legal-query.true)); within = (omega arith, λ i l. absurd (not-suc-le-zero l)) }

pub returns-then-count-gt2048 : goal.returns-then-count-gt2048
returns-then-count-gt2048 c = let q = c.args.query.now in
    let f = c.scan_query in
    let e = c.run_end-legal.ensures.value ∙ zero-add (span is_legal q) in
    let h = c.if-query-gt16384.false in
    let b = subst (Scanned q f.new.words) c.in-Ok.is f.ensures in
    record { value = too_many q h b (rw e at c.if-legal-query.false) c.if-count-gt2048.true; within = (omega arith, λ i l. absurd (not-suc-le-zero l)) }

pub returns-in-Err : goal.returns-in-Err
returns-in-Err c = let q = c.args.query.now in
    let f = c.scan_query in
    let e = c.run_end-legal.ensures.value ∙ zero-add (span is_legal q) in
    let h = c.if-query-gt16384.false in
    let b = subst (Scanned q f.new.words) c.in-Err.is f.ensures in
    record { value = rw (c.min.ensures, e) (no_token q h b); within = (omega arith, λ i l. absurd (not-suc-le-zero l)) }

pub returns-else-count-gt2048 : goal.returns-else-count-gt2048
returns-else-count-gt2048 c = let q = c.args.query.now in
    let f = c.scan_query in
    let e = c.run_end-legal.ensures.value ∙ zero-add (span is_legal q) in
    let h = c.if-query-gt16384.false in
    let b = subst (Scanned q f.new.words) c.in-Ok.is f.ensures in
    record { value = all_read q h b (rw e at c.if-legal-query.false) c.if-count-gt2048.false (omega (arith, f.auto)); within = (c.if-count-gt2048.false, all_inside q h b c.if-count-gt2048.false (omega (arith, f.auto))) }
