use Rattle.kinds.proofs.Steps.{fresh_small, use_keep, use_fresh, use_full, use_kind, use_arity}
use native.Mathlib.Omega.{arith}
use Rattle.kinds.proofs.use_at.Goals as goal

pub returns-then-count-ge16 : goal.returns-then-count-ge16
returns-then-count-ge16 c = use_full _ _ _ _ _ _ _ _ _ _ _ _ c.word_at-w.ensures c.word_at-j.ensures c.word_at-k.ensures c.judge-a.ensures _ c.in-Fresh.is c.if-count-ge16.true

pub overflow_add-count-in-Fresh : goal.overflow_add-count-in-Fresh
overflow_add-count-in-Fresh c = omega (arith, fresh_small _ _ _ _ _ c.judge-a.ensures c.in-Fresh.is)

pub overflow_add-at-in-Fresh-2 : goal.overflow_add-at-in-Fresh-2
overflow_add-at-in-Fresh-2 c = omega (arith, fresh_small _ _ _ _ _ c.judge-a.ensures c.in-Fresh.is)

pub returns-in-Keep : goal.returns-in-Keep
returns-in-Keep c = (use_keep _ _ _ _ _ _ _ _ _ _ _ _ c.word_at-w.ensures c.word_at-j.ensures c.word_at-k.ensures c.judge-a.ensures _ _ c.in-Keep.is c.put_at.ensures, omega (arith, c.requires))

pub returns-else-count-ge16 : goal.returns-else-count-ge16
returns-else-count-ge16 c = (use_fresh _ _ _ _ _ _ _ _ _ _ _ _ c.word_at-w.ensures c.word_at-j.ensures c.word_at-k.ensures c.judge-a.ensures _ _ _ c.in-Fresh.is c.if-count-ge16.false c.put_at-in-Fresh.ensures c.put_relation.ensures, omega arith)

pub returns-in-Kind : goal.returns-in-Kind
returns-in-Kind c = use_kind _ _ _ _ _ _ _ _ _ _ _ _ c.word_at-w.ensures c.word_at-j.ensures c.word_at-k.ensures c.judge-a.ensures c.in-Kind.is

pub returns-in-Arity : goal.returns-in-Arity
returns-in-Arity c = use_arity _ _ _ _ _ _ _ _ _ _ _ _ c.word_at-w.ensures c.word_at-j.ensures c.word_at-k.ensures c.judge-a.ensures c.in-Arity.is
