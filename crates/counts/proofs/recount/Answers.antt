use native.Mathlib.Omega.{arith}
use Rattle.counts.proofs.Ones.{few_words, recount_wide, recount_past, recount_none, part_short, part_counted}
use Rattle.counts.proofs.recount.Goals as goal

pub returns-then-n-gt4 : goal.returns-then-n-gt4
returns-then-n-gt4 c = recount_wide _ _ _ _ _ _ (omega arith)

pub returns-then-room-len : goal.returns-then-room-len
returns-then-room-len c = recount_past _ _ _ _ _ _ (omega (arith, c.table_words-len.ensures))

pub returns-then-room-len-2 : goal.returns-then-room-len-2
returns-then-room-len-2 c = recount_past _ _ _ _ _ _ (omega (arith, c.table_words-len.ensures))

pub count_words-requires : goal.count_words-requires
count_words-requires c = let a = c.args in
    part_short a.store.now a.off _ (omega (arith, c.table_words-len.ensures, few_words a.u a.n (omega arith) (omega arith)))

pub returns-then-k-lt16 : goal.returns-then-k-lt16
returns-then-k-lt16 c = let a = c.args in
    part_counted a.store.now a.off a.u a.n a.k a.counts.now (omega arith) _ c.table_words-len.ensures (omega arith) (omega arith) _ c.count_words.ensures

pub returns-else-k-lt16 : goal.returns-else-k-lt16
returns-else-k-lt16 c = recount_none _ _ _ _ _ _ (omega arith) (omega (arith, c.table_words-len.ensures)) (omega arith)
