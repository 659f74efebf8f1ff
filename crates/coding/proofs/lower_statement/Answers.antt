use native.Mathlib.Omega.{arith}
use Rattle.coding.proofs.Passing.{turned_over, turned}
use Rattle.coding.proofs.lower_statement.Goals as goal

pub returns-then-f-gt4 : goal.returns-then-f-gt4
returns-then-f-gt4 c = record { turned = turned_over _ _ _ _ _ _ c.args.words.now c.args.u _ c.args.s c.args.k _ c.collect-f.ensures _ c.if-f-gt4.true; small_2 = c.requires.small }

pub set_codes-requires : goal.set_codes-requires
set_codes-requires c = let p = c.requires.s_le_k in record { count_bound = (c.if-f-gt4.false, (omega arith, omega arith)); shallow = c.requires.shallow }

pub fill-requires : goal.fill-requires
fill-requires c = let p = c.requires.s_le_k in record { s_le_e = (omega arith, (omega arith, c.if-f-gt4.false)); small = c.requires.small }

pub lower_part-requires : goal.lower_part-requires
lower_part-requires c = let p = c.requires.s_le_k in (omega arith, omega arith)

pub returns : goal.returns
returns c = let a = c.args in
    let d = turned a.facts.now a.query.now a.places.now a.tokens.now a.ids.now a.known.now a.words.now a.u a.depths.now a.s a.k _ c.collect-f.ensures c.set_codes.new.codes c.fill.new.fr _ _ c.if-f-gt4.false c.set_codes.ensures c.fill.ensures.filled c.fill.ensures.small_2 c.lower_part.ensures in
    record { turned = d; small_2 = c.fill.ensures.small_2 }
