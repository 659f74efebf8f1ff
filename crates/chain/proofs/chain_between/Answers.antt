use native.Mathlib.Omega.{arith}
use Rattle.chain.proofs.Asking.{read_short, between, rows_length}
use Rattle.chain.proofs.chain_between.Goals as goal

pub fill_rows-requires : goal.fill_rows-requires
fill_rows-requires c = read_short _ _ c.requires.by_index.1.read

pub find_chain-requires : goal.find_chain-requires
find_chain-requires c = let a = c.args in
    let h = c.requires in
    let few = h.by_index.1.few in
    let n = rows_length a.facts.now a.universe.now h.by_index.0 a.name.now h.by_index.1 a.rows.now _ h.rows_value.0 c.fill_rows.ensures in
    (omega (arith, n, few), omega (arith, n, h.rows_value.1), omega (arith, n, h.rows_value.2), h.rows_value.3)

pub returns : goal.returns
returns c = let a = c.args in
    let h = c.requires in
    between a.facts.now a.universe.now h.by_index.0 a.name.now h.by_index.1 a.rows.now _ h.rows_value.0 c.fill_rows.ensures a.a a.b a.buffer.now _ _ c.find_chain.ensures
