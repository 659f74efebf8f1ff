use mathlib.Core.Path.{sym, subst, ◌∙◌}
use Rattle.definition.specs.Answer.{Answer}
use Rattle.definition.specs.Calls.{Asked, chain_meets}
use native.Mathlib.Omega.{arith}
use borrow.Author.Tests.{not-true, not-false}
use lib.Seq.{length-take-le}
use Rattle.chain.proofs.Asking.{read_ascending, no_name, no_first, no_second, no_room, refused_15, refused_16, short_room, no_element, an_element, in_facts, take_zeros}
use Rattle.chain.proofs.chain_in.Goals as goal

pub returns-then-not-is_binary : goal.returns-then-not-is_binary
returns-then-not-is_binary c = refused_15 _ _ _ (no_name _ _ _ _ _ (sym c.is_binary.ensures ∙ not-true _ c.if-not-is_binary.true-raw))

pub returns-then-a-u : goal.returns-then-a-u
returns-then-a-u c = refused_15 _ _ _ (no_first _ _ _ _ _ (sym c.is_binary.ensures ∙ not-false _ c.if-not-is_binary.false-raw) (no_element _ _ _ _ c.position_of-a.ensures.value c.if-a-u.true))

pub returns-then-b-u : goal.returns-then-b-u
returns-then-b-u c = refused_15 _ _ _ (no_second _ _ _ _ _ (sym c.is_binary.ensures ∙ not-false _ c.if-not-is_binary.false-raw) (an_element _ _ _ (read_ascending c.requires) _ c.position_of-a.ensures.value c.position_of-a.ensures.within c.if-a-u.false).0 (no_element _ _ _ _ c.position_of-b.ensures.value c.if-b-u.true))

pub returns-then-buffer-lt65 : goal.returns-then-buffer-lt65
returns-then-buffer-lt65 c = refused_16 _ _ _ (no_room _ _ _ _ _ (sym c.is_binary.ensures ∙ not-false _ c.if-not-is_binary.false-raw) (an_element _ _ _ (read_ascending c.requires) _ c.position_of-a.ensures.value c.position_of-a.ensures.within c.if-a-u.false).0 (an_element _ _ _ (read_ascending c.requires) _ c.position_of-b.ensures.value c.position_of-b.ensures.within c.if-b-u.false).0 (short_room _ c.if-buffer-lt65.true))

pub slice_bounds-chain_between-end : goal.slice_bounds-chain_between-end
slice_bounds-chain_between-end c = sym (length-take-le _ _ c.requires.few)

pub chain_between-requires : goal.chain_between-requires
chain_between-requires c = let p = c.position_of-a.ensures.within in
    let q = c.position_of-b.ensures.within in
    record { by_index = (_, c.requires); rows_value = (take_zeros _ 64 c.requires.few, omega (arith, p, c.if-a-u.false), omega (arith, q, c.if-b-u.false), omega (arith, c.if-buffer-lt65.false)) }

pub returns : goal.returns
returns c = let a = c.args in
    subst (λ (m : Answer Asked). chain_meets m a.name.now a.buffer.now c.chain_between.result c.chain_between.new.buffer)
    (sym (in_facts a.facts.now a.name.now a.first.now a.second.now a.relations.now a.universe.now (read_ascending c.requires) _ _ _ (sym c.is_binary.ensures ∙ not-false _ c.if-not-is_binary.false-raw)
    c.position_of-a.ensures.value c.position_of-a.ensures.within c.if-a-u.false c.position_of-b.ensures.value c.position_of-b.ensures.within c.if-b-u.false c.if-buffer-lt65.false))
    (c.chain_between.ensures a.relations.now)
