use mathlib.Core.Path.{sym, ◌∙◌}
use Rattle.element.proofs.Words.{facts_begins, facts_part, facts_address, query_begins, query_part, query_address}
use Rattle.element.proofs.part_at.Goals as goal

pub bytes_at-requires : goal.bytes_at-requires
bytes_at-requires c = facts_begins c.args.facts.now c.args.query.now c.args.w c.if-w-eq0.true c.requires

pub returns-then-w-eq0 : goal.returns-then-w-eq0
returns-then-w-eq0 c = record { text = c.bytes_at.ensures.text ∙ sym (facts_part c.args.facts.now c.args.query.now c.args.w c.if-w-eq0.true); place = c.bytes_at.ensures.place ∙ sym (facts_address c.args.facts.now c.args.query.now c.args.w c.if-w-eq0.true c.args.facts.ref_ptr c.args.query.ref_ptr) }

pub bytes_at-requires-2 : goal.bytes_at-requires-2
bytes_at-requires-2 c = query_begins c.args.facts.now c.args.query.now c.args.w c.if-w-eq0.false c.requires

pub returns : goal.returns
returns c = record { text = c.bytes_at-2.ensures.text ∙ sym (query_part c.args.facts.now c.args.query.now c.args.w c.if-w-eq0.false); place = c.bytes_at-2.ensures.place ∙ sym (query_address c.args.facts.now c.args.query.now c.args.w c.if-w-eq0.false c.args.facts.ref_ptr c.args.query.ref_ptr) }
