use Rattle.lines.specs.Lines.{texts}
use Rattle.unions.specs.Union.{all_lines}
use Rattle.unions.proofs.Answering.{too_long, output_short, all_written}
use Rattle.unions.proofs.write_some.Goals as goal

pub returns-then-size-gt32768 : goal.returns-then-size-gt32768
returns-then-size-gt32768 c = let a = c.args in
    too_long (all_lines (texts a.facts.now a.query.now a.places.now) a.relations.now a.numbers.now a.some.now) a.output.now _ _ c.lay_all-size.ensures c.if-size-gt32768.true

pub returns-then-output-size : goal.returns-then-output-size
returns-then-output-size c = let a = c.args in
    output_short (all_lines (texts a.facts.now a.query.now a.places.now) a.relations.now a.numbers.now a.some.now) a.output.now _ _ c.lay_all-size.ensures c.if-size-gt32768.false c.if-output-size.true

pub returns : goal.returns
returns c = let a = c.args in
    all_written (all_lines (texts a.facts.now a.query.now a.places.now) a.relations.now a.numbers.now a.some.now) a.output.now _ _ c.lay_all-size.ensures c.if-size-gt32768.false c.if-output-size.false c.lay_all.ensures
