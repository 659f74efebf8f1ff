use mathlib.Core.Path.{◌≡◌}
use native.Mathlib.Omega.{arith}
use Rattle.definition.specs.Text.{Text}
use Rattle.definition.specs.Tables.{word}
use Rattle.parts.specs.Entries.{texts_of}
use Rattle.patterns.proofs.PhraseLaws.{read_formed, same_pattern}
use Rattle.matching.specs.Halves.{is_match}
use Rattle.matching.proofs.HalfLaws.{unformed, no_half, half_end}
use Rattle.matching.proofs.MoveLaws.{word_none, word_next}
use Rattle.matching.proofs.half.Goals as goal

pub returns-then-pattern-eq0 : goal.returns-then-pattern-eq0
returns-then-pattern-eq0 c = no_half _ _ c.args.first (unformed _ c.read_pattern-pattern.result.now c.read_pattern-pattern.ensures.formed c.if-pattern-eq0.true)

pub loop-k-init : goal.loop-k-init
loop-k-init c = word_none _

pub is_match-requires : goal.is_match-requires
is_match-requires c = read_formed _ c.args.token _ c.read_pattern-pattern.ensures.text c.if-pattern-eq0.false

pub loop-k-preserved : goal.loop-k-preserved
loop-k-preserved c = word_next _ c.loop-k.k c.loop-k.r c.put_bit-r.result c.is_match.result (omega arith) c.loop-k.invariant c.is_match.ensures c.put_bit-r.ensures

pub returns : goal.returns
returns c = half_end _ _ c.args.first c.loop-k.k c.loop-k.r (omega arith) (same_pattern _ c.args.token _ c.read_pattern-pattern.ensures.text c.if-pattern-eq0.false (λ (t : Text). c.loop-k.r ≡ word c.loop-k.k 0 (is_match t (texts_of c.args.facts.now c.args.query.now c.args.places.now) c.args.first)) c.loop-k.invariant)
