use Rattle.parser.proofs.QueryLaws.{place_inside, place_outside}
use Rattle.parser.proofs.place_at.Goals as goal

pub returns-then-q-tokens : goal.returns-then-q-tokens
returns-then-q-tokens c = place_inside _ c.args.tokens.now c.args.q c.if-q-tokens.true c.place.ensures

pub returns : goal.returns
returns c = place_outside _ c.args.tokens.now c.args.q c.if-q-tokens.false
