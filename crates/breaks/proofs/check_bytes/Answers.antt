use native.Mathlib.Omega.{arith}
use Rattle.breaks.proofs.BytesLaws.{bytes_long, bytes_legal, bytes_unread, bytes_wrong}
use Rattle.breaks.proofs.check_bytes.Goals as goal

pub returns-then-facts-gt32768 : goal.returns-then-facts-gt32768
returns-then-facts-gt32768 c = bytes_long c.args.facts.now c.if-facts-gt32768.true

pub returns-then-legal-facts : goal.returns-then-legal-facts
returns-then-legal-facts c = bytes_legal c.args.facts.now c.if-facts-gt32768.false c.legal_end-legal.result c.legal_end-legal.ensures.value c.if-legal-facts.true

pub returns-then-legal-read_end : goal.returns-then-legal-read_end
returns-then-legal-read_end c = bytes_wrong c.args.facts.now c.if-facts-gt32768.false c.legal_end-legal.result c.legal_end-legal.ensures.value (omega (arith, c.legal_end-legal.ensures.within, c.if-legal-facts.false)) (omega (arith, c.read_end.ensures, c.if-legal-read_end.true))

pub returns : goal.returns
returns c = bytes_unread c.args.facts.now c.if-facts-gt32768.false c.legal_end-legal.result c.legal_end-legal.ensures.value (omega (arith, c.read_end.ensures, c.if-legal-read_end.false))
