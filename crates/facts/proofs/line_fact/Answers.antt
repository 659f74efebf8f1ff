use mathlib.Core.Path.{◌≡◌, subst}
use lib.ListN.{length}
use Rattle.facts.specs.declared.LineRead.{LineRead}
use Rattle.facts.specs.Lines.{role, role_of, line_at, ReadWithin}
use Rattle.facts.proofs.TakeLaws.{dot_line, no_fact, bad_fact}
use Rattle.facts.proofs.line_fact.Goals as goal

pub returns-in-Holds : goal.returns-in-Holds
returns-in-Holds c = (subst (ReadWithin (length c.args.l.now)) c.in-Holds.is c.read_line.ensures.within, λ i. (subst (λ (r : LineRead). role_of c.args.l.now i r ≡ role (line_at c.args.l.now i)) c.in-Holds.is (c.read_line.ensures.value i)))

pub returns-in-End : goal.returns-in-End
returns-in-End c = dot_line (line_at c.args.l.now 0) (subst (λ (r : LineRead). role_of c.args.l.now 0 r ≡ role (line_at c.args.l.now 0)) c.in-End.is (c.read_line.ensures.value 0))

pub returns-in-Skipped : goal.returns-in-Skipped
returns-in-Skipped c = λ i. no_fact (line_at c.args.l.now i) (subst (λ (r : LineRead). role_of c.args.l.now i r ≡ role (line_at c.args.l.now i)) c.in-Skipped.is (c.read_line.ensures.value i))

pub returns-in-BadName : goal.returns-in-BadName
returns-in-BadName c = λ i. bad_fact (line_at c.args.l.now i) 3 _ (subst (λ (r : LineRead). role_of c.args.l.now i r ≡ role (line_at c.args.l.now i)) c.in-BadName.is (c.read_line.ensures.value i))

pub returns-in-BadElement : goal.returns-in-BadElement
returns-in-BadElement c = λ i. bad_fact (line_at c.args.l.now i) 4 _ (subst (λ (r : LineRead). role_of c.args.l.now i r ≡ role (line_at c.args.l.now i)) c.in-BadElement.is (c.read_line.ensures.value i))

pub returns-in-TooMany : goal.returns-in-TooMany
returns-in-TooMany c = λ i. bad_fact (line_at c.args.l.now i) 5 _ (subst (λ (r : LineRead). role_of c.args.l.now i r ≡ role (line_at c.args.l.now i)) c.in-TooMany.is (c.read_line.ensures.value i))
