use Rattle.coding.proofs.Codes.{named_not, named_name, named_other, named_string}
use Rattle.coding.proofs.is_named.Goals as goal

pub returns-then-k-eq0 : goal.returns-then-k-eq0
returns-then-k-eq0 c = named_not _ c.if-k-eq0.true

pub returns-then-k-lt8 : goal.returns-then-k-lt8
returns-then-k-lt8 c = named_name _ c.if-k-eq0.false c.if-k-lt8.true

pub returns-then-k-lt42 : goal.returns-then-k-lt42
returns-then-k-lt42 c = named_other _ c.if-k-lt8.false c.if-k-lt42.true

pub returns : goal.returns
returns c = named_string _ c.if-k-lt42.false
