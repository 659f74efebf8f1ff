use Rattle.lines.proofs.Puts.{put_then}
use Rattle.page.proofs.put_number.Goals as goal

pub returns : goal.returns
returns c = put_then c.put-p.ensures c.put_decimal.ensures
