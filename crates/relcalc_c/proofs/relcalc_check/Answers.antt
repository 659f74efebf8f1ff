use Rattle.relcalc_c.proofs.Few.{records_16}
use Rattle.relcalc_c.proofs.relcalc_check.Goals as goal

pub checked_fields-requires : goal.checked_fields-requires
checked_fields-requires c = records_16 c.args.facts.now c.args.query.now _ c.check.ensures
