use mathlib.Core.Path.{refl}
use Rattle.definition.specs.Limits.{document_01}
use Rattle.lines.specs.Lines.{texts}
use Rattle.running.proofs.Runs.{run_met}
use Rattle.running.proofs.Counted.{counts_met}
use Rattle.engine.proofs.steps.Goals as goal

pub returns : goal.returns
returns c = let go = c.go-r.ensures in
    λ w store₀ b. (
      run_met w c.args.firsts.now c.args.scratch b.laid (texts c.args.facts.now c.args.query.now c.args.places.now) b.shows c.args.low.now b.code
          c.args.u b.size store₀ b.long c.args.output.now document_01 c.args.facts.now c.args.query.now b.accepted c.args.store.now _ _ _ b.image
          (record { sets = refl; cursors = refl; variables = refl }) c.args.budget _ _ go.goes,
      counts_met w c.args.firsts.now c.args.scratch b.laid (texts c.args.facts.now c.args.query.now c.args.places.now) b.shows c.args.low.now b.code
          c.args.u b.size store₀ b.long c.args.output.now c.args.facts.now c.args.query.now b.accepted b.few c.args.store.now _ _ _ b.image
          (record { sets = refl; cursors = refl; variables = refl }) _ _ b.counted c.args.budget _ _ go.goes go.counts_right,
    )
