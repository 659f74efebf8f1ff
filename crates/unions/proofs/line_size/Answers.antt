use Prim.Native.Nat.{ℕ}
use lib.ListN.{length-replicate}
use Rattle.lines.specs.Lines.{texts}
use Rattle.unions.proofs.Sizes.{line_measured}
use Rattle.unions.proofs.line_size.Goals as goal

pub returns : goal.returns
returns c =
    let h = let a = c.args in
    line_measured (texts a.facts.now a.query.now a.places.now) a.name.now a.t a.n c.requires.0 c.requires.1 (length-replicate {A = ℕ} 512 0) c.put_labelled.ensures in
    record { value = h.0; within = h.1 }
