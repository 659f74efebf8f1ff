use Prim.Native.Nat.{ℕ}
use mathlib.Core.Path.{subst}
use mathlib.Core.Bool.{true}
use mathlib.Core.List.{List}
use native.Mathlib.Omega.{arith}
use lib.Seq.{take_all}
use Rattle.definition.specs.Text.{gather}
use Rattle.lines.specs.Put.{Put}
use Rattle.lines.proofs.Puts.{put_within}
use Rattle.listing.specs.Listed.{byte_text}
use Rattle.listing.proofs.Listing.{put_start, put_next}
use Rattle.listing.proofs.put_bytes.Goals as goal

pub loop-x-init : goal.loop-x-init
loop-x-init c = put_start byte_text c.args.buffer.now c.requires

pub put_byte-p-requires : goal.put_byte-p-requires
put_byte-p-requires c = put_within c.loop-x.invariant

pub loop-x-preserved : goal.loop-x-preserved
loop-x-preserved c = let L = c.loop-x in put_next byte_text c.args.buffer.now L.x-index (omega arith) L.invariant c.put_byte-p.ensures

pub returns : goal.returns
returns c = let L = c.loop-x in
    let a = c.args in
    subst (λ (l : List ℕ). Put true a.out.now a.at (gather byte_text l) L.p L.out) (take_all L.x-index a.buffer.now (omega arith)) L.invariant
