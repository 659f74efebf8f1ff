use Prim.Native.Nat.{◌-◌, ◌<◌}
use mathlib.Core.Path.{refl}
use native.Mathlib.Omega.{arith}
use Rattle.coding.proofs.Passing.{shallow_set, depth_range, depth_same, depth_next}
use Rattle.coding.proofs.note_depth.Goals as goal

pub returns-then-w-eq6 : goal.returns-then-w-eq6
returns-then-w-eq6 c = let n = depth_range _ _ c.args.w c.args.deep _ _ c.if-w-eq6.true c.word_at-j.ensures c.put_at.ensures in
    let h : c.args.deep < 65536 = omega arith in
    record { depths_value = (n.0, (n.1, omega arith)); shallow_2 = rw c.put_at.ensures (shallow_set c.args.depths.now c.word_at-j.result _ h c.requires.shallow) }

pub returns-then-w-ne7 : goal.returns-then-w-ne7
returns-then-w-ne7 c = let n = depth_same c.args.ids.now _ c.args.w c.args.deep c.if-w-eq6.false c.if-w-ne7.true in record { depths_value = (n.0, (n.1, omega arith)); shallow_2 = c.requires.shallow }

pub returns-then-deep-eq0 : goal.returns-then-deep-eq0
returns-then-deep-eq0 c = let n = depth_next c.args.ids.now _ c.args.w c.args.deep 0 c.if-w-eq6.false (omega arith) (omega arith) in record { depths_value = (n.0, (n.1, omega arith)); shallow_2 = c.requires.shallow }

pub returns-else-deep-eq0 : goal.returns-else-deep-eq0
returns-else-deep-eq0 c = let n = depth_next c.args.ids.now _ c.args.w c.args.deep (c.args.deep - 1) c.if-w-eq6.false (omega arith) refl in record { depths_value = (n.0, (n.1, omega arith)); shallow_2 = c.requires.shallow }
