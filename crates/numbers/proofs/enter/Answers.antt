use Prim.Native.Nat.{◌≤◌}
use mathlib.Core.Path.{◌∙◌}
use native.Mathlib.Omega.{arith}
use lib.ListN.{take}
use lib.Seq.{length-take-le}
use Rattle.numbers.proofs.EnterLaws.{sorted_found, sorted_new, kept_count, kept_words, new_count, new_words}
use Rattle.numbers.proofs.enter.Goals as goal

pub insert_at-requires : goal.insert_at-requires
insert_at-requires c =
    let t = length-take-le c.args.n c.args.words.now (omega (arith, c.requires.0)) in
    (omega (arith, t, c.in-Err.ensures.bound), c.requires.0)

pub returns-in-Ok : goal.returns-in-Ok
returns-in-Ok c =
    let a = c.args in
    let f = c.in-Ok.ensures in
    let e = sorted_found a.v (take a.n a.words.now) _ c.requires.1 f.bound (f.ok 0) in
    record { count = kept_count a.words.now a.n a.v c.requires.0 e; words = kept_words a.words.now a.n a.v c.requires.0 e }

pub returns-in-Err : goal.returns-in-Err
returns-in-Err c =
    let a = c.args in
    let f = c.in-Err.ensures in
    let p = c.in-Err.p in
    let t = length-take-le a.n a.words.now (omega (arith, c.requires.0)) in
    let h : p ≤ a.n = omega (arith, t, f.bound) in
    let e = sorted_new a.v (take a.n a.words.now) p c.requires.1 f.bound f.position in
    record { count = new_count a.words.now a.n a.v c.requires.0 p h e; words = c.insert_at.ensures ∙ new_words a.words.now a.n a.v c.requires.0 p h e }
