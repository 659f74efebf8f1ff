use Prim.Native.Nat.{ℕ}
use mathlib.Core.Path.{◌≡◌, sym, ap, ◌∙◌}
use native.Mathlib.Omega.{arith}
use lib.ListN.{length, replicate}
use Rattle.facts.proofs.ReadingLaws.{alone_given, alone_refused}
use Rattle.facts.proofs.read_facts.Goals as goal

pub returns-then-is_err : goal.returns-then-is_err
returns-then-is_err c =
    let a = c.args in
    let read = c.read_second-read in
    let r : length read.new.relations ≡ length a.relations.now = omega arith in
    let u : length read.new.universe ≡ length a.universe.now = omega arith in
    alone_refused a.facts.now a.query.now a.relations.now read.new.relations a.universe.now read.new.universe c.fill.new.self c.fill-then-is_err.new.self
    (c.fill.ensures.after (λ y h. h) ∙ ap (λ (k : ℕ). replicate k 0) r) (c.fill-then-is_err.ensures.after (λ y h. h) ∙ ap (λ (k : ℕ). replicate k 0) u)
    read.result (sym c.is_err.ensures.value ∙ c.if-is_err.true) read.ensures

pub returns-else-is_err : goal.returns-else-is_err
returns-else-is_err c =
    let a = c.args in
    let read = c.read_second-read in
    alone_given a.facts.now a.query.now a.relations.now read.new.relations a.universe.now read.new.universe read.result (sym c.is_err.ensures.value ∙ c.if-is_err.false) read.ensures
