use mathlib.Core.Path.{ap}
use native.Mathlib.Omega.{arith}
use lib.ListN.{length, length-map}
use Rattle.numbers.specs.Sets.{none}
use Rattle.turning.specs.Turned.{turned}
use Rattle.join.proofs.UnionLaws.{relations_back, elements_back, both_entered}
use Rattle.join.proofs.enter_both.Goals as goal

pub enter_facts-n-requires : goal.enter_facts-n-requires
enter_facts-n-requires c = let t = c.turn in
    let t2 = c.turn-2 in
    (c.requires.0, omega (arith, c.requires.2, ap length t.ensures, length-map c.args.relations.now turned), omega (arith, c.requires.3, ap length t2.ensures, length-map c.args.universe.now turned), omega (arith, c.requires.4), none)

pub returns : goal.returns
returns c = let e = c.enter_facts in
    let e₁ = c.enter_facts-n in
    let t = c.turn.ensures in
    let t₂ = c.turn-2.ensures in
    let t₃ = c.turn-3.ensures in
    let t₄ = c.turn-4.ensures in
    let r = relations_back c.args.first.now c.args.second.now c.args.relations.now c.args.universe.now _ _ _ _ t t₂ t₃ t₄ in
    let u = elements_back c.args.first.now c.args.second.now c.args.relations.now c.args.universe.now _ _ _ _ t t₂ t₃ t₄ in
    record { value = both_entered c.args.first.now c.args.second.now c.args.relations.now c.args.universe.now _ _ _ _ t t₂ t₃ t₄ _ _ e₁.ensures.value e.ensures.value; within = omega (arith, e.ensures.within, e₁.ensures.within); lists = (r, u) }
