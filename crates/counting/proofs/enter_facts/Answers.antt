use Prim.Native.Nat.{ℕ, ◌+◌, ◌<◌}
use mathlib.Core.Path.{refl, sym, ap, subst, ◌∙◌}
use mathlib.Core.List.{List}
use native.Mathlib.Omega.{arith}
use lib.ListN.{length, take}
use Rattle.definition.specs.Facts.{Fact}
use Rattle.facts.specs.Reading.{all_facts}
use Rattle.facts.proofs.TakeLaws.{all_wider}
use Rattle.numbers.specs.Sets.{Ascending, entered}
use Rattle.numbers.proofs.SetLaws.{entered_ascends}
use Rattle.counting.proofs.Entering.{Entered, taken, one_more, same_size, entered_none, entered_in, entered_one, entered_last}
use Rattle.counting.proofs.enter_facts.Goals as goal

pub loop-a-init : goal.loop-a-init
loop-a-init c = let a = c.args in
    (refl, omega arith, omega arith, c.requires.4, λ w g gs e i. entered_none w gs (all_facts a.facts.now) e)

pub fact_number-v-requires : goal.fact_number-v-requires
fact_number-v-requires c =
    let h = c.in-Some.ensures in
    let p = c.requires in
    (p.1, p.2, omega (arith, h.3, p.0), all_wider _ _ _ (omega (arith, p.0)) h.4)

pub enter-count-requires : goal.enter-count-requires
enter-count-requires c =
    let L = c.loop-a in
    let h = c.in-Some.ensures in
    let p = c.requires in
    let few_more : L.count < c.args.n + 16384 = omega (arith, h.1, h.3, p.0, L.invariant.2) in
    (omega (arith, few_more, p.3, L.invariant.0), L.invariant.3)

pub loop-a-preserved : goal.loop-a-preserved
loop-a-preserved c =
    let L = c.loop-a in
    let h = c.in-Some.ensures in
    let p = c.requires in
    let few_more : L.count < c.args.n + 16384 = omega (arith, h.1, h.3, p.0, L.invariant.2) in
    let room : L.count < length L.words = omega (arith, few_more, p.3, L.invariant.0) in
    let v = c.fact_number-v.result in
    let r = c.enter-count.result in
    let e = c.enter-count.ensures in
    let t = taken L.words _ L.count v r room e.count e.words in
    let m = one_more L.words _ L.count v r room e.count e.words in
    let fs = all_facts c.args.facts.now in (
      same_size L.words _ L.count v r room e.count e.words ∙ L.invariant.0,
      omega (arith, m, few_more),
      omega (arith, m, h.1, h.2, L.invariant.2),
      subst Ascending (sym t) (entered_ascends v (take L.count L.words) L.invariant.3),
      λ w g gs q i.
          let s = subst (λ (hs : List Fact). Entered w gs fs hs (take L.count L.words)) h.0 (L.invariant.4 w g gs q i) in
          subst (Entered w gs fs _) (sym (t ∙ ap (λ (x : ℕ). entered x (take L.count L.words)) (c.fact_number-v.ensures w g (i _ (entered_in w gs fs s))))) (entered_one w gs fs s),
    )

pub returns : goal.returns
returns c = let L = c.loop-a in
    let fs = all_facts c.args.facts.now in
    record { value = λ w g gs e i. entered_last w gs fs (subst (λ (hs : List Fact). Entered w gs fs hs (take L.count L.words)) c.in_default.ensures (L.invariant.4 w g gs e i)); within = L.invariant.1; ascending = L.invariant.3 }
