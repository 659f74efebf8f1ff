use Prim.Native.Nat.{ℕ, ◌+◌, ◌<◌}
use mathlib.Core.Path.{sym, ap₂, subst, ◌∙◌}
use native.Mathlib.Omega.{arith}
use Rattle.parts.specs.Packed.{pack}
use Rattle.facts.proofs.UseLaws.{tag_is, tag_small}
use Rattle.facts.proofs.element_word.Goals as goal

pub packed-requires : goal.packed-requires
packed-requires c = (omega arith, omega arith, omega arith, let q = c.args.x.quoted in subst (λ (k : ℕ). k < 4) (sym (tag_is q)) (tag_small q))

pub returns : goal.returns
returns c = let a = c.args in
    c.packed.ensures ∙ ap₂ (λ (i k : ℕ). pack 0 (a.a + i) a.x.len k) c.value_start.ensures.0 (tag_is a.x.quoted)
