use Prim.Native.Nat.{ℕ}
use mathlib.Core.Path.{◌≡◌, subst}
use mathlib.Core.List.{List}
use native.Mathlib.Omega.{arith}
use Rattle.lines.specs.Put.{Put}
use Rattle.lines.proofs.Puts.{put_none, put_then}
use Rattle.lines.proofs.Digits.{digits_none, digits_last, digits_more}
use Rattle.lines.proofs.+put_digits.Goals as goal

pub returns-then-k-eq0 : goal.returns-then-k-eq0
returns-then-k-eq0 t c = let a = c.args in
    subst (λ (x : List ℕ). Put a.write a.out.now a.at x a.at a.out.now) (digits_none a.k a.n c.if-k-eq0.true) (put_none c.requires)

pub returns-then-n-lt10 : goal.returns-then-n-lt10
returns-then-n-lt10 t c = let a = c.args in
    subst (λ (x : List ℕ). Put a.write a.out.now a.at x c.put.result c.put.new.out)
    (digits_last a.k a.n c.if-k-eq0.false c.if-n-lt10.true) c.put.ensures

pub put_digits-p-requires : goal.put_digits-p-requires
put_digits-p-requires t c = let some : (c.args.k ≡ 0 → ⊥) = c.if-k-eq0.false in (omega arith, c.requires)

pub returns : goal.returns
returns t c = let a = c.args in
    subst (λ (x : List ℕ). Put a.write a.out.now a.at x c.put-2.result c.put-2.new.out)
    (digits_more a.k a.n c.if-k-eq0.false c.if-n-lt10.false) (put_then c.put_digits-p.ensures c.put-2.ensures)
