use Prim.Native.Nat.{ℕ}
use Prim.Native.Nat.{◌+◌, ◌-◌, ◌≤◌}
use native.Mathlib.Omega.{arith}
use mathlib.Core.Path.{◌≡◌, sym, ap, ◌∙◌}
use mathlib.Core.List.{[], ◌∷◌}
use lib.Dec.{eqb}
use lib.ListN.{length}
use Rattle.definition.specs.Text.{some_of}
use Rattle.definition.specs.Pattern.{branches, branch, piece, atom}
use Rattle.patterns.specs.Ends.{end_at}
use Rattle.std.specs.Prelude.{Some, None}
use Rattle.patterns.proofs.ByteLaws.{among_is}
use Rattle.patterns.proofs.PhraseLaws.{no_depth, deeper, at_most, open_inside, branches_wrong, branches_last, branches_more, branch_wrong, branch_last, branch_more, piece_anchor, piece_wrong, piece_repeat, atom_simple, atom_wrong, atom_open, atom_closed}
use Rattle.patterns.proofs.+atom_end_branch_end_branches_end_piece_end.Goals as goal

pub atom_end-returns-then-n-eq0 : goal.atom_end-returns-then-n-eq0
atom_end-returns-then-n-eq0 t c = no_depth c.args.s.now c.args.n atom c.args.at c.if-n-eq0.true

pub atom_end-returns-then-byte_at-ne40 : goal.atom_end-returns-then-byte_at-ne40
atom_end-returns-then-byte_at-ne40 t c = deeper (λ (n : ℕ). c.simple_end.result ≡ end_at c.args.s.now n atom c.args.at) c.args.n c.if-n-eq0.false
    (c.simple_end.ensures ∙ atom_simple c.args.s.now (c.args.n - 1) c.args.at (λ e. c.if-byte_at-ne40.true (c.byte_at.ensures ∙ e)))

pub atom_end-overflow_add-at : goal.atom_end-overflow_add-at
atom_end-overflow_add-at t c = let h = open_inside c.args.s.now c.args.at (sym c.byte_at.ensures ∙ c.if-byte_at-ne40.false) in omega (arith, h)

pub atom_end-returns-in_err-i : goal.atom_end-returns-in_err-i
atom_end-returns-in_err-i t c = rw c.from_residual.ensures (deeper (λ (n : ℕ). None ≡ end_at c.args.s.now n atom c.args.at) c.args.n c.if-n-eq0.false
    (atom_wrong c.args.s.now (c.args.n - 1) c.args.at (sym c.byte_at.ensures ∙ c.if-byte_at-ne40.false) (sym c.in_err-i.was ∙ c.branches_end.ensures)))

pub atom_end-returns-then-byte_at-ne41 : goal.atom_end-returns-then-byte_at-ne41
atom_end-returns-then-byte_at-ne41 t c = deeper (λ (n : ℕ). None ≡ end_at c.args.s.now n atom c.args.at) c.args.n c.if-n-eq0.false
    (atom_open c.args.s.now (c.args.n - 1) c.args.at c.in_ok-i.i (sym c.byte_at.ensures ∙ c.if-byte_at-ne40.false) (sym c.in_ok-i.was ∙ c.branches_end.ensures) (λ e. c.if-byte_at-ne41.true (c.byte_at-2.ensures ∙ e)))

pub atom_end-overflow_add-result : goal.atom_end-overflow_add-result
atom_end-overflow_add-result t c = let h = at_most c.args.s.now (c.args.n - 1) branches (c.args.at + 1) c.in_ok-i.i (sym c.in_ok-i.was ∙ c.branches_end.ensures) in omega (arith, h)

pub atom_end-returns : goal.atom_end-returns
atom_end-returns t c = deeper (λ (n : ℕ). Some (c.in_ok-i.i + 1) ≡ end_at c.args.s.now n atom c.args.at) c.args.n c.if-n-eq0.false
    (atom_closed c.args.s.now (c.args.n - 1) c.args.at c.in_ok-i.i (sym c.byte_at.ensures ∙ c.if-byte_at-ne40.false) (sym c.in_ok-i.was ∙ c.branches_end.ensures) (sym c.byte_at-2.ensures ∙ c.if-byte_at-ne41.false))

pub branch_end-returns-then-n-eq0 : goal.branch_end-returns-then-n-eq0
branch_end-returns-then-n-eq0 t c = no_depth c.args.s.now c.args.n branch c.args.at c.if-n-eq0.true

pub branch_end-returns-in_err-i : goal.branch_end-returns-in_err-i
branch_end-returns-in_err-i t c = rw c.from_residual.ensures (deeper (λ (n : ℕ). None ≡ end_at c.args.s.now n branch c.args.at) c.args.n c.if-n-eq0.false
    (branch_wrong c.args.s.now (c.args.n - 1) c.args.at (sym c.in_err-i.was ∙ c.piece_end.ensures)))

pub branch_end-returns-then-ends_branch : goal.branch_end-returns-then-ends_branch
branch_end-returns-then-ends_branch t c = deeper (λ (n : ℕ). Some c.in_ok-i.i ≡ end_at c.args.s.now n branch c.args.at) c.args.n c.if-n-eq0.false
    (branch_last c.args.s.now (c.args.n - 1) c.args.at c.in_ok-i.i (sym c.in_ok-i.was ∙ c.piece_end.ensures) (sym c.ends_branch.ensures ∙ c.if-ends_branch.true))

pub branch_end-returns : goal.branch_end-returns
branch_end-returns t c = deeper (λ (n : ℕ). c.branch_end.result ≡ end_at c.args.s.now n branch c.args.at) c.args.n c.if-n-eq0.false
    (c.branch_end.ensures ∙ branch_more c.args.s.now (c.args.n - 1) c.args.at c.in_ok-i.i (sym c.in_ok-i.was ∙ c.piece_end.ensures) (sym c.ends_branch.ensures ∙ c.if-ends_branch.false))

pub branches_end-returns-then-n-eq0 : goal.branches_end-returns-then-n-eq0
branches_end-returns-then-n-eq0 t c = no_depth c.args.s.now c.args.n branches c.args.at c.if-n-eq0.true

pub branches_end-returns-in_err-i : goal.branches_end-returns-in_err-i
branches_end-returns-in_err-i t c = rw c.from_residual.ensures (deeper (λ (n : ℕ). None ≡ end_at c.args.s.now n branches c.args.at) c.args.n c.if-n-eq0.false
    (branches_wrong c.args.s.now (c.args.n - 1) c.args.at (sym c.in_err-i.was ∙ c.branch_end.ensures)))

pub branches_end-returns-then-byte_at-ne124 : goal.branches_end-returns-then-byte_at-ne124
branches_end-returns-then-byte_at-ne124 t c = deeper (λ (n : ℕ). Some c.in_ok-i.i ≡ end_at c.args.s.now n branches c.args.at) c.args.n c.if-n-eq0.false
    (branches_last c.args.s.now (c.args.n - 1) c.args.at c.in_ok-i.i (sym c.in_ok-i.was ∙ c.branch_end.ensures) (λ e. c.if-byte_at-ne124.true (c.byte_at.ensures ∙ e)))

pub branches_end-overflow_add-i : goal.branches_end-overflow_add-i
branches_end-overflow_add-i t c = let h : c.in_ok-i.i ≤ length c.args.s.now = at_most c.args.s.now (c.args.n - 1) branch c.args.at c.in_ok-i.i (sym c.in_ok-i.was ∙ c.branch_end.ensures) in omega (arith, h)

pub branches_end-returns : goal.branches_end-returns
branches_end-returns t c = deeper (λ (n : ℕ). c.branches_end.result ≡ end_at c.args.s.now n branches c.args.at) c.args.n c.if-n-eq0.false
    (c.branches_end.ensures ∙ branches_more c.args.s.now (c.args.n - 1) c.args.at c.in_ok-i.i (sym c.in_ok-i.was ∙ c.branch_end.ensures) (sym c.byte_at.ensures ∙ c.if-byte_at-ne124.false))

pub piece_end-returns-then-n-eq0 : goal.piece_end-returns-then-n-eq0
piece_end-returns-then-n-eq0 t c = no_depth c.args.s.now c.args.n piece c.args.at c.if-n-eq0.true

pub piece_end-overflow_add-result : goal.piece_end-overflow_add-result
piece_end-overflow_add-result t c = let h : c.args.at + 1 ≤ length c.args.s.now = at_most c.args.s.now (ℕ.suc (c.args.n - 1)) piece c.args.at (c.args.at + 1) (piece_anchor c.args.s.now (c.args.n - 1) c.args.at (ap (λ (b : ℕ). some_of (eqb b) (94 ∷ 36 ∷ [])) (sym c.byte_at.ensures) ∙ sym (c.contains.ensures.value ∙ among_is _ _) ∙ c.if-contains.true)) in omega (arith, h)

pub piece_end-returns-then-contains : goal.piece_end-returns-then-contains
piece_end-returns-then-contains t c = deeper (λ (n : ℕ). Some (c.args.at + 1) ≡ end_at c.args.s.now n piece c.args.at) c.args.n c.if-n-eq0.false
    (piece_anchor c.args.s.now (c.args.n - 1) c.args.at (ap (λ (b : ℕ). some_of (eqb b) (94 ∷ 36 ∷ [])) (sym c.byte_at.ensures) ∙ sym (c.contains.ensures.value ∙ among_is _ _) ∙ c.if-contains.true))

pub piece_end-returns-in_err-i : goal.piece_end-returns-in_err-i
piece_end-returns-in_err-i t c = rw c.from_residual.ensures (deeper (λ (n : ℕ). None ≡ end_at c.args.s.now n piece c.args.at) c.args.n c.if-n-eq0.false
    (piece_wrong c.args.s.now (c.args.n - 1) c.args.at (ap (λ (b : ℕ). some_of (eqb b) (94 ∷ 36 ∷ [])) (sym c.byte_at.ensures) ∙ sym (c.contains.ensures.value ∙ among_is _ _) ∙ c.if-contains.false) (sym c.in_err-i.was ∙ c.atom_end.ensures)))

pub piece_end-repeat_end-requires : goal.piece_end-repeat_end-requires
piece_end-repeat_end-requires t c = at_most c.args.s.now (c.args.n - 1) atom c.args.at c.in_ok-i.i (sym c.in_ok-i.was ∙ c.atom_end.ensures)

pub piece_end-returns : goal.piece_end-returns
piece_end-returns t c = deeper (λ (n : ℕ). c.repeat_end.result ≡ end_at c.args.s.now n piece c.args.at) c.args.n c.if-n-eq0.false
    (piece_repeat c.args.s.now (c.args.n - 1) c.args.at c.in_ok-i.i c.repeat_end.result (ap (λ (b : ℕ). some_of (eqb b) (94 ∷ 36 ∷ [])) (sym c.byte_at.ensures) ∙ sym (c.contains.ensures.value ∙ among_is _ _) ∙ c.if-contains.false) (sym c.in_ok-i.was ∙ c.atom_end.ensures) c.repeat_end.ensures)
