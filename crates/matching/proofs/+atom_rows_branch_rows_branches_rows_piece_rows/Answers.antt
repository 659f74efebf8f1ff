use mathlib.Core.Path.{◌≡◌, sym, ap, ◌∙◌, subst}
use mathlib.Core.List.{List}
use Prim.Native.Nat.{◌+◌, ◌-◌}
use lib.Bits.{bit_or}
use lib.ListN.{length, get_or, drop}
use lib.Seq.{take_at}
use Rattle.definition.specs.Text.{Text}
use Rattle.definition.specs.Pattern.{Reading, branches, branch, piece, atom, phrase}
use Rattle.patterns.proofs.PhraseLaws.{at_most, open_inside}
use Rattle.matching.specs.Rows.{Each, Led, Turn, Turns}
use Rattle.matching.proofs.LedLaws.{copied, prefix_long, prefix_short, append_long, led_depth, no_branch, no_piece, no_atom, led_simple, led_group, led_branch, led_branches, led_piece, led_pieces, led_caret, led_dollar, led_turns, led_once}
use native.Mathlib.Omega.{arith}
use Prim.Native.Nat.{ℕ}
use Rattle.matching.proofs.+atom_rows_branch_rows_branches_rows_piece_rows.Goals as goal

pub atom_rows-returns-then-n-eq0 : goal.atom_rows-returns-then-n-eq0
atom_rows-returns-then-n-eq0 t c = led_depth c.args.s.now c.args.n c.args.at atom c.if-n-eq0.true

pub atom_rows-returns-then-byte_at-ne40 : goal.atom_rows-returns-then-byte_at-ne40
atom_rows-returns-then-byte_at-ne40 t c = led_simple c.args.s.now c.args.n c.args.at c.if-n-eq0.false c.simple.result (λ q. c.if-byte_at-ne40.true (c.byte_at.ensures ∙ q)) c.simple.ensures.leads c.step.ensures

pub atom_rows-overflow_add-at : goal.atom_rows-overflow_add-at
atom_rows-overflow_add-at t c = let h = open_inside c.args.s.now c.args.at (sym c.byte_at.ensures ∙ c.if-byte_at-ne40.false) in omega (arith, h)

pub atom_rows-returns : goal.atom_rows-returns
atom_rows-returns t c = led_group c.args.s.now c.args.n c.args.at c.if-n-eq0.false (sym c.byte_at.ensures ∙ c.if-byte_at-ne40.false) c.branches_rows.ensures

pub branch_rows-returns-then-n-eq0 : goal.branch_rows-returns-then-n-eq0
branch_rows-returns-then-n-eq0 t c = led_depth c.args.s.now c.args.n c.args.at branch c.if-n-eq0.true

pub branch_rows-returns-in_default : goal.branch_rows-returns-in_default
branch_rows-returns-in_default t c = no_piece c.args.s.now c.args.n c.args.at c.if-n-eq0.false (sym c.in_default.is ∙ c.piece_end.ensures)

pub branch_rows-returns-then-ends_branch : goal.branch_rows-returns-then-ends_branch
branch_rows-returns-then-ends_branch t c = led_piece c.args.s.now c.args.n c.args.at c.if-n-eq0.false c.in-Some.i (sym c.in-Some.is ∙ c.piece_end.ensures) (sym c.ends_branch.ensures ∙ c.if-ends_branch.true) c.piece_rows.ensures

pub branch_rows-branch_rows-requires : goal.branch_rows-branch_rows-requires
branch_rows-branch_rows-requires t c = (omega (arith, c.if-n-eq0.false), (c.requires.0, let h : length c.piece_rows.new.rows ≡ length c.args.rows.now = c.piece_rows.ensures.long in omega (arith, h, c.requires.1)))

pub branch_rows-returns : goal.branch_rows-returns
branch_rows-returns t c = led_pieces c.args.s.now c.args.n c.args.at c.if-n-eq0.false c.in-Some.i c.piece_rows.new.rows (sym c.in-Some.is ∙ c.piece_end.ensures) (sym c.ends_branch.ensures ∙ c.if-ends_branch.false) c.piece_rows.ensures c.branch_rows.ensures

pub branches_rows-returns-then-n-eq0 : goal.branches_rows-returns-then-n-eq0
branches_rows-returns-then-n-eq0 t c = led_depth c.args.s.now c.args.n c.args.at branches c.if-n-eq0.true

pub branches_rows-returns-in_default : goal.branches_rows-returns-in_default
branches_rows-returns-in_default t c = no_branch c.args.s.now c.args.n c.args.at c.if-n-eq0.false (sym c.in_default.is ∙ c.branch_end.ensures)

pub branches_rows-returns-then-byte_at-ne124 : goal.branches_rows-returns-then-byte_at-ne124
branches_rows-returns-then-byte_at-ne124 t c = led_branch c.args.s.now c.args.n c.args.at c.if-n-eq0.false c.in-Some.i (sym c.in-Some.is ∙ c.branch_end.ensures) (λ q. c.if-byte_at-ne124.true (c.byte_at.ensures ∙ q)) c.branch_rows.ensures

pub branches_rows-slice_bounds-copy_from_slice-end : goal.branches_rows-slice_bounds-copy_from_slice-end
branches_rows-slice_bounds-copy_from_slice-end t c = prefix_long _ _ c.requires.1

pub branches_rows-copy_from_slice-requires : goal.branches_rows-copy_from_slice-requires
branches_rows-copy_from_slice-requires t c = sym (prefix_long _ _ c.requires.1)

pub branches_rows-overflow_add-i : goal.branches_rows-overflow_add-i
branches_rows-overflow_add-i t c = let h = at_most c.args.s.now (c.args.n - 1) branch c.args.at c.in-Some.i (sym c.in-Some.is ∙ c.branch_end.ensures) in omega (arith, h)

pub branches_rows-branches_rows-requires : goal.branches_rows-branches_rows-requires
branches_rows-branches_rows-requires t c = (omega (arith, c.if-n-eq0.false), (c.requires.0, prefix_short _ _ 64 c.requires.1))

pub branches_rows-slice_bounds-other-end-3 : goal.branches_rows-slice_bounds-other-end-3
branches_rows-slice_bounds-other-end-3 t c = append_long (length c.args.rows.now) c.branches_rows.new.rows _ (c.branches_rows.ensures.long ∙ ap length (take_at c.copy_from_slice.new.self _ (length c.args.rows.now) (c.copy_from_slice.ensures.len ∙ sym (prefix_long (length c.args.rows.now) _ c.requires.1))) ∙ (c.copy_from_slice.ensures.len ∙ sym (prefix_long (length c.args.rows.now) _ c.requires.1)))

pub branches_rows-slice_bounds-unite-end : goal.branches_rows-slice_bounds-unite-end
branches_rows-slice_bounds-unite-end t c = prefix_long (length c.args.rows.now) _ (append_long (length c.args.rows.now) c.branches_rows.new.rows _ (c.branches_rows.ensures.long ∙ ap length (take_at c.copy_from_slice.new.self _ (length c.args.rows.now) (c.copy_from_slice.ensures.len ∙ sym (prefix_long (length c.args.rows.now) _ c.requires.1))) ∙ (c.copy_from_slice.ensures.len ∙ sym (prefix_long (length c.args.rows.now) _ c.requires.1))))

pub branches_rows-unite-requires : goal.branches_rows-unite-requires
branches_rows-unite-requires t c = c.branch_rows-2.ensures.long ∙ prefix_long (length c.args.rows.now) _ (append_long (length c.args.rows.now) c.branches_rows.new.rows _ (c.branches_rows.ensures.long ∙ ap length (take_at c.copy_from_slice.new.self _ (length c.args.rows.now) (c.copy_from_slice.ensures.len ∙ sym (prefix_long (length c.args.rows.now) _ c.requires.1))) ∙ (c.copy_from_slice.ensures.len ∙ sym (prefix_long (length c.args.rows.now) _ c.requires.1))))

pub branches_rows-returns : goal.branches_rows-returns
branches_rows-returns t c = led_branches c.args.s.now c.args.n c.args.at c.if-n-eq0.false c.in-Some.i c.branch_rows-2.new.rows c.copy_from_slice.new.self c.branches_rows.new.rows _ (sym c.in-Some.is ∙ c.branch_end.ensures) (sym c.byte_at.ensures ∙ c.if-byte_at-ne124.false) c.branch_rows-2.ensures (copied _ _ _ c.copy_from_slice.ensures.len c.copy_from_slice.ensures.after) (sym (prefix_long _ _ c.requires.1))
    (subst (λ (l : List ℕ). Led (phrase (c.args.n - 1) branches (drop (c.in-Some.i + 1) c.args.s.now)) c.args.e.now l c.branches_rows.new.rows) (take_at c.copy_from_slice.new.self _ (length c.args.rows.now) (c.copy_from_slice.ensures.len ∙ sym (prefix_long (length c.args.rows.now) _ c.requires.1))) c.branches_rows.ensures)
    (subst (λ (l : List ℕ). Each (λ (k a r : ℕ). r ≡ bit_or a (get_or l k 0)) c.branch_rows-2.new.rows c.unite.new.rows) (take_at c.branches_rows.new.rows _ (length c.args.rows.now) (c.branches_rows.ensures.long ∙ ap length (take_at c.copy_from_slice.new.self _ (length c.args.rows.now) (c.copy_from_slice.ensures.len ∙ sym (prefix_long (length c.args.rows.now) _ c.requires.1))) ∙ (c.copy_from_slice.ensures.len ∙ sym (prefix_long (length c.args.rows.now) _ c.requires.1)))) c.unite.ensures)

pub piece_rows-returns-then-n-eq0 : goal.piece_rows-returns-then-n-eq0
piece_rows-returns-then-n-eq0 t c = led_depth c.args.s.now c.args.n c.args.at piece c.if-n-eq0.true

pub piece_rows-returns-then-b-eq94 : goal.piece_rows-returns-then-b-eq94
piece_rows-returns-then-b-eq94 t c = led_caret c.args.s.now c.args.n c.args.at c.if-n-eq0.false c.requires.0 (sym c.byte_at-b.ensures ∙ c.if-b-eq94.true) c.keep.ensures

pub piece_rows-returns-then-b-eq36 : goal.piece_rows-returns-then-b-eq36
piece_rows-returns-then-b-eq36 t c = led_dollar c.args.s.now c.args.n c.args.at c.if-n-eq0.false c.requires.0 (λ q. c.if-b-eq94.false (c.byte_at-b.ensures ∙ q)) (sym c.byte_at-b.ensures ∙ c.if-b-eq36.true) c.keep-then-b-eq36.ensures

pub piece_rows-returns-in_default : goal.piece_rows-returns-in_default
piece_rows-returns-in_default t c = no_atom c.args.s.now c.args.n c.args.at c.if-n-eq0.false (λ q. c.if-b-eq94.false (c.byte_at-b.ensures ∙ q)) (λ q. c.if-b-eq36.false (c.byte_at-b.ensures ∙ q)) (sym c.in_default.is ∙ c.atom_end.ensures)

pub piece_rows-sign_at-sign-requires : goal.piece_rows-sign_at-sign-requires
piece_rows-sign_at-sign-requires t c = at_most c.args.s.now (c.args.n - 1) atom c.args.at c.in-Some.i (sym c.in-Some.is ∙ c.atom_end.ensures)

pub piece_rows-returns-then-sign-eq0 : goal.piece_rows-returns-then-sign-eq0
piece_rows-returns-then-sign-eq0 t c = led_once c.args.s.now c.args.n c.args.at c.if-n-eq0.false (λ q. c.if-b-eq94.false (c.byte_at-b.ensures ∙ q)) (λ q. c.if-b-eq36.false (c.byte_at-b.ensures ∙ q)) c.in-Some.i c.sign_at-sign.result.least c.sign_at-sign.result.further (sym c.in-Some.is ∙ c.atom_end.ensures) c.sign_at-sign.ensures.0 c.sign_at-sign.ensures.1 c.if-sign-eq1.true c.if-sign-eq0.true c.atom_rows.ensures

pub piece_rows-slice_bounds-singles-end : goal.piece_rows-slice_bounds-singles-end
piece_rows-slice_bounds-singles-end t c = prefix_long (length c.args.e.now + 1) _ (let h = c.requires.0 in omega (arith, h))

pub piece_rows-slice_bounds-table-end-2 : goal.piece_rows-slice_bounds-table-end-2
piece_rows-slice_bounds-table-end-2 t c = append_long (length c.args.e.now + 1) c.singles.new.rows _ (c.singles.ensures.long ∙ sym (prefix_long (length c.args.e.now + 1) _ (let h = c.requires.0 in omega (arith, h))))

pub piece_rows-slice_bounds-atom_rows-end : goal.piece_rows-slice_bounds-atom_rows-end
piece_rows-slice_bounds-atom_rows-end t c = prefix_long (length c.args.e.now + 1) _ (append_long (length c.args.e.now + 1) c.singles.new.rows _ (c.singles.ensures.long ∙ sym (prefix_long (length c.args.e.now + 1) _ (let h = c.requires.0 in omega (arith, h)))))

pub piece_rows-atom_rows-requires-2 : goal.piece_rows-atom_rows-requires-2
piece_rows-atom_rows-requires-2 t c = (omega (arith, c.if-n-eq0.false), (c.requires.0, prefix_short (length c.args.e.now + 1) _ 64 (let h = c.requires.0 in omega (arith, h))))

pub piece_rows-slice_bounds-table-end-3 : goal.piece_rows-slice_bounds-table-end-3
piece_rows-slice_bounds-table-end-3 t c = append_long (length c.args.e.now + 1) c.atom_rows-2.new.rows _ (c.atom_rows-2.ensures.long ∙ ap length (take_at c.singles.new.rows _ (length c.args.e.now + 1) (c.singles.ensures.long ∙ sym (prefix_long (length c.args.e.now + 1) _ (let h = c.requires.0 in omega (arith, h))))) ∙ (c.singles.ensures.long ∙ sym (prefix_long (length c.args.e.now + 1) _ (let h = c.requires.0 in omega (arith, h)))))

pub piece_rows-slice_bounds-turn-end : goal.piece_rows-slice_bounds-turn-end
piece_rows-slice_bounds-turn-end t c = prefix_long (length c.args.e.now + 1) _ (append_long (length c.args.e.now + 1) c.atom_rows-2.new.rows _ (c.atom_rows-2.ensures.long ∙ ap length (take_at c.singles.new.rows _ (length c.args.e.now + 1) (c.singles.ensures.long ∙ sym (prefix_long (length c.args.e.now + 1) _ (let h = c.requires.0 in omega (arith, h))))) ∙ (c.singles.ensures.long ∙ sym (prefix_long (length c.args.e.now + 1) _ (let h = c.requires.0 in omega (arith, h))))))

pub piece_rows-returns : goal.piece_rows-returns
piece_rows-returns t c = led_turns c.args.s.now c.args.n c.args.at c.if-n-eq0.false (λ q. c.if-b-eq94.false (c.byte_at-b.ensures ∙ q)) (λ q. c.if-b-eq36.false (c.byte_at-b.ensures ∙ q)) c.in-Some.i c.sign_at-sign.result.least c.sign_at-sign.result.further (sym c.in-Some.is ∙ c.atom_end.ensures) c.sign_at-sign.ensures.0 c.sign_at-sign.ensures.1 c.atom_rows-2.new.rows c.singles.new.rows _ c.requires.0 (sym (prefix_long (length c.args.e.now + 1) _ (let h = c.requires.0 in omega (arith, h)))) c.singles.ensures
    (subst (λ (l : List ℕ). Led (phrase (c.args.n - 1) atom (drop c.args.at c.args.s.now)) c.args.e.now l c.atom_rows-2.new.rows) (take_at c.singles.new.rows _ (length c.args.e.now + 1) (c.singles.ensures.long ∙ sym (prefix_long (length c.args.e.now + 1) _ (let h = c.requires.0 in omega (arith, h))))) c.atom_rows-2.ensures)
    (subst (λ (l : List ℕ). Each (λ (m a r : ℕ). (o : Reading) (e : Text) → Turn o e l → Turns o e c.sign_at-sign.result.least c.sign_at-sign.result.further a r) c.args.rows.now c.turn.new.rows) (take_at c.atom_rows-2.new.rows _ (length c.args.e.now + 1) (c.atom_rows-2.ensures.long ∙ ap length (take_at c.singles.new.rows _ (length c.args.e.now + 1) (c.singles.ensures.long ∙ sym (prefix_long (length c.args.e.now + 1) _ (let h = c.requires.0 in omega (arith, h))))) ∙ (c.singles.ensures.long ∙ sym (prefix_long (length c.args.e.now + 1) _ (let h = c.requires.0 in omega (arith, h)))))) c.turn.ensures)

pub branches_rows-slice_bounds-other-end : goal.branches_rows-slice_bounds-other-end
branches_rows-slice_bounds-other-end t c = c.requires.1

pub branches_rows-slice_bounds-other-end-2 : goal.branches_rows-slice_bounds-other-end-2
branches_rows-slice_bounds-other-end-2 t c = append_long (length c.args.rows.now) c.copy_from_slice.new.self _ (c.copy_from_slice.ensures.len ∙ sym (prefix_long (length c.args.rows.now) _ c.requires.1))

pub branches_rows-slice_bounds-branches_rows-end : goal.branches_rows-slice_bounds-branches_rows-end
branches_rows-slice_bounds-branches_rows-end t c = prefix_long (length c.args.rows.now) _ (append_long (length c.args.rows.now) c.copy_from_slice.new.self _ (c.copy_from_slice.ensures.len ∙ sym (prefix_long (length c.args.rows.now) _ c.requires.1)))
