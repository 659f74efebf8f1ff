-- The lowered words of a whole program are its code, by induction over its statements.
use Prim.Native.Nat.{ℕ, suc, ◌+◌, ◌-◌, ◌<◌, ◌≤◌}
use mathlib.Core.Path.{◌≡◌, ap, subst, ◌∙◌}
use mathlib.Core.List.{List, ◌∷◌, ◌++◌}
use native.Mathlib.Omega.{arith}
use lib.Dec.{T}
use lib.ListN.{length}
use Rattle.definition.specs.Text.{Text}
use Rattle.definition.specs.Syntax.{Program, end, assign, print, test, while, for, block}
use Rattle.definition.specs.Names.{in_expression, in_program}
use Rattle.definition.proofs.NameLaws.{fitting_left}
use Rattle.definition.proofs.ScopeLaws.{ScopedProgram}
use Rattle.definition.proofs.NestingLaws.{Nested}
use Rattle.definition.proofs.RowLaws.{RowsOk}
use Rattle.definition.proofs.QuantityLaws.{ShapedProgram}
use Rattle.words.specs.Fields.{word, BIND, RANGE, NEXT, TEST, JUMP, AGAIN}
use Rattle.words.specs.Raw.{number, size, flat, size_items, size_program, flat_program}
use Rattle.words.specs.Tokens.{OwnProgram}
use Rattle.words.specs.Standing.{Has}
use Rattle.words.proofs.Places.{has_append, has_cut}
use Rattle.words.proofs.Sizes.{length_flat, length_program}
use Rattle.machine.specs.Instructions as Instr
use Rattle.code.specs.Program.{Code, code_end, code_test, code_while, code_for, code_block}
use Rattle.coded.proofs.Given.{Case}
use Rattle.coded.proofs.Standing.{Begun}
use Rattle.coded.proofs.Moves.{Loops}
use Rattle.coded.proofs.Programs.{fit_tail, Fine, fine_assign, fine_print, fine_test, fine_while, fine_for, fine_block}
use Rattle.coded.proofs.Steps.{last_word, has_at, assign_first, print_first, tested, jumped, again, ranged, nexted, more_loops}

module _ (C : Case) where
  pub record Done (scope : List Text) (p : Program) (n e : ℕ) : Type 0 where
    pub code : Code C.w C.query C.low scope p n e
    pub after : Begun C scope e

  at_end : {scope : List Text} {p : Program} {n e f : ℕ} → e ≡ f → Done scope p n e → Done scope p n f
  at_end {scope} {p} {n} e d = subst (Done scope p n) e d

  pub program : (p : Program) (scope : List Text) (n : ℕ) → Loops C scope → length scope ≤ 32 → Begun C scope n → Fine C scope p → Has C.words n (flat_program p n) → n + size_program p ≤ length C.words
      → Done scope p n (n + size_program p)
  unfolding flat_program size_program OwnProgram ScopedProgram Nested RowsOk ShapedProgram in_program
  program end scope n loops sh B F x h = at_end (omega arith) (record { code = code_end; after = B })
  program (assign i r ps e q) scope n loops sh B F x h =
      let k = n + 1 + length ps + size e in
      let T = assign_first C scope loops sh n B i r ps e q F x h in
      let Q = program q scope (suc k) loops sh T.after (fine_assign C F) T.rest (omega (arith, h)) in
      at_end (omega arith) (record { code = T.before (suc k + size_program q) Q.code; after = Q.after })
  program (print i is q) scope n loops sh B F x h =
      let k = n + size_items is in
      let T = print_first C scope loops sh n B i is q F x h in
      let Q = program q scope (suc k) loops sh T.after (fine_print C F) T.rest (omega (arith, h)) in
      at_end (omega arith) (record { code = T.before (suc k + size_program q) Q.code; after = Q.after })
  program (test i e a b q) scope n loops sh B F x h =
      let k = n + size e in
      let m₀ = n + size e + 1 in
      let l₀ = m₀ + size_program a + 1 in
      let f₀ = l₀ + size_program b in
      let m = suc k + size_program a in
      let f = suc m + size_program b in
      let small : f₀ < 65536 = omega (arith, h, C.small) in
      let G = fine_test C F in
      let c = has_cut C.words n m₀ (flat e n) (word TEST 0 l₀ i) (flat_program a m₀ ++ (word JUMP 0 f₀ 0 ∷ (flat_program b l₀ ++ flat_program q f₀))) (omega (arith, length_flat e n)) x in
      let d = has_cut C.words m₀ l₀ (flat_program a m₀) (word JUMP 0 f₀ 0) (flat_program b l₀ ++ flat_program q f₀) (omega (arith, length_program a m₀)) c.1 in
      let T = tested C scope loops sh n B i l₀ e F.scoped.0 F.shaped.0 F.own.1 F.rows.0 F.rows.1.0 (fitting_left (in_expression e) _ F.fit) (omega (arith, small)) (omega (arith, h)) c.0 in
      let ha = (has_append C.words m₀ (flat_program a m₀) _ d.0).0 in
      let A = program a scope (suc k) loops sh T.after G.0 (has_at C a m₀ (suc k) (omega arith) ha) (omega (arith, h)) in
      let J = jumped C scope loops sh m A.after f₀ small (omega (arith, h)) (omega arith) (last_word C.words m₀ m (flat_program a m₀) (word JUMP 0 f₀ 0) (omega (arith, length_program a m₀)) d.0) in
      let y = has_append C.words l₀ (flat_program b l₀) (flat_program q f₀) d.1 in
      let E = program b scope (suc m) loops sh J.1 G.1.0 (has_at C b l₀ (suc m) (omega arith) y.0) (omega (arith, h)) in
      let z : Has C.words f₀ (flat_program q f₀) = rw (length_program b l₀) at y.1 in
      let Q = program q scope f loops sh E.after G.1.1 (has_at C q f₀ f (omega arith) z) (omega (arith, h)) in
      at_end (omega arith) (record {
        code = code_test (T.instruction ∙ ap Instr.TEST (omega arith)) T.is_whole T.code A.code (J.0 ∙ ap Instr.JUMP (omega arith)) E.code Q.code;
        after = Q.after;
      })
  program (while i e a q) scope n loops sh B F x h =
      let k = n + size e in
      let m₀ = n + size e + 1 in
      let l₀ = m₀ + size_program a + 1 in
      let m = suc k + size_program a in
      let small : l₀ < 65536 = omega (arith, h, C.small) in
      let G = fine_while C F in
      let c = has_cut C.words n m₀ (flat e n) (word TEST 0 l₀ i) (flat_program a m₀ ++ (word AGAIN (n + size e - 1) m₀ 0 ∷ flat_program q l₀)) (omega (arith, length_flat e n)) x in
      let d = has_cut C.words m₀ l₀ (flat_program a m₀) (word AGAIN (n + size e - 1) m₀ 0) (flat_program q l₀) (omega (arith, length_program a m₀)) c.1 in
      let T = tested C scope loops sh n B i l₀ e F.scoped.0 F.shaped.0 F.own.1 F.rows.0 F.rows.1.0 (fitting_left (in_expression e) _ F.fit) small (omega (arith, h)) c.0 in
      let ha = (has_append C.words m₀ (flat_program a m₀) _ d.0).0 in
      let A = program a scope (suc k) loops sh T.after G.0 (has_at C a m₀ (suc k) (omega arith) ha) (omega (arith, h)) in
      let J = again C scope loops sh m A.after (n + size e - 1) m₀ (omega (arith, small)) (omega (arith, small)) (omega (arith, h)) (last_word C.words m₀ m (flat_program a m₀) (word AGAIN (n + size e - 1) m₀ 0) (omega (arith, length_program a m₀)) d.0) in
      let Q = program q scope (suc m) loops sh J.1 G.1 (has_at C q l₀ (suc m) (omega arith) d.1) (omega (arith, h)) in
      at_end (omega arith) (record {
        code = code_while (T.instruction ∙ ap Instr.TEST (omega arith)) T.is_whole T.code A.code (J.0 ∙ ap Instr.AGAIN (omega arith)) Q.code;
        after = Q.after;
      })
  program (for i t e a q) scope n loops sh B F x h =
      let k = n + 1 + size e in
      let m₀ = n + 1 + size e + 1 in
      let l₀ = m₀ + size_program a in
      let m = suc k + size_program a in
      let small : l₀ + 1 < 65536 = omega (arith, h, C.small) in
      let G = fine_for C F in
      let deep : length scope < 32 = F.nested.0 in
      let fr = F.scoped.0 in
      let ws = word BIND (number t) 0 0 ∷ flat e (n + 1) in
      let c = has_cut C.words n m₀ ws (word RANGE (number t) l₀ i) (flat_program a m₀ ++ (word NEXT (number t) m₀ 0 ∷ flat_program q (l₀ + 1))) (omega (arith, length_flat e (n + 1))) x in
      let d = has_cut C.words m₀ (l₀ + 1) (flat_program a m₀) (word NEXT (number t) m₀ 0) (flat_program q (l₀ + 1)) (omega (arith, length_program a m₀)) c.1 in
      let T = ranged C scope loops sh n B i l₀ t e fr F.scoped.1.0 F.shaped.0 F.own.1 F.own.2 F.rows.0 F.rows.1.0 (fitting_left (in_expression e) _ (fit_tail F.fit)) deep (omega (arith, small)) (omega (arith, h)) c.0 in
      let ha = (has_append C.words m₀ (flat_program a m₀) _ d.0).0 in
      let loops' = more_loops C scope t.text loops fr.1 in
      let A = program a (t.text ∷ scope) (suc k) loops' (omega (arith, deep)) T.inner G.0 (has_at C a m₀ (suc k) (omega arith) ha) (omega (arith, h)) in
      let J = nexted C scope t m m₀ loops' deep A.after F.own.1 fr (omega (arith, small)) (omega (arith, h)) (last_word C.words m₀ m (flat_program a m₀) (word NEXT (number t) m₀ 0) (omega (arith, length_program a m₀)) d.0) in
      let Q = program q scope (suc m) loops sh J.1 G.1 (has_at C q (l₀ + 1) (suc m) (omega arith) d.1) (omega (arith, h)) in
      at_end (omega arith) (record {
        code = code_for deep (T.instruction ∙ ap (Instr.RANGE (length scope)) (omega arith)) T.is_whole T.code A.code (J.0 ∙ ap (Instr.NEXT (length scope)) (omega arith)) Q.code;
        after = Q.after;
      })
  program (block a q) scope n loops sh B F x h =
      let G = fine_block C F in
      let y = has_append C.words n (flat_program a n) _ x in
      let A = program a scope n loops sh B G.0 y.0 (omega (arith, h)) in
      let Q = program q scope (n + size_program a) loops sh A.after G.1 (rw (length_program a n) at y.1) (omega (arith, h)) in
      at_end (omega arith) (record { code = code_block A.code Q.code; after = Q.after })
