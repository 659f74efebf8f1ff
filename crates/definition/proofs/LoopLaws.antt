-- A loop's block begins and ends without a row: expressions change nothing of a loop variable, and a program nothing of an open one.
use mathlib.Core.Path.{◌≡◌, refl, sym, ap, subst, ◌∙◌}
use mathlib.Core.Logic.{◌⊎◌, inl, inr}
use mathlib.Core.Bool.{Bool, true, false, not}
use mathlib.Core.List.{List, [], ◌∷◌, ◌++◌}
use Prim.Native.Nat.{ℕ}
use native.Mathlib.Omega.{arith}
use lib.Dec.{T, not_T}
use lib.ListN.{length}
use Rattle.definition.specs.Text.{Text, same, all_of, gather}
use Rattle.definition.specs.Limits.{Limits}
use Rattle.definition.specs.Token.{Token}
use Rattle.definition.specs.Syntax.{Term, name, string, anything, Expression, atom, truth, falsity, compare, matching, negation, conjunction, disjunction, implication, equivalence, exists, for_all, closure_of, compare_relations, literal, count_of, sum_of, ratio_of, compare_figures}
use Rattle.definition.specs.Syntax.{Item, rows, word, line_end, amount, Program, end, assign, print, test, while, for, block}
use Rattle.definition.specs.Answer.{ok}
use Rattle.definition.specs.Names.{Role, before_terms, attribute_only, term, variable_only, after_for, enter, leave, Use, use_as, in_terms, in_expression, in_item, in_program, Known, nothing, attribute, variable, open_variable, relation, Rule, becomes, first, row, rule, Kinds, learn, use_name, use_names, is_variable}
use Rattle.definition.proofs.BoolLaws.{decide, and_left, and_right, and_both}
use Rattle.definition.proofs.MeaningLaws.{same_eq}
use Rattle.definition.proofs.AcceptLaws.{ok_injective, bind_ok}
use Rattle.definition.proofs.NameLaws.{learn_here, Used, kept, added, used, used_other, names_append}

-- the roles of names in expressions and items
abbrev plain : Role → Bool
plain (before_terms n) = true
plain attribute_only = true
plain term = true
plain variable_only = true
plain after_for = false
plain enter = false
plain leave = false

abbrev plain_use : Use → Bool
plain_use u = plain u.role

-- what a rule makes of a loop variable
abbrev Steady : Known → Rule → Type 0
Steady v (becomes w) = w ≡ v
Steady v (first n) = ⊥
Steady v (row r) = Unit {0}

rule_steady : (p : Role) (v : Known) → T (plain p) → T (is_variable v) → Steady v (rule p v)
unfolding rule
rule_steady p nothing s t = absurd t
rule_steady p attribute s t = absurd t
rule_steady p (relation i n) s t = absurd t
rule_steady (before_terms n) variable s t = tt
rule_steady attribute_only variable s t = tt
rule_steady term variable s t = tt
rule_steady variable_only variable s t = tt
rule_steady after_for variable s t = absurd s
rule_steady enter variable s t = absurd s
rule_steady leave variable s t = absurd s
rule_steady (before_terms n) open_variable s t = tt
rule_steady attribute_only open_variable s t = tt
rule_steady term open_variable s t = refl
rule_steady variable_only open_variable s t = refl
rule_steady after_for open_variable s t = absurd s
rule_steady enter open_variable s t = absurd s
rule_steady leave open_variable s t = absurd s

used_steady : {k : Kinds} {p : Role} {t : Token} {l : Kinds} → Used k p t l → T (plain p) → (y : Text) → T (is_variable (k.known y)) → l.known y ≡ k.known y
used_steady {k} {p} {t} {l} h s y m = go (decide (same t.text y))
  where
    here : {l : Kinds} → Used k p t l → T (is_variable (k.known t.text)) → l.known t.text ≡ k.known t.text
    here (kept v e) m = learn_here t.text v k.known ∙ subst (Steady (k.known t.text)) e (rule_steady p (k.known t.text) s m)
    here (added c e) m = absurd (subst (Steady (k.known t.text)) e (rule_steady p (k.known t.text) s m))

    go : T (same t.text y) ⊎ T (not (same t.text y)) → l.known y ≡ k.known y
    go (inl q) = subst (λ z. T (is_variable (k.known z)) → l.known z ≡ k.known z) (same_eq t.text y q) (here h) m
    go (inr n) = used_other h y n

plain_steady : (limits : Limits) (us : List Use) (k l : Kinds) → T (all_of plain_use us) → use_names limits us k ≡ ok l → (y : Text) → T (is_variable (k.known y)) → l.known y ≡ k.known y
unfolding use_names all_of
plain_steady limits [] k l s e y m = ap (λ (j : Kinds). j.known y) (sym (ok_injective e))
plain_steady limits (u ∷ us) k l s e y m =
    let (j, p, q) = bind_ok (use_name limits k u) _ l e in
    let a : j.known y ≡ k.known y = used_steady (used limits k u.role u.token j p) (and_left (plain_use u) (all_of plain_use us) s) y m in
    plain_steady limits us j l (and_right (plain_use u) (all_of plain_use us) s) q y (subst (λ v. T (is_variable v)) (sym a) m) ∙ a

plain_append : (us vs : List Use) → T (all_of plain_use us) → T (all_of plain_use vs) → T (all_of plain_use (us ++ vs))
unfolding all_of
plain_append [] vs s t = t
plain_append (u ∷ us) vs s t =
    and_both (plain_use u) (all_of plain_use (us ++ vs)) (and_left (plain_use u) (all_of plain_use us) s) (plain_append us vs (and_right (plain_use u) (all_of plain_use us) s) t)

plain_terms : (p : Role) → T (plain p) → (ps : List Term) → T (all_of plain_use (in_terms p ps))
unfolding in_terms all_of
plain_terms p s [] = tt
plain_terms p s (name t ∷ ps) = and_both (plain p) (all_of plain_use (in_terms p ps)) s (plain_terms p s ps)
plain_terms p s (string t ∷ ps) = plain_terms p s ps
plain_terms p s (anything ∷ ps) = plain_terms p s ps

plain_expression : (e : Expression) → T (all_of plain_use (in_expression e))
unfolding in_expression all_of
plain_expression (atom r ps) = plain_terms term tt ps
plain_expression (truth ps) = plain_terms term tt ps
plain_expression (falsity ps) = plain_terms term tt ps
plain_expression (compare g p q) = plain_terms term tt (p ∷ q ∷ [])
plain_expression (matching s p) = plain_terms term tt (p ∷ [])
plain_expression (negation e) = plain_expression e
plain_expression (conjunction a b) = plain_append (in_expression a) (in_expression b) (plain_expression a) (plain_expression b)
plain_expression (disjunction a b) = plain_append (in_expression a) (in_expression b) (plain_expression a) (plain_expression b)
plain_expression (implication a b) = plain_append (in_expression a) (in_expression b) (plain_expression a) (plain_expression b)
plain_expression (equivalence a b) = plain_append (in_expression a) (in_expression b) (plain_expression a) (plain_expression b)
plain_expression (exists x e) = plain_expression e
plain_expression (for_all x e) = plain_expression e
plain_expression (closure_of e) = plain_expression e
plain_expression (compare_relations g a b) = plain_append (in_expression a) (in_expression b) (plain_expression a) (plain_expression b)
plain_expression (literal t) = tt
plain_expression (count_of e) = plain_expression e
plain_expression (sum_of a b) = plain_append (in_expression a) (in_expression b) (plain_expression a) (plain_expression b)
plain_expression (ratio_of a b) = plain_append (in_expression a) (in_expression b) (plain_expression a) (plain_expression b)
plain_expression (compare_figures g a b) = plain_append (in_expression a) (in_expression b) (plain_expression a) (plain_expression b)

plain_items : (is : List Item) → T (all_of plain_use (gather in_item is))
unfolding gather in_item all_of
plain_items [] = tt
plain_items (rows ps e ∷ is) =
    plain_append (in_terms variable_only ps ++ in_expression e) (gather in_item is) (plain_append (in_terms variable_only ps) (in_expression e) (plain_terms variable_only tt ps) (plain_expression e)) (plain_items is)
plain_items (word p ∷ is) = plain_append (in_terms variable_only (p ∷ [])) (gather in_item is) (plain_terms variable_only tt (p ∷ [])) (plain_items is)
plain_items (line_end ∷ is) = plain_items is
plain_items (amount e ∷ is) = plain_append (in_expression e) (gather in_item is) (plain_expression e) (plain_items is)

-- what a FOR's name becomes, and what it was not
abbrev Bound : Known → Rule → Type 0
Bound v (becomes w) = (w ≡ variable) × (v ≡ open_variable → ⊥)
Bound v (first n) = ⊥
Bound v (row r) = Unit {0}

rule_bound : (v : Known) → Bound v (rule after_for v)
unfolding rule
rule_bound nothing = (refl, λ e. absurd (let z : ◌≡◌ {A = ℕ} 0 1 = cc in omega arith))
rule_bound attribute = tt
rule_bound variable = (refl, λ e. absurd (let z : ◌≡◌ {A = ℕ} 0 1 = cc in omega arith))
rule_bound open_variable = tt
rule_bound (relation i n) = tt

bound : {k : Kinds} {t : Token} {l : Kinds} → Used k after_for t l → (l.known t.text ≡ variable) × (k.known t.text ≡ open_variable → ⊥)
bound {k} {t} (kept v e) =
    let (a, b) = subst (Bound (k.known t.text)) e (rule_bound (k.known t.text)) in
    (learn_here t.text v k.known ∙ a, b)
bound {k} {t} (added n e) = absurd (subst (Bound (k.known t.text)) e (rule_bound (k.known t.text)))

apart_from : (x y : Text) → (x ≡ y → ⊥) → T (not (same x y))
apart_from x y f = not_T (same x y) (λ s. f (same_eq x y s))

-- uses leave an open variable open
abbrev Leaves : Limits → List Use → Type 0
Leaves limits us = (k l : Kinds) → use_names limits us k ≡ ok l → (y : Text) → k.known y ≡ open_variable → l.known y ≡ open_variable

leaves_plain : (limits : Limits) (us : List Use) → T (all_of plain_use us) → Leaves limits us
leaves_plain limits us s k l e y o = plain_steady limits us k l s e y (subst (λ v. T (is_variable v)) (sym o) tt) ∙ o

leaves_append : (limits : Limits) (us vs : List Use) → Leaves limits us → Leaves limits vs → Leaves limits (us ++ vs)
leaves_append limits us vs f g k l e y o =
    let (m, p, q) = bind_ok (use_names limits us k) _ l (sym (names_append limits us vs k) ∙ e) in
    g m l q y (f k m p y o)

-- the block of a loop: its own name is not the open one
leaves_loop : (limits : Limits) (v : Token) (us vs ws : List Use) → Leaves limits us → Leaves limits vs → Leaves limits ws
    → Leaves limits (use_as after_for v ∷ (us ++ (use_as enter v ∷ (vs ++ (use_as leave v ∷ ws)))))
unfolding use_names
leaves_loop limits v us vs ws f g h k l e y o =
    let (k₁, p₁, q₁) = bind_ok (use_name limits k (use_as after_for v)) _ l e in
    let u₁ = used limits k after_for v k₁ p₁ in
    let (k₂, p₂, q₂) = bind_ok (use_names limits us k₁) _ l (sym (names_append limits us (use_as enter v ∷ (vs ++ (use_as leave v ∷ ws))) k₁) ∙ q₁) in
    let (k₃, p₃, q₃) = bind_ok (use_name limits k₂ (use_as enter v)) _ l q₂ in
    let (k₄, p₄, q₄) = bind_ok (use_names limits vs k₃) _ l (sym (names_append limits vs (use_as leave v ∷ ws) k₃) ∙ q₃) in
    let (k₅, p₅, q₅) = bind_ok (use_name limits k₄ (use_as leave v)) _ l q₄ in
    let other : T (not (same v.text y)) = apart_from v.text y (λ z. (bound u₁).1 (ap k.known z ∙ o)) in
    let o₁ : k₁.known y ≡ open_variable = used_other u₁ y other ∙ o in
    let o₃ : k₃.known y ≡ open_variable = used_other (used limits k₂ enter v k₃ p₃) y other ∙ f k₁ k₂ p₂ y o₁ in
    let o₅ : k₅.known y ≡ open_variable = used_other (used limits k₄ leave v k₅ p₅) y other ∙ g k₃ k₄ p₄ y o₃ in
    h k₅ l q₅ y o₅

leaves_program : (limits : Limits) (p : Program) → Leaves limits (in_program p)
unfolding in_program
leaves_program limits end = leaves_plain limits [] (unfold all_of in tt)
leaves_program limits (assign i r ps e k) =
    leaves_append limits (use_as (before_terms (length ps)) r ∷ []) (in_terms attribute_only ps ++ (in_expression e ++ in_program k)) (leaves_plain limits (use_as (before_terms (length ps)) r ∷ []) (unfold all_of in tt))
    (leaves_append limits (in_terms attribute_only ps) (in_expression e ++ in_program k) (leaves_plain limits (in_terms attribute_only ps) (plain_terms attribute_only tt ps))
    (leaves_append limits (in_expression e) (in_program k) (leaves_plain limits (in_expression e) (plain_expression e)) (leaves_program limits k)))
leaves_program limits (print i is k) = leaves_append limits (gather in_item is) (in_program k) (leaves_plain limits (gather in_item is) (plain_items is)) (leaves_program limits k)
leaves_program limits (test i e a b k) =
    leaves_append limits (in_expression e) (in_program a ++ (in_program b ++ in_program k)) (leaves_plain limits (in_expression e) (plain_expression e))
    (leaves_append limits (in_program a) (in_program b ++ in_program k) (leaves_program limits a) (leaves_append limits (in_program b) (in_program k) (leaves_program limits b) (leaves_program limits k)))
leaves_program limits (while i e a k) =
    leaves_append limits (in_expression e) (in_program a ++ in_program k) (leaves_plain limits (in_expression e) (plain_expression e))
    (leaves_append limits (in_program a) (in_program k) (leaves_program limits a) (leaves_program limits k))
leaves_program limits (for i v e a k) =
    leaves_loop limits v (in_expression e) (in_program a) (in_program k) (leaves_plain limits (in_expression e) (plain_expression e)) (leaves_program limits a) (leaves_program limits k)
leaves_program limits (block a k) = leaves_append limits (in_program a) (in_program k) (leaves_program limits a) (leaves_program limits k)

-- where a loop's block begins, its name is a loop variable that is not open, and where it ends an open one: no row is met
pub loop_enters : (limits : Limits) (k k₁ k₂ : Kinds) (v : Token) (e : Expression) → use_name limits k (use_as after_for v) ≡ ok k₁ → use_names limits (in_expression e) k₁ ≡ ok k₂
    → use_name limits k₂ (use_as enter v) ≡ ok (record { known = learn v.text open_variable k₂.known; relations = k₂.relations })
unfolding use_name rule
loop_enters limits k k₁ k₂ v e p q =
    let b : k₁.known v.text ≡ variable = (bound (used limits k after_for v k₁ p)).0 in
    let c : k₂.known v.text ≡ variable = plain_steady limits (in_expression e) k₁ k₂ (plain_expression e) q v.text (subst (λ z. T (is_variable z)) (sym b) tt) ∙ b in
    rw c

pub loop_leaves : (limits : Limits) (k k₃ : Kinds) (v : Token) (a : Program)
    → use_names limits (in_program a) (record { known = learn v.text open_variable k.known; relations = k.relations }) ≡ ok k₃
    → use_name limits k₃ (use_as leave v) ≡ ok (record { known = learn v.text variable k₃.known; relations = k₃.relations })
unfolding use_name rule
loop_leaves limits k k₃ v a p =
    let c : k₃.known v.text ≡ open_variable = leaves_program limits a _ k₃ p v.text (learn_here v.text open_variable k.known) in
    rw c
