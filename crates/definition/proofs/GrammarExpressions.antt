-- The productions of an expression, a line each, for code that reads them: GrammarReads says how a return cites them.
--   term           term-name-rule term-string-rule term-any-rule; no-term!
--   terms          terms-rule no-terms!; more-terms-rule end-terms!
--   comparison     expression-rule, at no token that begins a quantity; comparison-rule no-comparison!
--   quantities     figures-rule, at a token that begins one; quantity-rule; divisor-rule no-divisor!; more-summands-rule end-summands!
--   summand        counted-rule literal-rule no-summand!; large-literal-over ninth-literal-over ninth-counted-over for row 19
--   implication    implication-rule; implies-rule iff-rule no-consequent!
--   | and &        disjunction-rule more-or-rule end-or!; conjunction-rule more-and-rule end-and!
--   !              negation-rule; primary-rule, at any other token
--   primary        group-rule, ex-rule fa-rule, tc-rule tcfast-rule, true-rule false-rule, sign-before-rule, pattern-rule; no-primary!
--   by its second token: atom! atom-fails!, between! between-fails!, name-alone! string-alone! any-alone!
--   EX and FA      one-more! one-more-fails! (identifier and comma); body-rule, or body-name-rule after an identifier
use Prim.Native.Nat.{ℕ, ◌≤◌}
use mathlib.Core.List.{List, [], ◌∷◌, ◌++◌}
use mathlib.Core.Bool.{Bool, true, false, ◌||◌}
use mathlib.Core.Path.{◌≡◌, refl, ap, sym, subst, ◌∙◌}
use lib.Dec.{eqb}
use borrow.Author.Tests.{ne_eqb}
use Rattle.definition.proofs.BoolLaws.{apart}
use Rattle.definition.proofs.GrammarComplete.{Halts, on_not}
use Rattle.definition.proofs.GrammarReads.{Begins, begins_halts, begins_as, Takes, keys_alone, not_key, only_key, only_sign, neither, Next, nothing, a_name, a_string, a_number, a_sign, a_key, next, Reads, Fails, Rule, Excess, read!, fail!, Stands, ◌▸◌, ◌▹◌, stop!, done!, empty!, none!, sign!, no_sign!, unit_eq, like_eq, via, goes, on_goes, on_halts, on_one, off_one}
use Rattle.definition.specs.Grammar.{row, Tree, Term, Terms, MoreTerms, Expression, Comparison, Implication, Consequent, Disjunction, MoreOr, Conjunction, MoreAnd, Negation, Primary, Quantified, Quantity, Divisor, Summand, MoreSummands, none_left, one_less, flat}
use Rattle.definition.specs.Grammar.{no_terms, terms, end_terms, more_terms, term_name, term_string, term_any, expression, no_comparison, comparison, implication, no_consequent, implies, iff, disjunction, end_or, more_or, conjunction, end_and, more_and, negation, primary, group, ex, fa, tc, tcfast, atom, true_atom, false_atom, sign_before, sign_between, pattern_atom, one_more_attribute, quantified_body, figures, quantity, no_divisor, divisor, end_summands, more_summands, counted, literal}
use Rattle.definition.specs.Reader.{Symbol, phrase, fixed, identifier, any_string, any_sign, after_name, after_quantified, level_end, on_key, wrap, levels_open, as_negation, as_figures, as_relations, as_body, as_quantified_rest, arguments, compared_with, quantified_more, primary_of, quantified_of, map_reading, read}
use Rattle.definition.specs.Token.{Terminal, name, string, number, sign, key, Sign, LPAREN, RPAREN, COMMA, AND, OR, NOT, IMPLIES, IFF, UNDERSCORE, EX, FA, TC, TCFAST, TRUE, FALSE, AT, HASH, PLUS, SLASH}

-- Terms.
pub term_name_rule : {x : ℕ} → Rule (phrase Term) (name x) [] (λ fs. term_name x)
term_name_rule = record { is = λ s. refl }

pub term_string_rule : {x : ℕ} → Rule (phrase Term) (string x) [] (λ fs. term_string x)
term_string_rule = record { is = λ s. refl }

pub term_any_rule : Rule (phrase Term) (key UNDERSCORE) [] (λ fs. term_any)
unfolding on_key
term_any_rule = record { is = λ s. refl }

-- the tokens that begin a term
abbrev pub begins_term : Next → Bool
begins_term nothing = false
begins_term a_name = true
begins_term a_string = true
begins_term (a_number o) = false
begins_term (a_sign g) = false
begins_term (a_key k) = eqb k UNDERSCORE || false

pub not_term : (n : Next) → (n ≡ a_name → ⊥) → (n ≡ a_string → ⊥) → (n ≡ a_key UNDERSCORE → ⊥) → begins_term n ≡ false
not_term nothing a b c = refl
not_term a_name a b c = absurd (a refl)
not_term a_string a b c = absurd (b refl)
not_term (a_number o) a b c = refl
not_term (a_sign g) a b c = refl
not_term (a_key k) a b c = ap (λ v. v || false) (ne_eqb k UNDERSCORE (λ e. c (ap a_key e)))

term_halts : (ts : List Terminal) → begins_term (next ts) ≡ false → Halts (phrase Term) ts
term_halts [] h = tt
term_halts (name x ∷ l) h = absurd (apart h)
term_halts (string x ∷ l) h = absurd (apart h)
term_halts (number o x ∷ l) h = λ s. refl
term_halts (sign g ∷ l) h = λ s. refl
term_halts (key k ∷ l) h = λ s. on_halts k UNDERSCORE _ _ false (λ e. refl) h

pub no_term! : {d : ℕ} {ts : List Terminal} → begins_term (next ts) ≡ false → Fails d (phrase Term ∷ []) ts 10 ts
no_term! {ts = ts} h = none! (phrase Term) ts refl (term_halts ts h)

term_takes : (ts : List Terminal) → begins_term (next ts) ≡ true → Takes (phrase Term) ts
term_takes [] h = apart (sym h)
term_takes (name x ∷ l) h = λ s. goes _ _
term_takes (string x ∷ l) h = λ s. goes _ _
term_takes (number o x ∷ l) h = absurd (apart (sym h))
term_takes (sign g ∷ l) h = absurd (apart (sym h))
term_takes (key k ∷ l) h = λ s. on_goes k UNDERSCORE _ _ _ false (λ e. absurd (apart (sym e))) h

terms_begin : Begins (phrase Terms) (phrase Term) (phrase MoreTerms ∷ []) (λ fs. terms fs.0 fs.1.0)
terms_begin = record { is = λ t s. refl }

pub no_terms! : {d : ℕ} {ts : List Terminal} → begins_term (next ts) ≡ false → Reads d (phrase Terms ∷ []) ts (no_terms, tt) ts
no_terms! {ts = ts} h = empty! (phrase Terms) ts refl (begins_halts terms_begin ts (term_halts ts h))

pub terms_rule : {ts : List Terminal} → begins_term (next ts) ≡ true → Stands (phrase Terms) (phrase Term ∷ phrase MoreTerms ∷ []) (λ fs. terms fs.0 fs.1.0) ts
terms_rule {ts} h = begins_as terms_begin ts (term_takes ts h)

pub more_terms_rule : Rule (phrase MoreTerms) (key COMMA) (phrase Term ∷ phrase MoreTerms ∷ []) (λ fs. more_terms fs.0 fs.1.0)
unfolding on_key
more_terms_rule = record { is = λ s. refl }

pub end_terms! : {d : ℕ} {ts : List Terminal} → (next ts ≡ a_key COMMA → ⊥) → Reads d (phrase MoreTerms ∷ []) ts (end_terms, tt) ts
end_terms! {ts = ts} h = empty! (phrase MoreTerms) ts refl (only_key (phrase MoreTerms) COMMA (λ i s. refl) (λ i s. refl) (λ o i s. refl) (λ g s. refl) (λ k s e. on_not k COMMA _ _ e) ts h)

-- Quantities.
-- the tokens that begin one, a sum or a summand
abbrev pub begins_quantity : Next → Bool
begins_quantity nothing = false
begins_quantity a_name = false
begins_quantity a_string = false
begins_quantity (a_number o) = true
begins_quantity (a_sign g) = false
begins_quantity (a_key k) = eqb k HASH || false

pub not_quantity : (n : Next) → ((o : Bool) → n ≡ a_number o → ⊥) → (n ≡ a_key HASH → ⊥) → begins_quantity n ≡ false
not_quantity nothing a b = refl
not_quantity a_name a b = refl
not_quantity a_string a b = refl
not_quantity (a_number o) a b = absurd (a o refl)
not_quantity (a_sign g) a b = refl
not_quantity (a_key k) a b = ap (λ v. v || false) (ne_eqb k HASH (λ e. b (ap a_key e)))

pub counted_rule : Rule (phrase (Summand false)) (key HASH) (fixed LPAREN ∷ phrase Expression ∷ fixed RPAREN ∷ level_end ∷ []) (λ fs. counted fs.1.0)
unfolding on_key
counted_rule = record { is = λ s. refl }

pub literal_rule : {x : ℕ} → Rule (phrase (Summand false)) (number false x) [] (λ fs. literal false x)
literal_rule = record { is = λ s. refl }

-- row 19: "a literal too large", and "a ninth summand's first"
pub large_literal_over : {x : ℕ} → Excess (phrase (Summand false)) (number true x) [] (λ fs. literal true x)
large_literal_over = record { is = λ s. refl }

pub ninth_literal_over : {o : Bool} {x : ℕ} → Excess (phrase (Summand true)) (number o x) [] (λ fs. literal o x)
ninth_literal_over = record { is = λ s. refl }

pub ninth_counted_over : Excess (phrase (Summand true)) (key HASH) (fixed LPAREN ∷ phrase Expression ∷ fixed RPAREN ∷ level_end ∷ []) (λ fs. counted fs.1.0)
unfolding on_key
ninth_counted_over = record { is = λ s. refl }

pub no_summand! : {d : ℕ} {b : Bool} {ts : List Terminal} → begins_quantity (next ts) ≡ false → Fails d (phrase (Summand b) ∷ []) ts 10 ts
no_summand! {b = b} {ts = ts} h = none! (phrase (Summand b)) ts refl (at ts h)
  where
    at : (ts : List Terminal) → begins_quantity (next ts) ≡ false → Halts (phrase (Summand b)) ts
    at [] h = tt
    at (name x ∷ l) h = λ s. refl
    at (string x ∷ l) h = λ s. refl
    at (number o x ∷ l) h = absurd (apart h)
    at (sign g ∷ l) h = λ s. refl
    at (key k ∷ l) h = λ s. off_one k HASH _ _ h

pub more_summands_rule : {n : ℕ} → Rule (phrase (MoreSummands n)) (key PLUS) (phrase (Summand (none_left n)) ∷ phrase (MoreSummands (one_less n)) ∷ []) (λ fs. more_summands fs.0 fs.1.0)
unfolding on_key
more_summands_rule = record { is = λ s. refl }

pub end_summands! : {d n : ℕ} {ts : List Terminal} → (next ts ≡ a_key PLUS → ⊥) → Reads d (phrase (MoreSummands n) ∷ []) ts (end_summands, tt) ts
end_summands! {n = n} {ts = ts} h = empty! (phrase (MoreSummands n)) ts refl (only_key (phrase (MoreSummands n)) PLUS (λ i s. refl) (λ i s. refl) (λ o i s. refl) (λ g s. refl) (λ k s e. on_not k PLUS _ _ e) ts h)

pub divisor_rule : Rule (phrase Divisor) (key SLASH) (phrase (Summand false) ∷ phrase (MoreSummands 7) ∷ []) (λ fs. divisor fs.0 fs.1.0)
unfolding on_key
divisor_rule = record { is = λ s. refl }

pub no_divisor! : {d : ℕ} {ts : List Terminal} → (next ts ≡ a_key SLASH → ⊥) → Reads d (phrase Divisor ∷ []) ts (no_divisor, tt) ts
no_divisor! {ts = ts} h = empty! (phrase Divisor) ts refl (only_key (phrase Divisor) SLASH (λ i s. refl) (λ i s. refl) (λ o i s. refl) (λ g s. refl) (λ k s e. on_not k SLASH _ _ e) ts h)

pub quantity_rule : {ts : List Terminal} → Stands (phrase Quantity) (phrase (Summand false) ∷ phrase (MoreSummands 7) ∷ phrase Divisor ∷ []) (λ fs. quantity fs.0 fs.1.0 fs.1.1.0) ts
quantity_rule {ts} = record { is = λ s. unit_eq (phrase Quantity) (phrase (Summand false)) s (phrase (MoreSummands 7) ∷ phrase Divisor ∷ s) _ refl refl (λ t. refl) ts }

-- From comparisons to &.
pub figures_rule : {ts : List Terminal} → begins_quantity (next ts) ≡ true → Stands (phrase Expression) (phrase Quantity ∷ any_sign ∷ phrase Quantity ∷ []) (λ fs. figures fs.0 fs.1.0 fs.1.1.0) ts
figures_rule {ts} h = record { is = λ s. at ts h s }
  where
    at : (ts : List Terminal) → begins_quantity (next ts) ≡ true → (s : List Symbol) → read ts (phrase Expression ∷ s) ≡ map_reading (as_figures s) (read ts (phrase Quantity ∷ any_sign ∷ phrase Quantity ∷ s))
    at [] h s = absurd (apart (sym h))
    at (name x ∷ l) h s = absurd (apart (sym h))
    at (string x ∷ l) h s = absurd (apart (sym h))
    at (number o x ∷ l) h s = like_eq (phrase Expression) (phrase Quantity) s (any_sign ∷ phrase Quantity ∷ s) (as_figures s) refl refl (number o x) refl l
    at (sign g ∷ l) h s = absurd (apart (sym h))
    at (key k ∷ l) h s = like_eq (phrase Expression) (phrase Quantity) s (any_sign ∷ phrase Quantity ∷ s) (as_figures s) refl refl (key k) (on_one k HASH _ _ h) l

pub expression_rule : {ts : List Terminal} → begins_quantity (next ts) ≡ false → Stands (phrase Expression) (phrase Implication ∷ phrase Comparison ∷ []) (λ fs. expression fs.0 fs.1.0) ts
expression_rule {ts} h = record { is = λ s. at ts h s }
  where
    at : (ts : List Terminal) → begins_quantity (next ts) ≡ false → (s : List Symbol) → read ts (phrase Expression ∷ s) ≡ map_reading (as_relations s) (read ts (phrase Implication ∷ phrase Comparison ∷ s))
    at [] h s = refl
    at (name x ∷ l) h s = like_eq (phrase Expression) (phrase Implication) s (phrase Comparison ∷ s) (as_relations s) refl refl (name x) refl l
    at (string x ∷ l) h s = like_eq (phrase Expression) (phrase Implication) s (phrase Comparison ∷ s) (as_relations s) refl refl (string x) refl l
    at (number o x ∷ l) h s = absurd (apart h)
    at (sign g ∷ l) h s = like_eq (phrase Expression) (phrase Implication) s (phrase Comparison ∷ s) (as_relations s) refl refl (sign g) refl l
    at (key k ∷ l) h s = like_eq (phrase Expression) (phrase Implication) s (phrase Comparison ∷ s) (as_relations s) refl refl (key k) (off_one k HASH _ _ h) l

pub implication_rule : {ts : List Terminal} → Stands (phrase Implication) (phrase Disjunction ∷ phrase Consequent ∷ []) (λ fs. implication fs.0 fs.1.0) ts
implication_rule {ts} = record { is = λ s. unit_eq (phrase Implication) (phrase Disjunction) s (phrase Consequent ∷ s) _ refl refl (λ t. refl) ts }

pub disjunction_rule : {ts : List Terminal} → Stands (phrase Disjunction) (phrase Conjunction ∷ phrase MoreOr ∷ []) (λ fs. disjunction fs.0 fs.1.0) ts
disjunction_rule {ts} = record { is = λ s. unit_eq (phrase Disjunction) (phrase Conjunction) s (phrase MoreOr ∷ s) _ refl refl (λ t. refl) ts }

pub conjunction_rule : {ts : List Terminal} → Stands (phrase Conjunction) (phrase Negation ∷ phrase MoreAnd ∷ []) (λ fs. conjunction fs.0 fs.1.0) ts
conjunction_rule {ts} = record { is = λ s. unit_eq (phrase Conjunction) (phrase Negation) s (phrase MoreAnd ∷ s) _ refl refl (λ t. refl) ts }

pub comparison_rule : {g : Sign} → Rule (phrase Comparison) (sign g) (phrase Implication ∷ []) (λ fs. comparison g fs.0)
comparison_rule = record { is = λ s. refl }

pub no_comparison! : {d : ℕ} {ts : List Terminal} → ((g : Sign) → next ts ≡ a_sign g → ⊥) → Reads d (phrase Comparison ∷ []) ts (no_comparison, tt) ts
no_comparison! {ts = ts} h = empty! (phrase Comparison) ts refl (only_sign (phrase Comparison) (λ i s. refl) (λ i s. refl) (λ o i s. refl) (λ k s. refl) ts h)

pub implies_rule : Rule (phrase Consequent) (key IMPLIES) (phrase Disjunction ∷ []) (λ fs. implies fs.0)
unfolding on_key
implies_rule = record { is = λ s. refl }

pub iff_rule : Rule (phrase Consequent) (key IFF) (phrase Disjunction ∷ []) (λ fs. iff fs.0)
unfolding on_key
iff_rule = record { is = λ s. refl }

pub no_consequent! : {d : ℕ} {ts : List Terminal} → (next ts ≡ a_key IMPLIES → ⊥) → (next ts ≡ a_key IFF → ⊥) → Reads d (phrase Consequent ∷ []) ts (no_consequent, tt) ts
no_consequent! {ts = ts} h i =
    empty! (phrase Consequent) ts refl
    (keys_alone (phrase Consequent) (λ i s. refl) (λ i s. refl) (λ o i s. refl) (λ g s. refl) ts (λ k e s. on_not k IMPLIES _ _ (not_key e h) ∙ on_not k IFF _ _ (not_key e i)))

pub more_or_rule : Rule (phrase MoreOr) (key OR) (phrase Conjunction ∷ phrase MoreOr ∷ []) (λ fs. more_or fs.0 fs.1.0)
unfolding on_key
more_or_rule = record { is = λ s. refl }

pub end_or! : {d : ℕ} {ts : List Terminal} → (next ts ≡ a_key OR → ⊥) → Reads d (phrase MoreOr ∷ []) ts (end_or, tt) ts
end_or! {ts = ts} h = empty! (phrase MoreOr) ts refl (only_key (phrase MoreOr) OR (λ i s. refl) (λ i s. refl) (λ o i s. refl) (λ g s. refl) (λ k s e. on_not k OR _ _ e) ts h)

pub more_and_rule : Rule (phrase MoreAnd) (key AND) (phrase Negation ∷ phrase MoreAnd ∷ []) (λ fs. more_and fs.0 fs.1.0)
unfolding on_key
more_and_rule = record { is = λ s. refl }

pub end_and! : {d : ℕ} {ts : List Terminal} → (next ts ≡ a_key AND → ⊥) → Reads d (phrase MoreAnd ∷ []) ts (end_and, tt) ts
end_and! {ts = ts} h = empty! (phrase MoreAnd) ts refl (only_key (phrase MoreAnd) AND (λ i s. refl) (λ i s. refl) (λ o i s. refl) (λ g s. refl) (λ k s e. on_not k AND _ _ e) ts h)

-- !, and what stands at any other token.
pub negation_rule : Rule (phrase Negation) (key NOT) (phrase Negation ∷ level_end ∷ []) (λ fs. negation fs.0)
unfolding on_key
negation_rule = record { is = λ s. refl }

pub primary_rule : {ts : List Terminal} → (next ts ≡ a_key NOT → ⊥) → Stands (phrase Negation) (phrase Primary ∷ []) (λ fs. primary fs.0) ts
primary_rule {ts} h = record { is = λ s. at ts h s }
  where
    at : (ts : List Terminal) → (next ts ≡ a_key NOT → ⊥) → (s : List Symbol) → read ts (phrase Negation ∷ s) ≡ map_reading (as_negation s) (read ts (phrase Primary ∷ s))
    at [] h s = refl
    at (name x ∷ l) h s = like_eq (phrase Negation) (phrase Primary) s s (as_negation s) refl refl (name x) refl l
    at (string x ∷ l) h s = like_eq (phrase Negation) (phrase Primary) s s (as_negation s) refl refl (string x) refl l
    at (number o x ∷ l) h s = like_eq (phrase Negation) (phrase Primary) s s (as_negation s) refl refl (number o x) refl l
    at (sign g ∷ l) h s = like_eq (phrase Negation) (phrase Primary) s s (as_negation s) refl refl (sign g) refl l
    at (key k ∷ l) h s = like_eq (phrase Negation) (phrase Primary) s s (as_negation s) refl refl (key k) (on_not k NOT _ _ (ne_eqb k NOT (λ e. h (ap a_key e)))) l

-- Primaries that their first token tells.
pub group_rule : Rule (phrase Primary) (key LPAREN) (phrase Expression ∷ fixed RPAREN ∷ level_end ∷ []) (λ fs. group fs.0)
unfolding on_key
group_rule = record { is = λ s. refl }

pub ex_rule : Rule (phrase Primary) (key EX) (fixed LPAREN ∷ identifier ∷ fixed COMMA ∷ phrase Quantified ∷ fixed RPAREN ∷ level_end ∷ []) (λ fs. ex fs.1.0 fs.1.1.1.0)
unfolding on_key
ex_rule = record { is = λ s. refl }

pub fa_rule : Rule (phrase Primary) (key FA) (fixed LPAREN ∷ identifier ∷ fixed COMMA ∷ phrase Quantified ∷ fixed RPAREN ∷ level_end ∷ []) (λ fs. fa fs.1.0 fs.1.1.1.0)
unfolding on_key
fa_rule = record { is = λ s. refl }

pub tc_rule : Rule (phrase Primary) (key TC) (fixed LPAREN ∷ phrase Expression ∷ fixed RPAREN ∷ level_end ∷ []) (λ fs. tc fs.1.0)
unfolding on_key
tc_rule = record { is = λ s. refl }

pub tcfast_rule : Rule (phrase Primary) (key TCFAST) (fixed LPAREN ∷ phrase Expression ∷ fixed RPAREN ∷ level_end ∷ []) (λ fs. tcfast fs.1.0)
unfolding on_key
tcfast_rule = record { is = λ s. refl }

pub true_rule : Rule (phrase Primary) (key TRUE) (fixed LPAREN ∷ phrase Terms ∷ fixed RPAREN ∷ []) (λ fs. true_atom fs.1.0)
unfolding on_key
true_rule = record { is = λ s. refl }

pub false_rule : Rule (phrase Primary) (key FALSE) (fixed LPAREN ∷ phrase Terms ∷ fixed RPAREN ∷ []) (λ fs. false_atom fs.1.0)
unfolding on_key
false_rule = record { is = λ s. refl }

pub sign_before_rule : {g : Sign} → Rule (phrase Primary) (sign g) (fixed LPAREN ∷ phrase Term ∷ fixed COMMA ∷ phrase Term ∷ fixed RPAREN ∷ []) (λ fs. sign_before g fs.1.0 fs.1.1.1.0)
sign_before_rule = record { is = λ s. refl }

pub pattern_rule : Rule (phrase Primary) (key AT) (any_string ∷ fixed LPAREN ∷ phrase Term ∷ fixed RPAREN ∷ []) (λ fs. pattern_atom fs.0 fs.1.1.0)
unfolding on_key
pattern_rule = record { is = λ s. refl }

-- the tokens that begin a primary
abbrev pub begins_primary : Next → Bool
begins_primary nothing = false
begins_primary a_name = true
begins_primary a_string = true
begins_primary (a_number o) = false
begins_primary (a_sign g) = true
begins_primary (a_key k) = eqb k LPAREN || (eqb k EX || (eqb k FA || (eqb k TC || (eqb k TCFAST || (eqb k TRUE || (eqb k FALSE || (eqb k AT || (eqb k UNDERSCORE || false))))))))

pub not_primary : (n : Next) → (n ≡ a_name → ⊥) → (n ≡ a_string → ⊥) → ((g : Sign) → n ≡ a_sign g → ⊥) → (n ≡ a_key LPAREN → ⊥) → (n ≡ a_key EX → ⊥) → (n ≡ a_key FA → ⊥) → (n ≡ a_key TC → ⊥) → (n ≡ a_key TCFAST → ⊥) → (n ≡ a_key TRUE → ⊥) → (n ≡ a_key FALSE → ⊥) → (n ≡ a_key AT → ⊥) → (n ≡ a_key UNDERSCORE → ⊥) → begins_primary n ≡ false
not_primary nothing x y z a b c d e f g h i = refl
not_primary a_name x y z a b c d e f g h i = absurd (x refl)
not_primary a_string x y z a b c d e f g h i = absurd (y refl)
not_primary (a_number o) x y z a b c d e f g h i = refl
not_primary (a_sign j) x y z a b c d e f g h i = absurd (z j refl)
not_primary (a_key k) x y z a b c d e f g h i = neither k LPAREN _ a (neither k EX _ b (neither k FA _ c (neither k TC _ d (neither k TCFAST _ e (neither k TRUE _ f (neither k FALSE _ g (neither k AT _ h (neither k UNDERSCORE _ i refl))))))))

pub no_primary! : {d : ℕ} {ts : List Terminal} → begins_primary (next ts) ≡ false → Fails d (phrase Primary ∷ []) ts 10 ts
no_primary! {ts = ts} h = none! (phrase Primary) ts refl (at ts h)
  where
    at : (ts : List Terminal) → begins_primary (next ts) ≡ false → Halts (phrase Primary) ts
    at [] h = tt
    at (name x ∷ l) h = absurd (apart h)
    at (string x ∷ l) h = absurd (apart h)
    at (number o x ∷ l) h = λ s. refl
    at (sign g ∷ l) h = absurd (apart h)
    at (key k ∷ l) h = λ s. on_halts k LPAREN _ _ (eqb k EX || (eqb k FA || (eqb k TC || (eqb k TCFAST || (eqb k TRUE || (eqb k FALSE || (eqb k AT || (eqb k UNDERSCORE || false)))))))) (on_halts k EX _ _ (eqb k FA || (eqb k TC || (eqb k TCFAST || (eqb k TRUE || (eqb k FALSE || (eqb k AT || (eqb k UNDERSCORE || false))))))) (on_halts k FA _ _ (eqb k TC || (eqb k TCFAST || (eqb k TRUE || (eqb k FALSE || (eqb k AT || (eqb k UNDERSCORE || false)))))) (on_halts k TC _ _ (eqb k TCFAST || (eqb k TRUE || (eqb k FALSE || (eqb k AT || (eqb k UNDERSCORE || false))))) (on_halts k TCFAST _ _ (eqb k TRUE || (eqb k FALSE || (eqb k AT || (eqb k UNDERSCORE || false)))) (on_halts k TRUE _ _ (eqb k FALSE || (eqb k AT || (eqb k UNDERSCORE || false))) (on_halts k FALSE _ _ (eqb k AT || (eqb k UNDERSCORE || false)) (on_halts k AT _ _ (eqb k UNDERSCORE || false) (on_halts k UNDERSCORE _ _ false (λ e. refl))))))))) h

-- Primaries that begin with a term, told by the token behind it.
name_rule : {x : ℕ} → Rule (phrase Primary) (name x) (after_name ∷ []) (λ fs. primary_of x fs.0)
name_rule = record { is = λ s. refl }

arguments_rule : Rule after_name (key LPAREN) (phrase Terms ∷ fixed RPAREN ∷ []) (λ fs. arguments fs.0)
unfolding on_key
arguments_rule = record { is = λ s. refl }

compared_rule : {g : Sign} → Rule after_name (sign g) (phrase Term ∷ []) (λ fs. compared_with g fs.0)
compared_rule = record { is = λ s. refl }

string_rule : {x : ℕ} → Rule (phrase Primary) (string x) (any_sign ∷ phrase Term ∷ []) (λ fs. sign_between (term_string x) fs.0 fs.1.0)
string_rule = record { is = λ s. refl }

any_rule : Rule (phrase Primary) (key UNDERSCORE) (any_sign ∷ phrase Term ∷ []) (λ fs. sign_between term_any fs.0 fs.1.0)
unfolding on_key
any_rule = record { is = λ s. refl }

pub atom! : {d x : ℕ} {ts l m r : List Terminal} {u : Tree Terms} → d ≤ 32 → ts ≡ name x ∷ l → l ≡ key LPAREN ∷ m → Reads d (phrase Terms ∷ fixed RPAREN ∷ []) m (u, (tt, tt)) r → Reads d (phrase Primary ∷ []) ts (atom x u, tt) r
atom! k e i f = read! name_rule k e (read! arguments_rule k i f ▸ done!)

pub atom_fails! : {d n x : ℕ} {ts l m r : List Terminal} → d ≤ 32 → ts ≡ name x ∷ l → l ≡ key LPAREN ∷ m → Fails d (phrase Terms ∷ fixed RPAREN ∷ []) m n r → Fails d (phrase Primary ∷ []) ts n r
atom_fails! k e i f = fail! name_rule k e (stop! (fail! arguments_rule k i f))

pub between! : {d : ℕ} {g : Sign} {ts l m r : List Terminal} (a : Tree Term) {b : Tree Term} → d ≤ 32 → ts ≡ flat a ++ l → l ≡ sign g ∷ m → Reads d (phrase Term ∷ []) m (b, tt) r → Reads d (phrase Primary ∷ []) ts (sign_between a g b, tt) r
between! (term_name x) k e i f = read! name_rule k e (read! compared_rule k i f ▸ done!)
between! (term_string x) k e i f = read! string_rule k e (sign! k i ▸ f)
between! term_any k e i f = read! any_rule k e (sign! k i ▸ f)

pub between_fails! : {d n : ℕ} {g : Sign} {ts l m r : List Terminal} (a : Tree Term) → d ≤ 32 → ts ≡ flat a ++ l → l ≡ sign g ∷ m → Fails d (phrase Term ∷ []) m n r → Fails d (phrase Primary ∷ []) ts n r
between_fails! (term_name x) k e i f = fail! name_rule k e (stop! (fail! compared_rule k i f))
between_fails! (term_string x) k e i f = fail! string_rule k e (sign! k i ▹ f)
between_fails! term_any k e i f = fail! any_rule k e (sign! k i ▹ f)

pub after_name_halts : (l : List Terminal) → (next l ≡ a_key LPAREN → ⊥) → ((g : Sign) → next l ≡ a_sign g → ⊥) → Halts after_name l
after_name_halts [] h i = tt
after_name_halts (name x ∷ l) h i = λ s. refl
after_name_halts (string x ∷ l) h i = λ s. refl
after_name_halts (number o x ∷ l) h i = λ s. refl
after_name_halts (sign g ∷ l) h i = absurd (i g refl)
after_name_halts (key k ∷ l) h i = λ s. on_not k LPAREN _ _ (ne_eqb k LPAREN (λ e. h (ap a_key e)))

-- a term with neither behind it; after a string or "_" a bracket is no better
pub name_alone! : {d x : ℕ} {ts l : List Terminal} → d ≤ 32 → ts ≡ name x ∷ l → (next l ≡ a_key LPAREN → ⊥) → ((g : Sign) → next l ≡ a_sign g → ⊥) → Fails d (phrase Primary ∷ []) ts 10 l
name_alone! {l = l} k e h i = fail! name_rule k e (stop! (none! after_name l refl (after_name_halts l h i)))

pub string_alone! : {d x : ℕ} {ts l : List Terminal} → d ≤ 32 → ts ≡ string x ∷ l → ((g : Sign) → next l ≡ a_sign g → ⊥) → Fails d (phrase Primary ∷ []) ts 10 l
string_alone! k e h = fail! string_rule k e (stop! (no_sign! h))

pub any_alone! : {d : ℕ} {ts l : List Terminal} → d ≤ 32 → ts ≡ key UNDERSCORE ∷ l → ((g : Sign) → next l ≡ a_sign g → ⊥) → Fails d (phrase Primary ∷ []) ts 10 l
any_alone! k e h = fail! any_rule k e (stop! (no_sign! h))

-- "After EX( or FA( an identifier followed by a comma is a quantified attribute"; anything else is the expression.
quantified_rule : {x : ℕ} → Rule (phrase Quantified) (name x) (after_quantified ∷ []) (λ fs. quantified_of x fs.0)
quantified_rule = record { is = λ s. refl }

comma_rule : Rule after_quantified (key COMMA) (phrase Quantified ∷ []) (λ fs. quantified_more fs.0)
unfolding on_key
comma_rule = record { is = λ s. refl }

pub one_more! : {d x : ℕ} {ts l m r : List Terminal} {q : Tree Quantified} → d ≤ 32 → ts ≡ name x ∷ l → l ≡ key COMMA ∷ m → Reads d (phrase Quantified ∷ []) m (q, tt) r → Reads d (phrase Quantified ∷ []) ts (one_more_attribute x q, tt) r
one_more! k e i f = read! quantified_rule k e (read! comma_rule k i f ▸ done!)

pub one_more_fails! : {d n x : ℕ} {ts l m r : List Terminal} → d ≤ 32 → ts ≡ name x ∷ l → l ≡ key COMMA ∷ m → Fails d (phrase Quantified ∷ []) m n r → Fails d (phrase Quantified ∷ []) ts n r
one_more_fails! k e i f = fail! quantified_rule k e (stop! (fail! comma_rule k i f))

pub body_rule : {ts : List Terminal} → (next ts ≡ a_name → ⊥) → Stands (phrase Quantified) (phrase Expression ∷ []) (λ fs. quantified_body fs.0) ts
body_rule {ts} h = record { is = λ s. at ts h s }
  where
    at : (ts : List Terminal) → (next ts ≡ a_name → ⊥) → (s : List Symbol) → read ts (phrase Quantified ∷ s) ≡ map_reading (as_body s) (read ts (phrase Expression ∷ s))
    at [] h s = refl
    at (name x ∷ l) h s = absurd (h refl)
    at (string x ∷ l) h s = like_eq (phrase Quantified) (phrase Expression) s s (as_body s) refl refl (string x) refl l
    at (number o x ∷ l) h s = like_eq (phrase Quantified) (phrase Expression) s s (as_body s) refl refl (number o x) refl l
    at (sign g ∷ l) h s = like_eq (phrase Quantified) (phrase Expression) s s (as_body s) refl refl (sign g) refl l
    at (key k ∷ l) h s = like_eq (phrase Quantified) (phrase Expression) s s (as_body s) refl refl (key k) refl l

-- what follows the first primary of an expression
abbrev pub rests : List Symbol → List Symbol
rests s = phrase MoreAnd ∷ phrase MoreOr ∷ phrase Consequent ∷ phrase Comparison ∷ s

quantified_name : (x : ℕ) (l : List Terminal) (s : List Symbol) → read l (after_quantified ∷ s) ≡ map_reading (as_quantified_rest s) (read l (after_name ∷ rests s)) → read (name x ∷ l) (phrase Quantified ∷ s) ≡ map_reading (as_body s) (read (name x ∷ l) (phrase Expression ∷ s))
unfolding wrap
quantified_name x l s e = via (after_name ∷ rests s) (after_quantified ∷ s) (phrase Expression ∷ s) (phrase Quantified ∷ s) (row false (levels_open s)) (name x ∷ l) _ _ (as_quantified_rest s) (as_body s) (λ u. refl) (read l (after_name ∷ rests s)) (read l (after_quantified ∷ s)) e

quantified_rest_eq : (l : List Terminal) → (next l ≡ a_key COMMA → ⊥) → (s : List Symbol) → read l (after_quantified ∷ s) ≡ map_reading (as_quantified_rest s) (read l (after_name ∷ rests s))
quantified_rest_eq [] h s = refl
quantified_rest_eq (name x ∷ l) h s = like_eq after_quantified after_name s (rests s) (as_quantified_rest s) refl refl (name x) refl l
quantified_rest_eq (string x ∷ l) h s = like_eq after_quantified after_name s (rests s) (as_quantified_rest s) refl refl (string x) refl l
quantified_rest_eq (number o x ∷ l) h s = like_eq after_quantified after_name s (rests s) (as_quantified_rest s) refl refl (number o x) refl l
quantified_rest_eq (sign g ∷ l) h s = like_eq after_quantified after_name s (rests s) (as_quantified_rest s) refl refl (sign g) refl l
quantified_rest_eq (key k ∷ l) h s = like_eq after_quantified after_name s (rests s) (as_quantified_rest s) refl refl (key k) (on_not k COMMA _ _ (ne_eqb k COMMA (λ e. h (ap a_key e)))) l

pub body_name_rule : {x : ℕ} {ts l : List Terminal} → ts ≡ name x ∷ l → (next l ≡ a_key COMMA → ⊥) → Stands (phrase Quantified) (phrase Expression ∷ []) (λ fs. quantified_body fs.0) ts
body_name_rule {x} {ts} {l} e h = subst (Stands (phrase Quantified) (phrase Expression ∷ []) (λ fs. quantified_body fs.0)) (sym e) (record { is = λ s. quantified_name x l s (quantified_rest_eq l h s) })
