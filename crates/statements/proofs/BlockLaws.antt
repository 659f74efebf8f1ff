-- Blocks and ELSE: a sequence of statements at a level of its own.
use Rattle.std.specs.Prelude.{Ok, Err}
use mathlib.Core.List.{List, [], ◌∷◌, append-nil}
use mathlib.Core.Path.{◌≡◌, refl, ap, sym, subst, ◌∙◌}
use native.Mathlib.Omega.{arith}
use Prim.Native.Nat.{ℕ, suc, ◌+◌, ◌≤◌, ◌<◌}
use lib.ListN.{length, drop}
use Rattle.definition.proofs.GrammarReads.{Stands, like_eq, act, read!, fail!, deep!, as!, as_fails!, ◌▸◌, ◌▹◌, stop!, done!, closed!, token!, no_token! }
use Rattle.definition.proofs.GrammarStatements.{block_rule, no_block!, else_rule, no_else! }
use Rattle.definition.specs.Grammar.{Tree, Statement, MoreStatements, Block}
use Rattle.definition.specs.Grammar as Grammar
use Rattle.definition.specs.Reader.{phrase, fixed, level_end, on_key, wrap}
use Rattle.definition.specs.Syntax.{says, size, end}
use Rattle.definition.specs.Token.{Token, Terminal, key, LBRACE, RBRACE, ELSE}
use Rattle.simple.specs.Statements.{IsStatement}
use Rattle.statements.specs.Blocks.{IsSequence, IsBlock, IsElse}
use Rattle.terms.proofs.TokenLaws.{kind_within, key_first, not_key, closed_cases}
use Rattle.terms.proofs.WriteLaws.{wrote_none, wrote_as}
use Rattle.terms.specs.declared.ParseError.TheVariants.{NoProgram, TooMuch}
use Rattle.terms.specs.Phrases.{Answer, kind_in, seen, closed}
use Rattle.words.specs.Raw.{flat_program}

-- what a block says
block_said : (ts : List Token) (a : Tree Statement) (b : Tree MoreStatements) (p n q : ℕ) → q ≡ p + 1 + size a → flat_program (says ts a (p + 1) (says ts b q)) n ≡ flat_program (says ts (Grammar.block a b) p) n
unfolding says
block_said ts a b p n q e =
    let i : p + 1 ≡ suc p = omega arith in
    ap (λ j. flat_program (says ts a (p + 1) (says ts b j)) n) e ∙ ap (λ j. flat_program (says ts a j (says ts b (j + size a))) n) i

module _ {ws : List ℕ} {p n d : ℕ} {A : List ℕ} where
  pub block_open : {B : List ℕ} → p ≤ length ws → (kind_in ws p ≡ LBRACE → ⊥) → IsBlock ws p n d A B (Err (NoProgram p))
  block_open l e = record { bounds = l; at = λ ts g. no_block! (not_key ws p e) }

  pub block_deep : {B : List ℕ} → 32 ≤ d → kind_in ws p ≡ LBRACE → IsBlock ws p n d A B (Err (TooMuch p))
  block_deep l e = let i = kind_within ws p (omega arith) in record { bounds = omega arith; at = λ ts g. deep! block_rule (omega arith) (key_first ws p e (omega arith)) }

  pub block_closes : {A₁ : List ℕ} {a r : Answer} → d < 32 → kind_in ws p ≡ LBRACE → IsSequence ws (p + 1) n (d + 1) A A₁ a → r ≡ closed ws RBRACE a → IsBlock ws p n d A A₁ r
  block_closes {A₁} {a} {r} l e h i = subst (IsBlock ws p n d A A₁) (sym i) (by a (let k : d + 1 ≡ suc d = omega arith in subst (λ d. IsSequence ws (p + 1) n d A A₁ a) k h))
    where
      by : (a : Answer) → IsSequence ws (p + 1) n (suc d) A A₁ a → IsBlock ws p n d A A₁ (closed ws RBRACE a)
      by (Ok (q, m)) h = closed_cases (IsBlock ws p n d A A₁) ws RBRACE q m
          (λ f. let k = kind_within ws q (omega arith) in let o = h.bounds in record {
            bounds = record { more = o.more; ahead = omega (arith, o.ahead); paid = omega (arith, o.paid); within = omega arith };
            at = λ ts g. let s = h.at ts g in record {
              tree = Grammar.block s.first s.rest;
              reads = read! block_rule (omega arith) (key_first ws p e (omega arith)) (s.one ▸ s.more ▸ token! (omega arith) (key_first ws q f (omega arith)) ▸ closed! ▸ done!);
              wrote = wrote_as (block_said ts s.first s.rest p n s.at s.here) s.wrote;
            };
          })
          (λ f. record {
            bounds = h.bounds.within;
            at = λ ts g. let s = h.at ts g in fail! block_rule (omega arith) (key_first ws p e (omega arith)) (s.one ▹ s.more ▹ stop! (no_token! (not_key ws q f)));
          })
      by (Err why) h = record {
        bounds = h.bounds;
        at = λ ts g. fail! block_rule (omega arith) (key_first ws p e (omega arith)) (record { is = λ s k. (h.at ts g).is (fixed RBRACE ∷ level_end ∷ s) (ap suc k) });
      }

-- `{..}` as a statement is read as a block is
nest : Tree Block → Tree Statement
nest (Grammar.block a b) = Grammar.nested_block a b

nest_stands : (l : List Terminal) → Stands (phrase Statement) (phrase Block ∷ []) (λ fs. nest fs.0) (key LBRACE ∷ l)
unfolding on_key wrap nest
nest_stands l = record { is = λ s. like_eq (phrase Statement) (phrase Block) s s (act (phrase Statement) (phrase Block ∷ []) (λ fs. nest fs.0) s) refl refl (key LBRACE) refl l }

nest_said : (ts : List Token) (t : Tree Block) (p n : ℕ) → flat_program (says ts t p) n ≡ flat_program (says ts (nest t) p end) n
unfolding says flat_program nest
nest_said ts (Grammar.block a b) p n = sym (append-nil (flat_program (says ts a (suc p) (says ts b (suc p + size a))) n))

pub nested : {ws : List ℕ} {p n d : ℕ} {A A₁ : List ℕ} {r : Answer} → kind_in ws p ≡ LBRACE → IsBlock ws p n d A A₁ r → IsStatement ws p n d A A₁ r
nested {ws} {p} {n} {d} {A} {A₁} {r} e h = by r h
  where
    stands : Stands (phrase Statement) (phrase Block ∷ []) (λ fs. nest fs.0) (drop p (seen ws))
    stands = subst (Stands (phrase Statement) (phrase Block ∷ []) (λ fs. nest fs.0)) (sym (key_first ws p e (omega arith))) (nest_stands (drop (p + 1) (seen ws)))

    by : (r : Answer) → IsBlock ws p n d A A₁ r → IsStatement ws p n d A A₁ r
    by (Ok (q, m)) h =
        let o = h.bounds in
        record {
          bounds = record { more = o.more; ahead = omega (arith, o.ahead); paid = omega (arith, o.paid); within = o.within };
          at = λ ts g. let f = h.at ts g in record { tree = nest f.tree; reads = as! stands f.reads; wrote = wrote_as (nest_said ts f.tree p n) f.wrote };
        }
    by (Err why) h = record { bounds = h.bounds; at = λ ts g. as_fails! stands (h.at ts g) }

-- ELSE
none_said : (ts : List Token) (p n : ℕ) → [] ≡ flat_program (says ts Grammar.no_else p) n
unfolding says flat_program
none_said ts p n = refl

else_said : (ts : List Token) (t : Tree Block) (p n : ℕ) → flat_program (says ts t (p + 1)) n ≡ flat_program (says ts (Grammar.else_block t) p) n
unfolding says
else_said ts t p n = let i : p + 1 ≡ suc p = omega arith in ap (λ j. flat_program (says ts t j) n) i

pub else_none : {ws : List ℕ} {p n d : ℕ} {A : List ℕ} → p ≤ length ws → (kind_in ws p ≡ ELSE → ⊥) → IsElse ws p n d A A (Ok (p, n))
else_none {ws} {p} {n} {d} {A} l e = record {
  bounds = record { more = omega arith; ahead = omega arith; paid = omega arith; within = l };
  at = λ ts g. record { tree = Grammar.no_else; reads = no_else! (not_key ws p e); wrote = wrote_as (none_said ts p n) (wrote_none A n) };
}

pub else_some : {ws : List ℕ} {p n d : ℕ} {A A₁ : List ℕ} {r : Answer} → d ≤ 32 → kind_in ws p ≡ ELSE → IsBlock ws (p + 1) n d A A₁ r → IsElse ws p n d A A₁ r
else_some {ws} {p} {n} {d} {A} {A₁} {r} l e h = by r h
  where
    by : (r : Answer) → IsBlock ws (p + 1) n d A A₁ r → IsElse ws p n d A A₁ r
    by (Ok (q, m)) h =
        let o = h.bounds in
        record {
          bounds = record { more = o.more; ahead = omega (arith, o.ahead); paid = omega (arith, o.paid); within = o.within };
          at = λ ts g. let f = h.at ts g in record { tree = Grammar.else_block f.tree; reads = read! else_rule l (key_first ws p e (omega arith)) (f.reads ▸ done!); wrote = wrote_as (else_said ts f.tree p n) f.wrote };
        }
    by (Err why) h = record { bounds = h.bounds; at = λ ts g. fail! else_rule l (key_first ws p e (omega arith)) (stop! (h.at ts g)) }
