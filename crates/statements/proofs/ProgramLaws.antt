-- A whole program: what is left to say once its statements are read.
use Rattle.std.specs.Prelude.{Ok, Err}
use mathlib.Core.List.{List, [], ◌∷◌}
use mathlib.Core.Path.{◌≡◌, ap, sym, subst, ◌∙◌}
use native.Mathlib.Omega.{arith}
use Prim.Native.Nat.{ℕ, ◌+◌, ◌≤◌, ◌<◌}
use lib.ListN.{length, drop, length-map, drop_of_length-le}
use Rattle.definition.proofs.AnswerLaws.{program_left, program_fails}
use Rattle.definition.proofs.GrammarReads.{Reads, Fails, as!, as_fails!, ◌▸◌, done! }
use Rattle.definition.proofs.GrammarStatements.{program_rule}
use Rattle.definition.proofs.GrammarTop.{top_read}
use Rattle.definition.specs.Grammar.{Tree, Program, Statement, MoreStatements}
use Rattle.definition.specs.Grammar as Grammar
use Rattle.definition.specs.Reader.{phrase}
use Rattle.definition.specs.Syntax.{says, size}
use Rattle.definition.specs.Token.{Token, terminals}
use Rattle.lexer.proofs.Held.{length_terminals}
use Rattle.lexer.specs.Tokens.{at_of}
use Rattle.simple.specs.Statements.{Span, spans}
use Rattle.statements.specs.Blocks.{Sequence, sequenced, IsSequence, IsProgram}
use Rattle.terms.proofs.WriteLaws.{wrote_as}
use Rattle.terms.specs.declared.ParseError.{ParseError}
use Rattle.terms.specs.declared.ParseError.TheVariants.{NoProgram}
use Rattle.terms.specs.Phrases.{Answer, row_of, token_of, Holds}
use Rattle.words.specs.Raw.{flat_program}

program_said : (ts : List Token) (a : Tree Statement) (b : Tree MoreStatements) (q : ℕ) → q ≡ 0 + size a → flat_program (says ts a 0 (says ts b q)) 0 ≡ flat_program (says ts (Grammar.program a b)) 0
unfolding says
program_said ts a b q e = let i : q ≡ size a = omega (arith, e) in ap (λ j. flat_program (says ts a 0 (says ts b j)) 0) i

many : {ws : List ℕ} {ts : List Token} → Holds ws ts → length ts ≡ length ws
many {ws} {ts} g = sym (length-map ts (λ (t : Token). t.at)) ∙ ap length g.places ∙ length-map ws at_of

module _ {ws A A₁ : List ℕ} {a : Answer} (h : IsSequence ws 0 0 0 A A₁ a) where
  pub program_refused : {why : ParseError} → a ≡ Err why → IsProgram ws A A₁ (Err why)
  program_refused {why} i = by (subst (IsSequence ws 0 0 0 A A₁) i h)
    where
      by : IsSequence ws 0 0 0 A A₁ (Err why) → IsProgram ws A A₁ (Err why)
      by h = record {
        bounds = h.bounds;
        at = λ ts g n. program_fails n ts (row_of why) (token_of why) (omega (arith, h.bounds, many g)) (subst (λ l. Fails 0 (phrase Program ∷ []) l (row_of why) (drop (token_of why) l)) (sym g.same) (as_fails! program_rule (h.at ts g)));
      }

  module _ {q m : ℕ} (i : a ≡ Ok (q, m)) where
    span : Span ws 0 0 0 q m
    span = subst (spans ws 0 0 0) i h.bounds

    got : (ts : List Token) → Holds ws ts → Sequence ws ts 0 0 0 A A₁ q m
    got ts g = subst (sequenced ws ts 0 0 0 A A₁) i (h.at ts g)

    reads : (ts : List Token) (g : Holds ws ts) → Reads 0 (phrase Program ∷ []) (terminals ts) (Grammar.program (got ts g).first (got ts g).rest, tt) (drop q (terminals ts))
    reads ts g = let f = got ts g in subst (λ l. Reads 0 (phrase Program ∷ []) l (Grammar.program f.first f.rest, tt) (drop q l)) (sym g.same) (as! program_rule (f.one ▸ f.more ▸ done!))

    pub program_ends : q ≡ length ws → IsProgram ws A A₁ (Ok (q, m))
    program_ends e = record {
      bounds = (e, omega (arith, span.paid));
      at = λ ts g. let f = got ts g in record {
        tree = Grammar.program f.first f.rest;
        reads = top_read (terminals ts) (Grammar.program f.first f.rest) (subst (Reads 0 (phrase Program ∷ []) (terminals ts) (Grammar.program f.first f.rest, tt)) (drop_of_length-le (terminals ts) {i = q} (omega (arith, e, ap length g.same, length_terminals 0 ws))) (reads ts g));
        wrote = wrote_as (program_said ts f.first f.rest f.at f.here) f.wrote;
      };
    }

    pub program_longer : (q ≡ length ws → ⊥) → {B : List ℕ} → IsProgram ws A B (Err (NoProgram q))
    program_longer e = record {
      bounds = span.within;
      at = λ ts g n. let f = got ts g in program_left n ts (Grammar.program f.first f.rest) q (less q (length ts) (omega (arith, span.within, many g)) (λ i. e (i ∙ many g))) (reads ts g);
    }
      where
        less : (q l : ℕ) → q ≤ l → (q ≡ l → ⊥) → q < l
        less q l h e = omega (arith, h, e)
