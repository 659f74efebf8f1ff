-- The walk over the words meets the definition's row 18 of the patterns that they show.
use Prim.Native.Nat.{ℕ, ◌+◌, ◌<◌, ◌≤◌}
use mathlib.Core.Path.{◌≡◌, refl, sym, ap, subst, ◌∙◌}
use mathlib.Core.Bool.{Bool, true, false, not, cond}
use mathlib.Core.List.{List, ◌∷◌}
use native.Mathlib.Omega.{arith}
use native.Mathlib.Numerals.{add-one}
use lib.ListN.{length, get_or, drop, drop_of_length-le}
use lib.Seq.{drop-cons}
use Rattle.definition.specs.Text.{Text}
use Rattle.definition.specs.Token.{Token}
use Rattle.definition.specs.Answer.{Answer, ok, refused, refuse_if, ◌>>◌}
use Rattle.definition.specs.Syntax.{Program}
use Rattle.definition.specs.Names.{program_patterns, pattern_rows}
use Rattle.definition.specs.Pattern.{well_formed}
use Rattle.intern.specs.Entries.{text_at, Stand}
use Rattle.lexer.specs.Tokens.{at_of}
use Rattle.words.specs.Fields.{p_of}
use Rattle.words.specs.Raw.{number, flat_program}
use Rattle.words.specs.ShownPatterns.{first_half, ShowsPatterns, none, other, shown}
use Rattle.words.specs.Tokens.{OwnString, OwnProgram}
use Rattle.words.proofs.PatternOrder.{patterns_of_program}
use Rattle.std.specs.Prelude.{Result}
use Rattle.definition.specs.declared.Refusal.{Refusal}
use Rattle.malformed.specs.Walk.{meets, token_of, word_rows}

-- a row or what follows it
row_then : (b : Bool) (n : ℕ) {a c : Answer (Unit {0})} → a ≡ c → cond b (refused 18 n) a ≡ ◌>>◌ (refuse_if b 18 n) c
row_then true n e = refl
row_then false n e = e

module _ (query : Text) (tokens : List ℕ) where
  abbrev walk : List ℕ → Answer (Unit {0})
  walk ws = word_rows query tokens ws

  -- the token of a pattern's word has the pattern's text and place
  module _ {ts : List Token} (h : Stand query tokens ts) where
    text_is : (w : ℕ) {s : Token} → p_of w ≡ number s → OwnString ts s → text_at query (token_of query tokens w) ≡ s.text
    text_is w {s} e o =
        ap (λ (i : ℕ). text_at query (get_or tokens i 0)) e
        ∙ sym (h.texts (number s) (omega (arith, o.inside, h.count)))
        ∙ ap (λ (t : Token). t.text) o.found

    place_is : (w : ℕ) {s : Token} → p_of w ≡ number s → OwnString ts s → at_of (token_of query tokens w) ≡ s.at
    place_is w {s} e o =
        ap (λ (i : ℕ). at_of (get_or tokens i 0)) e
        ∙ sym (h.places (number s) (omega (arith, o.inside, h.count)))
        ∙ ap (λ (t : Token). t.at) o.found

    walk_shown : {ws : List ℕ} {ss : List Token} → ShowsPatterns ts ws ss → walk ws ≡ pattern_rows ss
    unfolding word_rows pattern_rows
    walk_shown none = refl
    walk_shown (other e s) = rw e (walk_shown s)
    walk_shown (shown {w} {s = s} e n o r) =
        rw (e, text_is w n o, place_is w n o) (row_then (not (well_formed s.text)) s.at (walk_shown r))

  -- the answer of the walk is that of the program's patterns
  pub walked : (words : List ℕ) (r : Result (Unit {0}) Refusal) → meets r (walk words)
      → (ts : List Token) (p : Program) → Stand query tokens ts → length ts < 65536 → OwnProgram ts p → words ≡ flat_program p 0 → meets r (pattern_rows (program_patterns p))
  walked words r m ts p h few own e = subst (meets r) (ap walk e ∙ walk_shown h (patterns_of_program ts few p 0 own)) m

  -- one word on, or the answer; t is the word's token
  module _ (words : List ℕ) (k : ℕ) (h : k < length words) (so_far : walk words ≡ walk (drop k words)) where
    one : walk (drop k words) ≡ walk (get_or words k 0 ∷ drop (k + 1) words)
    one = ap walk (rw (drop-cons words k 0 h, add-one k) refl)

    pub passed : first_half (get_or words k 0) ≡ false → walk words ≡ walk (drop (k + 1) words)
    unfolding word_rows
    passed e = so_far ∙ one ∙ rw e refl

    module _ (t : ℕ) (at : t ≡ token_of query tokens (get_or words k 0)) (e : first_half (get_or words k 0) ≡ true) where
      pub well_formed_passed : not (well_formed (text_at query t)) ≡ false → walk words ≡ walk (drop (k + 1) words)
      unfolding word_rows
      well_formed_passed f = so_far ∙ one ∙ rw (e, ← at, f) refl

      pub stopped : (p : ℕ) → p ≡ at_of t → not (well_formed (text_at query t)) ≡ true → walk words ≡ refused 18 p
      unfolding word_rows
      stopped p g f = so_far ∙ one ∙ rw (e, ← at, f, g) refl

  pub ended : (words : List ℕ) (k : ℕ) → length words ≤ k → walk words ≡ walk (drop k words) → walk words ≡ ok tt
  unfolding word_rows
  ended words k h e = e ∙ rw (drop_of_length-le words h) refl
