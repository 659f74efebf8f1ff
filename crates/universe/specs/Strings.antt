-- The strings on left-hand sides, by the words of a program, and what entering them into the universe gives.
use Rattle.std.specs.Prelude.{ℕ, ◌+◌, ◌/◌, ◌%◌, ◌≤◌, ◌≡◌, true, cond, List, [], ◌∷◌, map, eqb, length, get_or, take, drop, Result, Ok, Err}
use Rattle.definition.specs.Text.{Text, needs_quotes}
use Rattle.definition.specs.Limits.{document_01}
use Rattle.definition.specs.Answer.{ok, refused}
use Rattle.definition.specs.Syntax.{Program}
use Rattle.definition.specs.Facts.{Element, use_elements}
use Rattle.definition.specs.Names.{left_strings}
use Rattle.words.specs.Fields.{kind_of, p_of}
use Rattle.parts.specs.Packed.{pack}
use Rattle.parts.specs.Entries.{Held, enter_all, texts_of}
use Rattle.facts.specs.Pass.{limits_of}

-- the kind of a string's word where a name would be an attribute alone: on a left-hand side
abbrev pub LEFT_STRING : ℕ
LEFT_STRING = 42

-- the element of a string's token: the text of the query after the opening quote
abbrev pub string_element : Text → ℕ → Element
string_element query t = record { value = take (t / 64 % 64) (drop (t / 4096 + 1) query); quoted = true; at = t / 4096 }

-- the same as a part of the query, with tag 1 where it is printed in quotes though no fact quotes it: "if it is empty or holds a space or tab"
abbrev pub string_word : Text → ℕ → ℕ
string_word query t = pack 1 (t / 4096 + 1) (t / 64 % 64) (cond (needs_quotes (string_element query t).value) 1 0)

-- the tokens of the strings on left-hand sides, in order
unfoldable pub left_tokens : List ℕ → List ℕ → List ℕ
left_tokens tokens [] = []
left_tokens tokens (w ∷ ws) = let r = left_tokens tokens ws in cond (eqb (kind_of w) LEFT_STRING) (get_or tokens (p_of w) 0 ∷ r) r

module _ (facts query : Text) where
  -- a universe with the strings of some tokens
  abbrev pub with_strings : List ℕ → List ℕ → List ℕ
  with_strings ts us = enter_all facts query (map (string_word query) ts) us

  -- the strings of some tokens entered after the first n parts
  abbrev pub Enters : List ℕ → List ℕ → List ℕ → ℕ → Result ℕ ℕ → Type 0
  Enters ts old new n (Ok c) =
      Held old new (with_strings ts (take n old)) c
      × ((k : ℕ) → use_elements (limits_of k (length old)) (map (string_element query) ts) (texts_of facts query (take n old)) ≡ ok (texts_of facts query (with_strings ts (take n old))))
  Enters ts old new n (Err p) = (k : ℕ) → use_elements (limits_of k (length old)) (map (string_element query) ts) (texts_of facts query (take n old)) ≡ refused 7 p

  -- the universe with the strings of the program, in the first c words; an element's part stays the first, and its tag what it was
  pub record WithStrings (p : Program) (tokens words old new : List ℕ) (n c : ℕ) : Type 0 where
    pub universe : use_elements document_01 (left_strings p) (texts_of facts query (take n old)) ≡ ok (texts_of facts query (take c new))
    pub parts : take c new ≡ with_strings (left_tokens tokens words) (take n old)
    pub rest : drop c new ≡ drop c old
    pub more : n ≤ c
    pub few : c ≤ 64

  -- row 7 for the strings on left-hand sides
  abbrev pub StringsMeet : Program → List ℕ → List ℕ → List ℕ → List ℕ → ℕ → Result ℕ ℕ → Type 0
  StringsMeet p tokens words old new n (Ok c) = WithStrings p tokens words old new n c
  StringsMeet p tokens words old new n (Err at) = use_elements document_01 (left_strings p) (texts_of facts query (take n old)) ≡ refused 7 at
