-- Lists of parts: those of the universe stand in byte order, and a tag of 1 says that the element is printed in quotes.
use Rattle.std.specs.Prelude.{ℕ, ◌+◌, ◌≤◌, ◌≡◌, ◌&&◌, not, List, [], ◌∷◌, ◌++◌, map, ltb, eqb, length, drop, if◌then◌else◌, Option, Some, None}
use Rattle.definition.specs.Text.{Text, same, earlier, span}
use Rattle.parts.specs.Packed.{tag_of, text_of}

-- w, quoted if v is
unfoldable pub quoted_too : ℕ → ℕ → ℕ
quoted_too v w = if eqb (tag_of v) 1 && eqb (tag_of w) 0 then (w + 1) else w

module _ (facts query : Text) where
  -- how many parts stand before the first that has the text t, or that of v
  abbrev pub position : Text → List ℕ → ℕ
  position t ws = span (λ w. not (same t (text_of facts query w))) ws

  unfoldable pub index : ℕ → List ℕ → ℕ
  index v ws = position (text_of facts query v) ws

  -- a set of parts in byte order, with one more: of equal texts the first part stays
  unfoldable pub enter : ℕ → List ℕ → List ℕ
  enter v [] = v ∷ []
  enter v (w ∷ ws) = let r = enter v ws in
      if same (text_of facts query v) (text_of facts query w) then (quoted_too v w ∷ ws)
      else if earlier (text_of facts query v) (text_of facts query w) then (v ∷ w ∷ ws)
      else (w ∷ r)

-- the list es in place of the first words, and whether there is room for it
abbrev pub in_front : List ℕ → List ℕ → List ℕ
in_front es words = if ltb (length words) (length es) then words else (es ++ drop (length es) words)

abbrev pub count_in : List ℕ → List ℕ → Option ℕ
count_in es words = if ltb (length words) (length es) then None else (Some (length es))

module _ (facts query : Text) where
  -- the texts of a list of parts
  abbrev pub texts_of : List ℕ → List Text
  texts_of ws = map (text_of facts query) ws

  -- several parts entered, one after another
  unfoldable pub enter_all : List ℕ → List ℕ → List ℕ
  enter_all [] ws = ws
  enter_all (v ∷ vs) ws = enter_all vs (enter facts query v ws)

  -- a list of parts in order of first appearance, with one more
  unfoldable pub note : ℕ → List ℕ → List ℕ
  note v ws = if ltb (index facts query v ws) (length ws) then ws else (ws ++ (v ∷ []))

  unfoldable pub note_all : List ℕ → List ℕ → List ℕ
  note_all [] ws = ws
  note_all (v ∷ vs) ws = note_all vs (note v ws)

-- the list ws stands in the first n words, and the words after it are the old ones
pub record Held (old words ws : List ℕ) (n : ℕ) : Type 0 where
  pub count : n ≡ length ws
  pub room : n ≤ length old
  pub is : words ≡ ws ++ drop n old
