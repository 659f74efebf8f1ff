-- Names and elements of the facts as numbers, and the lists of them that the definition's facts give.
use Rattle.std.specs.Prelude.{ℕ, suc, ◌+◌, ◌/◌, ◌%◌, List, [], map, length, take, drop, if◌then◌else◌}
use Rattle.definition.specs.Text.{Text, gather}
use Rattle.definition.specs.Facts.{Element, Fact, Relation}
use Rattle.parts.specs.Packed.{pack, tag_of, text_of}
use Rattle.parts.specs.Entries.{note_all, enter_all}
use Rattle.facts.specs.declared.Item.{Item}
use Rattle.facts.specs.declared.FactLine.{FactLine}
use Rattle.facts.specs.Lines.{start_of, items_of}

-- an element and a fact of the line that starts at a, as parts of the whole text
abbrev pub element_at : Text → ℕ → Item → Element
element_at facts a x = record { value = take x.len (drop (a + start_of x) facts); quoted = x.quoted; at = a + x.place }

abbrev pub elements_at : Text → ℕ → List Item → List Element
elements_at facts a xs = map (element_at facts a) xs

abbrev pub fact_at : Text → ℕ → FactLine → Fact
fact_at facts a f = record { name = take f.name_len (drop a facts); at = a; elements = elements_at facts a (items_of f) }

-- the numbers of the code: an element's tag is 1 if it is quoted, a name's is the arity
abbrev pub item_word : ℕ → Item → ℕ
item_word a x = pack 0 (a + start_of x) x.len (if x.quoted then 1 else 0)

abbrev pub line_word : ℕ → FactLine → ℕ
line_word a f = pack 0 a f.name_len f.arity

-- the same of the definition's elements and facts
abbrev pub element_word : Element → ℕ
element_word e = pack 0 (if e.quoted then (suc e.at) else e.at) (length e.value) (if e.quoted then 1 else 0)

abbrev pub fact_word : Fact → ℕ
fact_word f = pack 0 f.at (length f.name) (length f.elements)

module _ (facts query : Text) where
  -- the relations in order of first appearance, and the universe in byte order
  unfoldable pub noted : List Fact → List ℕ
  noted fs = note_all facts query (map fact_word fs) []

  unfoldable pub entered : List Fact → List ℕ
  entered fs = enter_all facts query (gather (λ f. map element_word f.elements) fs) []

  abbrev pub relation_of : ℕ → Relation
  relation_of w = record { name = text_of facts query w; arity = tag_of w; text = w / 4 % 2; at = w / 512 }

  abbrev pub relations_of : List ℕ → List Relation
  relations_of ws = map relation_of ws
