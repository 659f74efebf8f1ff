-- What the line reader answers, as what the definition says of the line.
use Rattle.std.specs.Prelude.{ℕ, ◌+◌, ◌≤◌, List, [], ◌∷◌, map, get_or, take, drop, if◌then◌else◌}
use Rattle.definition.specs.Text.{Text, ascii, starts, span, is_blank}
use Rattle.definition.specs.Limits.{WORD_BYTES, ARITY}
use Rattle.definition.specs.Answer.{Answer, ok, refused, ◌>>=◌}
use Rattle.definition.specs.Facts.{Line, Element, Fact, Word, none, one, wrong, word, elements, skipped, fact}
use Rattle.facts.specs.declared.Item.{Item}
use Rattle.facts.specs.declared.Next.{Next}
use Rattle.facts.specs.declared.Next.TheVariants.{Nothing, Found, Wrong}
use Rattle.facts.specs.declared.FactLine.{FactLine}
use Rattle.facts.specs.declared.LineRead.{LineRead}
use Rattle.facts.specs.declared.LineRead.TheVariants.{Holds, Skipped, End, BadName, BadElement, TooMany}

-- a line of the text that starts at i
abbrev pub line_at : Text → ℕ → Line
line_at l i = record { bytes = l; at = i }

-- where an element's value starts in its line: past the quote, if there is one
abbrev pub start_of : Item → ℕ
start_of x = if x.quoted then (x.place + 1) else x.place

-- an element of the line l that starts at i
abbrev pub element_of : Text → ℕ → Item → Element
element_of l i x = record { value = take x.len (drop (start_of x) l); quoted = x.quoted; at = i + x.place }

-- the elements of a fact, in order
abbrev pub items_of : FactLine → List Item
items_of f = take f.arity (f.first ∷ f.second ∷ f.third ∷ [])

abbrev pub item_at : FactLine → ℕ → Item
item_at f i = get_or (f.first ∷ f.second ∷ f.third ∷ []) i f.third

abbrev pub elements_of : Text → ℕ → List Item → List Element
elements_of l i xs = map (element_of l i) xs

abbrev pub fact_of : Text → ℕ → FactLine → Fact
fact_of l i f = record { name = take f.name_len l; at = i; elements = elements_of l i (items_of f) }

-- what stands in the line l from the place j on, past blanks, with its places counted from i
unfoldable pub next_word : Text → ℕ → ℕ → Word
next_word l i j = let b = span is_blank (drop j l) in word (i + j + b) (drop b (drop j l))

-- an answer of the code as such a word: the bytes that it takes are counted from its own place
abbrev pub word_of : Text → ℕ → Next → Word
word_of l i Nothing = none
word_of l i (Found x n) = one (element_of l i x) n
word_of l i (Wrong p) = wrong (i + p)

-- what a line is: the end of the facts, skipped, or a fact or its refusal
pub data Role : Type 0 where
  end skip : Role
  says : Answer Fact → Role

-- a fact whose name is the first n bytes of the line l, which starts at i, by its elements
unfoldable pub says_elements : Text → ℕ → ℕ → Role
says_elements l i n = says (do es ← elements ARITY (i + n) (drop n l); ok (record { name = take n l; at = i; elements = es }))

unfoldable pub role : Line → Role
role l =
    if starts (ascii ".") l.bytes then end
    else if skipped l.bytes then skip
    else (says (fact l))

-- the answer of the code as such a role, for the line l that starts at i
abbrev pub role_of : Text → ℕ → LineRead → Role
role_of l i (Holds f) = says (ok (fact_of l i f))
role_of l i Skipped = skip
role_of l i End = end
role_of l i BadName = says (refused 3 i)
role_of l i (BadElement p) = says (refused 4 (i + p))
role_of l i (TooMany p) = says (refused 5 (i + p))

-- an item of a line of n bytes
pub record Within (n : ℕ) (x : Item) : Type 0 where
  pub place : x.place ≤ n
  pub end : start_of x + x.len ≤ n
  pub len : x.len ≤ WORD_BYTES

pub record AllWithin (n : ℕ) (f : FactLine) : Type 0 where
  pub name : f.name_len ≤ WORD_BYTES
  pub name_end : f.name_len ≤ n
  pub arity : f.arity ≤ ARITY
  pub first : Within n f.first
  pub second : Within n f.second
  pub third : Within n f.third

-- the bounds of an answer
abbrev pub NextWithin : ℕ → Next → Type 0
NextWithin n Nothing = Unit {0}
NextWithin n (Found x m) = Within n x × (x.place + m ≤ n)
NextWithin n (Wrong p) = p ≤ n

abbrev pub ReadWithin : ℕ → LineRead → Type 0
ReadWithin n (Holds f) = AllWithin n f
ReadWithin n Skipped = Unit {0}
ReadWithin n End = Unit {0}
ReadWithin n BadName = Unit {0}
ReadWithin n (BadElement p) = p ≤ n
ReadWithin n (TooMany p) = p ≤ n
