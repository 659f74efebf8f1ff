-- The pass that lowers the words of a program. A statement's words are those after the statement word before it, up to its own; each
-- statement has its own slots, and its tokens' codes are put into one array for all statements, before its words are lowered.
use Rattle.std.specs.Prelude.{ℕ, zero, suc, ◌+◌, ◌-◌, ◌/◌, ◌%◌, ◌<◌, ◌≤◌, ◌≡◌, Bool, true, ◌&&◌, ◌||◌, cond, List, [], eqb, ltb, leb, length, get_or, set, take, drop}
use Rattle.definition.specs.Text.{Text}
use Rattle.words.specs.Fields.{kind_of, p_of, MATCH, RANGE, NEXT, STRING, ATTRIBUTE, WORD}
use Rattle.parts.specs.Packed.{pack}
use Rattle.parts.specs.Entries.{index}
use Rattle.intern.specs.Entries.{QUOTED, start_of}
use Rattle.slots.specs.declared.Found.{Found}
use Rattle.slots.specs.Slots.{of_loop, names_of, Holds, slot_of, digit_at}
use Rattle.free.specs.Words as Free
use Rattle.free.specs.Words.{Small}
use Rattle.lowering.specs.Lowering.{at, token_values, lower_at}
use Rattle.actions.specs.Parts.{is_statement, start}

-- what the pass knows of loop variables: by the number of a name the depth of its FOR, and how many FORs are open
pub record Depths : Type 0 where
  pub depths : List ℕ
  pub deep : ℕ

-- after a word: a FOR's block opens after its set and closes at its NEXT
unfoldable pub depths_after : List ℕ → ℕ → Depths → Depths
depths_after ids x d =
    cond (eqb (kind_of x) RANGE) (record { depths = set d.depths (get_or ids (p_of x) 0) d.deep; deep = d.deep + 1 })
    (cond (eqb (kind_of x) NEXT) (record { depths = d.depths; deep = d.deep - 1 }) d)

-- before the word at a place, from the depths d on
unfoldable pub depths_at : List ℕ → List ℕ → Depths → ℕ → Depths
depths_at ids words d zero = d
depths_at ids words d (suc k) = depths_after ids (get_or words k 0) (depths_at ids words d k)

-- the words of names and strings: those of kinds 1 to 7, the strings among them, and those of a pattern
unfoldable pub is_named : ℕ → Bool
is_named k = (ltb 0 k && leb k NEXT) || (eqb k MATCH || (leb (STRING + ATTRIBUTE) k && leb k (STRING + WORD)))

-- the part of the query that a token's text is
abbrev pub token_part : ℕ → ℕ
token_part x = pack 1 (start_of x) (x / 64 % 64) 0

module _ (facts query : Text) (places tokens ids known : List ℕ) where
  -- a string stands for the number of its element, or for 255 where there is none
  unfoldable pub string_code : ℕ → ℕ
  string_code t =
      let i = index facts query (token_part (get_or tokens t 0)) places in
      cond (ltb i (length places)) i 255

  -- a name, by its number: a relation's own number; 72 and the depth of a loop variable's FOR; 64 and the slot of an attribute
  unfoldable pub name_code : Found → List ℕ → ℕ → ℕ
  name_code f depths j =
      let a = get_or known j 0 in
      cond (ltb 3 a) ((a - 4) / 4) (cond (of_loop a) (72 + get_or depths j 0) (63 + slot_of f j))

  -- the code of the token t
  unfoldable pub code_of : Found → List ℕ → ℕ → ℕ
  code_of f depths t = cond (eqb (get_or tokens t 0 % 64) QUOTED) (string_code t) (name_code f depths (get_or ids t 0))

  -- the numbers of the attribute names of the words from s up to k
  abbrev pub names_between : List ℕ → ℕ → ℕ → List ℕ
  names_between words s k = names_of ids known [] (take (suc k - s) (drop s words))

  -- the words from s up to k are lowered, by the codes and free attributes that stood there then
  pub record Made (words low : List ℕ) (u : ℕ) (depths : List ℕ) (s k : ℕ) : Type 0 where
    pub found : Found
    pub names : Holds (names_between words s k) found
    pub few : found.count ≤ 4
    pub codes : List ℕ
    pub coded : (i : ℕ) → s ≤ i → i ≤ k → is_named (kind_of (get_or words i 0)) ≡ true → p_of (get_or words i 0) < length tokens
        → get_or codes (p_of (get_or words i 0)) 0 ≡ code_of found depths (p_of (get_or words i 0))
    pub fr : List ℕ
    pub free : Free.Filled words (digit_at found ids) fr s (suc k)
    pub small : Small fr
    pub lowered : (i : ℕ) → s ≤ i → i ≤ k → get_or low i 0 ≡ lower_at (at words) (at codes) (at tokens) (at fr) (token_values facts query places (at tokens)) u s i

  -- every statement with at most four attribute names is lowered; d are the depths before the first word
  pub record Passed (words low : List ℕ) (u : ℕ) (d : Depths) : Type 0 where
    pub made : (k : ℕ) → k < length words → is_statement (kind_of (get_or words k 0)) ≡ true → length (names_between words (start words k) k) ≤ 4
        → Made words low u (depths_at ids words d (suc k)).depths (start words k) k
