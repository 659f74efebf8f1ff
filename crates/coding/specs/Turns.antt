-- What each turn of the pass leaves: one code more, the codes of a statement's words, a statement lowered.
use Rattle.std.specs.Prelude.{ℕ, suc, ◌<◌, ◌≤◌, ◌≡◌, true, cond, List, ltb, length, get_or, set}
use Rattle.definition.specs.Text.{Text}
use Rattle.words.specs.Fields.{kind_of, p_of}
use Rattle.slots.specs.declared.Found.{Found}
use Rattle.actions.specs.Parts.{is_statement, start}
use Rattle.coding.specs.Pass.{Depths, depths_at, is_named, code_of, names_between, Made}

-- every depth fits in a word's field
abbrev pub Shallow : List ℕ → Type 0
Shallow depths = (j : ℕ) → get_or depths j 0 < 65536

module _ (facts query : Text) (places tokens ids known : List ℕ) where
  module _ (f : Found) (depths : List ℕ) where
    -- the codes, with that of a word's token
    unfoldable pub with_code : ℕ → List ℕ → List ℕ
    with_code w codes =
        let c = set codes (p_of w) (code_of facts query places tokens ids known f depths (p_of w)) in
        cond (is_named (kind_of w)) (cond (ltb (p_of w) (length tokens)) c codes) codes

    -- the codes of the words from s up to n
    abbrev pub Coded : List ℕ → List ℕ → ℕ → ℕ → Type 0
    Coded words codes s n = (i : ℕ) → s ≤ i → i < n → is_named (kind_of (get_or words i 0)) ≡ true → p_of (get_or words i 0) < length tokens
        → get_or codes (p_of (get_or words i 0)) 0 ≡ code_of facts query places tokens ids known f depths (p_of (get_or words i 0))

  -- the statement at k, whose words begin at s, is lowered if its names are few; no other cell is written
  pub record Turned (words : List ℕ) (u : ℕ) (depths : List ℕ) (s k : ℕ) (old new : List ℕ) : Type 0 where
    pub same_length : length new ≡ length old
    pub before : (i : ℕ) → i < s → get_or new i 0 ≡ get_or old i 0
    pub after : (i : ℕ) → k < i → get_or new i 0 ≡ get_or old i 0
    pub made : length (names_between facts query places tokens ids known words s k) ≤ 4 → Made facts query places tokens ids known words new u depths s k

  -- the statements before the word k are lowered
  abbrev pub Upto : List ℕ → List ℕ → ℕ → Depths → ℕ → Type 0
  Upto words low u d k = (j : ℕ) → j < k → is_statement (kind_of (get_or words j 0)) ≡ true → length (names_between facts query places tokens ids known words (start words j) j) ≤ 4
      → Made facts query places tokens ids known words low u (depths_at ids words d (suc j)).depths (start words j) j
