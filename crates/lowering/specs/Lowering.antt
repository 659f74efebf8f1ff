-- The lowered word of a raw word, field by field: the kind, a number p, four bytes from bit 24 on (a target or a child may take two of
-- them), and a count. A token stands for a code: a relation's number; 64 and the slot of an attribute, 72 and the depth of a loop
-- variable's FOR; the number of a string's element, or 255.
use Rattle.std.specs.Prelude.{ℕ, zero, suc, ◌+◌, ◌*◌, ◌-◌, ◌/◌, ◌%◌, min, ◌<◌, ◌≤◌, ◌≡◌, Bool, true, false, not, cond, List, eqb, ltb, leb, length, get_or}
use Rattle.words.specs.Fields.{kind_of, p_of, q_of, r_of, TERM, ANYTHING, ATOM, TRUTH, FALSITY, ORDER, EXISTS, FOR_ALL, CLOSURE, COMPARISON, MATCH, COUNT, LITERAL, FIGURES, RANGE, ROWS, ASSIGN, STRING, WORD}
use Rattle.digits.specs.Packed.{has, count}
use Rattle.definition.specs.Text.{Text}
use Rattle.definition.specs.Token.{value}
use Rattle.parts.specs.Entries.{texts_of}
use Rattle.intern.specs.Entries.{start_of, text_at}
use Rattle.matching.specs.Halves.{half_of}
use Rattle.slots.specs.Slots.{one_closure}

abbrev pub lowered : ℕ → ℕ → ℕ → ℕ → ℕ
lowered k p o n = k + p * 256 + o * 16777216 + n * 72057594037927936

-- four bytes, the first lowest
abbrev pub four_bytes : ℕ → ℕ → ℕ → ℕ → ℕ
four_bytes a b c d = a + b * 256 + c * 65536 + d * 16777216

-- the slot of a digit, and the slots of four digits
abbrev pub slot_of : ℕ → ℕ
slot_of d = d - 1

unfoldable pub slots_of : ℕ → ℕ
slots_of f = four_bytes (slot_of (f % 8)) (slot_of (f / 8 % 8)) (slot_of (f / 64 % 8)) (slot_of (f / 512 % 8))

-- v if d is among the digits of a or of b
unfoldable pub slot_bit : ℕ → ℕ → ℕ → ℕ → ℕ
slot_bit a b d v = cond (has a d) v (cond (has b d) v 0)

-- the mask of the slots of both
unfoldable pub mask : ℕ → ℕ → ℕ
mask a b = slot_bit a b 1 1 + slot_bit a b 2 2 + slot_bit a b 3 4 + slot_bit a b 4 8

abbrev pub at : List ℕ → ℕ → ℕ
at xs i = get_or xs i 0

-- codes and tokens by the number of a token, raw words and free attributes by place, and the number of elements
abbrev pub Cells : Type 0
Cells = ℕ → ℕ

-- what the texts of tokens come to: of a pattern the elements that match it, as the bits of a word, the 32 from a first one on; of a run of
-- digits its value
pub record TokenValues : Type 0 where
  pub half : ℕ → ℕ → ℕ
  pub number : ℕ → ℕ

unfoldable pub number_of : Text → Cells → Cells
number_of query L t = value (text_at query (L t))

-- by the texts of the tokens, in the universe whose parts are the places
unfoldable pub token_values : Text → Text → List ℕ → Cells → TokenValues
token_values facts query places L = record { half = λ t b. half_of (text_at query (L t)) (texts_of facts query places) b; number = number_of query L }

-- the operand byte of a term; 254 is "_"
unfoldable pub term_byte : Cells → ℕ → ℕ
term_byte C w = cond (eqb (kind_of w) ANYTHING) 254 (C (p_of w) % 256)

-- those of four words
unfoldable pub operands_at : Cells → Cells → ℕ → ℕ
operands_at R C k = four_bytes (term_byte C (R k)) (term_byte C (R (k + 1))) (term_byte C (R (k + 2))) (term_byte C (R (k + 3)))

-- a term may stand for an element
unfoldable pub may_stand : Cells → ℕ → ℕ → Bool
may_stand C u w = cond (eqb (kind_of w) ANYTHING) (ltb 0 u) (cond (eqb (kind_of w) (STRING + TERM)) (not (eqb (C (p_of w)) 255)) true)

unfoldable pub all_stand : Cells → Cells → ℕ → ℕ → ℕ → Bool
all_stand R C u zero k = true
all_stand R C u (suc n) k = cond (may_stand C u (R k)) (all_stand R C u n (k + 1)) false

unfoldable pub kind_field : Cells → Cells → ℕ → ℕ → ℕ
kind_field R C u w = cond (eqb (kind_of w) TRUTH) (cond (all_stand R C u (q_of w) (p_of w)) TRUTH FALSITY) (kind_of w)

-- the place after a label's, 0 where there is none
abbrev pub label_place : ℕ → ℕ → ℕ
label_place p q = cond (eqb q 0) 0 ((p + 1) % 65536)

-- a relation's number, a sign, the first element of a half, an attribute's slot, the place after a label's, or what the raw word has
unfoldable pub node_p : Cells → Cells → ℕ → ℕ
node_p R C w =
    cond (eqb (kind_of w) ATOM) (C (p_of (R (p_of w))) % 65536)
    (cond (eqb (kind_of w) ASSIGN) (C (p_of (R (p_of w))) % 65536)
    (cond (eqb (kind_of w) ORDER) (q_of w)
    (cond (eqb (kind_of w) MATCH) (q_of w)
    (cond (eqb (kind_of w) EXISTS) (term_byte C (R (p_of w)) % 8)
    (cond (eqb (kind_of w) FOR_ALL) (term_byte C (R (p_of w)) % 8) (cond (eqb (kind_of w) ROWS) (label_place (p_of w) (q_of w)) (p_of w)))))))

-- the depth of a loop variable's FOR
abbrev pub depth_of : ℕ → ℕ
depth_of c = (c - 72) % 65536

-- of a name or a term its code, of a loop variable by itself the depth of its FOR, of a string that is printed its first byte's place
unfoldable pub p_field : Cells → Cells → Cells → ℕ → ℕ
p_field R C L w =
    cond (ltb (kind_of w) 4) (C (p_of w) % 65536)
    (cond (ltb (kind_of w) 8) (depth_of (C (p_of w)))
    (cond (eqb (kind_of w) ANYTHING) 254
    (cond (ltb (kind_of w) 42) (node_p R C w) (cond (ltb (kind_of w) 44) (C (p_of w) % 65536) (start_of (L (p_of w)) % 65536)))))

-- a FOR's target and the slot of its one free attribute; a closure's slots and number; a comparison's child, sign and mask
abbrev pub range_field : ℕ → ℕ → ℕ
range_field q f = q + slot_of (f % 8) * 65536

abbrev pub closure_field : ℕ → ℕ → ℕ
closure_field f c = slot_of (f % 8) + slot_of (f / 8 % 8) * 256 + c % 256 * 65536

abbrev pub comparison_field : ℕ → ℕ → ℕ → ℕ → ℕ
comparison_field q r a b = q + r % 256 * 65536 + mask a b * 16777216

-- of a comparison its second child, its sign and its mask; of a count its mask, of a comparison of quantities its second child and its sign; of
-- a literal its value, which is at most 999,999 in a program; else a target or child
unfoldable pub quantity_field : Cells → Cells → ℕ → ℕ
quantity_field F N w =
    cond (eqb (kind_of w) COMPARISON) (comparison_field (q_of w) (r_of w) (F (p_of w)) (F (q_of w)))
    (cond (eqb (kind_of w) COUNT) (comparison_field (q_of w) (r_of w) (F (p_of w)) 0)
    (cond (eqb (kind_of w) LITERAL) (min (N (p_of w)) 1000000) (cond (eqb (kind_of w) FIGURES) (comparison_field (q_of w) (r_of w) 0 0) (q_of w))))

-- of an expression: these, operands, a closure's slots and number, or a half of the matching elements; c closures of the statement stand before
unfoldable pub expression_field : Cells → Cells → Cells → TokenValues → ℕ → ℕ → ℕ
expression_field R C F H c w =
    cond (eqb (kind_of w) ATOM) (operands_at R C (p_of w + 1))
    (cond (eqb (kind_of w) ORDER) (operands_at R C (p_of w))
    (cond (eqb (kind_of w) CLOSURE) (closure_field (F (p_of w)) c) (cond (eqb (kind_of w) MATCH) (H.half (p_of w) (q_of w) % 4294967296) (quantity_field F H.number w))))

-- at the place k: these, a FOR's target and slot, operands, columns, or a printed string's length
unfoldable pub operand_field : Cells → Cells → Cells → Cells → TokenValues → ℕ → ℕ → ℕ → ℕ
operand_field R C L F H c k w =
    cond (eqb (kind_of w) RANGE) (range_field (q_of w) (F (k - 1)))
    (cond (eqb (kind_of w) ASSIGN) (operands_at R C (p_of w + 1))
    (cond (eqb (kind_of w) ROWS) (slots_of (F (k - 1))) (cond (eqb (kind_of w) (STRING + WORD)) (L (p_of w) / 64 % 64) (expression_field R C F H c w))))

-- how many operands or columns; of a half its operand
unfoldable pub count_field : Cells → Cells → Cells → ℕ → ℕ → ℕ
count_field R C F k w =
    cond (eqb (kind_of w) ATOM) (q_of w % 256)
    (cond (eqb (kind_of w) ASSIGN) (q_of w % 256) (cond (eqb (kind_of w) MATCH) (term_byte C (R (r_of w))) (cond (eqb (kind_of w) ROWS) (count (F (k - 1))) 0)))

-- the word at a place
unfoldable pub lower_word : Cells → Cells → Cells → Cells → TokenValues → ℕ → ℕ → ℕ → ℕ
lower_word R C L F H u c k = lowered (kind_field R C u (R k)) (p_field R C L (R k)) (operand_field R C L F H c k (R k)) (count_field R C F k (R k))

-- how many closures stand from lo on before a place
unfoldable pub closures_before : Cells → ℕ → ℕ → ℕ
closures_before R lo zero = 0
closures_before R lo (suc k) = closures_before R lo k + cond (leb lo k) (one_closure (R k)) 0

-- the lowered word at a place of a statement whose words begin at lo
unfoldable pub lower_at : Cells → Cells → Cells → Cells → TokenValues → ℕ → ℕ → ℕ → ℕ
lower_at R C L F H u lo k = lower_word R C L F H u (closures_before R lo k) k

-- the cells from lo to hi are those of f, and all others are as they were
pub record Filled (f : ℕ → ℕ) (lo hi : ℕ) (old new : List ℕ) : Type 0 where
  pub same_length : length new ≡ length old
  pub inside : (k : ℕ) → lo ≤ k → k < hi → get_or new k 0 ≡ f k
  pub before : (k : ℕ) → k < lo → get_or new k 0 ≡ get_or old k 0
  pub after : (k : ℕ) → hi ≤ k → get_or new k 0 ≡ get_or old k 0
