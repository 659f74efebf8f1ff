-- The text of an element by its parts, and the text of a list put one element at a time.
use Prim.Native.Nat.{ℕ, ◌+◌, ◌<◌, ◌≤◌}
use mathlib.Core.Path.{◌≡◌, refl, sym, ap, subst, ◌∙◌}
use mathlib.Core.Bool.{Bool, true, cond}
use mathlib.Core.List.{List, [], ◌∷◌, ◌++◌, append_assoc}
use native.Mathlib.Numerals.{add-one}
use borrow.Author.Tests.{eq-eqb, ne_eqb}
use lib.Dec.{eqb}
use lib.ListN.{length, get_or, take}
use lib.Seq.{take-suc}
use Rattle.definition.specs.Text.{Text, gather}
use Rattle.definition.specs.Decimals.{decimal}
use Rattle.definition.proofs.ListLaws.{gather_append, gather_one}
use Rattle.lexer.specs.Tokens as Tokens
use Rattle.words.specs.Fields as Fields
use Rattle.lines.specs.Put.{Put}
use Rattle.lines.proofs.Puts.{put_none, put_then}
use Rattle.listing.specs.declared.Item.{Item}
use Rattle.listing.specs.declared.Item.TheVariants.{Token, Word}
use Rattle.listing.specs.Listed.{fields_text, item_text, byte_text}

pub fields_parts : (a b c d : ℕ) → ((((44 ∷ []) ++ (32 ∷ decimal a)) ++ (32 ∷ decimal b)) ++ (32 ∷ decimal c)) ++ (32 ∷ decimal d) ≡ fields_text a b c d
fields_parts a b c d = simp append_assoc

-- a token, and a word
pub token_fields : {item : Item} (w : ℕ) {a b c d : ℕ} → item ≡ Token → a ≡ Tokens.kind_of w → b ≡ Tokens.at_of w → c ≡ Tokens.start_of w → d ≡ Tokens.size_of w
    → fields_text a b c d ≡ item_text item w
unfolding item_text
token_fields w e p q r s = rw (e, p, q, r, s) refl

pub word_fields : {item : Item} (w : ℕ) → item ≡ Word → fields_text (Fields.kind_of w) (Fields.p_of w) (Fields.q_of w) (Fields.r_of w) ≡ item_text item w
unfolding item_text
word_fields w e = rw e refl

-- a byte that is 255, and one that is not
pub byte_none : (x : ℕ) → x ≡ 255 → [] ≡ byte_text x
unfolding byte_text
byte_none x e = ap (λ (b : Bool). cond b [] (32 ∷ decimal x)) (sym (eq-eqb x 255 e))

pub byte_some : (x : ℕ) → (x ≡ 255 → ⊥) → 32 ∷ decimal x ≡ byte_text x
unfolding byte_text
byte_some x n = ap (λ (b : Bool). cond b [] (32 ∷ decimal x)) (sym (ne_eqb x 255 n))

-- the elements before place i, by a function that gives the text of each
module _ (f : ℕ → Text) (l : List ℕ) {out : List ℕ} {at : ℕ} where
  pub put_start : at ≤ length out + 1 → Put true out at (gather f (take 0 l)) at out
  unfolding gather
  put_start h = put_none h

  pub put_next : (i : ℕ) {p r : ℕ} {out₁ out₂ : List ℕ} → i < length l → Put true out at (gather f (take i l)) p out₁ → Put true out₁ p (f (get_or l i 0)) r out₂
      → Put true out at (gather f (take (i + 1) l)) r out₂
  put_next i {r = r} {out₂ = out₂} h p q = subst (λ (x : Text). Put true out at x r out₂) (sym next) (put_then p q)
    where
      next : gather f (take (i + 1) l) ≡ gather f (take i l) ++ f (get_or l i 0)
      next =
          ap (λ (k : ℕ). gather f (take k l)) (add-one i)
          ∙ ap (gather f) (take-suc l i 0 h)
          ∙ gather_append f (take i l) (get_or l i 0 ∷ [])
          ∙ ap (λ (x : Text). gather f (take i l) ++ x) (gather_one f (get_or l i 0))
