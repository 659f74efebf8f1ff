-- The depths of loop variables over the words of a FOR: its set opens the block, its NEXT closes it.
use Prim.Native.Nat.{ℕ, suc, ◌+◌, ◌-◌, ◌<◌}
use mathlib.Core.Path.{◌≡◌, refl, sym, ap₂, subst, ◌∙◌}
use mathlib.Core.Bool.{Bool, true, false, cond, ◌||◌}
use mathlib.Core.List.{List, ◌∷◌}
use native.Mathlib.Omega.{arith}
use borrow.Author.Tests.{eqb-true, eqb-false}
use lib.Dec.{eqb}
use lib.ListN.{length, get_or, set, length-set}
use lib.Seq.{get_or-set_same, get_or-set_other}
use Rattle.definition.specs.Text.{Text, same, member, some_of}
use Rattle.definition.specs.Token.{Token}
use Rattle.definition.proofs.MeaningLaws.{same_equal, same_sym}
use Rattle.definition.proofs.BoolLaws.{contradiction}
use Rattle.words.specs.Fields.{word, RANGE, NEXT}
use Rattle.words.specs.Raw.{number}
use Rattle.words.specs.Tokens.{OwnName}
use Rattle.words.proofs.FieldLaws.{kind_word, p_word}
use Rattle.code.specs.Statements.{depth_in}
use Rattle.coding.specs.Pass.{Depths, depths_after, depths_at}
use Rattle.coded.proofs.Given.{Case}
use Rattle.coded.proofs.Agreeing.{name_here, name_text}
use Rattle.coded.proofs.Standing.{Deep}

-- a block is open, and closed again
abbrev pub opened : Case → Token → Depths → Depths
opened C t d = record { depths = set d.depths (get_or C.ids (number t) 0) d.deep; deep = d.deep + 1 }

abbrev pub closed : Depths → Depths
closed d = record { depths = d.depths; deep = d.deep - 1 }

module _ (C : Case) where
  pub at_range : (k q r : ℕ) (t : Token) → OwnName C.ts t → get_or C.words k 0 ≡ word RANGE (number t) q r
      → depths_at C.ids C.words C.first (suc k) ≡ opened C t (depths_at C.ids C.words C.first k)
  unfolding depths_at depths_after
  at_range k q r t o e = rw (e, kind_word RANGE (number t) q r (omega arith), p_word RANGE (number t) q r (omega arith) (omega (arith, o.inside, C.few))) refl

  pub at_next : (k p q r : ℕ) → get_or C.words k 0 ≡ word NEXT p q r → depths_at C.ids C.words C.first (suc k) ≡ closed (depths_at C.ids C.words C.first k)
  unfolding depths_at depths_after
  at_next k p q r e = rw (e, kind_word NEXT p q r (omega arith)) refl

  same_ids : (t u : Token) → OwnName C.ts t → OwnName C.ts u → same t.text u.text ≡ eqb (get_or C.ids (number t) 0) (get_or C.ids (number u) 0)
  same_ids t u o p = ap₂ same (name_text C t o) (name_text C u p) ∙ C.stands.apart (number t) (number u) (name_here C t o) (name_here C u p)

  module _ (scope : List Text) (d : Depths) (D : Deep C scope d) (x : Token) (o : OwnName C.ts x) where
    abbrev j : ℕ
    j = get_or C.ids (number x) 0

    in_room : j < length d.depths
    in_room = omega (arith, D.room, C.room (number x) (name_here C x o))

    -- the depth of the variable of the block
    pub own_depth : get_or (opened C x d).depths j 0 ≡ length scope
    own_depth = get_or-set_same d.depths j d.deep 0 in_room ∙ D.deep

    module _ (fresh : member x.text scope ≡ false) where
      apart : (t : Token) → member t.text scope ≡ true → same x.text t.text ≡ false
      apart t m = go (same x.text t.text) refl
        where
          go : (b : Bool) → same x.text t.text ≡ b → b ≡ false
          go true e = contradiction (member x.text scope) (subst (λ (y : Text). member y scope ≡ true) (sym (same_equal x.text t.text e)) m) fresh
          go false e = refl

      -- the others keep theirs
      pub others_depth : (t : Token) → OwnName C.ts t → member t.text scope ≡ true → get_or (opened C x d).depths (get_or C.ids (number t) 0) 0 ≡ depth_in t.text scope
      others_depth t p m =
          let e : eqb j (get_or C.ids (number t) 0) ≡ false = sym (same_ids x t o p) ∙ apart t m in
          get_or-set_other d.depths j (get_or C.ids (number t) 0) d.deep 0 (λ z. eqb-false j (get_or C.ids (number t) 0) e (sym z)) ∙ D.held t p m

      pub enter_block : Deep C (x.text ∷ scope) (opened C x d)
      enter_block = record { deep = omega (arith, D.deep); room = length-set d.depths j d.deep ∙ D.room; held = held }
        where
          held : (t : Token) → OwnName C.ts t → member t.text (x.text ∷ scope) ≡ true → get_or (opened C x d).depths (get_or C.ids (number t) 0) 0 ≡ depth_in t.text (x.text ∷ scope)
          held t p m = unfold depth_in member some_of in (go (same x.text t.text) refl (same_sym t.text x.text) m)
            where
              go : (b : Bool) → same x.text t.text ≡ b → same t.text x.text ≡ same x.text t.text → same t.text x.text || member t.text scope ≡ true
                  → get_or (opened C x d).depths (get_or C.ids (number t) 0) 0 ≡ cond b (length scope) (depth_in t.text scope)
              go true e f n =
                  let z : j ≡ get_or C.ids (number t) 0 = eqb-true j (get_or C.ids (number t) 0) (sym (same_ids x t o p) ∙ e) in
                  subst (λ (i : ℕ). get_or (opened C x d).depths i 0 ≡ length scope) z own_depth
              go false e f n = others_depth t p (rw (f, e) at n)

  -- the block is left
  pub leave_block : (scope : List Text) (x : Text) (d : Depths) → member x scope ≡ false → Deep C (x ∷ scope) d → Deep C scope (closed d)
  leave_block scope x d fresh D = record { deep = omega (arith, D.deep); room = D.room; held = held }
    where
      held : (t : Token) → OwnName C.ts t → member t.text scope ≡ true → get_or d.depths (get_or C.ids (number t) 0) 0 ≡ depth_in t.text scope
      held t p m = D.held t p (inside t m) ∙ outer t m
        where
          apart : (t : Token) → member t.text scope ≡ true → same x t.text ≡ false
          apart t m = go (same x t.text) refl
            where
              go : (b : Bool) → same x t.text ≡ b → b ≡ false
              go true e = contradiction (member x scope) (subst (λ (y : Text). member y scope ≡ true) (sym (same_equal x t.text e)) m) fresh
              go false e = refl

          inside : (t : Token) → member t.text scope ≡ true → member t.text (x ∷ scope) ≡ true
          inside t m = unfold member some_of in (rw (same_sym t.text x, apart t m) m)

          outer : (t : Token) → member t.text scope ≡ true → depth_in t.text (x ∷ scope) ≡ depth_in t.text scope
          outer t m = unfold depth_in in (rw (apart t m) refl)
