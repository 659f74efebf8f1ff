-- What holds of the parts of an accepted program.
use Prim.Native.Nat.{ℕ}
use mathlib.Core.Path.{◌≡◌, refl}
use mathlib.Core.Bool.{Bool, true, false, ◌||◌}
use mathlib.Core.List.{List, [], ◌∷◌, ◌++◌}
use lib.ListN.{length}
use Rattle.definition.specs.Text.{Text, same, member, some_of, gather}
use Rattle.definition.specs.Token.{Token}
use Rattle.definition.specs.Syntax.{Term, name, string, anything, Expression, Item, Program, assign, print, test, while, for, block}
use Rattle.definition.specs.Facts.{Element}
use Rattle.definition.specs.Names.{Use, use_as, attribute_only, enter, leave, in_terms, in_expression, in_item, in_program, Known, strings, left_strings}
use Rattle.definition.proofs.BoolLaws.{is_true, contradiction}
use Rattle.definition.proofs.MeaningLaws.{same_refl}
use Rattle.definition.proofs.AcceptLaws.{has}
use Rattle.definition.proofs.NameLaws.{Fitting, one, fitting_left, fitting_right}
use Rattle.definition.proofs.ScopeLaws.{ScopedProgram}
use Rattle.definition.proofs.NestingLaws.{Nested}
use Rattle.definition.proofs.RowLaws.{RowsOk}
use Rattle.definition.proofs.FormLaws.{Formed}
use Rattle.definition.proofs.QuantityLaws.{ShapedProgram}
use Rattle.words.specs.Tokens.{OwnProgram}
use Rattle.coded.proofs.Given.{Case}
use Rattle.coded.proofs.Scoping.{Placed}

-- the strings on left-hand sides are elements
abbrev pub Lefts : List Text → List Element → Type 0
Lefts us es = (x : Text) → has x es ≡ true → member x us ≡ true

has_left : (x : Text) (es fs : List Element) → has x es ≡ true → has x (es ++ fs) ≡ true
unfolding has some_of
has_left x [] fs h = contradiction false h refl
has_left x (e ∷ es) fs h = go (same x e.value) h (has_left x es fs)
  where
    go : (b : Bool) → b || has x es ≡ true → (has x es ≡ true → has x (es ++ fs) ≡ true) → b || has x (es ++ fs) ≡ true
    go true h more = refl
    go false h more = more h

has_right : (x : Text) (es fs : List Element) → has x fs ≡ true → has x (es ++ fs) ≡ true
unfolding has some_of
has_right x [] fs h = h
has_right x (e ∷ es) fs h = go (same x e.value) (has_right x es fs h)
  where
    go : (b : Bool) → has x (es ++ fs) ≡ true → b || has x (es ++ fs) ≡ true
    go true h = refl
    go false h = h

pub lefts_left : (us : List Text) (es fs : List Element) → Lefts us (es ++ fs) → Lefts us es
lefts_left us es fs l x h = l x (has_left x es fs h)

lefts_right : (us : List Text) (es fs : List Element) → Lefts us (es ++ fs) → Lefts us fs
lefts_right us es fs l x h = l x (has_right x es fs h)

pub lefts_placed : (us : List Text) (ps : List Term) → Lefts us (strings ps) → Placed us ps
unfolding strings Placed has some_of
lefts_placed us [] l = tt
lefts_placed us (name t ∷ ps) l = lefts_placed us ps l
lefts_placed us (string t ∷ ps) l = (
  l t.text (rw (is_true (same t.text t.text) (same_refl t.text)) refl),
  lefts_placed us ps (λ x h. l x (has_right x (record { value = t.text; quoted = true; at = t.at } ∷ []) (strings ps) h)),
)
lefts_placed us (anything ∷ ps) l = lefts_placed us ps l

pub fit_tail : {known : Text → Known} {u : Use} {us : List Use} → Fitting known (u ∷ us) → Fitting known us
fit_tail (one h f) = f

module _ (C : Case) where
  abbrev v : Text → Bool
  v = C.w.variables

  -- what holds of a program in a scope
  pub record Fine (scope : List Text) (p : Program) : Type 0 where
    pub own : OwnProgram C.ts p
    pub scoped : ScopedProgram C.kinds scope p
    pub nested : Nested (length scope) p
    pub rows : RowsOk v p
    pub formed : Formed p
    pub shaped : ShapedProgram p
    pub fit : Fitting C.kinds.known (in_program p)
    pub lefts : Lefts C.w.universe (left_strings p)

  -- the rest of a program after an assignment and after a PRINT
  pub fine_assign : {scope : List Text} {i : ℕ} {r : Token} {ps : List Term} {e : Expression} {q : Program} → Fine scope (assign i r ps e q) → Fine scope q
  unfolding OwnProgram ScopedProgram Nested RowsOk Formed ShapedProgram in_program left_strings
  fine_assign {scope} {i} {r} {ps} {e} {q} F = record {
    own = F.own.4;
    scoped = F.scoped.1.1.1;
    nested = F.nested;
    rows = F.rows.1.1.1;
    formed = F.formed.1;
    shaped = F.shaped.1;
    fit = fitting_right (in_expression e) (in_program q) (fitting_right (in_terms attribute_only ps) (in_expression e ++ in_program q) (fit_tail F.fit));
    lefts = lefts_right C.w.universe (strings ps) (left_strings q) F.lefts;
  }

  pub fine_print : {scope : List Text} {i : ℕ} {is : List Item} {q : Program} → Fine scope (print i is q) → Fine scope q
  unfolding OwnProgram ScopedProgram Nested RowsOk Formed ShapedProgram in_program left_strings
  fine_print {scope} {i} {is} {q} F = record {
    own = F.own.2;
    scoped = F.scoped.1;
    nested = F.nested;
    rows = F.rows.1.1;
    formed = F.formed.1;
    shaped = F.shaped.1;
    fit = fitting_right (gather in_item is) (in_program q) F.fit;
    lefts = F.lefts;
  }

  -- the parts of an IF
  pub fine_test : {scope : List Text} {i : ℕ} {e : Expression} {a b q : Program} → Fine scope (test i e a b q) → Fine scope a × (Fine scope b × Fine scope q)
  unfolding OwnProgram ScopedProgram Nested RowsOk Formed ShapedProgram in_program left_strings
  fine_test {scope} {i} {e} {a} {b} {q} F =
      let f₁ = fitting_right (in_expression e) (in_program a ++ (in_program b ++ in_program q)) F.fit in
      let f₂ = fitting_right (in_program a) (in_program b ++ in_program q) f₁ in
      let l₂ = lefts_right C.w.universe (left_strings a) (left_strings b ++ left_strings q) F.lefts in (
        record {
          own = F.own.2;
          scoped = F.scoped.1.0;
          nested = F.nested.0;
          rows = F.rows.1.1.0;
          formed = F.formed.0;
          shaped = F.shaped.1.0;
          fit = fitting_left (in_program a) (in_program b ++ in_program q) f₁;
          lefts = lefts_left C.w.universe (left_strings a) (left_strings b ++ left_strings q) F.lefts;
        },
        (
          record {
            own = F.own.3;
            scoped = F.scoped.1.1.0;
            nested = F.nested.1.0;
            rows = F.rows.1.1.1.0;
            formed = F.formed.1.0;
            shaped = F.shaped.1.1.0;
            fit = fitting_left (in_program b) (in_program q) f₂;
            lefts = lefts_left C.w.universe (left_strings b) (left_strings q) l₂;
          },
          record {
            own = F.own.4;
            scoped = F.scoped.1.1.1;
            nested = F.nested.1.1;
            rows = F.rows.1.1.1.1;
            formed = F.formed.1.1;
            shaped = F.shaped.1.1.1;
            fit = fitting_right (in_program b) (in_program q) f₂;
            lefts = lefts_right C.w.universe (left_strings b) (left_strings q) l₂;
          },
        ),
      )

  pub fine_while : {scope : List Text} {i : ℕ} {e : Expression} {a q : Program} → Fine scope (while i e a q) → Fine scope a × Fine scope q
  unfolding OwnProgram ScopedProgram Nested RowsOk Formed ShapedProgram in_program left_strings
  fine_while {scope} {i} {e} {a} {q} F =
      let f₁ = fitting_right (in_expression e) (in_program a ++ in_program q) F.fit in (
        record {
          own = F.own.2;
          scoped = F.scoped.1.0;
          nested = F.nested.0;
          rows = F.rows.1.1.0;
          formed = F.formed.0;
          shaped = F.shaped.1.0;
          fit = fitting_left (in_program a) (in_program q) f₁;
          lefts = lefts_left C.w.universe (left_strings a) (left_strings q) F.lefts;
        },
        record {
          own = F.own.3;
          scoped = F.scoped.1.1;
          nested = F.nested.1;
          rows = F.rows.1.1.1;
          formed = F.formed.1;
          shaped = F.shaped.1.1;
          fit = fitting_right (in_program a) (in_program q) f₁;
          lefts = lefts_right C.w.universe (left_strings a) (left_strings q) F.lefts;
        },
      )

  pub fine_for : {scope : List Text} {i : ℕ} {t : Token} {e : Expression} {a q : Program} → Fine scope (for i t e a q) → Fine (t.text ∷ scope) a × Fine scope q
  unfolding OwnProgram ScopedProgram Nested RowsOk Formed ShapedProgram in_program left_strings
  fine_for {scope} {i} {t} {e} {a} {q} F =
      let f₁ = fit_tail (fitting_right (in_expression e) (use_as enter t ∷ (in_program a ++ (use_as leave t ∷ in_program q))) (fit_tail F.fit)) in (
        record {
          own = F.own.3;
          scoped = F.scoped.1.1.0;
          nested = F.nested.1.0;
          rows = F.rows.1.1.0;
          formed = F.formed.0;
          shaped = F.shaped.1.0;
          fit = fitting_left (in_program a) (use_as leave t ∷ in_program q) f₁;
          lefts = lefts_left C.w.universe (left_strings a) (left_strings q) F.lefts;
        },
        record {
          own = F.own.4;
          scoped = F.scoped.1.1.1;
          nested = F.nested.1.1;
          rows = F.rows.1.1.1;
          formed = F.formed.1;
          shaped = F.shaped.1.1;
          fit = fit_tail (fitting_right (in_program a) (use_as leave t ∷ in_program q) f₁);
          lefts = lefts_right C.w.universe (left_strings a) (left_strings q) F.lefts;
        },
      )

  pub fine_block : {scope : List Text} {a q : Program} → Fine scope (block a q) → Fine scope a × Fine scope q
  unfolding OwnProgram ScopedProgram Nested RowsOk Formed ShapedProgram in_program left_strings
  fine_block {scope} {a} {q} F = (
    record {
      own = F.own.0;
      scoped = F.scoped.0;
      nested = F.nested.0;
      rows = F.rows.0;
      formed = F.formed.0;
      shaped = F.shaped.0;
      fit = fitting_left (in_program a) (in_program q) F.fit;
      lefts = lefts_left C.w.universe (left_strings a) (left_strings q) F.lefts;
    },
    record {
      own = F.own.1;
      scoped = F.scoped.1;
      nested = F.nested.1;
      rows = F.rows.1;
      formed = F.formed.1;
      shaped = F.shaped.1;
      fit = fitting_right (in_program a) (in_program q) F.fit;
      lefts = lefts_right C.w.universe (left_strings a) (left_strings q) F.lefts;
    },
  )
