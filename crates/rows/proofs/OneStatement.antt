-- One statement: rows 13 and 12 as the definition has them.
use Prim.Native.Nat.{ℕ, ◌+◌, ◌-◌, ◌<◌, ◌≤◌}
use mathlib.Core.Path.{◌≡◌, refl, sym, ap, ◌∙◌}
use mathlib.Core.Bool.{Bool, true, false, cond, ◌&&◌, ◌||◌}
use mathlib.Core.List.{List, [], ◌∷◌, ◌++◌, append-nil}
use native.Mathlib.Omega.{arith}
use borrow.Author.Tests.{ltb-false}
use lib.Dec.{ltb}
use lib.ListN.{length, get_or, take, drop, length-append}
use Rattle.definition.specs.Text.{Text, member, gather}
use Rattle.definition.specs.Token.{Token}
use Rattle.definition.specs.Syntax.{Term, Expression}
use Rattle.definition.specs.Answer.{ok, refused}
use Rattle.definition.specs.Names.{Use, use_as, before_terms, attribute_only, after_for, in_terms, in_expression, in_item, closures, attribute_names, statement_rows}
use Rattle.words.specs.Fields.{word, r_of, RELATION_NAME, ATTRIBUTE, BIND, RANGE, ASSIGN, TEST, PRINT}
use Rattle.words.specs.Raw.{number, leaves, size, flat, size_items, flat_items}
use Rattle.words.specs.Tokens.{OwnName}
use Rattle.words.specs.Standing.{Has}
use Rattle.words.specs.Shown.{role_of, Shows}
use Rattle.words.proofs.FieldLaws.{r_word}
use Rattle.words.proofs.Sizes.{length_leaves, length_flat, length_items}
use Rattle.words.proofs.Places.{has_append, has_part}
use Rattle.words.proofs.NameOrder.{first, both, leaves_uses, expression_uses, items_uses}
use Rattle.slots.specs.declared.Found.{Found}
use Rattle.slots.specs.Slots.{takes, names_of, Holds, digit_at, closure_count}
use Rattle.slots.proofs.Attributes as Attributes
use Rattle.slots.proofs.ClosureCount.{count_expression, count_assign, count_items, skip}
use Rattle.free.specs.Words.{at, Filled}
use Rattle.free.proofs.Slotted.{slot, Covered, covered_names}
use Rattle.rows.specs.Tests.{all_fit, own_fits, too_much}
use Rattle.rows.specs.Statements.{Setting, vs, Stated, assigned, printed, tested, ranged}
use Rattle.rows.proofs.Fitting as Fitting
use Rattle.rows.proofs.Fitting.{limited, limited_one}
use Rattle.rows.proofs.Coding.{no_attribute, CodedHere, found_over, found_short, named_digit, other_digit}

-- a statement's words before its own, and its own
record Split (words : List ℕ) (s k : ℕ) (xs : List ℕ) (w : ℕ) : Type 0 where
  part : take (k - s) (drop s words) ≡ xs
  own : get_or words k 0 ≡ w
  has : Has words s xs

split_own : (words : List ℕ) (s k n : ℕ) (xs : List ℕ) (w : ℕ) → length xs ≡ n → k ≡ s + n → k < length words → Has words s (xs ++ (w ∷ [])) → Split words s k xs w
unfolding Has
split_own words s k n xs w l e h x =
    let a = has_append words s xs (w ∷ []) x in
    let d : k - s ≡ length xs = omega arith in
    let j : s + length xs ≡ k = omega arith in
    record { part = rw d (has_part words s xs (omega arith) a.0); own = rw (← j) a.1.0; has = a.0 }

assigned_split : (words : List ℕ) (s k i n : ℕ) (ps : List Term) (e : Expression) → k ≡ s + 1 + length ps + size e → k < length words
    → Has words s ((word RELATION_NAME n (length ps) 0 ∷ (leaves ATTRIBUTE ps ++ flat e (s + 1 + length ps))) ++ (word ASSIGN s (length ps) i ∷ []))
    → Split words s k (word RELATION_NAME n (length ps) 0 ∷ (leaves ATTRIBUTE ps ++ flat e (s + 1 + length ps))) (word ASSIGN s (length ps) i)
assigned_split words s k i n ps e ek h w =
    let m = s + 1 + length ps in
    let x = word RELATION_NAME n (length ps) 0 ∷ (leaves ATTRIBUTE ps ++ flat e m) in
    split_own words s k (1 + length ps + size e) x (word ASSIGN s (length ps) i) (omega (arith, length-append (leaves ATTRIBUTE ps) (flat e m), length_leaves ATTRIBUTE ps, length_flat e m)) (omega (arith, ek)) h w

-- few names, unless they are too much
pub not_over : (n m : ℕ) (b : Bool) → b ≡ too_much n m → b ≡ false → n ≤ 4
unfolding too_much
not_over n m b e f = go (ltb 4 n) refl (sym e ∙ f)
  where
    go : (t : Bool) → ltb 4 n ≡ t → cond t true (ltb 16 m) ≡ false → n ≤ 4
    go true q k = absurd (let z : ◌≡◌ {A = ℕ} 0 1 = cc in omega arith)
    go false q k = ltb-false 4 n q

module _ (words ids known : List ℕ) (S : Setting words ids known) where
  abbrev pub v : Text → Bool
  v = vs words ids known S

  -- what a statement's words show
  record Seen (s k i : ℕ) (us : List Use) (es : List Expression) : Type 0 where
    xs : List ℕ
    part : take (k - s) (drop s words) ≡ xs
    uses : List Use
    shows : Shows S.ts xs uses
    names : attribute_names v uses ≡ attribute_names v us
    count : closure_count xs ≡ length (gather closures es)
    place : r_of (get_or words k 0) ≡ i

  one_gathered : (e : Expression) → length (closures e) ≡ length (gather closures (e ∷ []))
  unfolding gather
  one_gathered e = ap length (sym (append-nil (closures e)))

  seen : (s k i : ℕ) (us : List Use) (es : List Expression) (right : Bool) → k < length words → Stated words ids known S s k i us es right → Seen s k i us es
  unfolding role_of attribute_names
  seen s k i us es right h (tested i₀ l e hi hl oe ek w) =
      let p = split_own words s k (size e) (flat e s) (word TEST 0 l i) (length_flat e s) ek h w in
      record {
        xs = flat e s;
        part = p.part;
        uses = in_expression e;
        shows = expression_uses S.ts S.few e s (omega (arith, S.small)) oe;
        names = refl;
        count = count_expression e s ∙ one_gathered e;
        place = rw p.own (r_word TEST 0 l i (omega arith) (omega arith) hl hi);
      }
  seen s k i us es right h (printed i₀ is hi ois ek w) =
      let p = split_own words s k (size_items is) (flat_items is s) (word PRINT s 0 i) (length_items is s) ek h w in
      record {
        xs = flat_items is s;
        part = p.part;
        uses = gather in_item is;
        shows = items_uses S.ts S.few is s (omega (arith, S.small)) ois;
        names = refl;
        count = count_items is s;
        place = rw p.own (r_word PRINT s 0 i (omega arith) (omega (arith, S.small)) (omega arith) hi);
      }
  seen s k i us es right h (ranged i₀ l x e hi hl ox oe ek w) =
      let b = word BIND (number x) 0 0 in
      let p = split_own words s k (1 + size e) (b ∷ flat e (s + 1)) (word RANGE (number x) l i) (omega (arith, length_flat e (s + 1))) (omega (arith, ek)) h w in
      record {
        xs = b ∷ flat e (s + 1);
        part = p.part;
        uses = use_as after_for x ∷ in_expression e;
        shows = first S.ts S.few BIND 0 0 x (omega arith) (omega arith) ox (omega arith) (expression_uses S.ts S.few e (s + 1) (omega (arith, S.small)) oe);
        names = refl;
        count = skip BIND (number x) 0 0 (flat e (s + 1)) (omega arith) (λ z. omega arith) (count_expression e (s + 1)) ∙ one_gathered e;
        place = rw p.own (r_word RANGE (number x) l i (omega arith) (omega (arith, ox.inside, S.few)) hl hi);
      }
  seen s k i us es right h (assigned i₀ r ps e hi or op oe ek w) =
      let b = word RELATION_NAME (number r) (length ps) 0 in
      let m = s + 1 + length ps in
      let x = b ∷ (leaves ATTRIBUTE ps ++ flat e m) in
      let p = assigned_split words s k i (number r) ps e ek h w in
      record {
        xs = x;
        part = p.part;
        uses = use_as (before_terms (length ps)) r ∷ (in_terms attribute_only ps ++ in_expression e);
        shows = first S.ts S.few RELATION_NAME (length ps) 0 r (omega arith) (omega arith) or (omega (arith, S.small))
            (both S.ts S.few (leaves_uses S.ts S.few ATTRIBUTE attribute_only ps (omega arith) (omega arith) refl op) (expression_uses S.ts S.few e m (omega (arith, S.small)) oe));
        names = refl;
        count = count_assign (number r) (length ps) ps e m ∙ one_gathered e;
        place = rw p.own (r_word ASSIGN s (length ps) i (omega arith) (omega (arith, S.small)) (omega (arith, S.small)) hi);
      }

  -- the tests of the words are the definition's
  module _ (s k : ℕ) (hk : k < length words) (D : ℕ → ℕ) (fr : List ℕ) (filled : Filled words D fr s k) (small : k < 65536) (names : List Text) (short : length names ≤ 4) (loops : (x : Text) → v x ≡ true → member x names ≡ false)
      (named : (c : ℕ) (t : Token) → takes c ≡ true → c < 256 → OwnName S.ts t → D (word c (number t) 0 0) ≡ slot names t.text) (other : (c p : ℕ) → takes c ≡ false → c < 256 → D (word c p 0 0) ≡ 0) where
    tests : (i : ℕ) (us : List Use) (es : List Expression) (right : Bool) → Stated words ids known S s k i us es right → Covered names v loops us →
        all_fit (at fr) (take (k - s) (drop s words)) s && own_fits (at words) D (at fr) k (get_or words k 0) ≡ right && limited v es
    unfolding Has
    tests i us es right (tested i₀ l e hi hl oe ek w) covered =
        let p = split_own words s k (size e) (flat e s) (word TEST 0 l i) (length_flat e s) ek hk w in
        rw (p.part, ← limited_one v e) (Fitting.tested_right S.ts S.few words fr s k D filled small names short v loops named other e l i oe covered ek p.has p.own)
    tests i us es right (printed i₀ is hi ois ek w) covered =
        let p = split_own words s k (size_items is) (flat_items is s) (word PRINT s 0 i) (length_items is s) ek hk w in
        rw p.part (Fitting.printed_right S.ts S.few words fr s k D filled small names short v loops named other is s i ois covered ek p.has p.own)
    tests i us es right (ranged i₀ l x e hi hl ox oe ek w) covered =
        let p = split_own words s k (1 + size e) (word BIND (number x) 0 0 ∷ flat e (s + 1)) (word RANGE (number x) l i) (omega (arith, length_flat e (s + 1))) (omega (arith, ek)) hk w in
        let q = p.has in
        rw (p.part, ← limited_one v e) (Fitting.ranged_right S.ts S.few words fr s k D filled small names short v loops named other e (number x) (number x) l i oe covered ek q.0 q.1 p.own)
    tests i us es right (assigned i₀ r ps e hi or op oe ek w) covered =
        let m = s + 1 + length ps in
        let p = assigned_split words s k i (number r) ps e ek hk w in
        let q = p.has in
        let t = has_append words (s + 1) (leaves ATTRIBUTE ps) (flat e m) q.1 in
        rw (p.part, ← limited_one v e)
        (Fitting.assigned_right S.ts S.few words fr s k D filled small names short v loops named other e ps (number r) i oe op covered ek q.0 t.0 (rw (length_leaves ATTRIBUTE ps) at t.1) p.own)

  module _ (s k i : ℕ) (us : List Use) (es : List Expression) (right : Bool) (hk : k < length words) (st : Stated words ids known S s k i us es right) (f : Found)
      (holds : Holds (names_of ids known [] (take (k - s) (drop s words))) f) where
    abbrev pub part : List ℕ
    part = take (k - s) (drop s words)

    abbrev names : List Text
    names = attribute_names v us

    abbrev it : Seen s k i us es
    it = seen s k i us es right hk st

    coded : CodedHere words ids known S (names_of ids known [] part) names
    coded =
        rw (it.part, ← it.names)
        (Attributes.statement_names S.facts S.query S.tokens ids known S.relations S.count S.kinds S.stands S.ts S.stand it.shows)

    loops : (x : Text) → v x ≡ true → member x names ≡ false
    loops x e = no_attribute v x e us

    covered : Covered names v loops us
    covered = covered_names names v loops us (λ x m. m)

    much : too_much f.count (closure_count part) ≡ ltb 4 (length names) || ltb 16 (length (gather closures es))
    unfolding too_much
    much = rw (found_over words ids known S f part names coded holds, it.part, it.count) (go (ltb 4 (length names)))
      where
        go : (b : Bool) → cond b true (ltb 16 (length (gather closures es))) ≡ b || ltb 16 (length (gather closures es))
        go true = refl
        go false = refl

    module _ (few : f.count ≤ 4) (fr : List ℕ) (filled : Filled words (digit_at f ids) fr s k) where
      short : length names ≤ 4
      short = found_short words ids known S f part names coded holds few

      named : (c : ℕ) (t : Token) → takes c ≡ true → c < 256 → OwnName S.ts t → digit_at f ids (word c (number t) 0 0) ≡ slot names t.text
      named = named_digit words ids known S f part names coded holds few

      other : (c p : ℕ) → takes c ≡ false → c < 256 → digit_at f ids (word c p 0 0) ≡ 0
      other = other_digit words ids known S f part names coded holds

      small : k < 65536
      small = omega (arith, S.small)

    -- the three answers
    pub row_13 : (b : Bool) → b ≡ too_much f.count (closure_count part) → b ≡ true → statement_rows v i us es right ≡ refused 13 (r_of (get_or words k 0))
    unfolding statement_rows
    row_13 b e t = let q : ltb 4 (length names) || ltb 16 (length (gather closures es)) ≡ true = sym much ∙ sym e ∙ t in rw (q, it.place) refl

    module _ (b : Bool) (eb : b ≡ too_much f.count (closure_count part)) (nb : b ≡ false) (fr : List ℕ) (filled : Filled words (digit_at f ids) fr s k) where
      few : f.count ≤ 4
      few = not_over f.count (closure_count part) b eb nb

      few_much : ltb 4 (length names) || ltb 16 (length (gather closures es)) ≡ false
      few_much = sym much ∙ sym eb ∙ nb

      abbrev pub fit : Bool
      fit = all_fit (at fr) part s

      abbrev pub own : Bool
      own = own_fits (at words) (digit_at f ids) (at fr) k (get_or words k 0)

      both_tests : fit && own ≡ right && limited v es
      both_tests = tests s k hk (digit_at f ids) fr filled (small few fr filled) names (short few fr filled) loops (named few fr filled) (other few fr filled) i us es right st covered

      row_12 : fit && own ≡ false → statement_rows v i us es right ≡ refused 12 (r_of (get_or words k 0))
      unfolding statement_rows
      row_12 t = let q : right && limited v es ≡ false = sym both_tests ∙ t in rw (few_much, q, it.place) refl

      pub refused_words : (x : Bool) → x ≡ fit → x ≡ false → statement_rows v i us es right ≡ refused 12 (r_of (get_or words k 0))
      refused_words x e t = let q : fit ≡ false = sym e ∙ t in row_12 (rw q refl)

      pub refused_own : (x y : Bool) → x ≡ fit → x ≡ true → y ≡ own → y ≡ false → statement_rows v i us es right ≡ refused 12 (r_of (get_or words k 0))
      refused_own x y e t g u = let q : fit ≡ true = sym e ∙ t in let r : own ≡ false = sym g ∙ u in row_12 (rw (q, r) refl)

      pub no_row : (x y : Bool) → x ≡ fit → x ≡ true → y ≡ own → y ≡ true → statement_rows v i us es right ≡ ok tt
      unfolding statement_rows
      no_row x y e t g u =
          let q : fit ≡ true = sym e ∙ t in
          let r : own ≡ true = sym g ∙ u in
          let z : right && limited v es ≡ true = sym both_tests ∙ rw (q, r) refl in
          rw (few_much, z) refl
