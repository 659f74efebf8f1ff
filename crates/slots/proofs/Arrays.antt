-- Names in an array, and loops over a statement's words.
use Prim.Native.Nat.{ℕ, ◌+◌, ◌/◌, ◌%◌, ◌<◌, ◌≤◌}
use mathlib.Core.Path.{◌≡◌, refl, sym, ap, ◌∙◌}
use mathlib.Core.Bool.{Bool, true, false, cond}
use mathlib.Core.List.{List, [], ◌∷◌, ◌++◌}
use native.Mathlib.Omega.{arith}
use native.Mathlib.Numerals.{add-one}
use borrow.Author.Tests.{eq-eqb, ne_eqb}
use lib.Dec.{eqb}
use lib.ListN.{length, get_or, set, take, drop, drop_of_length-le, length-append, length-set}
use lib.Seq.{drop-cons, get_or-take, length-take-le, take-suc-set}
use Rattle.std.specs.Prelude.{count_by}
use Rattle.std.proofs.lemmas.List.Recursion.{is_count_by}
use Rattle.words.specs.Fields.{kind_of, CLOSURE}
use Rattle.digits.specs.Lists.{member}
use Rattle.slots.specs.Slots.{takes, of_loop, add_name, add_word, names_of, Holds, fits, over, place_from, digit_at, one_closure, closure_count}
use Rattle.slots.specs.declared.Found.{Found}

-- a step of the search for a name among the first n
module _ (x n i : ℕ) (names : List ℕ) (long : n ≤ length names) where
  place_step : i < n → place_from x (drop i (take n names)) i ≡ cond (eqb (get_or names i 0) x) (i + 1) (place_from x (drop (i + 1) (take n names)) (i + 1))
  unfolding place_from
  place_step h =
      let l : i < length (take n names) = omega (arith, length-take-le n names long) in
      rw (drop-cons (take n names) i 0 l, get_or-take n names i 0 h, add-one i) refl

  pub place_hit : (v : ℕ) → v ≡ place_from x (drop i (take n names)) i → i < n → get_or names i 0 ≡ x → i + 1 ≡ v
  place_hit v e h q = sym (e ∙ place_step h ∙ rw (eq-eqb (get_or names i 0) x q) refl)

  pub place_miss : (v : ℕ) → v ≡ place_from x (drop i (take n names)) i → i < n → (get_or names i 0 ≡ x → ⊥) → v ≡ place_from x (drop (i + 1) (take n names)) (i + 1)
  place_miss v e h q = e ∙ place_step h ∙ rw (ne_eqb (get_or names i 0) x q) refl

  pub place_end : (v : ℕ) → v ≡ place_from x (drop i (take n names)) i → n ≤ i → 0 ≡ v
  unfolding place_from
  place_end v e h =
      let l : length (take n names) ≤ i = omega (arith, length-take-le n names long) in
      sym (e ∙ rw (drop_of_length-le (take n names) l) refl)

-- a name has a place if and only if it is there
place_some : (x : ℕ) (xs : List ℕ) (i : ℕ) → 0 < place_from x xs i → member x xs ≡ true
unfolding place_from member
place_some x [] i h = absurd (omega arith)
place_some x (y ∷ ys) i h = go (eqb y x) h (place_some x ys (i + 1))
  where
    go : (b : Bool) → 0 < cond b (i + 1) (place_from x ys (i + 1)) → (0 < place_from x ys (i + 1) → member x ys ≡ true) → cond b true (member x ys) ≡ true
    go true k more = refl
    go false k more = more k

place_none : (x : ℕ) (xs : List ℕ) (i : ℕ) → place_from x xs i ≤ 0 → member x xs ≡ false
unfolding place_from member
place_none x [] i h = refl
place_none x (y ∷ ys) i h = go (eqb y x) h (place_none x ys (i + 1))
  where
    go : (b : Bool) → cond b (i + 1) (place_from x ys (i + 1)) ≤ 0 → (place_from x ys (i + 1) ≤ 0 → member x ys ≡ false) → cond b true (member x ys) ≡ false
    go true k more = absurd (omega arith)
    go false k more = more k

-- one name more
module _ (xs : List ℕ) (f : Found) (x : ℕ) where
  longer : (m : Bool) → 4 < length xs → 4 < length (cond m xs (xs ++ (x ∷ [])))
  longer true h = h
  longer false h = rw length-append (omega arith)

  pub same_over : 4 < f.count → Holds xs f → Holds (add_name xs x) f
  unfolding add_name
  same_over h (fits l c e) = absurd (omega arith)
  same_over h (over c l) = over c (longer (member x xs) l)

  pub same_had : (p : ℕ) → f.count ≤ 4 → p ≡ place_from x (take f.count f.names) 0 → 0 < p → Holds xs f → Holds (add_name xs x) f
  unfolding add_name
  same_had p h e t (fits l c q) =
      let m : member x xs ≡ true = ap (member x) q ∙ place_some x (take f.count f.names) 0 (omega arith) in
      rw m (fits l c q)
  same_had p h e t (over c l) = absurd (omega arith)

  pub now_over : (g : Found) (p : ℕ) → g.count ≡ 5 → f.count ≡ 4 → p ≡ place_from x (take f.count f.names) 0 → p ≤ 0 → Holds xs f → Holds (add_name xs x) g
  unfolding add_name
  now_over g p c5 c4 e t (fits l c q) =
      let m : member x xs ≡ false = ap (member x) q ∙ place_none x (take f.count f.names) 0 (omega arith) in
      let n : length xs ≡ 4 = ap length q ∙ length-take-le f.count f.names (omega arith) ∙ c4 in
      rw m (over c5 (rw length-append (omega arith)))
  now_over g p c5 c4 e t (over c l) = absurd (omega arith)

  pub one_more : (g : Found) (p : ℕ) → f.count < 4 → p ≡ place_from x (take f.count f.names) 0 → p ≤ 0 → g.count ≡ f.count + 1 → g.names ≡ set f.names f.count x → Holds xs f → Holds (add_name xs x) g
  unfolding add_name
  one_more g p c4 e t gc gn (fits l c q) =
      let m : member x xs ≡ false = ap (member x) q ∙ place_none x (take f.count f.names) 0 (omega arith) in
      rw m
      (fits (ap length gn ∙ length-set f.names f.count x ∙ l) (omega arith)
      (ap (λ (k : List ℕ). k ++ (x ∷ [])) q ∙ sym (rw (gn, gc, add-one) (take-suc-set f.names f.count x (omega arith)))))
  one_more g p c4 e t gc gn (over c l) = absurd (omega arith)

-- the attribute at a word
module _ (ids known : List ℕ) (w : ℕ) (xs : List ℕ) (f : Found) where
  pub no_place : (b : Bool) → b ≡ takes (kind_of w) → b ≡ false → Holds xs f → Holds (add_word ids known xs w) f
  unfolding add_word
  no_place b e t h = let q : takes (kind_of w) ≡ false = sym e ∙ t in rw q h

  pub no_attribute : (b d : Bool) (j k : ℕ) → b ≡ takes (kind_of w) → b ≡ true → j ≡ get_or ids (w / 256 % 65536) 0 → k ≡ get_or known j 0 → d ≡ of_loop k → d ≡ true → Holds xs f → Holds (add_word ids known xs w) f
  unfolding add_word
  no_attribute b d j k e t ej ek ed td h =
      let q : takes (kind_of w) ≡ true = sym e ∙ t in
      let r : of_loop (get_or known (get_or ids (w / 256 % 65536) 0) 0) ≡ true = rw (← ej, ← ek) (sym ed ∙ td) in
      rw (q, r) h

  pub an_attribute : (b d : Bool) (j k : ℕ) (g : Found) → b ≡ takes (kind_of w) → b ≡ true → j ≡ get_or ids (w / 256 % 65536) 0 → k ≡ get_or known j 0 → d ≡ of_loop k → d ≡ false
      → ((ys : List ℕ) → Holds ys f → Holds (add_name ys j) g) → Holds xs f → Holds (add_word ids known xs w) g
  unfolding add_word
  an_attribute b d j k g e t ej ek ed td step h =
      let q : takes (kind_of w) ≡ true = sym e ∙ t in
      let r : of_loop (get_or known (get_or ids (w / 256 % 65536) 0) 0) ≡ false = rw (← ej, ← ek) (sym ed ∙ td) in
      rw (q, r, ← ej) (step xs h)

-- the slot at a word
module _ (f : Found) (ids : List ℕ) (w : ℕ) where
  pub digit_none : (b : Bool) → b ≡ takes (kind_of w) → b ≡ false → 0 ≡ digit_at f ids w
  unfolding digit_at
  digit_none b e t = let q : takes (kind_of w) ≡ false = sym e ∙ t in rw q refl

  pub digit_some : (b : Bool) (j p : ℕ) → b ≡ takes (kind_of w) → b ≡ true → j ≡ get_or ids (w / 256 % 65536) 0 → p ≡ place_from j (take f.count f.names) 0 → p ≡ digit_at f ids w
  unfolding digit_at
  digit_some b j p e t ej ep = let q : takes (kind_of w) ≡ true = sym e ∙ t in rw (q, ← ej) ep

-- the walk over a statement's words
pub record Going (ids known total part : List ℕ) (i : ℕ) (f : Found) : Type 0 where
  pub so_far : List ℕ
  pub rest : total ≡ names_of ids known so_far (drop i part)
  pub holds : Holds so_far f

pub going_on : (ids known total part : List ℕ) (i : ℕ) (f g : Found) → i < length part → ((xs : List ℕ) → Holds xs f → Holds (add_word ids known xs (get_or part i 0)) g) →
    Going ids known total part i f → Going ids known total part (i + 1) g
unfolding names_of
going_on ids known total part i f g h step G =
    record {
      so_far = add_word ids known G.so_far (get_or part i 0);
      rest = G.rest ∙ rw (add-one i, drop-cons part i 0 h) refl;
      holds = step G.so_far G.holds;
    }

pub going_end : (ids known total part : List ℕ) (i : ℕ) (f : Found) → length part ≤ i → Going ids known total part i f → Holds total f
unfolding names_of
going_end ids known total part i f h G = let e : total ≡ G.so_far = G.rest ∙ rw (drop_of_length-le part h) refl in rw e G.holds

-- closures counted by the standard library
pub closures_counted : (ws : List ℕ) → closure_count ws ≡ count_by (λ w. eqb (kind_of w) CLOSURE) ws
unfolding closure_count one_closure
closures_counted ws = is_count_by closure_count (λ w. eqb (kind_of w) CLOSURE) refl (λ w xs. go (eqb (kind_of w) CLOSURE) (closure_count xs)) ws
  where
    go : (b : Bool) (n : ℕ) → cond b 1 0 + n ≡ cond b (1 + n) n
    go true n = refl
    go false n = omega arith
