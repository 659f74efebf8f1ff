-- The table of a pattern holds exactly the parts of an element that it describes, and the test finds exactly the elements that match.
use mathlib.Core.Path.{◌≡◌, refl, sym, ap, ◌∙◌, subst, subst⁻¹}
use mathlib.Core.Logic.{◌↔◌, ◌⊎◌, inl, inr}
use mathlib.Core.Bool.{Bool, true, false, ◌&&◌, ◌||◌}
use mathlib.Core.List.{List, [], ◌∷◌, ◌++◌}
use Prim.Native.Nat.{ℕ, zero, suc, ◌+◌, ◌-◌, ◌≤◌, ◌<◌}
use native.Mathlib.Nat.{zero-add}
use native.Mathlib.Omega.{arith}
use lib.Dec.{T, eqb, eqb→eq, eqb_refl}
use lib.ListN.{length, get_or, take, drop, length-append, take-append-drop}
use lib.Seq.{slice, slice_empty, slice-cons, length-slice, length-take-le, take-take, drop-append-le, take_at, drop_at, take-length}
use Rattle.definition.specs.Text.{Text, some_of, from, below}
use Rattle.definition.specs.Tables.{closure}
use Rattle.definition.proofs.BoolLaws.{or_cases, or_left, or_right, and_left, and_right, and_both, is_true}
use Rattle.definition.proofs.TableLaws.{holds_table}
use Rattle.definition.proofs.Chains.{Chain, link, more}
use Rattle.definition.proofs.ClosureLaws.{closure_chains}
use Rattle.definition.specs.Pattern.{Range, Pattern, empty, start, end, one, sequence, choice, star, in_set, is_empty, Describes, nothing, at_start, at_end, byte, both, left, right, no_more, once_more, Matches, pairs, joined, joined_by_both, joined_by_either, joined_or_equal, spans, some_pair, found}

-- tests

eq→eqb : (m n : ℕ) → m ≡ n → T (eqb m n)
eq→eqb m n e = subst (λ k. T (eqb m k)) e (eqb_refl m)

-- two tests that say the same are equal
same_test : (a b : Bool) → (T a → T b) → (T b → T a) → a ≡ b
same_test true true f g = refl
same_test true false f g = absurd (f tt)
same_test false true f g = absurd (g tt)
same_test false false f g = refl

-- a test that some number of a run passes
pub some_out : (f : ℕ → Bool) (n a : ℕ) → T (some_of f (from n a)) → (i : ℕ) × (i < a + n) × T (f i)
unfolding some_of from
some_out f zero a t = absurd t
some_out f (suc n) a t = go (or_cases (f a) (some_of f (from n (suc a))) t) (some_out f n (suc a))
  where
    go : T (f a) ⊎ T (some_of f (from n (suc a))) → (T (some_of f (from n (suc a))) → (i : ℕ) × (i < suc a + n) × T (f i)) → (i : ℕ) × (i < a + suc n) × T (f i)
    go (inl s) ih = (a, omega arith, s)
    go (inr s) ih = let r = ih s in (r.0, let h : r.0 < suc a + n = r.1 in omega arith, r.2)

pub some_in : (f : ℕ → Bool) (n a i : ℕ) → a ≤ i → i < a + n → T (f i) → T (some_of f (from n a))
unfolding some_of from
some_in f zero a i l h t = absurd (omega arith)
some_in f (suc n) a i l h t = go (eqb a i) refl (some_in f n (suc a) i)
  where
    go : (b : Bool) → eqb a i ≡ b → (suc a ≤ i → i < suc a + n → T (f i) → T (some_of f (from n (suc a)))) → T (f a || some_of f (from n (suc a)))
    go true e ih = or_left (f a) (some_of f (from n (suc a))) (subst⁻¹ (λ k. T (f k)) (eqb→eq a i (subst⁻¹ T e tt)) t)
    go false e ih =
        let differ : a ≡ i → ⊥ = λ q. subst T e (eq→eqb a i q) in
        or_right (f a) (some_of f (from n (suc a))) (ih (omega (arith, differ)) (omega arith) t)

and_of_true : (a b : Bool) → T b → a && b ≡ a
and_of_true true true t = refl
and_of_true true false t = absurd t
and_of_true false b t = refl

-- an empty text by its length
empty_out : (x : Text) → T (is_empty x) → length x ≡ 0
empty_out [] t = refl
empty_out (y ∷ ys) t = absurd t

empty_in : (x : Text) → length x ≡ 0 → T (is_empty x)
empty_in [] e = tt
empty_in (y ∷ ys) e = absurd (omega arith)

-- two ways to cut a text at one place
cut_same : (x y z w : Text) → x ++ y ≡ z ++ w → length x ≡ length z → (x ≡ z) × (y ≡ w)
cut_same x y z w e l = (
  sym (take_at x y (length z) l) ∙ ap (take (length z)) e ∙ take_at z w (length z) refl,
  sym (drop_at x y (length z) l) ∙ ap (drop (length z)) e ∙ drop_at z w (length z) refl,
)

module _ (e : Text) where
  -- parts of the element
  slice_join : (i k j : ℕ) → i ≤ k → k ≤ j → j ≤ length e → slice i k e ++ slice k j e ≡ slice i j e
  slice_join i k j h l m =
      ap (λ t. drop i t ++ drop k (take j e)) (sym (take-take k j e l))
      ∙ sym (drop-append-le i (take k (take j e)) (drop k (take j e)) within)
      ∙ ap (drop i) (take-append-drop k (take j e))
    where
      long : length (take k (take j e)) ≡ k
      long = length-take-le k (take j e) (subst⁻¹ (λ n. k ≤ n) (length-take-le j e m) l)

      within : i ≤ length (take k (take j e))
      within = subst⁻¹ (λ n. i ≤ n) long h

  -- a part is at the end where the part after it is empty and at the end
  end_flag : (k j : ℕ) → k ≤ j → j ≤ length e → is_empty (slice k j e) && eqb j (length e) ≡ eqb k (length e)
  end_flag k j h l = same_test (is_empty (slice k j e) && eqb j (length e)) (eqb k (length e)) out back
    where
      long : length (slice k j e) ≡ j - k
      long = length-slice k j e l

      out : T (is_empty (slice k j e) && eqb j (length e)) → T (eqb k (length e))
      out t =
          let a : length (slice k j e) ≡ 0 = empty_out (slice k j e) (and_left (is_empty (slice k j e)) (eqb j (length e)) t) in
          let b : j ≡ length e = eqb→eq j (length e) (and_right (is_empty (slice k j e)) (eqb j (length e)) t) in
          let c : j - k ≡ 0 = sym long ∙ a in
          eq→eqb k (length e) (omega arith)

      back : T (eqb k (length e)) → T (is_empty (slice k j e) && eqb j (length e))
      back t =
          let b : k ≡ length e = eqb→eq k (length e) t in
          let c : j - k ≡ 0 = omega arith in
          and_both (is_empty (slice k j e)) (eqb j (length e)) (empty_in (slice k j e) (long ∙ c)) (eq→eqb j (length e) (omega arith))

  -- and at the start where the part before it is empty and at the start
  start_flag : (i k : ℕ) → i ≤ k → k ≤ length e → eqb i 0 && is_empty (slice i k e) ≡ eqb k 0
  start_flag i k h l = same_test (eqb i 0 && is_empty (slice i k e)) (eqb k 0) out back
    where
      long : length (slice i k e) ≡ k - i
      long = length-slice i k e l

      out : T (eqb i 0 && is_empty (slice i k e)) → T (eqb k 0)
      out t =
          let a : length (slice i k e) ≡ 0 = empty_out (slice i k e) (and_right (eqb i 0) (is_empty (slice i k e)) t) in
          let b : i ≡ 0 = eqb→eq i 0 (and_left (eqb i 0) (is_empty (slice i k e)) t) in
          let c : k - i ≡ 0 = sym long ∙ a in
          eq→eqb k 0 (omega arith)

      back : T (eqb k 0) → T (eqb i 0 && is_empty (slice i k e))
      back t =
          let b : k ≡ 0 = eqb→eq k 0 t in
          let c : k - i ≡ 0 = omega arith in
          and_both (eqb i 0) (is_empty (slice i k e)) (eq→eqb i 0 (omega arith)) (empty_in (slice i k e) (long ∙ c))

  -- the bytes i to j - 1 are described where they stand
  pub record Spanned (p : Pattern) (i j : ℕ) : Type 0 where
    pub order : i ≤ j
    pub within : j ≤ length e
    pub described : Describes p (eqb i 0) (slice i j e) (eqb j (length e))

  -- the empty part
  spanned_empty : (p : Pattern) (i : ℕ) → i ≤ length e → Describes p (eqb i 0) [] (eqb i (length e)) → Spanned p i i
  spanned_empty p i h d = record { order = omega arith; within = h; described = subst⁻¹ (λ x. Describes p (eqb i 0) x (eqb i (length e))) (slice_empty i e) d }

  -- two parts that meet
  module _ (p q : Pattern) (i k j : ℕ) (f : Spanned p i k) (g : Spanned q k j) where
    first : Describes p (eqb i 0) (slice i k e) (is_empty (slice k j e) && eqb j (length e))
    first = subst⁻¹ (λ b. Describes p (eqb i 0) (slice i k e) b) (end_flag k j g.order g.within) f.described

    second : Describes q (eqb i 0 && is_empty (slice i k e)) (slice k j e) (eqb j (length e))
    second = subst⁻¹ (λ a. Describes q a (slice k j e) (eqb j (length e))) (start_flag i k f.order f.within) g.described

    meet : (r : Pattern) → Describes r (eqb i 0) (slice i k e ++ slice k j e) (eqb j (length e)) → Spanned r i j
    meet r d =
        let h : i ≤ k = f.order in
        let l : k ≤ j = g.order in
        record {
          order = omega arith;
          within = g.within;
          described = subst (λ x. Describes r (eqb i 0) x (eqb j (length e))) (slice_join i k j h l g.within) d;
        }

  spanned_both : (p q : Pattern) (i k j : ℕ) → Spanned p i k → Spanned q k j → Spanned (sequence p q) i j
  spanned_both p q i k j f g = meet p q i k j f g (sequence p q) (both (first p q i k j f g) (second p q i k j f g))

  spanned_more : (p : Pattern) (i k j : ℕ) → Spanned p i k → Spanned (star p) k j → Spanned (star p) i j
  spanned_more p i k j f g = meet p (star p) i k j f g (star p) (once_more (first p (star p) i k j f g) (second p (star p) i k j f g))

  -- what a table of pairs holds
  in_pairs : (f : ℕ → ℕ → Bool) (i j : ℕ) → i < suc (length e) → j < suc (length e) → joined e (pairs e f) i j ≡ f i j
  unfolding pairs
  in_pairs f i j h l = holds_table (suc (length e)) (i ∷ j ∷ []) (λ t. f (get_or t 0 0) (get_or t 1 0)) (h, (l, tt))

  -- chains of parts
  chain_spanned : (p : Pattern) (r : ℕ → ℕ → Bool) → ((i j : ℕ) → i < suc (length e) → j < suc (length e) → T (r i j) → Spanned p i j)
      → {i j : ℕ} → i < suc (length e) → j < suc (length e) → Chain r (suc (length e)) i j → Spanned (star p) i j
  chain_spanned p r s {i} {j} h l (link t) = spanned_more p i j j (s i j h l t) (spanned_empty (star p) j (omega arith) no_more)
  chain_spanned p r s {i} {j} h l (more {b = k} t m c) = spanned_more p i k j (s i k h m t) (chain_spanned p r s m l c)

  at_zero : (i j : ℕ) → i ≡ 0 → j ≡ 0 → Spanned start i j
  at_zero i j a b = subst⁻¹ (λ k. Spanned start k j) a (subst⁻¹ (Spanned start 0) b (spanned_empty start 0 (omega arith) at_start))

  at_length : (i j : ℕ) → i ≡ length e → j ≡ length e → Spanned end i j
  at_length i j a b =
      subst⁻¹ (λ k. Spanned end k j) a (subst⁻¹ (Spanned end (length e)) b
      (spanned_empty end (length e) (omega arith) (subst⁻¹ (Describes end (eqb (length e) 0) []) (is_true (eqb (length e) (length e)) (eqb_refl (length e))) at_end)))

  slice_one : (i : ℕ) → i < length e → slice i (suc i) e ≡ get_or e i 0 ∷ []
  slice_one i h = slice-cons i (suc i) e 0 (omega arith) h ∙ ap (λ x. get_or e i 0 ∷ x) (slice_empty (suc i) e)

  one_byte : (c : Bool) (rs : List Range) (i j : ℕ) → j ≤ length e → suc i ≡ j → T (in_set c rs (get_or e i 0)) → Spanned (one c rs) i j
  one_byte c rs i j h a t =
      let l : i < length e = omega arith in
      subst (Spanned (one c rs) i) a (record {
        order = omega arith;
        within = l;
        described = subst⁻¹ (λ x. Describes (one c rs) (eqb i 0) x (eqb (suc i) (length e))) (slice_one i l) (byte t);
      })

  one_of : (p q : Pattern) (i j : ℕ) {A B : Type 0} → (A → Spanned p i j) → (B → Spanned q i j) → A ⊎ B → Spanned (choice p q) i j
  one_of p q i j f g (inl s) = let r = f s in record { order = r.order; within = r.within; described = left r.described }
  one_of p q i j f g (inr s) = let r = g s in record { order = r.order; within = r.within; described = right r.described }

  any_of : (p : Pattern) (r : ℕ → ℕ → Bool) → ((i j : ℕ) → i < suc (length e) → j < suc (length e) → T (r i j) → Spanned p i j)
      → (i j : ℕ) → i < suc (length e) → j < suc (length e) → (b : Bool) → (T b → Chain r (suc (length e)) i j) → T (eqb i j) ⊎ T b → Spanned (star p) i j
  any_of p r s i j h l b f (inl t) = subst (Spanned (star p) i) (eqb→eq i j t) (spanned_empty (star p) i (omega arith) no_more)
  any_of p r s i j h l b f (inr t) = chain_spanned p r s h l (f t)

  pub spans_sound : (p : Pattern) (i j : ℕ) → i < suc (length e) → j < suc (length e) → T (joined e (spans e p) i j) → Spanned p i j
  unfolding spans joined_by_both joined_by_either joined_or_equal
  spans_sound empty i j h l t =
      subst (Spanned empty i) (eqb→eq i j (subst T (in_pairs eqb i j h l) t)) (spanned_empty empty i (omega arith) nothing)
  spans_sound start i j h l t =
      let f : ℕ → ℕ → Bool = λ i j. eqb i 0 && eqb j 0 in
      let s : T (eqb i 0 && eqb j 0) = subst T (in_pairs f i j h l) t in
      at_zero i j (eqb→eq i 0 (and_left (eqb i 0) (eqb j 0) s)) (eqb→eq j 0 (and_right (eqb i 0) (eqb j 0) s))
  spans_sound end i j h l t =
      let f : ℕ → ℕ → Bool = λ i j. eqb i (length e) && eqb j (length e) in
      let s : T (eqb i (length e) && eqb j (length e)) = subst T (in_pairs f i j h l) t in
      at_length i j (eqb→eq i (length e) (and_left (eqb i (length e)) (eqb j (length e)) s)) (eqb→eq j (length e) (and_right (eqb i (length e)) (eqb j (length e)) s))
  spans_sound (one c rs) i j h l t =
      let f : ℕ → ℕ → Bool = λ i j. eqb (suc i) j && in_set c rs (get_or e i 0) in
      let s : T (eqb (suc i) j && in_set c rs (get_or e i 0)) = subst T (in_pairs f i j h l) t in
      one_byte c rs i j (omega arith) (eqb→eq (suc i) j (and_left (eqb (suc i) j) (in_set c rs (get_or e i 0)) s)) (and_right (eqb (suc i) j) (in_set c rs (get_or e i 0)) s)
  spans_sound (sequence p q) i j h l t =
      let f : ℕ → ℕ → Bool = λ i j. some_of (λ k. joined e (spans e p) i k && joined e (spans e q) k j) (below (suc (length e))) in
      let s : (k : ℕ) × (k < 0 + suc (length e)) × T (joined e (spans e p) i k && joined e (spans e q) k j) =
      some_out (λ k. joined e (spans e p) i k && joined e (spans e q) k j) (suc (length e)) 0 (subst T (in_pairs f i j h l) t) in
      let k = s.0 in
      let m : k < suc (length e) = subst (λ n. k < n) (zero-add (suc (length e))) s.1 in
      spanned_both p q i k j
      (spans_sound p i k h m (and_left (joined e (spans e p) i k) (joined e (spans e q) k j) s.2))
      (spans_sound q k j m l (and_right (joined e (spans e p) i k) (joined e (spans e q) k j) s.2))
  spans_sound (choice p q) i j h l t =
      let f : ℕ → ℕ → Bool = λ i j. joined e (spans e p) i j || joined e (spans e q) i j in
      one_of p q i j (spans_sound p i j h l) (spans_sound q i j h l) (or_cases (joined e (spans e p) i j) (joined e (spans e q) i j) (subst T (in_pairs f i j h l) t))
  spans_sound (star p) i j h l t =
      let ws = closure (suc (length e)) (spans e p) in
      let f : ℕ → ℕ → Bool = λ i j. eqb i j || joined e ws i j in
      any_of p (joined e (spans e p)) (spans_sound p) i j h l (joined e ws i j) (closure_chains (suc (length e)) (spans e p) i j h l).0
      (or_cases (eqb i j) (joined e ws i j) (subst T (in_pairs f i j h l) t))

  -- a part cut in two
  record Split (x y : Text) (i j : ℕ) : Type 0 where
    at : ℕ
    low : i ≤ at
    high : at ≤ j
    front : x ≡ slice i at e
    back : y ≡ slice at j e

  split : (x y : Text) (i j : ℕ) → i ≤ j → j ≤ length e → x ++ y ≡ slice i j e → Split x y i j
  split x y i j h l q =
      let sum : length x + length y ≡ j - i = sym (length-append x y) ∙ ap length q ∙ length-slice i j e l in
      let high : i + length x ≤ j = omega arith in
      let size : length x ≡ length (slice i (i + length x) e) = omega (arith, length-slice i (i + length x) e (omega arith)) in
      let c = cut_same x y (slice i (i + length x) e) (slice (i + length x) j e) (q ∙ sym (slice_join i (i + length x) j (omega arith) high l)) size in
      record { at = i + length x; low = omega arith; high = high; front = c.0; back = c.1 }

  module _ {x y : Text} {i j : ℕ} (l : j ≤ length e) (s : Split x y i j) where
    front_flag : {b : Bool} → b ≡ eqb j (length e) → is_empty y && b ≡ eqb s.at (length e)
    front_flag {b} q = ap (λ z. is_empty z && b) s.back ∙ ap (λ c. is_empty (slice s.at j e) && c) q ∙ end_flag s.at j s.high l

    back_flag : {a : Bool} → a ≡ eqb i 0 → a && is_empty x ≡ eqb s.at 0
    back_flag {a} q =
        let h : s.at ≤ j = s.high in
        ap (λ z. a && is_empty z) s.front ∙ ap (λ c. c && is_empty (slice i s.at e)) q ∙ start_flag i s.at s.low (omega arith)

  -- a test passes on every part that is described
  abbrev Finds : Pattern → (ℕ → ℕ → Bool) → Type 0
  Finds p r = (i j : ℕ) → i ≤ j → j ≤ length e → (a : Bool) (x : Text) (b : Bool) → Describes p a x b → a ≡ eqb i 0 → x ≡ slice i j e → b ≡ eqb j (length e) → T (r i j)

  onward : {r : ℕ → ℕ → Bool} {i j k : ℕ} → T (r i k) → k < suc (length e) → (k ≡ j) ⊎ Chain r (suc (length e)) k j → Chain r (suc (length e)) i j
  onward {r} {i} t h (inl q) = link (subst (λ k. T (r i k)) q t)
  onward t h (inr c) = more t h c

  star_chain : (p : Pattern) (r : ℕ → ℕ → Bool) → Finds p r
      → (i j : ℕ) → i ≤ j → j ≤ length e → {a : Bool} {x : Text} {b : Bool} → Describes (star p) a x b → a ≡ eqb i 0 → x ≡ slice i j e → b ≡ eqb j (length e)
      → (i ≡ j) ⊎ Chain r (suc (length e)) i j
  star_chain p r f i j h l no_more u v w =
      let size : 0 ≡ j - i = ap length v ∙ length-slice i j e l in inl (omega arith)
  star_chain p r f i j h l (once_more {x = x} {y = y} d g) u v w =
      let s = split x y i j h l v in
      let k = s.at in
      let high : k ≤ j = s.high in
      inr (onward (f i k s.low (omega arith) _ x _ d u s.front (front_flag l s w)) (omega arith)
      (star_chain p r f k j s.high l g (back_flag l s u) s.back w))

  any_in : (i j : ℕ) (b : Bool) {A : Type 0} → (A → T b) → (i ≡ j) ⊎ A → T (eqb i j || b)
  any_in i j b f (inl q) = or_left (eqb i j) b (eq→eqb i j q)
  any_in i j b f (inr c) = or_right (eqb i j) b (f c)

  pub spans_complete : (p : Pattern) (i j : ℕ) → i ≤ j → j ≤ length e → {a : Bool} {x : Text} {b : Bool} → Describes p a x b → a ≡ eqb i 0 → x ≡ slice i j e → b ≡ eqb j (length e)
      → T (joined e (spans e p) i j)
  unfolding spans joined_by_both joined_by_either joined_or_equal
  spans_complete empty i j h l nothing u v w =
      let size : 0 ≡ j - i = ap length v ∙ length-slice i j e l in
      subst⁻¹ T (in_pairs eqb i j (omega arith) (omega arith)) (eq→eqb i j (omega arith))
  spans_complete start i j h l at_start u v w =
      let f : ℕ → ℕ → Bool = λ i j. eqb i 0 && eqb j 0 in
      let size : 0 ≡ j - i = ap length v ∙ length-slice i j e l in
      let z : i ≡ 0 = eqb→eq i 0 (subst T u tt) in
      subst⁻¹ T (in_pairs f i j (omega arith) (omega arith)) (and_both (eqb i 0) (eqb j 0) (eq→eqb i 0 z) (eq→eqb j 0 (omega arith)))
  spans_complete end i j h l at_end u v w =
      let f : ℕ → ℕ → Bool = λ i j. eqb i (length e) && eqb j (length e) in
      let size : 0 ≡ j - i = ap length v ∙ length-slice i j e l in
      let z : j ≡ length e = eqb→eq j (length e) (subst T w tt) in
      subst⁻¹ T (in_pairs f i j (omega arith) (omega arith)) (and_both (eqb i (length e)) (eqb j (length e)) (eq→eqb i (length e) (omega arith)) (eq→eqb j (length e) z))
  spans_complete (one c rs) i j h l (byte {x = x} t) u v w =
      let f : ℕ → ℕ → Bool = λ i j. eqb (suc i) j && in_set c rs (get_or e i 0) in
      let size : 1 ≡ j - i = ap length v ∙ length-slice i j e l in
      let z : x ≡ get_or e i 0 = ap (λ y. get_or y 0 0) (v ∙ slice-cons i j e 0 (omega arith) l) in
      subst⁻¹ T (in_pairs f i j (omega arith) (omega arith))
      (and_both (eqb (suc i) j) (in_set c rs (get_or e i 0)) (eq→eqb (suc i) j (omega arith)) (subst (λ y. T (in_set c rs y)) z t))
  spans_complete (sequence p q) i j h l (both {x = x} {y = y} d g) u v w =
      let r : ℕ → Bool = λ k. joined e (spans e p) i k && joined e (spans e q) k j in
      let f : ℕ → ℕ → Bool = λ i j. some_of (λ k. joined e (spans e p) i k && joined e (spans e q) k j) (below (suc (length e))) in
      let s = split x y i j h l v in
      let k = s.at in
      let high : k ≤ j = s.high in
      subst⁻¹ T (in_pairs f i j (omega arith) (omega arith))
      (some_in r (suc (length e)) 0 k (omega arith) (omega arith)
      (and_both (joined e (spans e p) i k) (joined e (spans e q) k j)
      (spans_complete p i k s.low (omega arith) d u s.front (front_flag l s w))
      (spans_complete q k j s.high l g (back_flag l s u) s.back w)))
  spans_complete (choice p q) i j h l (left d) u v w =
      let f : ℕ → ℕ → Bool = λ i j. joined e (spans e p) i j || joined e (spans e q) i j in
      subst⁻¹ T (in_pairs f i j (omega arith) (omega arith)) (or_left (joined e (spans e p) i j) (joined e (spans e q) i j) (spans_complete p i j h l d u v w))
  spans_complete (choice p q) i j h l (right d) u v w =
      let f : ℕ → ℕ → Bool = λ i j. joined e (spans e p) i j || joined e (spans e q) i j in
      subst⁻¹ T (in_pairs f i j (omega arith) (omega arith)) (or_right (joined e (spans e p) i j) (joined e (spans e q) i j) (spans_complete q i j h l d u v w))
  spans_complete (star p) i j h l d u v w =
      let ws = closure (suc (length e)) (spans e p) in
      let f : ℕ → ℕ → Bool = λ i j. eqb i j || joined e ws i j in
      subst⁻¹ T (in_pairs f i j (omega arith) (omega arith))
      (any_in i j (joined e ws i j) (closure_chains (suc (length e)) (spans e p) i j (omega arith) (omega arith)).1
      (star_chain p (joined e (spans e p)) (λ i j h l a x b d u v w. spans_complete p i j h l d u v w) i j h l d u v w))

  -- the table of a pattern holds exactly the parts that it describes
  pub spans_are : (p : Pattern) (i j : ℕ) → i < suc (length e) → j < suc (length e) → T (joined e (spans e p) i j) ↔ Spanned p i j
  spans_are p i j h l = (spans_sound p i j h l, λ s. spans_complete p i j s.order s.within s.described refl refl refl)

  last_flag : (j : ℕ) → j ≤ length e → is_empty (slice j (length e) e) ≡ eqb j (length e)
  last_flag j l = sym (and_of_true (is_empty (slice j (length e) e)) (eqb (length e) (length e)) (eqb_refl (length e))) ∙ end_flag j (length e) l (omega arith)

  -- a part, and what stands before and after it
  spanned_matches : (p : Pattern) (i j : ℕ) → Spanned p i j → Matches p e
  spanned_matches p i j s =
      let h : i ≤ j = s.order in
      let l : j ≤ length e = s.within in
      let inside : i ≤ length e = omega arith in
      record {
        before = take i e;
        part = slice i j e;
        after = slice j (length e) e;
        whole = ap (λ t. take i e ++ t) (slice_join i j (length e) h l (omega arith))
            ∙ slice_join 0 i (length e) (omega arith) inside (omega arith) ∙ take-length e;
        described = subst⁻¹ (λ a. Describes p a (slice i j e) (is_empty (slice j (length e) e))) (start_flag 0 i (omega arith) inside)
            (subst⁻¹ (λ b. Describes p (eqb i 0) (slice i j e) b) (last_flag j l) s.described);
      }

  pub found_sound : (p : Pattern) → T (found p e) → Matches p e
  unfolding found some_pair
  found_sound p t =
      let n = suc (length e) in
      let a = some_out (λ i. some_of (joined e (spans e p) i) (below n)) n 0 t in
      let b = some_out (joined e (spans e p) a.0) n 0 a.2 in
      let h : a.0 < 0 + n = a.1 in
      let l : b.0 < 0 + n = b.1 in
      spanned_matches p a.0 b.0 (spans_sound p a.0 b.0 (omega arith) (omega arith) b.2)

  pub found_complete : (p : Pattern) → Matches p e → T (found p e)
  unfolding found some_pair
  found_complete p m =
      let n = suc (length e) in
      let s : Split m.before (m.part ++ m.after) 0 (length e) = split m.before (m.part ++ m.after) 0 (length e) (omega arith) (omega arith) (m.whole ∙ sym (take-length e)) in
      let k = s.at in
      let high : k ≤ length e = s.high in
      let r : Split m.part m.after k (length e) = split m.part m.after k (length e) high (omega arith) s.back in
      let j = r.at in
      let low : k ≤ j = r.low in
      let top : j ≤ length e = r.high in
      some_in (λ i. some_of (joined e (spans e p) i) (below n)) n 0 k (omega arith) (omega arith)
      (some_in (joined e (spans e p) k) n 0 j (omega arith) (omega arith)
      (spans_complete p k j low top m.described (ap is_empty s.front ∙ start_flag 0 k (omega arith) high) r.front (ap is_empty r.back ∙ last_flag j top)))
