-- The definition's list of all tuples by their numbers.
use Prim.Native.Nat.{ℕ, zero, suc, ◌+◌, ◌*◌, ◌^◌, ◌<◌, suc-le-suc}
use mathlib.Core.Path.{◌≡◌, refl, sym, ap, ap₂, ◌∙◌}
use mathlib.Core.List.{List, ◌∷◌, ◌++◌, map, map-append, map-map}
use native.Mathlib.Nat.{add-zero, zero-add, add-suc, suc-add, mul_comm, add_comm, zero-mul, suc-mul, pow-zero, pow-suc, zero-lt-suc}
use Rattle.definition.specs.Text.{gather, below, from}
use Rattle.definition.specs.Tables.{tuples}
use Rattle.definition.proofs.ListLaws.{from_add}
use Rattle.definition.proofs.TableLaws.{Below}
use Rattle.tuples.specs.Places.{digits}
use Rattle.tuples.proofs.Digits.{digits_cons, digits_below}
use Rattle.tuples.proofs.Turns.{base_pos}

map_same : {A : Type 0} (f g : ℕ → A) (n a : ℕ) → ((i : ℕ) → i < n → f (a + i) ≡ g (a + i)) → map f (from n a) ≡ map g (from n a)
unfolding from
map_same f g zero a h = refl
map_same f g (suc n) a h =
    ap₂ ◌∷◌ (rw add-zero at (h 0 (zero-lt-suc n)))
    (map_same f g n (suc a) (λ i l. rw (add-suc, ← suc-add) at (h (suc i) (suc-le-suc l))))

gather_same : {A : Type 0} (f g : ℕ → List A) (n a : ℕ) → ((i : ℕ) → i < n → f (a + i) ≡ g (a + i)) → gather f (from n a) ≡ gather g (from n a)
unfolding from gather
gather_same f g zero a h = refl
gather_same f g (suc n) a h =
    ap₂ ◌++◌ (rw add-zero at (h 0 (zero-lt-suc n)))
    (gather_same f g n (suc a) (λ i l. rw (add-suc, ← suc-add) at (h (suc i) (suc-le-suc l))))

map_shift : {A : Type 0} (g : ℕ → A) (c m d : ℕ) → map g (from m (c + d)) ≡ map (λ j. g (c + j)) (from m d)
unfolding from
map_shift g c zero d = refl
map_shift g c (suc m) d = ap (λ l. g (c + d) ∷ l) (ap (λ (k : ℕ). map g (from m k)) (sym (add-suc c d)) ∙ map_shift g c m (suc d))

-- k runs of m numbers each
flat : {A : Type 0} (g : ℕ → A) (m k a : ℕ) → map g (from (k * m) (a * m)) ≡ gather (λ c. map (λ j. g (c * m + j)) (from m 0)) (from k a)
unfolding from gather
flat g m zero a = ap (λ (n : ℕ). map g (from n (a * m))) (zero-mul m)
flat g m (suc k) a =
    ap (λ (n : ℕ). map g (from n (a * m))) (suc-mul k m ∙ add_comm (k * m) m)
    ∙ ap (map g) (from_add m (k * m) (a * m))
    ∙ map-append g (from m (a * m)) (from (k * m) (a * m + m))
    ∙ ap₂ ◌++◌ (ap (λ (n : ℕ). map g (from m n)) (sym (add-zero (a * m))) ∙ map_shift g (a * m) m 0)
    (ap (λ (n : ℕ). map g (from (k * m) n)) (sym (suc-mul a m)) ∙ flat g m k (suc a))

-- all tuples, ascending, are those of the numbers below u ^ n
pub tuples_digits : (u n : ℕ) → tuples u n ≡ map (digits u n) (below (u ^ n))
unfolding tuples digits from
tuples_digits u zero = ap (λ (k : ℕ). map (digits u zero) (from k 0)) (sym (pow-zero u))
tuples_digits u (suc n) =
    gather_same (λ a. map (λ t. a ∷ t) (tuples u n)) (λ a. map (λ j. digits u (suc n) (a * u ^ n + j)) (from (u ^ n) 0)) u 0
    (λ i l. one (tuples_digits u n) (0 + i) (rw zero-add l))
    ∙ sym (flat (digits u (suc n)) (u ^ n) u 0)
    ∙ ap₂ (λ (k a : ℕ). map (digits u (suc n)) (from k a)) (mul_comm u (u ^ n) ∙ sym (pow-suc u n)) (zero-mul (u ^ n))
  where
    one : tuples u n ≡ map (digits u n) (from (u ^ n) 0) → (a : ℕ) → a < u → map (λ t. a ∷ t) (tuples u n) ≡ map (λ j. digits u (suc n) (a * u ^ n + j)) (from (u ^ n) 0)
    one e a h =
        ap (map (λ t. a ∷ t)) e ∙ map-map (λ t. a ∷ t) (digits u n) (from (u ^ n) 0)
        ∙ map_same (λ j. a ∷ digits u n j) (λ j. digits u (suc n) (a * u ^ n + j)) (u ^ n) 0
        (λ j l. sym (digits_cons u n a (0 + j) h (rw zero-add l)))

-- each of them is a tuple of the universe
pub digits_in : (u n i : ℕ) → i < u ^ n → Below u (digits u n i)
unfolding digits
digits_in u zero i h = tt
digits_in u (suc n) i h = digits_below u (suc n) i (base_pos u (suc n) i h (zero-lt-suc n))
