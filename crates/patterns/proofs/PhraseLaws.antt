-- Where the phrases of a pattern end, by the phrases in them.
use mathlib.Core.Path.{◌≡◌, refl, sym, ap, ◌∙◌, subst, subst⁻¹}
use mathlib.Core.Bool.{Bool, true, false, ◌||◌, not, cond}
use mathlib.Core.List.{[], ◌∷◌, ◌++◌, append_assoc}
use Prim.Native.Nat.{ℕ, suc, ◌+◌, ◌-◌, ◌*◌, ◌/◌, ◌%◌, ◌≤◌, ◌<◌, min}
use Rattle.intern.specs.Entries.{text_at, start_of}
use native.Mathlib.Nat.{add-zero}
use native.Mathlib.Omega.{arith}
use native.Mathlib.Decide.{dec_lt}
use lib.Dec.{T, eqb, eqb→eq}
use lib.ListN.{length, take, drop, get_or, length-take, length-drop, length-append, take-append-drop, get_or-eq_default}
use Rattle.definition.proofs.BoolLaws.{or_eq_false}
use lib.Seq.{get_or-drop, drop_at, drop-drop}
use Rattle.definition.specs.Text.{Text, ascii, some_of, starts}
use Rattle.definition.specs.Pattern.{Pattern, Sort, branches, branch, piece, atom, Reading, read, wrong, on_read, choice, sequence, start, end, is_character, read_repeat, read_close, ends_branch, rule, phrase, to_end, read_pattern, is_some, well_formed}
use Rattle.definition.proofs.PatternSound.{Right, stops, begins, phrase_right}
use Rattle.patterns.specs.Ends.{ends, end_at, simple_at, well_formed_part}
use Rattle.std.specs.Prelude.{Option, Some, None}
use Rattle.patterns.proofs.ByteLaws.{eqb_true, eqb_false, starts_byte}
use Rattle.patterns.proofs.EndLaws.{back_at, cons_at, by_true, by_false, apart}

never : {A : Type 0} {i : ℕ} → Some i ≡ None → A
never e = let z : ◌≡◌ {A = ℕ} 0 1 = cc in absurd (omega arith)

-- what was read, and where the rest begins
pub record Reached (s : Text) (n : ℕ) (k : Sort) (i j : ℕ) : Type 0 where
  pub pattern : Pattern
  pub reading : phrase n k (drop i s) ≡ read pattern (drop j s)
  pub within : j ≤ length s

suffix : (s : Text) (i : ℕ) (x ys : Text) → x ++ ys ≡ drop i s → (drop (length s - length ys) s ≡ ys) × (length ys ≤ length s)
suffix s i x ys e =
    let whole : take i s ++ x ++ ys ≡ s = append_assoc (take i s) x ys ∙ ap (λ y. take i s ++ y) e ∙ take-append-drop i s in
    let size : length (take i s ++ x) + length ys ≡ length s = sym (length-append (take i s ++ x) ys) ∙ ap length whole in
    (ap (drop (length s - length ys)) (sym whole) ∙ drop_at (take i s ++ x) ys (length s - length ys) (omega arith), omega arith)

pub reached : (s : Text) (n : ℕ) (k : Sort) (i j : ℕ) → Some j ≡ end_at s n k i → Reached s n k i j
unfolding end_at
reached s n k i j e = go (phrase n k (drop i s)) refl (phrase_right n k (drop i s)) e
  where
    go : (o : Reading) → phrase n k (drop i s) ≡ o → Right k (drop i s) o → Some j ≡ ends (length s) o → Reached s n k i j
    go o q stops e = never e
    go o q (begins {p} {ys} b) e =
        let w = suffix s i b.text ys b.whole in
        let l : length ys ≤ length s = w.1 in
        let at : j ≡ length s - length ys = cc in
        record { pattern = p; reading = q ∙ ap (read p) (sym w.0 ∙ ap (λ m. drop m s) (sym at)); within = omega arith }

pub unread : (s : Text) (n : ℕ) (k : Sort) (i : ℕ) → None ≡ end_at s n k i → phrase n k (drop i s) ≡ wrong
unfolding end_at
unread s n k i e = go (phrase n k (drop i s)) e
  where
    go : (o : Reading) → None ≡ ends (length s) o → o ≡ wrong
    go wrong e = refl
    go (read p ys) e = never (sym e)

pub no_depth : (s : Text) (n : ℕ) (k : Sort) (i : ℕ) → n ≡ 0 → None ≡ end_at s n k i
unfolding end_at phrase
no_depth s n k i e = sym (ap (λ m. ends (length s) (phrase m k (drop i s))) e)

pub deeper : (P : ℕ → Type 0) (n : ℕ) → (n ≡ 0 → ⊥) → P (suc (n - 1)) → P n
deeper P n h x = subst P (let e : suc (n - 1) ≡ n = omega (arith, h) in e) x

pub at_most : (s : Text) (n : ℕ) (k : Sort) (i j : ℕ) → Some j ≡ end_at s n k i → j ≤ length s
at_most s n k i j e = (reached s n k i j e).within

-- a byte that is not 0 stands inside
pub inside : (s : Text) (i : ℕ) → (get_or s i 0 ≡ 0 → ⊥) → i < length s
inside s i h = go (dec_lt i (length s))
  where
    go : Dec (i < length s) → i < length s
    go (yes l) = l
    go (no l) = absurd (h (get_or-eq_default s 0 (let k : length s ≤ i = omega arith in k)))

ends_on : (m : ℕ) (o : Reading) (f : Pattern → Pattern) → ends m o ≡ ends m (on_read o (λ q zs. read (f q) zs))
ends_on m wrong f = refl
ends_on m (read p ys) f = refl

pub same_atom : (xs : Text) (r q : Sort → Text → Reading) → (get_or xs 0 0 ≡ 40 → ⊥) → rule atom r xs ≡ rule atom q xs
unfolding rule
same_atom [] r q n = refl
same_atom (x ∷ xs) r q n = rw (eqb_false x 40 n)

module _ (s : Text) (m i : ℕ) where
  pub branches_wrong : None ≡ end_at s m branch i → None ≡ end_at s (suc m) branches i
  unfolding end_at phrase rule
  branches_wrong e = rw (unread s m branch i e)

  pub branches_last : (j : ℕ) → Some j ≡ end_at s m branch i → (get_or s j 0 ≡ 124 → ⊥) → Some j ≡ end_at s (suc m) branches i
  unfolding end_at phrase rule
  branches_last j e b =
      let r = reached s m branch i j e in
      back_at s j r.within ∙ sym (rw r.reading (rw (starts_byte 124 s j refl ∙ eqb_false (get_or s j 0) 124 b)))

  pub branches_more : (j : ℕ) → Some j ≡ end_at s m branch i → get_or s j 0 ≡ 124 → end_at s m branches (j + 1) ≡ end_at s (suc m) branches i
  unfolding end_at phrase rule
  branches_more j e b =
      let r = reached s m branch i j e in
      ends_on (length s) (phrase m branches (drop (j + 1) s)) (choice r.pattern)
      ∙ sym (rw r.reading (rw (starts_byte 124 s j refl ∙ eqb_true (get_or s j 0) 124 b) (ap (λ x. ends (length s) (on_read (phrase m branches x) (λ q zs. read (choice r.pattern q) zs))) (drop-drop 1 j s))))

  pub branch_wrong : None ≡ end_at s m piece i → None ≡ end_at s (suc m) branch i
  unfolding end_at phrase rule
  branch_wrong e = rw (unread s m piece i e)

  pub branch_last : (j : ℕ) → Some j ≡ end_at s m piece i → ends_branch (drop j s) ≡ true → Some j ≡ end_at s (suc m) branch i
  unfolding end_at phrase rule
  branch_last j e b =
      let r = reached s m piece i j e in
      back_at s j r.within ∙ sym (rw r.reading (rw b))

  pub branch_more : (j : ℕ) → Some j ≡ end_at s m piece i → ends_branch (drop j s) ≡ false → end_at s m branch j ≡ end_at s (suc m) branch i
  unfolding end_at phrase rule
  branch_more j e b =
      let r = reached s m piece i j e in
      ends_on (length s) (phrase m branch (drop j s)) (sequence r.pattern) ∙ sym (rw r.reading (rw b))

  pub piece_at : phrase (suc m) piece (drop i s)
      ≡ cond (eqb (get_or s i 0) 94) (read start (drop (i + 1) s)) (cond (eqb (get_or s i 0) 36) (read end (drop (i + 1) s)) (on_read (phrase m atom (drop i s)) read_repeat))
  unfolding phrase rule
  piece_at = rw (starts_byte 94 s i refl, starts_byte 36 s i refl, drop-drop 1 i s)

  pub piece_anchor : some_of (eqb (get_or s i 0)) (ascii "^$") ≡ true → Some (i + 1) ≡ end_at s (suc m) piece i
  unfolding end_at
  piece_anchor e = go (eqb (get_or s i 0) 94) refl (eqb (get_or s i 0) 36) refl e
    where
      here : i + 1 ≤ length s → (p : Pattern) → Some (i + 1) ≡ ends (length s) (read p (drop (i + 1) s))
      here h p = back_at s (i + 1) h

      byte : (k : ℕ) → (k ≡ 0 → ⊥) → eqb (get_or s i 0) k ≡ true → i + 1 ≤ length s
      byte k z q = let e : get_or s i 0 ≡ k = eqb→eq (get_or s i 0) k (subst⁻¹ T q tt) in let l : i < length s = inside s i (λ w. z (sym e ∙ w)) in omega arith

      go : (a : Bool) → eqb (get_or s i 0) 94 ≡ a → (b : Bool) → eqb (get_or s i 0) 36 ≡ b → some_of (eqb (get_or s i 0)) (ascii "^$") ≡ true → Some (i + 1) ≡ ends (length s) (phrase (suc m) piece (drop i s))
      go true u b v e = here (byte 94 (λ z. omega (arith, z)) u) start ∙ sym (ap (ends (length s)) (piece_at ∙ by_true _ _ (eqb (get_or s i 0) 94) u))
      go false u true v e = here (byte 36 (λ z. omega (arith, z)) v) end ∙ sym (ap (ends (length s)) (piece_at ∙ by_false _ _ (eqb (get_or s i 0) 94) u ∙ by_true _ _ (eqb (get_or s i 0) 36) v))
      go false u false v e = unfold some_of in apart (sym (rw (u, v) at e))

  pub piece_other : some_of (eqb (get_or s i 0)) (ascii "^$") ≡ false → phrase (suc m) piece (drop i s) ≡ on_read (phrase m atom (drop i s)) read_repeat
  unfolding some_of
  piece_other e =
      let a = or_eq_false (eqb (get_or s i 0) 94) (eqb (get_or s i 0) 36 || false) e in
      let b = or_eq_false (eqb (get_or s i 0) 36) false a.1 in
      piece_at ∙ by_false _ _ (eqb (get_or s i 0) 94) a.0 ∙ by_false _ _ (eqb (get_or s i 0) 36) b.0

  pub piece_wrong : some_of (eqb (get_or s i 0)) (ascii "^$") ≡ false → None ≡ end_at s m atom i → None ≡ end_at s (suc m) piece i
  unfolding end_at
  piece_wrong e w = sym (ap (ends (length s)) (piece_other e ∙ ap (λ o. on_read o read_repeat) (unread s m atom i w)))

  pub piece_repeat : (j : ℕ) (o : Option ℕ) → some_of (eqb (get_or s i 0)) (ascii "^$") ≡ false → Some j ≡ end_at s m atom i → ((p : Pattern) → o ≡ ends (length s) (read_repeat p (drop j s))) → o ≡ end_at s (suc m) piece i
  unfolding end_at
  piece_repeat j o e w f =
      let r = reached s m atom i j w in
      f r.pattern ∙ sym (ap (ends (length s)) (piece_other e ∙ ap (λ o. on_read o read_repeat) r.reading))

  pub atom_simple : (get_or s i 0 ≡ 40 → ⊥) → simple_at s i ≡ end_at s (suc m) atom i
  unfolding simple_at end_at phrase
  atom_simple n = ap (ends (length s)) (same_atom (drop i s) (λ k xs. wrong) (phrase m) (λ e. n (ap (λ k. get_or s k 0) (sym (add-zero i)) ∙ sym (get_or-drop i s 0 0) ∙ e)))

  pub atom_group : get_or s i 0 ≡ 40 → phrase (suc m) atom (drop i s) ≡ on_read (phrase m branches (drop (i + 1) s)) read_close
  unfolding phrase rule is_character some_of
  atom_group e =
      let l : i < length s = inside s i (λ z. let q : 40 ≡ 0 = sym e ∙ z in absurd (omega (arith, q))) in
      ap (rule atom (phrase m)) (cons_at s i l ∙ ap (λ c. c ∷ drop (i + 1) s) e)

  pub atom_wrong : get_or s i 0 ≡ 40 → None ≡ end_at s m branches (i + 1) → None ≡ end_at s (suc m) atom i
  unfolding end_at
  atom_wrong e w = sym (ap (ends (length s)) (atom_group e ∙ ap (λ o. on_read o read_close) (unread s m branches (i + 1) w)))

  atom_close : (j : ℕ) → get_or s i 0 ≡ 40 → (w : Some j ≡ end_at s m branches (i + 1))
      → phrase (suc m) atom (drop i s) ≡ cond (eqb (get_or s j 0) 41) (read (reached s m branches (i + 1) j w).pattern (drop (j + 1) s)) wrong
  atom_close j e w =
      let r = reached s m branches (i + 1) j w in
      atom_group e ∙ ap (λ o. on_read o read_close) r.reading
      ∙ ap (λ b. cond b (read r.pattern (drop 1 (drop j s))) wrong) (starts_byte 41 s j refl)
      ∙ ap (λ x. cond (eqb (get_or s j 0) 41) (read r.pattern x) wrong) (drop-drop 1 j s)

  pub atom_open : (j : ℕ) → get_or s i 0 ≡ 40 → Some j ≡ end_at s m branches (i + 1) → (get_or s j 0 ≡ 41 → ⊥) → None ≡ end_at s (suc m) atom i
  unfolding end_at
  atom_open j e w n = sym (ap (ends (length s)) (atom_close j e w ∙ by_false _ _ (eqb (get_or s j 0) 41) (eqb_false (get_or s j 0) 41 n)))

  pub atom_closed : (j : ℕ) → get_or s i 0 ≡ 40 → Some j ≡ end_at s m branches (i + 1) → get_or s j 0 ≡ 41 → Some (j + 1) ≡ end_at s (suc m) atom i
  unfolding end_at
  atom_closed j e w n =
      let l : j < length s = inside s j (λ z. let q : 41 ≡ 0 = sym n ∙ z in absurd (omega (arith, q))) in
      back_at s (j + 1) (omega arith) ∙ sym (ap (ends (length s)) (atom_close j e w ∙ by_true _ _ (eqb (get_or s j 0) 41) (eqb_true (get_or s j 0) 41 n)))

-- the whole text
pub formed_wrong : (s : Text) (n : ℕ) → n ≡ 4 * (length s + 1) → None ≡ end_at s n branches 0 → false ≡ well_formed s
unfolding well_formed read_pattern
formed_wrong s n q w =
    let z : n ≡ 4 * suc (length s) = omega arith in
    sym (ap (λ o. is_some (to_end o)) (ap (λ k. phrase k branches s) (sym z) ∙ unread s n branches 0 w))

pub formed_at : (s : Text) (n j : ℕ) → n ≡ 4 * (length s + 1) → Some j ≡ end_at s n branches 0 → eqb j (length s) ≡ well_formed s
unfolding well_formed read_pattern
formed_at s n j q w =
    let z : n ≡ 4 * suc (length s) = omega arith in
    let r = reached s n branches 0 j w in
    sym (ap (λ o. is_some (to_end o)) (ap (λ k. phrase k branches s) (sym z) ∙ r.reading) ∙ go r.pattern (drop j s) (length-drop j s) r.within)
  where
    go : (p : Pattern) (ys : Text) → length ys ≡ length s - j → j ≤ length s → is_some (to_end (read p ys)) ≡ eqb j (length s)
    go p [] l h = sym (eqb_true j (length s) (omega arith))
    go p (y ∷ ys) l h = sym (eqb_false j (length s) (λ e. omega (arith, e, l)))

pub open_inside : (s : Text) (i : ℕ) → get_or s i 0 ≡ 40 → i < length s
open_inside s i e = inside s i (λ z. let q : 40 ≡ 0 = sym e ∙ z in absurd (omega (arith, q)))

-- the part that is answered
pub part_of : (t u : Text) → u ≡ t → well_formed u ≡ true → u ≡ well_formed_part t
unfolding well_formed_part
part_of t u e f = e ∙ sym (by_true t [] (well_formed t) (ap well_formed (sym e) ∙ f))

pub no_part_of : (t u : Text) → u ≡ t → well_formed u ≡ false → [] ≡ well_formed_part t
unfolding well_formed_part
no_part_of t u e f = sym (by_false t [] (well_formed t) (ap well_formed (sym e) ∙ f))

-- no byte is answered exactly where the pattern is empty or malformed
pub part_formed : (s u : Text) → u ≡ well_formed_part s → eqb (length u) 0 ≡ not (well_formed s)
unfolding well_formed_part
part_formed s u q = ap (λ t. eqb (length t) 0) q ∙ go s (well_formed s) refl
  where
    nothing : well_formed [] ≡ false
    nothing = unfold well_formed read_pattern phrase rule starts in refl

    go : (s : Text) (b : Bool) → well_formed s ≡ b → eqb (length (cond b s [])) 0 ≡ not b
    go s false x = refl
    go [] true x = apart (sym x ∙ nothing)
    go (y ∷ ys) true x = eqb_false (suc (length ys)) 0 (λ z. omega (arith, z))

pub formed_part : (s u : Text) → u ≡ well_formed_part s → (length u ≡ 0 → ⊥) → (u ≡ s) × (well_formed s ≡ true)
unfolding well_formed_part
formed_part s u q n = go (well_formed s) refl q
  where
    go : (b : Bool) → well_formed s ≡ b → u ≡ cond b s [] → (u ≡ s) × (well_formed s ≡ true)
    go true x y = (y, x)
    go false x y = absurd (n (ap length y))

-- a token's text has at most 63 bytes
pub text_short : (q : Text) (w : ℕ) (u : Text) → u ≡ text_at q w → length u < 64
unfolding text_at
text_short q w u e =
    let l : length u ≡ min (w / 64 % 64) (length (drop (start_of w) q)) = ap length e ∙ length-take (w / 64 % 64) (drop (start_of w) q) in
    omega arith

-- what is answered, where it is not empty: the token's text, which is a pattern
pub read_formed : (q : Text) (w : ℕ) (u : Text) → u ≡ well_formed_part (text_at q w) → (length u ≡ 0 → ⊥) → (length u < 64) × (well_formed u ≡ true)
read_formed q w u e n = let f = formed_part (text_at q w) u e n in (text_short q w u f.0, ap well_formed f.0 ∙ f.1)

pub same_pattern : (q : Text) (w : ℕ) (u : Text) → u ≡ well_formed_part (text_at q w) → (length u ≡ 0 → ⊥) → (P : Text → Type 0) → P u → P (text_at q w)
same_pattern q w u e n P x = subst P (formed_part (text_at q w) u e n).0 x
