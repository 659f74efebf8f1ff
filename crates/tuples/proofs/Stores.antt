-- Runs of stores, `sets l i xs`: no index has to lie within the list.
use Prim.Native.Nat.{ℕ, zero, suc, ◌+◌, ◌<◌, ◌≤◌}
use mathlib.Core.Path.{◌≡◌, refl, sym, ap, ap₂, ◌∙◌}
use mathlib.Core.List.{List, [], ◌∷◌, ◌++◌, append_assoc, append-nil}
use native.Mathlib.Nat.{add-zero, zero-add, add-suc, suc-add, not-suc-le-zero, le_of_suc-le-suc}
use native.Mathlib.Omega.{arith}
use native.Mathlib.Numerals.{add-one}
use lib.ListN.{length, get_or, set, take, drop, replicate, length-set, length-replicate, length-drop, drop_of_length-le, take-append-drop}
use lib.Seq.{sets, take-suc, take-set-le, take-set-lt, drop-set-add, get_or-set_other, set_out, length-take-le, length-sets, sets-eq, set_comm, set-set, take_at, drop_at, drop-drop}
use borrow.Rule.Slice.PartMut.{put_mid}

zero_ne_suc : (n : ℕ) → 0 ≡ suc n → ⊥
zero_ne_suc n e = omega arith

suc_inj : {m n : ℕ} → suc m ≡ suc n → m ≡ n
suc_inj e = omega arith

module _ {A : Type 0} where
  pub sets_append : (xs ys l : List A) (i : ℕ) → sets (sets l i xs) (i + length xs) ys ≡ sets l i (xs ++ ys)
  sets_append [] ys l i = ap (λ (k : ℕ). sets l k ys) (add-zero i)
  sets_append (a ∷ xs) ys l i =
      ap (λ (k : ℕ). sets (sets (set l i a) (suc i) xs) k ys) (add-suc i (length xs) ∙ sym (suc-add i (length xs))) ∙ sets_append xs ys (set l i a) (suc i)

  -- past the end nothing is stored
  pub sets_out : (xs l : List A) (i : ℕ) → length l ≤ i → sets l i xs ≡ l
  sets_out [] l i h = refl
  sets_out (a ∷ xs) l i h = ap (λ (k : List A). sets k (suc i) xs) (set_out l i a h) ∙ sets_out xs l (suc i) (omega arith)

  -- one more of a list's elements
  pub sets_more : (l : List A) (i : ℕ) (s : List A) (w : ℕ) (d : A) → w < length s → set (sets l i (take w s)) (i + w) (get_or s w d) ≡ sets l i (take (w + 1) s)
  sets_more l i s w d h =
      ap (λ (k : ℕ). set (sets l i (take w s)) (i + k) (get_or s w d)) (sym (length-take-le w s (omega arith)))
      ∙ sets_append (take w s) (get_or s w d ∷ []) l i
      ∙ ap (sets l i) (sym (take-suc s w d h) ∙ ap (λ (k : ℕ). take k s) (sym (add-one w)))

  pub sets_more_front : (l s : List A) (w : ℕ) (d : A) → w < length s → set (sets l 0 (take w s)) w (get_or s w d) ≡ sets l 0 (take (w + 1) s)
  sets_more_front l s w d h = ap (λ (k : ℕ). set (sets l 0 (take w s)) k (get_or s w d)) (sym (zero-add w)) ∙ sets_more l 0 s w d h

  pub take_sets : (xs l : List A) (i j : ℕ) → j ≤ i → take j (sets l i xs) ≡ take j l
  take_sets [] l i j h = refl
  take_sets (a ∷ xs) l i j h = take_sets xs (set l i a) (suc i) j (omega arith) ∙ take-set-le j l i a h

  pub get_or_sets_after : (xs l : List A) (i j : ℕ) (d : A) → i + length xs ≤ j → get_or (sets l i xs) j d ≡ get_or l j d
  get_or_sets_after [] l i j d h = refl
  get_or_sets_after (a ∷ xs) l i j d h = get_or_sets_after xs (set l i a) (suc i) j d (omega arith) ∙ get_or-set_other l i j a d (λ e. omega arith)

  -- a store beside a run, and a run beside a run
  pub set_sets : (xs l : List A) (i j : ℕ) (b : A) → j < i → set (sets l i xs) j b ≡ sets (set l j b) i xs
  set_sets [] l i j b h = refl
  set_sets (a ∷ xs) l i j b h = set_sets xs (set l i a) (suc i) j b (omega arith) ∙ ap (λ (k : List A). sets k (suc i) xs) (set_comm l i j a b (λ e. omega arith))

  pub sets_comm : (xs ys l : List A) (i j : ℕ) → i + length xs ≤ j → sets (sets l j ys) i xs ≡ sets (sets l i xs) j ys
  sets_comm [] ys l i j h = refl
  sets_comm (a ∷ xs) ys l i j h =
      ap (λ (k : List A). sets k (suc i) xs) (set_sets ys l j i a (omega arith)) ∙ sets_comm xs ys (set l i a) (suc i) j (omega arith)

  -- a run over a run
  pub sets_over : (xs ys l : List A) (i : ℕ) → length xs ≡ length ys → sets (sets l i xs) i ys ≡ sets l i ys
  sets_over [] [] l i e = refl
  sets_over [] (b ∷ ys) l i e = absurd (zero_ne_suc (length ys) e)
  sets_over (a ∷ xs) [] l i e = absurd (zero_ne_suc (length xs) (sym e))
  sets_over (a ∷ xs) (b ∷ ys) l i e =
      ap (λ (k : List A). sets k (suc i) ys) (set_sets xs (set l i a) (suc i) i b (omega arith) ∙ ap (λ (k : List A). sets k (suc i) xs) (set-set l i a b))
      ∙ sets_over xs ys (set l i b) (suc i) (suc_inj e)

  -- a part read back
  pub part_sets : (xs l : List A) (i : ℕ) → i + length xs ≤ length l → take (length xs) (drop i (sets l i xs)) ≡ xs
  part_sets xs l i h =
      ap (λ (k : List A). take (length xs) (drop i k)) (sets-eq xs l i h ∙ append_assoc (take i l) xs (drop (i + length xs) l))
      ∙ ap (take (length xs)) (drop_at (take i l) (xs ++ drop (i + length xs) l) i (length-take-le i l (omega arith)))
      ∙ take_at xs (drop (i + length xs) l) (length xs) refl

  pub sets_whole : (xs l : List A) → length xs ≡ length l → sets l 0 xs ≡ xs
  sets_whole xs l e =
      sets-eq xs l 0 (omega arith) ∙ ap (λ (k : List A). xs ++ k) (drop_of_length-le l {i = 0 + length xs} (omega arith)) ∙ append-nil xs

  -- a part put back as it was
  pub sets_same : (l : List A) (i n : ℕ) → i + n ≤ length l → sets l i (take n (drop i l)) ≡ l
  sets_same l i n h =
      sets-eq (take n (drop i l)) l i (omega (arith, len))
      ∙ append_assoc (take i l) (take n (drop i l)) (drop (i + length (take n (drop i l))) l)
      ∙ ap (λ (k : List A). take i l ++ k) (ap (λ (m : ℕ). take n (drop i l) ++ drop (i + m) l) len ∙ ap (λ (k : List A). take n (drop i l) ++ k) (sym (drop-drop n i l)) ∙ take-append-drop n (drop i l))
      ∙ take-append-drop i l
    where
      len : length (take n (drop i l)) ≡ n
      len = length-take-le n (drop i l) (omega (arith, length-drop i l))

  -- a part of a list in which a run was stored
  part_run : (xs l : List A) (i n w : ℕ) → w + length xs ≤ n → take n (drop i (sets l (i + w) xs)) ≡ sets (take n (drop i l)) w xs
  part_run [] l i n w h = refl
  part_run (a ∷ xs) l i n w h =
      ap (λ (k : ℕ). take n (drop i (sets (set l (i + w) a) k xs))) (sym (add-suc i w))
      ∙ part_run xs (set l (i + w) a) i n (suc w) (omega arith)
      ∙ ap (λ (k : List A). sets k (suc w) xs) (ap (take n) (drop-set-add i l w a) ∙ take-set-lt n (drop i l) w a (omega arith))

  -- a part of a list put back
  pub sets_part : (l : List A) (off n : ℕ) (ws : List A) → off + n ≤ length l → length ws ≡ n → put_mid off n l ws ≡ sets l off ws
  sets_part l off n ws h e =
      ap (λ (s : List A). take off l ++ (ws ++ s)) (drop-drop n off l ∙ ap (λ (k : ℕ). drop (off + k) l) (sym e))
      ∙ sym (append_assoc (take off l) ws (drop (off + length ws) l))
      ∙ sym (sets-eq ws l off (rw e h))

  -- one element of a run, and a run within a run
  sets_set : (xs l : List A) (i w : ℕ) (v : A) → w < length xs → sets l i (set xs w v) ≡ set (sets l i xs) (i + w) v
  sets_set [] l i w v h = absurd (not-suc-le-zero h)
  sets_set (a ∷ xs) l i zero v h =
      sym (ap (λ (k : ℕ). set (sets (set l i a) (suc i) xs) k v) (add-zero i) ∙ set_sets xs (set l i a) (suc i) i v (omega arith) ∙ ap (λ (k : List A). sets k (suc i) xs) (set-set l i a v))
  sets_set (a ∷ xs) l i (suc w) v h =
      sets_set xs (set l i a) (suc i) w v (le_of_suc-le-suc h) ∙ ap (λ (k : ℕ). set (sets (set l i a) (suc i) xs) k v) (suc-add i w ∙ sym (add-suc i w))

  sets_sets : (ys xs l : List A) (i w : ℕ) → w + length ys ≤ length xs → sets l i (sets xs w ys) ≡ sets (sets l i xs) (i + w) ys
  sets_sets [] xs l i w h = refl
  sets_sets (b ∷ ys) xs l i w h =
      sets_sets ys (set xs w b) l i (suc w) (omega (arith, length-set xs w b))
      ∙ ap₂ (λ (k : List A) (j : ℕ). sets k j ys) (sets_set xs l i w b (omega arith)) (add-suc i w)

  -- two runs in a part that is lent: the first from the part's start on
  part_runs : (xs ys l : List A) (i n w : ℕ) → i + n ≤ length l → length xs ≤ n → w + length ys ≤ n
      → put_mid i n l (sets (sets (take n (drop i l)) 0 xs) w ys) ≡ sets (sets l i xs) (i + w) ys
  part_runs xs ys l i n w h f g =
      sets_part l i n (sets (sets part 0 xs) w ys) h (length-sets (sets part 0 xs) w ys ∙ length-sets part 0 xs ∙ len)
      ∙ sets_sets ys (sets part 0 xs) l i w (omega (arith, len, length-sets part 0 xs))
      ∙ ap (λ (k : List A). sets k (i + w) ys)
      (sets_sets xs part l i 0 (omega (arith, len)) ∙ ap₂ (λ (k : List A) (j : ℕ). sets k j xs) (sets_same l i n h) (add-zero i))
    where
      part : List A
      part = take n (drop i l)

      len : length part ≡ n
      len = length-take-le n (drop i l) (omega (arith, length-drop i l))

-- the len words from d on at the front, and zeros in their place
abbrev pub moved_back : ℕ → ℕ → List ℕ → List ℕ
moved_back len d l = sets (sets l 0 (take len (drop d l))) d (replicate len 0)

-- a table that was made d words beyond its place, and moved there in the part of n words from its place on
pub moved : (l T : List ℕ) (off d len n : ℕ) → length T ≡ len → len ≤ d → d + len ≤ n → off + n ≤ length l
    → put_mid off n (sets l (off + d) T) (moved_back len d (take n (drop off (sets l (off + d) T)))) ≡ sets (sets l off T) (off + d) (replicate len 0)
moved l T off d len n e h k m =
    ap (λ (x : List ℕ). put_mid off n made (sets (sets (take n (drop off made)) 0 x) d zeros)) front
    ∙ part_runs T zeros made off n d (omega (arith, length-sets l (off + d) T)) (omega arith) (omega (arith, length-replicate {A = ℕ} len 0))
    ∙ ap (λ (x : List ℕ). sets x (off + d) zeros) (sets_comm T T l off (off + d) (omega arith))
    ∙ sets_over T zeros (sets l off T) (off + d) (e ∙ sym (length-replicate len 0))
  where
    made : List ℕ
    made = sets l (off + d) T

    zeros : List ℕ
    zeros = replicate len 0

    front : take len (drop d (take n (drop off made))) ≡ T
    front =
        ap₂ (λ (i : ℕ) (x : List ℕ). take i (drop d x)) (sym e) (part_run T l off n d (omega arith))
        ∙ part_sets T (take n (drop off l)) d (omega (arith, length-take-le n (drop off l) (omega (arith, length-drop off l))))

-- where the words there were zero before, nothing else has changed
pub moved_zero : (l T : List ℕ) (off scr n : ℕ) → length T ≡ n → off + n ≤ scr → scr + n ≤ length l → take n (drop scr l) ≡ replicate n 0
    → sets (sets l off T) scr (replicate n 0) ≡ sets l off T
moved_zero l T off scr n e h k z =
    sym (sets_comm T (replicate n 0) l off scr (omega arith))
    ∙ ap (λ (x : List ℕ). sets x off T) (ap (sets l scr) (sym z) ∙ sets_same l scr n k)
