-- A table's words as a part of the store, which is the tables one after the other and then other words, z.
use Prim.Native.Nat.{ℕ, suc, ◌+◌, ◌<◌, ◌≤◌}
use mathlib.Core.Path.{◌≡◌, sym, ap, ap₂, ◌∙◌}
use mathlib.Core.List.{List, [], ◌++◌, append_assoc}
use native.Mathlib.Omega.{arith}
use lib.ListN.{length, get_or, set, take, drop, length-append}
use lib.Seq.{sets, sets-eq, take_at, drop_at}
use Rattle.definition.specs.Tables.{Tuple, holds}
use Rattle.definition.specs.Meaning.{Tables}
use Rattle.definition.specs.Claim.{table_image}
use Rattle.definition.proofs.RelationLaws.{image_split, image_set}
use Rattle.tuples.specs.Places.{word_at}
use Rattle.tuples.proofs.Tables.{holds_front}

module _ (ts : Tables) (k : ℕ) (z : List ℕ) (h : k < length ts) where
  abbrev before : List ℕ
  before = table_image (take k ts)

  abbrev after : List ℕ
  after = table_image (drop (suc k) ts) ++ z

  split : (new : List ℕ) → (before ++ (new ++ table_image (drop (suc k) ts))) ++ z ≡ before ++ (new ++ after)
  split new = append_assoc before (new ++ table_image (drop (suc k) ts)) z ∙ ap (λ (l : List ℕ). before ++ l) (append_assoc new (table_image (drop (suc k) ts)) z)

  whole : table_image ts ++ z ≡ before ++ (get_or ts k [] ++ after)
  whole = ap (λ (l : List ℕ). l ++ z) (image_split ts k h) ∙ split (get_or ts k [])

  -- the table at place k ends before the tables do
  pub image_end : (off len : ℕ) → length (table_image (take k ts)) ≡ off → length (get_or ts k []) ≡ len → off + len ≤ length (table_image ts)
  image_end off len p q =
      omega (arith, ap length (image_split ts k h), length-append before (get_or ts k [] ++ table_image (drop (suc k) ts)), length-append (get_or ts k []) (table_image (drop (suc k) ts)))

  -- the table at place k read
  pub image_part : (off len : ℕ) → length (table_image (take k ts)) ≡ off → length (get_or ts k []) ≡ len → take len (drop off (table_image ts ++ z)) ≡ get_or ts k []
  image_part off len p q = ap (λ (l : List ℕ). take len (drop off l)) whole ∙ ap (take len) (drop_at before (get_or ts k [] ++ after) off p) ∙ take_at (get_or ts k []) after len q

  -- its tuples, where all words from its first one on are lent
  pub image_holds : (off u : ℕ) → length (table_image (take k ts)) ≡ off → (t : Tuple) → word_at u 0 t < length (get_or ts k []) → holds u (drop off (table_image ts ++ z)) t ≡ holds u (get_or ts k []) t
  image_holds off u p t l =
      ap (λ (ws : List ℕ). holds u ws t) (ap (drop off) whole ∙ drop_at before (get_or ts k [] ++ after) off p) ∙ holds_front u (get_or ts k []) after t l

  -- and replaced
  pub image_sets : (off : ℕ) (new : List ℕ) → length (table_image (take k ts)) ≡ off → length new ≡ length (get_or ts k []) → sets (table_image ts ++ z) off new ≡ table_image (set ts k new) ++ z
  image_sets off new p q =
      ap (λ (l : List ℕ). sets l off new) whole
      ∙ sets-eq new (before ++ (get_or ts k [] ++ after)) off (omega (arith, length-append before (get_or ts k [] ++ after), length-append (get_or ts k []) after))
      ∙ ap₂ (λ (x y : List ℕ). (x ++ new) ++ y) (take_at before (get_or ts k [] ++ after) off p) rest
      ∙ append_assoc before new after
      ∙ sym (ap (λ (l : List ℕ). l ++ z) (image_set ts k new h) ∙ split new)
    where
      rest : drop (off + length new) (before ++ (get_or ts k [] ++ after)) ≡ after
      rest =
          ap (drop (off + length new)) (sym (append_assoc before (get_or ts k []) after))
          ∙ drop_at (before ++ get_or ts k []) after (off + length new) (length-append before (get_or ts k []) ∙ ap₂ ◌+◌ p (sym q))
