-- Rows 1 and 2: the bytes that are read, and whether they are legal.
use Prim.Native.Nat.{ℕ, ◌+◌, ◌-◌, ◌<◌, ◌≤◌}
use mathlib.Core.Path.{◌≡◌, refl, sym, ◌∙◌}
use mathlib.Core.List.{[], ◌∷◌}
use mathlib.Core.Bool.{Bool, true, false, ◌&&◌}
use native.Mathlib.Numerals.{add-one}
use native.Mathlib.Nat.{zero-add, add-zero}
use native.Mathlib.Omega.{arith}
use lib.ListN.{length, take, drop, drop_of_length-le}
use lib.Seq.{drop-cons}
use borrow.Author.Tests.{le-ltb, lt-ltb}
use Rattle.definition.specs.Text.{Text, starts, span}
use Rattle.definition.specs.Limits.{FACT_BYTES}
use Rattle.definition.specs.Facts.{cut, bytes_read, legal_bytes}
use Rattle.definition.specs.Join.{read_second}
use Rattle.definition.specs.declared.Refusal.TheVariants.{FactsTooLong, FactByte}
use Rattle.definition.proofs.TextLaws.{no_end}
use Rattle.std.specs.declared.result.Result.TheVariants.{Ok, Err}
use Rattle.breaks.specs.Bytes.{BytesRead}
use Rattle.breaks.proofs.FirstLine.{line_size, cut_first}

-- the bytes read up to the line that starts at a
pub record ReadTo (xs : Text) (a : ℕ) : Type 0 where
  pub is : bytes_read (cut xs) ≡ a + bytes_read (cut (drop a xs))

pub to_start : (xs : Text) → ReadTo xs 0
to_start xs = record { is = sym (zero-add _) }

module _ (xs : Text) (a e : ℕ) (within : a ≤ length xs) (r : e ≡ a + span no_end (drop a xs)) (b : e ≤ length xs) (h : ReadTo xs a) where
  from : a ≤ e
  from = omega (arith, r)

  size : length (take (e - a) (drop a xs)) ≡ e - a
  size = line_size xs a e from b

  pub to_dot : starts (46 ∷ []) (take (e - a) (drop a xs)) ≡ true → a ≡ bytes_read (cut xs)
  unfolding bytes_read
  to_dot d = sym (h.is ∙ rw (cut_first xs a e within r b, d) (add-zero a))

  module _ (d : starts (46 ∷ []) (take (e - a) (drop a xs)) ≡ false) where
    pub to_last : e ≡ length xs → e + 1 ≡ bytes_read (cut xs)
    unfolding bytes_read
    to_last k = let m : length xs ≤ e = omega arith in sym (h.is ∙ rw (cut_first xs a e within r b, drop_of_length-le xs {i = e} m, d) (omega (arith, size, from)))

    pub to_next : e < length xs → ReadTo xs (e + 1)
    unfolding bytes_read
    to_next k = record { is = h.is ∙ rw (cut_first xs a e within r b, drop-cons xs e 0, d, add-one) (omega (arith, size, from)) }

module _ (facts : Text) where
  pub bytes_long : FACT_BYTES < length facts → BytesRead facts (Err FactsTooLong)
  unfolding read_second
  bytes_long h limits s = rw (lt-ltb FACT_BYTES (length facts) h)

  module _ (short : length facts ≤ FACT_BYTES) (n : ℕ) (e : n ≡ legal_bytes facts) where
    pub bytes_legal : n ≡ length facts → BytesRead facts (Ok tt)
    unfolding read_second
    bytes_legal h = (short, λ limits s. rw (le-ltb FACT_BYTES (length facts) short, le-ltb (legal_bytes facts) (length facts) (omega arith)))

    pub bytes_unread : bytes_read (cut facts) ≤ n → BytesRead facts (Ok tt)
    unfolding read_second
    bytes_unread h =
        (short, λ limits s. rw (le-ltb FACT_BYTES (length facts) short, le-ltb (legal_bytes facts) (bytes_read (cut facts)) (omega arith)) (simp no_and))
      where
        no_and : (b : Bool) → b && false ≡ false
        no_and true = refl
        no_and false = refl

    pub bytes_wrong : n < length facts → n < bytes_read (cut facts) → BytesRead facts (Err (FactByte n))
    unfolding read_second
    bytes_wrong h k limits s =
        rw (le-ltb FACT_BYTES (length facts) short, lt-ltb (legal_bytes facts) (length facts) (omega arith), lt-ltb (legal_bytes facts) (bytes_read (cut facts)) (omega arith), e)
