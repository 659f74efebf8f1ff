-- A token's word gives back what was put into it.
use mathlib.Core.Path.{◌≡◌, sym, ap, ◌∙◌}
use Prim.Native.Nat.{ℕ, ◌+◌, ◌*◌, ◌/◌, ◌%◌, ◌<◌}
use native.Mathlib.Nat.{add-mul-mod_self_left, add-mul-div_left, mod-eq_of_lt, div-eq_of_lt, div-div-eq-div-mul, zero-add}
use lib.Dec.{lit<}
use lib.ListN.{take, drop}
use lib.Seq.{drop-drop}
use Rattle.definition.specs.Text.{Text}
use Rattle.lexer.specs.Tokens.{terminal_of, quote_of, kind_of, size_of, at_of, start_of, token_of}

module _ (k s a : ℕ) (hk : k < 64) (hs : s < 64) where
  kind_is : kind_of (k + 64 * (s + 64 * a)) ≡ k
  kind_is = add-mul-mod_self_left k 64 (s + 64 * a) ∙ mod-eq_of_lt hk

  rest_is : (k + 64 * (s + 64 * a)) / 64 ≡ s + 64 * a
  rest_is = add-mul-div_left k (s + 64 * a) (lit< tt) ∙ ap (λ (n : ℕ). n + (s + 64 * a)) (div-eq_of_lt hk) ∙ zero-add (s + 64 * a)

  size_is : size_of (k + 64 * (s + 64 * a)) ≡ s
  size_is = ap (λ (n : ℕ). n % 64) rest_is ∙ add-mul-mod_self_left s 64 a ∙ mod-eq_of_lt hs

  at_is : at_of (k + 64 * (s + 64 * a)) ≡ a
  at_is =
      sym (div-div-eq-div-mul (k + 64 * (s + 64 * a)) 64 64)
      ∙ ap (λ (n : ℕ). n / 64) rest_is
      ∙ add-mul-div_left s a (lit< tt)
      ∙ ap (λ (n : ℕ). n + a) (div-eq_of_lt hs)
      ∙ zero-add a

  pub token_is : (query : Text) (i : ℕ)
      → token_of query i (k + 64 * (s + 64 * a)) ≡ record { terminal = terminal_of k i; text = take s (drop (quote_of k) (drop a query)); at = a }
  token_is query i = rw (kind_is, size_is, at_is, drop-drop)

  pub start_is : start_of (k + 64 * (s + 64 * a)) + size_of (k + 64 * (s + 64 * a)) ≡ a + quote_of k + s
  start_is = rw (kind_is, size_is, at_is)
