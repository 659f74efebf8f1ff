-- The closures of a whole statement, of one expression or more, stand in their tables once its words are filled in order.
use Prim.Native.Nat.{ℕ, ◌+◌, ◌*◌, ◌<◌, ◌≤◌}
use mathlib.Core.Path.{◌≡◌, refl, sym, ap, subst, ◌∙◌}
use mathlib.Core.List.{List}
use native.Mathlib.Nat.{le_refl}
use native.Mathlib.Omega.{arith}
use lib.ListN.{length, get_or, take}
use Rattle.definition.specs.Text.{Text}
use Rattle.definition.specs.Accept.{Accepted, elements}
use Rattle.definition.specs.Meaning.{Tables}
use Rattle.words.specs.Raw.{size}
use Rattle.closures.specs.Filling.{fill_words}
use Rattle.meaning.specs.Lowered.{closure_count, Placed, Naming, Sequence, none, leaves, expression}
use Rattle.meaning.specs.Ready.{Tabled, HeldAll}
use Rattle.meaning.proofs.Filled.{shorter, fill_split, fill_quiet, held_kept, filled, room_after, base_after, end_less}

module _ (w : Accepted) (β : Text → ℕ) (loops : List Text) (vs : List ℕ) (naming : Naming β loops) (low : List ℕ) (ts : Tables) (firsts : List ℕ)
    (base : ℕ) (places : (c : ℕ) → c < 16 → get_or firsts (16 + c) 0 ≡ base + c * elements w) (p : List ℕ) (tables : (s : List ℕ) → take base s ≡ p → Tabled w β loops vs ts s firsts) where
  abbrev u : ℕ
  u = elements w

  -- the store t after m words from n on are filled in s
  pub record FilledAll (s t : List ℕ) (c : ℕ) (es : List Placed) : Type 0 where
    pub long : length t ≡ length s
    pub front : take (base + c * u) t ≡ take (base + c * u) s
    pub held : HeldAll w β loops vs ts t firsts es

  pub filled_all : (n m c : ℕ) (es : List Placed) (s : List ℕ) → Sequence w β loops low n m c es → base + 16 * u ≤ length s → take base s ≡ p → FilledAll s (fill_words firsts vs u low m n s) c es
  unfolding HeldAll fill_words
  filled_all n m c es s none room q = record { long = refl; front = refl; held = tt }
  filled_all n m c es s (leaves {m = m'} k l r) room q =
      subst (λ (t : List ℕ). FilledAll s t c es)
      (sym (fill_split firsts vs u low k m' n s ∙ ap (fill_words firsts vs u low m' (n + k)) (fill_quiet firsts vs u low k n s l)))
      (filled_all (n + k) m' c es s r room q)
  filled_all n m c es s (expression {m = m'} {es = es'} e l r) room q =
      let t = fill_words firsts vs u low (size e) n s in
      let d = c + closure_count e in
      let f = filled w β loops vs naming low ts firsts base places p tables e n c s l room q in
      let g = filled_all (n + size e) m' d es' t r (room_after w β loops vs naming low ts firsts base places p tables e c s t f room) (base_after w β loops vs naming low ts firsts base places p tables e c s t f q) in
      let r' = fill_words firsts vs u low m' (n + size e) t in
      subst (λ (x : List ℕ). FilledAll s x c es) (sym (fill_split firsts vs u low (size e) m' n s))
      (record {
        long = g.long ∙ f.long;
        front = shorter (base + c * u) (base + d * u) t r' (end_less w β loops vs naming low ts firsts base places c d (base + d * u) (omega arith) (le_refl (base + d * u))) g.front ∙ f.front;
        held = (held_kept w β loops vs naming low ts firsts base places e n c t r' (base + d * u) l (le_refl (base + d * u)) g.front f.held, g.held);
      })
