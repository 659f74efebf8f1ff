-- One use of a name, one turn of the walk, from what their parts gave.
use Prim.Native.Nat.{ℕ, ◌+◌, ◌/◌, ◌%◌, ◌<◌, ◌≤◌}
use mathlib.Core.Path.{◌≡◌, refl, sym, ◌∙◌}
use mathlib.Core.Bool.{Bool, true, false, cond}
use mathlib.Core.List.{List}
use native.Mathlib.Numerals.{add-one}
use borrow.Author.Tests.{lt-ltb, le-ltb, ltb-false}
use lib.Dec.{eqb, ltb}
use lib.ListN.{length, get_or, set, drop, drop_of_length-le}
use lib.Seq.{drop-cons}
use Rattle.words.specs.Fields.{RELATION_NAME, ATTRIBUTE, TERM, WORD, BIND, RANGE}
use Rattle.kinds.specs.declared.Rule.{Rule}
use Rattle.kinds.specs.declared.Rule.TheVariants.{Keep, Fresh, Kind, Arity}
use Rattle.kinds.specs.Walk.{rule_of, relation_code, relation_word, State, state, Walked, went, stopped, apply, use_at, step, walk, after}

-- a new relation has at most 3 terms
Small : Rule → Type 0
Small (Keep v) = Unit {0}
Small (Fresh n) = n ≤ 3
Small Kind = Unit {0}
Small Arity = Unit {0}

small_either : (b : Bool) (x y : Rule) → Small x → Small y → Small (cond b x y)
small_either true x y h k = h
small_either false x y h k = k

small_fresh : (n : ℕ) (b : Bool) → ltb 3 n ≡ b → Small (cond b Arity (Fresh n))
unfolding Small
small_fresh n true e = tt
small_fresh n false e = ltb-false 3 n e

small_rule : (k role n : ℕ) → Small (rule_of k role n)
unfolding rule_of Small
small_rule k role n =
    small_either (eqb role RELATION_NAME) _ _ (small_either (eqb k 0) _ _ (small_fresh n (ltb 3 n) refl) (small_either (ltb k 4) Kind _ tt (small_either (eqb (k % 4) n) (Keep k) Arity tt tt)))
    (small_either (eqb role ATTRIBUTE) _ _ (small_either (ltb k 2) (Keep 1) Kind tt tt)
    (small_either (eqb role TERM) _ _ (small_either (eqb k 3) (Keep 3) _ tt (small_either (ltb k 2) (Keep 1) Kind tt tt))
    (small_either (eqb role WORD) _ _ (small_either (eqb k 3) (Keep 3) Kind tt tt)
    (small_either (eqb role BIND) _ _ (small_either (eqb k 0) (Keep 2) _ tt (small_either (eqb k 2) (Keep 2) Kind tt tt)) (small_either (eqb role RANGE) _ _ (small_either (eqb k 2) (Keep 3) Kind tt tt) (small_either (eqb k 3) (Keep 2) Kind tt tt))))))

pub fresh_small : (k role n m : ℕ) (a : Rule) → a ≡ rule_of k role n → a ≡ Fresh m → m ≤ 3
unfolding Small
fresh_small k role n m a e f = let s = small_rule k role n in let g : rule_of k role n ≡ Fresh m = sym e ∙ f in rw g at s

module _ (tokens ids known relations : List ℕ) (count role t n w j k : ℕ) (a : Rule) (ew : w ≡ get_or tokens t 0) (ej : j ≡ get_or ids t 0) (ek : k ≡ get_or known j 0) (ea : a ≡ rule_of k role n) where
  applied : apply (state known relations count) w j a ≡ use_at tokens ids (state known relations count) role t n
  unfolding use_at
  applied = rw (ea, ek, ej, ew) refl

  pub use_keep : (v : ℕ) (known' : List ℕ) → a ≡ Keep v → known' ≡ set known j v → use_at tokens ids (state known relations count) role t n ≡ went (state known' relations count)
  use_keep v known' e e' = sym applied ∙ rw (e, e') refl

  pub use_fresh : (m : ℕ) (known' relations' : List ℕ) → a ≡ Fresh m → count < 16 → known' ≡ set known j (relation_code count m) → relations' ≡ set relations count (relation_word w m)
      → use_at tokens ids (state known relations count) role t n ≡ went (state known' relations' (count + 1))
  use_fresh m known' relations' e h e' e'' = sym applied ∙ rw (e, e', e'', lt-ltb count 16) refl

  pub use_full : (m : ℕ) → a ≡ Fresh m → 16 ≤ count → use_at tokens ids (state known relations count) role t n ≡ stopped 6 (w / 4096)
  use_full m e h = sym applied ∙ rw (e, le-ltb count 16) refl

  pub use_kind : a ≡ Kind → use_at tokens ids (state known relations count) role t n ≡ stopped 11 (w / 4096)
  use_kind e = sym applied ∙ rw e refl

  pub use_arity : a ≡ Arity → use_at tokens ids (state known relations count) role t n ≡ stopped 5 (w / 4096)
  use_arity e = sym applied ∙ rw e refl

-- the walk over the words from i on
module _ (tokens ids words : List ℕ) (s : State) (i : ℕ) where
  walk_at : i < length words → walk tokens ids (drop i words) s ≡ after (step tokens ids s (get_or words i 0)) (walk tokens ids (drop (i + 1) words))
  unfolding walk
  walk_at h = rw (drop-cons words i 0, add-one)

  pub walk_end : length words ≤ i → walk tokens ids (drop i words) s ≡ went s
  unfolding walk
  walk_end h = rw (drop_of_length-le words)

-- a turn of the walk: o is the whole answer
module _ (tokens ids words known relations : List ℕ) (count i : ℕ) (o : Walked) (inv : o ≡ walk tokens ids (drop i words) (state known relations count)) (h : i < length words) where
  turned : o ≡ after (step tokens ids (state known relations count) (get_or words i 0)) (walk tokens ids (drop (i + 1) words))
  turned = inv ∙ walk_at tokens ids words (state known relations count) i h

  pub walk_stops : (r p : ℕ) → step tokens ids (state known relations count) (get_or words i 0) ≡ stopped r p → o ≡ stopped r p
  walk_stops r p e = turned ∙ rw e refl

  pub walk_goes : (known' relations' : List ℕ) (c : ℕ) → step tokens ids (state known relations count) (get_or words i 0) ≡ went (state known' relations' c)
      → o ≡ walk tokens ids (drop (i + 1) words) (state known' relations' c)
  walk_goes known' relations' c e = turned ∙ rw e refl
