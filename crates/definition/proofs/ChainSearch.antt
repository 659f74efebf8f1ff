-- The first chain as a plain search finds it: of the lists of one, two, three, .. numbers, those of one length in ascending order, the first that
-- leads from the one element to the other. So there is a first chain wherever there is a chain, and the call can write no other.
use mathlib.Core.Path.{◌≡◌, refl, sym, ap, subst, ◌∙◌}
use mathlib.Core.Bool.{Bool, ◌&&◌}
use mathlib.Core.List.{List, [], ◌∷◌, ◌++◌}
use Prim.Native.Nat.{ℕ, zero, suc, ◌+◌, ◌-◌, ◌<◌, ◌≤◌}
use native.Mathlib.Nat.{le_of_suc-le-suc}
use native.Mathlib.Omega.{arith}
use native.Mathlib.Decide.{dec_lt}
use lib.Dec.{T, eqb, eqb→eq, eqb_refl}
use lib.ListN.{length, get_or, take, drop, length-append, length-drop}
use lib.Seq.{length-take-le}
use Rattle.definition.specs.Text.{Text, earlier, keep}
use Rattle.definition.specs.Limits.{Limits}
use Rattle.definition.specs.Answer.{ok}
use Rattle.definition.specs.Facts.{Facts}
use Rattle.definition.specs.Tables.{tuples}
use Rattle.definition.specs.Calls.{IsChain, FirstChain, Asked, is_pair, chain_asked, ChainFound}
use Rattle.std.specs.Prelude.{Result}
use Rattle.definition.specs.declared.Refusal.{Refusal}
use Rattle.definition.proofs.BoolLaws.{and_left, and_right, and_both}
use Rattle.definition.proofs.ListLaws.{Every, every_none, every_one}
use Rattle.definition.proofs.InLaws.{In, here, there, in_keep, keep_in, every_in, in_tuples}
use Rattle.definition.proofs.OrderLaws.{Sorted, sorted_one, Lex, after, sorted_keep, tuples_sorted, lex_earlier}
use Rattle.definition.proofs.LoadLaws.{tuples_fit}
use Rattle.definition.proofs.ChainLaws.{pair_below, chain_owed}
use Rattle.definition.proofs.ChainLength.{chain_short}
use Rattle.definition.proofs.FirstChains.{first_alone}

in_none : {x : List ℕ} {xs : List (List ℕ)} → In x xs → xs ≡ [] → ⊥
in_none {x} {xs} i e = let n = at_least i in let z = ap length e in omega arith
  where
    at_least : {xs : List (List ℕ)} → In x xs → 1 ≤ length xs
    at_least (here e) = omega arith
    at_least (there i) = omega arith

module _ (r : ℕ → ℕ → Bool) (b : ℕ) where
  -- numbers that lead from a to b: each has a pair from the one before, and the last is b
  unfoldable pub leads : ℕ → List ℕ → Bool
  leads a [] = eqb a b
  leads a (x ∷ l) = let s = leads x l in r a x && s

  leads_one : (a x : ℕ) (l : List ℕ) → T (r a x) → T (leads x l) → T (leads a (x ∷ l))
  unfolding leads
  leads_one a x l t s = and_both (r a x) (leads x l) t s

  pub leads_parts : (a x : ℕ) (l : List ℕ) → T (leads a (x ∷ l)) → T (r a x) × T (leads x l)
  unfolding leads
  leads_parts a x l t = (and_left (r a x) (leads x l) t, and_right (r a x) (leads x l) t)

  -- a and the numbers of l, each with a pair to the next
  abbrev Linked : ℕ → List ℕ → Type 0
  Linked a l = (i : ℕ) → suc i < length (a ∷ l) → T (r (get_or (a ∷ l) i 0) (get_or (a ∷ l) (suc i) 0))

  -- a chain's numbers after the first lead to its last, and numbers that lead to b are linked and end there
  pairs_lead : (a : ℕ) (l : List ℕ) → Linked a l → get_or (a ∷ l) (length l) 0 ≡ b → T (leads a l)
  unfolding leads
  pairs_lead a [] p e = subst (λ (x : ℕ). T (eqb a x)) e (eqb_refl a)
  pairs_lead a (x ∷ l) p e = leads_one a x l (p 0 (omega arith)) (pairs_lead x l (λ i h. p (suc i) (omega arith)) e)

  leads_pairs : (a : ℕ) (l : List ℕ) → T (leads a l) → Linked a l
  leads_pairs a [] t i h = absurd (omega arith)
  leads_pairs a (x ∷ l) t zero h = (leads_parts a x l t).0
  leads_pairs a (x ∷ l) t (suc i) h = leads_pairs x l (leads_parts a x l t).1 i (le_of_suc-le-suc h)

  leads_last : (a : ℕ) (l : List ℕ) → T (leads a l) → get_or (a ∷ l) (length l) 0 ≡ b
  unfolding leads
  leads_last a [] t = eqb→eq a b t
  leads_last a (x ∷ l) t = leads_last x l (leads_parts a x l t).1

  -- a chain is a and numbers that lead from it to b
  pub record Led (a : ℕ) (c : List ℕ) : Type 0 where
    pub rest : List ℕ
    pub whole : c ≡ a ∷ rest
    pub some : 1 ≤ length rest
    pub led : T (leads a rest)

  pub chain_led : (a : ℕ) (c : List ℕ) → IsChain r a b c → Led a c
  chain_led a [] h = absurd (let k = h.two in omega arith)
  chain_led a (x ∷ l) h =
      let two = h.two in
      let n : length (x ∷ l) - 1 ≡ length l = omega arith in
      let t : T (leads x l) = pairs_lead x l h.pairs (sym (ap (λ (i : ℕ). get_or (x ∷ l) i 0) n) ∙ h.last) in
      record { rest = l; whole = ap (λ (z : ℕ). z ∷ l) h.first; some = omega arith; led = subst (λ (z : ℕ). T (leads z l)) h.first t }

  -- from a later number on, and with another way to b from there
  leads_on : (a : ℕ) (l : List ℕ) (j : ℕ) → j ≤ length l → T (leads a l) → T (leads (get_or (a ∷ l) j 0) (drop j l))
  leads_on a l zero h t = t
  leads_on a [] (suc j) h t = absurd (omega arith)
  leads_on a (x ∷ l) (suc j) h t = leads_on x l j (le_of_suc-le-suc h) (leads_parts a x l t).1

  leads_by : (a : ℕ) (l k : List ℕ) (i : ℕ) → i ≤ length l → T (leads a l) → T (leads (get_or (a ∷ l) i 0) k) → T (leads a (take i l ++ k))
  leads_by a l k zero h t s = s
  leads_by a [] k (suc i) h t s = absurd (omega arith)
  leads_by a (x ∷ l) k (suc i) h t s = leads_one a x (take i l ++ k) (leads_parts a x l t).0 (leads_by x l k i (le_of_suc-le-suc h) (leads_parts a x l t).1 s)

  -- where no fewer numbers lead from a to b, none comes twice, since what is between the two could be left out
  module _ (a : ℕ) (n : ℕ) (fewer : (k : List ℕ) → 1 ≤ length k → T (leads a k) → n ≤ length k) where
    led_once : (l : List ℕ) → length l ≡ n → T (leads a l) → (i j : ℕ) → i < j → j < length (a ∷ l) → get_or (a ∷ l) i 0 ≡ get_or (a ∷ l) j 0 → (i ≡ 0) × (suc j ≡ length (a ∷ l))
    led_once l e t i j h m q = go (dec_lt 0 (length cut))
      where
        cut : List ℕ
        cut = take i l ++ drop j l

        long : length cut ≡ i + (length l - j)
        long = length-append (take i l) (drop j l) ∙ ap (λ (k : ℕ). k + length (drop j l)) (length-take-le i l (omega arith)) ∙ ap (λ (k : ℕ). i + k) (length-drop j l)

        cut_leads : T (leads a cut)
        cut_leads = leads_by a l (drop j l) i (omega arith) t (subst (λ (x : ℕ). T (leads x (drop j l))) (sym q) (leads_on a l j (omega arith) t))

        go : Dec (0 < length cut) → (i ≡ 0) × (suc j ≡ length (a ∷ l))
        go (yes s) = absurd (let f = fewer cut s cut_leads in let g = long in omega arith)
        go (no s) = let g = long in (omega arith, omega arith)

    led_chain : (l : List ℕ) → length l ≡ n → 1 ≤ n → T (leads a l) → IsChain r a b (a ∷ l)
    led_chain l e h t =
        record {
          two = omega arith;
          first = refl;
          last = let m : length (a ∷ l) - 1 ≡ length l = omega arith in ap (λ (i : ℕ). get_or (a ∷ l) i 0) m ∙ leads_last a l t;
          pairs = leads_pairs a l t;
          once = led_once l e t;
        }

  module _ (u a : ℕ) where
    -- the first of some lists, with a before it; else what is found with more numbers
    abbrev pub first_of : List (List ℕ) → List ℕ → List ℕ
    first_of [] d = d
    first_of (l ∷ ls) d = a ∷ l

    -- the lists of n numbers below u that lead from a to b, ascending
    abbrev pub leading : ℕ → List (List ℕ)
    leading n = keep (leads a) (tuples u n)

    -- n numbers after a, or more, with m lengths to try
    unfoldable pub search : ℕ → ℕ → List ℕ
    search zero n = []
    search (suc m) n = let d = search m (suc n) in first_of (leading n) d

    module _ (below : (x y : ℕ) → T (r x y) → y < u) where
      led_below : (x : ℕ) (l : List ℕ) → T (leads x l) → Every (λ y. y < u) l
      led_below x [] t = every_none
      led_below x (y ∷ l) t = every_one (below x y (leads_parts x y l t).0) (led_below y l (leads_parts x y l t).1)

      in_leading : (l : List ℕ) → T (leads a l) → In l (leading (length l))
      in_leading l t = in_keep (leads a) (in_tuples u (led_below a l t)) t

      -- the first of those of n numbers, where no fewer lead to b
      leading_first : (n : ℕ) → 1 ≤ n → ((k : List ℕ) → 1 ≤ length k → T (leads a k) → n ≤ length k) → (l : List ℕ) (ls : List (List ℕ)) → leading n ≡ l ∷ ls → FirstChain r a b (a ∷ l)
      leading_first n h fewer l ls e =
          record { is_chain = led_chain a n fewer l long h is.1; fewest = fewest; earliest = earliest }
        where
          is : In l (tuples u n) × T (leads a l)
          is = keep_in (leads a) (tuples u n) (subst (In l) (sym e) (here refl))

          long : length l ≡ n
          long = (every_in (tuples_fit u n) is.0).size

          before : (k : List ℕ) → In k (l ∷ ls) → (k ≡ l → ⊥) → Lex ◌<◌ l k
          before k i m = at i (subst (Sorted (Lex ◌<◌)) e (sorted_keep (leads a) (tuples_sorted u n)))
            where
              at : In k (l ∷ ls) → Sorted (Lex ◌<◌) (l ∷ ls) → Lex ◌<◌ l k
              at (here q) o = absurd (m q)
              at (there j) (sorted_one o os) = every_in o j

          fewest : (d : List ℕ) → IsChain r a b d → length (a ∷ l) ≤ length d
          fewest d c = let w = chain_led a d c in let q = ap length w.whole in let f = fewer w.rest w.some w.led in let g = long in omega arith

          earliest : (d : List ℕ) → IsChain r a b d → length d ≡ length (a ∷ l) → (d ≡ a ∷ l → ⊥) → T (earlier (a ∷ l) d)
          earliest d c q m =
              let w = chain_led a d c in
              let k : length w.rest ≡ n = (let g = ap length w.whole in let f = long in omega arith) in
              let t : Lex ◌<◌ l w.rest = before w.rest (subst (In w.rest) (ap leading k ∙ e) (in_leading w.rest w.led)) (λ g. m (w.whole ∙ ap (λ (v : List ℕ). a ∷ v) g)) in
              subst (λ (v : List ℕ). T (earlier (a ∷ l) v)) (sym w.whole) (lex_earlier (after refl t))

      -- where no fewer than n numbers lead to b, and fewer than n + m do, the search from n on finds the first chain
      search_first : (m n : ℕ) → 1 ≤ n → ((k : List ℕ) → 1 ≤ length k → T (leads a k) → n ≤ length k) → (l : List ℕ) → 1 ≤ length l → T (leads a l) → length l < n + m → FirstChain r a b (search m n)
      unfolding search
      search_first zero n h fewer l s t g = absurd (let f = fewer l s t in omega arith)
      search_first (suc m) n h fewer l s t g = go (leading n) refl (search_first m (suc n))
        where
          go : (ls : List (List ℕ)) → leading n ≡ ls
              → (1 ≤ suc n → ((k : List ℕ) → 1 ≤ length k → T (leads a k) → suc n ≤ length k) → (l : List ℕ) → 1 ≤ length l → T (leads a l) → length l < suc n + m → FirstChain r a b (search m (suc n)))
              → FirstChain r a b (first_of ls (search m (suc n)))
          go [] e ih = ih (omega arith) more l s t (omega arith)
            where
              more : (k : List ℕ) → 1 ≤ length k → T (leads a k) → suc n ≤ length k
              more k i c = at (dec_lt n (length k))
                where
                  at : Dec (n < length k) → suc n ≤ length k
                  at (yes d) = d
                  at (no d) =
                      let q : length k ≡ n = (let f = fewer k i c in omega arith) in
                      absurd (in_none (in_leading k c) (ap leading q ∙ e))
          go (k ∷ ks) e ih = leading_first n h fewer k ks e

-- Of the facts' pairs: a first chain has at most as many numbers after a as there are elements.
abbrev pub first_chain : Facts → Text → ℕ → ℕ → List ℕ
first_chain f r a b = search (is_pair f r) b (length f.universe) a (length f.universe) 1

-- where there is a chain, the search finds the first
pub searched_first : (f : Facts) (r : Text) (a b : ℕ) (c : List ℕ) → IsChain (is_pair f r) a b c → FirstChain (is_pair f r) a b (first_chain f r a b)
searched_first f r a b c h =
    let w = chain_led (is_pair f r) b a c h in
    let n = chain_short f r a b c h in
    let l = ap length w.whole in
    search_first (is_pair f r) b (length f.universe) a (λ x y t. (pair_below f r x y t).1) (length f.universe) 1 (omega arith) (λ k s t. s) w.rest w.some w.led (omega arith)

-- so the contract of the chain call can be met wherever it owes a chain
pub first_owed : (limits : Limits) (facts r s t : Text) (room : ℕ) (k : Asked) → chain_asked limits facts r s t room ≡ ok k → FirstChain (is_pair k.facts r) k.from k.to (first_chain k.facts r k.from k.to)
first_owed limits facts r s t room k e = let (c, h) = chain_owed limits facts r s t room k e in searched_first k.facts r k.from k.to c h

-- and by that chain alone
pub found_searched : {k : Asked} {r : Text} {buffer : List ℕ} {c : Result ℕ Refusal} {buffer' : List ℕ} (f : ChainFound k r buffer c buffer') → f.chain ≡ first_chain k.facts r k.from k.to
found_searched {k} {r} f =
    first_alone (is_pair k.facts r) k.from k.to (first_chain k.facts r k.from k.to) f.chain (searched_first k.facts r k.from k.to f.chain f.right.is_chain) f.right

-- opens the search, for a proof by computation
unfoldable pub computes : Unit {0}
unfolding leads search
computes = tt
