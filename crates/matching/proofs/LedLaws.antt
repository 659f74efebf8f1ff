-- Where rows lead, phrase by phrase.
use mathlib.Core.Path.{◌≡◌, refl, ◌∙◌, subst, subst⁻¹, ap}
use mathlib.Core.Bool.{true, false}
use mathlib.Core.List.{List, ◌++◌}
use Prim.Native.Nat.{ℕ, suc, ◌+◌, ◌-◌, ◌*◌, ◌≤◌, ◌<◌, min}
use native.Mathlib.Omega.{arith}
use native.Mathlib.Numerals.{add-one}
use lib.Bits.{bit_or, bit_and}
use lib.ListN.{length, get_or, take, drop, length-take, length-append}
use Rattle.definition.specs.Text.{Text}
use Rattle.definition.specs.Pattern.{Sort, branches, branch, piece, atom, Reading, wrong, ends_branch, rule, phrase}
use Rattle.bits.specs.Bits.{with_bit}
use Rattle.patterns.specs.Ends.{end_at}
use Rattle.std.specs.Prelude.{Some, None}
use Rattle.patterns.proofs.PhraseLaws.{deeper, branches_wrong, branch_wrong}
use Rattle.matching.specs.Images.{Leads, itself, least, further}
use Rattle.matching.specs.Bytes.{spot}
use Rattle.matching.specs.Rows.{Each, Led, Moves, Turn, Turns}
use Rattle.matching.proofs.SetLaws.{leads_unread, lead_depth, lead_branch, lead_branches, lead_piece, lead_pieces, lead_caret, lead_dollar, lead_unread, lead_turns, lead_group, lead_simple, least_none, least_again, more_none, a_number}

-- a part from the front of an array
pub prefix_long : (k : ℕ) (l : List ℕ) → k ≤ length l → k ≡ length (take k l)
prefix_long k l h = let m : length (take k l) ≡ min k (length l) = length-take k l in omega (arith, m, h)

pub prefix_short : (k : ℕ) (l : List ℕ) (n : ℕ) → k ≤ n → length (take k l) ≤ n
prefix_short k l n h = let m : length (take k l) ≡ min k (length l) = length-take k l in omega (arith, m, h)

pub append_long : (k : ℕ) (xs ys : List ℕ) → length xs ≡ k → k ≤ length (xs ++ ys)
append_long k xs ys h = let m : length (xs ++ ys) ≡ length xs + length ys = length-append xs ys in omega (arith, m, h)

-- rows that were copied
pub copied : (rows old new : List ℕ) → length new ≡ length old → new ≡ rows → Each (λ i a r. r ≡ get_or rows i 0) old new
copied rows old new l e = record { long = l; each = λ i h. ap (λ (s : List ℕ). get_or s i 0) e }

module _ (s : Text) (n i : ℕ) {e : Text} {rows : List ℕ} where
  pub led_depth : (k : Sort) → n ≡ 0 → Led (phrase n k (drop i s)) e rows rows
  led_depth k z = record { long = refl; each = λ j h. lead_depth s n k i (get_or rows j 0) z }

  module _ (z : n ≡ 0 → ⊥) where
    -- as where the depth is one more than another
    under : (k : Sort) (new : List ℕ) → Led (phrase (suc (n - 1)) k (drop i s)) e rows new → Led (phrase n k (drop i s)) e rows new
    under k new l = deeper (λ m. Led (phrase m k (drop i s)) e rows new) n z l

    unmoved : (k : Sort) → None ≡ end_at s (suc (n - 1)) k i → Led (phrase n k (drop i s)) e rows rows
    unmoved k w = under k rows (record { long = refl; each = λ j h. leads_unread s (suc (n - 1)) k i w })

    pub no_branch : None ≡ end_at s (n - 1) branch i → Led (phrase n branches (drop i s)) e rows rows
    no_branch w = unmoved branches (branches_wrong s (n - 1) i w)

    pub no_piece : None ≡ end_at s (n - 1) piece i → Led (phrase n branch (drop i s)) e rows rows
    no_piece w = unmoved branch (branch_wrong s (n - 1) i w)

    pub no_atom : (get_or s i 0 ≡ 94 → ⊥) → (get_or s i 0 ≡ 36 → ⊥) → None ≡ end_at s (n - 1) atom i → Led (phrase n piece (drop i s)) e rows rows
    no_atom c d w = under piece rows (record { long = refl; each = λ j h. lead_unread s (n - 1) i (get_or rows j 0) c d w })

    module _ {new : List ℕ} where
      pub led_simple : (w : ℕ) → (get_or s i 0 ≡ 40 → ⊥) → Moves (rule atom (λ k xs. wrong) (drop i s)) e w → Each (λ j a r. r ≡ bit_and a w * 2) rows new → Led (phrase n atom (drop i s)) e rows new
      led_simple w d m u =
          under atom new (record {
            long = u.long;
            each = λ j h. lead_simple s (n - 1) i (get_or new j 0) d (subst⁻¹ (Leads (rule atom (λ k xs. wrong) (drop i s)) e itself (get_or rows j 0)) (u.each j h) (m.leads (get_or rows j 0)));
          })

      pub led_group : get_or s i 0 ≡ 40 → Led (phrase (n - 1) branches (drop (i + 1) s)) e rows new → Led (phrase n atom (drop i s)) e rows new
      led_group q u = under atom new (record { long = u.long; each = λ j h. lead_group s (n - 1) i (get_or new j 0) q (u.each j h) })

      pub led_branch : (j : ℕ) → Some j ≡ end_at s (n - 1) branch i → (get_or s j 0 ≡ 124 → ⊥) → Led (phrase (n - 1) branch (drop i s)) e rows new → Led (phrase n branches (drop i s)) e rows new
      led_branch j w q u = under branches new (record { long = u.long; each = λ k h. lead_branch s (n - 1) i j w q (u.each k h) })

      pub led_branches : (j : ℕ) (first other last none : List ℕ) → Some j ≡ end_at s (n - 1) branch i → get_or s j 0 ≡ 124
          → Led (phrase (n - 1) branch (drop i s)) e rows first → Each (λ k a r. r ≡ get_or rows k 0) none other → length none ≡ length rows → Led (phrase (n - 1) branches (drop (j + 1) s)) e other last
          → Each (λ k a r. r ≡ bit_or a (get_or last k 0)) first new → Led (phrase n branches (drop i s)) e rows new
      led_branches j first other last none w q u v m x y =
          under branches new (record {
            long = y.long ∙ u.long;
            each = λ k h.
                let a : length first ≡ length rows = u.long in
                let b : length other ≡ length none = v.long in
                let o : get_or other k 0 ≡ get_or rows k 0 = v.each k (omega (arith, h, m)) in
                subst⁻¹ (Leads (phrase (suc (n - 1)) branches (drop i s)) e itself (get_or rows k 0)) (y.each k (omega (arith, h, a)))
                (lead_branches s (n - 1) i j (get_or last k 0) w q (u.each k h) (subst (λ z. Leads (phrase (n - 1) branches (drop (j + 1) s)) e itself z (get_or last k 0)) o (x.each k (omega (arith, h, m, b)))));
          })

      pub led_piece : (j : ℕ) → Some j ≡ end_at s (n - 1) piece i → ends_branch (drop j s) ≡ true → Led (phrase (n - 1) piece (drop i s)) e rows new → Led (phrase n branch (drop i s)) e rows new
      led_piece j w q u = under branch new (record { long = u.long; each = λ k h. lead_piece s (n - 1) i j w q (u.each k h) })

      pub led_pieces : (j : ℕ) (first : List ℕ) → Some j ≡ end_at s (n - 1) piece i → ends_branch (drop j s) ≡ false → Led (phrase (n - 1) piece (drop i s)) e rows first → Led (phrase (n - 1) branch (drop j s)) e first new
          → Led (phrase n branch (drop i s)) e rows new
      led_pieces j first w q u v =
          under branch new (record {
            long = v.long ∙ u.long;
            each = λ k h. lead_pieces s (n - 1) i j (get_or new k 0) w q (u.each k h) (v.each k (let a : length first ≡ length rows = u.long in omega (arith, h, a)));
          })

      pub led_caret : length e < 64 → get_or s i 0 ≡ 94 → Each (λ j a r. r ≡ spot a 0) rows new → Led (phrase n piece (drop i s)) e rows new
      led_caret h q u = under piece new (record { long = u.long; each = λ j l. lead_caret s (n - 1) i (get_or new j 0) h q (u.each j l) })

      pub led_dollar : length e < 64 → (get_or s i 0 ≡ 94 → ⊥) → get_or s i 0 ≡ 36 → Each (λ j a r. r ≡ spot a (length e)) rows new → Led (phrase n piece (drop i s)) e rows new
      led_dollar h c q u = under piece new (record { long = u.long; each = λ j l. lead_dollar s (n - 1) i (get_or new j 0) h c q (u.each j l) })

      -- the sign at j: its two numbers
      module _ (c : get_or s i 0 ≡ 94 → ⊥) (d : get_or s i 0 ≡ 36 → ⊥) (j k h : ℕ) (w : Some j ≡ end_at s (n - 1) atom i) (x : k ≡ least (get_or s j 0) (get_or s (j + 1) 0)) (y : h ≡ further (get_or s j 0) (get_or s (j + 1) 0) (get_or s (j + 3) 0)) where
        pub led_turns : (table singles none : List ℕ) → length e < 64 → length none ≡ length e + 1 → Each (λ m a r. r ≡ with_bit 0 m) none singles → Led (phrase (n - 1) atom (drop i s)) e singles table
            → Each (λ m a r. (o : Reading) (e : Text) → Turn o e table → Turns o e k h a r) rows new → Led (phrase n piece (drop i s)) e rows new
        led_turns table singles none short g u v p =
            under piece new (record {
              long = p.long;
              each = λ m l. let q = p.each m l (phrase (n - 1) atom (drop i s)) e turn in lead_turns s (n - 1) i j k h q.first (get_or new m 0) c d w x y q.asked q.taken;
            })
          where
            turn : Turn (phrase (n - 1) atom (drop i s)) e table
            turn = record {
              short = short;
              long = v.long ∙ u.long ∙ g ∙ add-one (length e);
              row = λ m l.
                  let b : length singles ≡ length none = u.long in
                  subst (λ z. Leads (phrase (n - 1) atom (drop i s)) e itself z (get_or table m 0)) (u.each m (omega (arith, l, g))) (v.each m (omega (arith, l, g, b)));
            }

        pub led_once : k ≡ 1 → h ≡ 0 → Led (phrase (n - 1) atom (drop i s)) e rows new → Led (phrase n piece (drop i s)) e rows new
        led_once p q u =
            under piece new (record {
              long = u.long;
              each = λ m l. let t = one_turn (phrase (n - 1) atom (drop i s)) (get_or rows m 0) (get_or new m 0) k h p q (u.each m l) in lead_turns s (n - 1) i j k h t.first (get_or new m 0) c d w x y t.asked t.taken;
            })
          where
            one_turn : (o : Reading) (a r k h : ℕ) → k ≡ 1 → h ≡ 0 → Leads o e itself a r → Turns o e k h a r
            one_turn o a r k h p q l = record {
              first = r;
              asked = least_again o k r r (λ z. omega (arith, z, p)) l (least_none o (k - 1) (omega (arith, p)));
              taken = a_number o h r (λ z. omega (arith, z, q)) (more_none o h q);
            }
