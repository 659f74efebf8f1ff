-- Where the phrases of a pattern lead, by the phrases in them.
use mathlib.Core.Path.{◌≡◌, refl, sym, ap, ◌∙◌, subst⁻¹}
use mathlib.Core.Bool.{Bool, true, false, cond}
use mathlib.Core.List.{List, [], ◌∷◌}
use mathlib.Core.Option.{Option}
use Prim.Native.Nat.{ℕ, suc, ◌+◌, ◌-◌, ◌^◌, ◌≤◌, ◌<◌}
use native.Mathlib.Omega.{arith}
use native.Mathlib.Nat.{add-zero}
use native.Mathlib.Decide.{dec_lt}
use lib.Bits.{bit_or}
use lib.Dec.{eqb}
use lib.ListN.{length, take, drop, get_or, length-drop, drop_of_length-le}
use lib.Seq.{get_or-drop, drop-drop}
use Rattle.definition.specs.Text.{Text, ascii, some_of, starts, span}
use Rattle.definition.specs.Pattern.{Pattern, Sort, branches, branch, piece, atom, Reading, read, wrong, on_read, start, end, one, choice, sequence, star, up_to, times, Range, range, just, no_byte, a_byte, listed, set_of, set_read, onto, no_class, is_character, read_set, read_repeat, read_close, read_ordinary, ends_branch, rule, phrase}
use Rattle.definition.proofs.PatternSound.{Listed, nowhere, so, listed_lists}
use Rattle.patterns.specs.Ends.{end_at, to_close_at}
use Rattle.std.specs.Prelude.{Some, None}
use Rattle.patterns.proofs.ByteLaws.{eqb_true, eqb_false, starts_byte}
use Rattle.patterns.proofs.EndLaws.{cons_at, by_true, by_false, set_cons, set_body, stays, uncut_at}
use Rattle.patterns.proofs.PhraseLaws.{reached, unread, no_depth, piece_at, piece_other, same_atom, atom_group}
use Rattle.matching.specs.Images.{ends_of, Leads, itself, least, further, up_to_or_any}
use Rattle.matching.specs.Bytes.{moved, spot}
use Rattle.matching.proofs.ImageLaws.{ends_lt, ends_sequence, ends_choice, ends_start, ends_end, ends_one}
use Rattle.matching.proofs.TurnLaws.{pattern_of, never_read, any_star, any_up_to, no_turn, none_more, times_fixed, times_again, up_to_fixed, up_to_again, grows_fits, turned, repeat_ends}

module _ {e : Text} {f : Pattern → Pattern} {a r : ℕ} where
  pub leads_none : (o : Reading) → o ≡ wrong → Leads o e f a r
  leads_none o q = record { ends = λ p ys x b. never_read (sym q ∙ x) }

  pub leads_at : (o : Reading) (q : Pattern) (zs : Text) → o ≡ read q zs → (a < 2 ^ suc (length e) → r ≡ ends_of e (f q) a) → Leads o e f a r
  leads_at o q zs x k = record { ends = λ p ys y b. k b ∙ ap (λ m. ends_of e (f m) a) (ap pattern_of (sym x ∙ y)) }

  pub leads_as : (o u : Reading) → o ≡ u → Leads u e f a r → Leads o e f a r
  leads_as o u x l = record { ends = λ p ys y b. l.ends p ys (sym x ∙ y) b }

  pub leads_unread : (s : Text) (n : ℕ) (k : Sort) (i : ℕ) → None ≡ end_at s n k i → Leads (phrase n k (drop i s)) e f a r
  leads_unread s n k i w = leads_none (phrase n k (drop i s)) (unread s n k i w)

  pub leads_for : (o : Reading) (g : Pattern → Pattern) → ((p : Pattern) → g p ≡ f p) → Leads o e g a r → Leads o e f a r
  leads_for o g h l = record { ends = λ p ys y b. l.ends p ys y b ∙ ap (λ m. ends_of e m a) (h p) }

leads_on : {e : Text} {a r : ℕ} (o x : Reading) (g : Pattern → Pattern) → x ≡ on_read o (λ q zs. read (g q) zs)
    → ((q : Pattern) (zs : Text) → o ≡ read q zs → a < 2 ^ suc (length e) → r ≡ ends_of e (g q) a) → Leads x e itself a r
leads_on wrong x g y k = leads_none x y
leads_on (read q zs) x g y k = leads_at x (g q) zs y (k q zs refl)

-- branches and pieces
module _ (s : Text) (m i : ℕ) where
  branches_alone : (j : ℕ) → Some j ≡ end_at s m branch i → (get_or s j 0 ≡ 124 → ⊥) → phrase (suc m) branches (drop i s) ≡ phrase m branch (drop i s)
  unfolding phrase rule
  branches_alone j w n = let r = reached s m branch i j w in rw r.reading (rw (starts_byte 124 s j refl ∙ eqb_false (get_or s j 0) 124 n))

  branches_either : (j : ℕ) (p : Pattern) → phrase m branch (drop i s) ≡ read p (drop j s) → get_or s j 0 ≡ 124
      → phrase (suc m) branches (drop i s) ≡ on_read (phrase m branches (drop (j + 1) s)) (λ q zs. read (choice p q) zs)
  unfolding phrase rule
  branches_either j p x n =
      rw x (rw (starts_byte 124 s j refl ∙ eqb_true (get_or s j 0) 124 n) (ap (λ t. on_read (phrase m branches t) (λ q zs. read (choice p q) zs)) (drop-drop 1 j s)))

  branch_alone : (j : ℕ) → Some j ≡ end_at s m piece i → ends_branch (drop j s) ≡ true → phrase (suc m) branch (drop i s) ≡ phrase m piece (drop i s)
  unfolding phrase rule
  branch_alone j w n = let r = reached s m piece i j w in rw r.reading (rw n)

  branch_both : (j : ℕ) (p : Pattern) → phrase m piece (drop i s) ≡ read p (drop j s) → ends_branch (drop j s) ≡ false
      → phrase (suc m) branch (drop i s) ≡ on_read (phrase m branch (drop j s)) (λ q zs. read (sequence p q) zs)
  unfolding phrase rule
  branch_both j p x n = rw x (rw n)

  module _ {e : Text} {a x : ℕ} (j : ℕ) where
    pub lead_branch : Some j ≡ end_at s m branch i → (get_or s j 0 ≡ 124 → ⊥) → Leads (phrase m branch (drop i s)) e itself a x → Leads (phrase (suc m) branches (drop i s)) e itself a x
    lead_branch w n l = leads_as (phrase (suc m) branches (drop i s)) (phrase m branch (drop i s)) (branches_alone j w n) l

    pub lead_branches : (y : ℕ) → Some j ≡ end_at s m branch i → get_or s j 0 ≡ 124 → Leads (phrase m branch (drop i s)) e itself a x → Leads (phrase m branches (drop (j + 1) s)) e itself a y
        → Leads (phrase (suc m) branches (drop i s)) e itself a (bit_or x y)
    lead_branches y w n l k =
        let r = reached s m branch i j w in
        let p = r.pattern in
        leads_on (phrase m branches (drop (j + 1) s)) (phrase (suc m) branches (drop i s)) (choice p) (branches_either j p r.reading n)
        (λ q zs o b. ap (λ z. bit_or z y) (l.ends p (drop j s) r.reading b) ∙ ap (bit_or (ends_of e p a)) (k.ends q zs o b) ∙ sym (ends_choice e p q a))

    pub lead_piece : Some j ≡ end_at s m piece i → ends_branch (drop j s) ≡ true → Leads (phrase m piece (drop i s)) e itself a x → Leads (phrase (suc m) branch (drop i s)) e itself a x
    lead_piece w n l = leads_as (phrase (suc m) branch (drop i s)) (phrase m piece (drop i s)) (branch_alone j w n) l

    pub lead_pieces : (y : ℕ) → Some j ≡ end_at s m piece i → ends_branch (drop j s) ≡ false → Leads (phrase m piece (drop i s)) e itself a x → Leads (phrase m branch (drop j s)) e itself x y
        → Leads (phrase (suc m) branch (drop i s)) e itself a y
    lead_pieces y w n l k =
        let r = reached s m piece i j w in
        let p = r.pattern in
        leads_on (phrase m branch (drop j s)) (phrase (suc m) branch (drop i s)) (sequence p) (branch_both j p r.reading n)
        (λ q zs o b. let u : x ≡ ends_of e p a = l.ends p (drop j s) r.reading b in
        k.ends q zs o (subst⁻¹ (λ z. z < 2 ^ suc (length e)) u (ends_lt e p a)) ∙ ap (ends_of e q) u ∙ sym (ends_sequence e p q a))

  no_anchor : (get_or s i 0 ≡ 94 → ⊥) → (get_or s i 0 ≡ 36 → ⊥) → some_of (eqb (get_or s i 0)) (ascii "^$") ≡ false
  unfolding some_of
  no_anchor c d = rw (eqb_false (get_or s i 0) 94 c, eqb_false (get_or s i 0) 36 d)

  piece_turns : (get_or s i 0 ≡ 94 → ⊥) → (get_or s i 0 ≡ 36 → ⊥) → phrase (suc m) piece (drop i s) ≡ on_read (phrase m atom (drop i s)) read_repeat
  piece_turns c d = piece_other s m i (no_anchor c d)

  module _ {e : Text} {a : ℕ} where
    pub lead_caret : (x : ℕ) → length e < 64 → get_or s i 0 ≡ 94 → x ≡ spot a 0 → Leads (phrase (suc m) piece (drop i s)) e itself a x
    lead_caret x h n q =
        leads_at (phrase (suc m) piece (drop i s)) start (drop (i + 1) s) (piece_at s m i ∙ by_true _ _ (eqb (get_or s i 0) 94) (eqb_true (get_or s i 0) 94 n)) (λ b. q ∙ sym (ends_start e a h))

    pub lead_dollar : (x : ℕ) → length e < 64 → (get_or s i 0 ≡ 94 → ⊥) → get_or s i 0 ≡ 36 → x ≡ spot a (length e) → Leads (phrase (suc m) piece (drop i s)) e itself a x
    lead_dollar x h c n q =
        leads_at (phrase (suc m) piece (drop i s)) end (drop (i + 1) s)
        (piece_at s m i ∙ by_false _ _ (eqb (get_or s i 0) 94) (eqb_false (get_or s i 0) 94 c) ∙ by_true _ _ (eqb (get_or s i 0) 36) (eqb_true (get_or s i 0) 36 n)) (λ b. q ∙ sym (ends_end e a h))

    pub lead_unread : (x : ℕ) → (get_or s i 0 ≡ 94 → ⊥) → (get_or s i 0 ≡ 36 → ⊥) → None ≡ end_at s m atom i → Leads (phrase (suc m) piece (drop i s)) e itself a x
    lead_unread x c d w = leads_none (phrase (suc m) piece (drop i s)) (piece_turns c d ∙ ap (λ o. on_read o read_repeat) (unread s m atom i w))

    -- the turns that the sign at j stands for
    pub lead_turns : (j k h x y : ℕ) → (get_or s i 0 ≡ 94 → ⊥) → (get_or s i 0 ≡ 36 → ⊥) → Some j ≡ end_at s m atom i → k ≡ least (get_or s j 0) (get_or s (j + 1) 0) → h ≡ further (get_or s j 0) (get_or s (j + 1) 0) (get_or s (j + 3) 0)
        → Leads (phrase m atom (drop i s)) e (times k 0) a x → Leads (phrase m atom (drop i s)) e (up_to_or_any h) x y → Leads (phrase (suc m) piece (drop i s)) e itself a y
    lead_turns j k h x y c d w u v l g = record { ends = λ p ys q b. go p ys q b }
      where
        first : get_or (drop j s) 0 0 ≡ get_or s j 0
        first = get_or-drop j s 0 0 ∙ ap (λ z. get_or s z 0) (add-zero j)

        go : (p : Pattern) (ys : Text) → phrase (suc m) piece (drop i s) ≡ read p ys → a < 2 ^ suc (length e) → y ≡ ends_of e p a
        go p ys q b =
            let r = reached s m atom i j w in
            let o = r.pattern in
            let z : read_repeat o (drop j s) ≡ read p ys = sym (piece_turns c d ∙ ap (λ z. on_read z read_repeat) r.reading) ∙ q in
            let X : x ≡ ends_of e (times k 0 o) a = l.ends o (drop j s) r.reading b in
            let Y : y ≡ ends_of e (up_to_or_any h o) x = g.ends o (drop j s) r.reading (subst⁻¹ (λ z. z < 2 ^ suc (length e)) X (ends_lt e (times k 0 o) a)) in
            let K : k ≡ least (get_or (drop j s) 0 0) (get_or (drop j s) 1 0) = u ∙ sym (ap (λ z. least z (get_or (drop j s) 1 0)) first ∙ ap (least (get_or s j 0)) (get_or-drop j s 1 0)) in
            let H : h ≡ further (get_or (drop j s) 0 0) (get_or (drop j s) 1 0) (get_or (drop j s) 3 0) =
            v ∙ sym (ap (λ z. further z (get_or (drop j s) 1 0) (get_or (drop j s) 3 0)) first ∙ ap (λ z. further (get_or s j 0) z (get_or (drop j s) 3 0)) (get_or-drop j s 1 0)
            ∙ ap (further (get_or s j 0) (get_or s (j + 1) 0)) (get_or-drop j s 3 0)) in
            Y ∙ ap (ends_of e (up_to_or_any h o)) X ∙ shown k h o
            ∙ ap (λ z. turned e z h o a) K ∙ ap (λ z. turned e (least (get_or (drop j s) 0 0) (get_or (drop j s) 1 0)) z o a) H
            ∙ sym (repeat_ends e o p ys a b (drop j s) z)
          where
            shown : (k h : ℕ) (o : Pattern) → ends_of e (up_to_or_any h o) (ends_of e (times k 0 o) a) ≡ turned e k h o a
            shown k h o = unfold turned in refl

    pub lead_group : (x : ℕ) → get_or s i 0 ≡ 40 → Leads (phrase m branches (drop (i + 1) s)) e itself a x → Leads (phrase (suc m) atom (drop i s)) e itself a x
    lead_group x n l = go (phrase m branches (drop (i + 1) s)) (atom_group s m i n) l
      where
        shut : (q : Pattern) (zs : Text) (b : Bool) → phrase (suc m) atom (drop i s) ≡ cond b (read q (drop 1 zs)) wrong → (a < 2 ^ suc (length e) → x ≡ ends_of e q a) → Leads (phrase (suc m) atom (drop i s)) e itself a x
        shut q zs true y k = leads_at (phrase (suc m) atom (drop i s)) q (drop 1 zs) y k
        shut q zs false y k = leads_none (phrase (suc m) atom (drop i s)) y

        go : (o : Reading) → phrase (suc m) atom (drop i s) ≡ on_read o read_close → Leads o e itself a x → Leads (phrase (suc m) atom (drop i s)) e itself a x
        go wrong y l = leads_none (phrase (suc m) atom (drop i s)) y
        go (read q zs) y l = shut q zs (starts (ascii ")") zs) y (λ b. l.ends q zs refl b)

    pub lead_simple : (x : ℕ) → (get_or s i 0 ≡ 40 → ⊥) → Leads (rule atom (λ k xs. wrong) (drop i s)) e itself a x → Leads (phrase (suc m) atom (drop i s)) e itself a x
    lead_simple x n l =
        leads_as (phrase (suc m) atom (drop i s)) (rule atom (λ k xs. wrong) (drop i s))
        (opened ∙ same_atom (drop i s) (phrase m) (λ k xs. wrong) (λ q. n (ap (λ k. get_or s k 0) (sym (add-zero i)) ∙ sym (get_or-drop i s 0 0) ∙ q))) l
      where
        opened : phrase (suc m) atom (drop i s) ≡ rule atom (phrase m) (drop i s)
        opened = unfold phrase in refl

pub lead_depth : {e : Text} {f : Pattern → Pattern} {a : ℕ} (s : Text) (n : ℕ) (k : Sort) (i x : ℕ) → n ≡ 0 → Leads (phrase n k (drop i s)) e f a x
lead_depth s n k i x z = leads_unread s n k i (no_depth s n k i z)

-- turns
module _ {e : Text} {a : ℕ} (o : Reading) where
  pub least_none : (k : ℕ) → k ≡ 0 → Leads o e (times k 0) a a
  least_none k z = record { ends = λ p ys q b. no_turn e p a b ∙ ap (λ n. ends_of e (times n 0 p) a) (sym z) }

  pub least_fixed : (k x : ℕ) → x ≡ a → Leads o e itself a x → Leads o e (times k 0) a a
  least_fixed k x z l = record { ends = λ p ys q b. times_fixed e p k a b (sym (l.ends p ys q b) ∙ z) }

  pub least_again : (k x y : ℕ) → (k ≡ 0 → ⊥) → Leads o e itself a x → Leads o e (times (k - 1) 0) x y → Leads o e (times k 0) a y
  least_again k x y n l g = record {
    ends = λ p ys q b.
        let u : x ≡ ends_of e p a = l.ends p ys q b in
        let z : suc (k - 1) ≡ k = omega (arith, n) in
        g.ends p ys q (subst⁻¹ (λ z. z < 2 ^ suc (length e)) u (ends_lt e p a)) ∙ ap (ends_of e (times (k - 1) 0 p)) u ∙ times_again e p (k - 1) a ∙ ap (λ n. ends_of e (times n 0 p) a) z;
  }

  pub more_none : (k : ℕ) → k ≡ 0 → Leads o e (up_to k) a a
  more_none k z = record { ends = λ p ys q b. none_more e p a b ∙ ap (λ n. ends_of e (up_to n p) a) (sym z) }

  pub more_fixed : (k x : ℕ) → bit_or a x ≡ a → Leads o e itself a x → Leads o e (up_to k) a a
  more_fixed k x z l = record { ends = λ p ys q b. up_to_fixed e p k a b (ap (bit_or a) (sym (l.ends p ys q b)) ∙ z) }

  pub more_again : (k x y : ℕ) → (k ≡ 0 → ⊥) → Leads o e itself a x → Leads o e (up_to (k - 1)) (bit_or a x) y → Leads o e (up_to k) a y
  more_again k x y n l g = record {
    ends = λ p ys q b.
        let u : x ≡ ends_of e p a = l.ends p ys q b in
        let z : suc (k - 1) ≡ k = omega (arith, n) in
        g.ends p ys q (grows_fits e p a x b u) ∙ ap (λ w. ends_of e (up_to (k - 1) p) (bit_or a w)) u ∙ up_to_again e p (k - 1) a b ∙ ap (λ n. ends_of e (up_to n p) a) z;
  }

  pub any_number : (h x : ℕ) → h ≡ 9 → Leads o e star a x → Leads o e (up_to_or_any h) a x
  any_number h x z l = leads_for o star (any_star h z) l

  pub a_number : (h x : ℕ) → (h ≡ 9 → ⊥) → Leads o e (up_to h) a x → Leads o e (up_to_or_any h) a x
  a_number h x z l = leads_for o (up_to h) (any_up_to h z) l

-- atoms that are no group
abbrev at_here : Text → ℕ → Reading
at_here s i = rule atom (λ k xs. wrong) (drop i s)

cons : (s : Text) (i : ℕ) → i < length s → at_here s i ≡ rule atom (λ k xs. wrong) (get_or s i 0 ∷ drop (i + 1) s)
cons s i h = ap (rule atom (λ k xs. wrong)) (cons_at s i h)

sign : (s : Text) (i : ℕ) → i < length s → (k : ℕ) → get_or s i 0 ≡ k → at_here s i ≡ rule atom (λ k xs. wrong) (k ∷ drop (i + 1) s)
sign s i h k q = cons s i h ∙ ap (λ c. rule atom (λ k xs. wrong) (c ∷ drop (i + 1) s)) q

module _ {e : Text} {a : ℕ} (s : Text) (i x : ℕ) where
  pub simple_past : length s ≤ i → Leads (at_here s i) e itself a x
  unfolding rule
  simple_past l = leads_none (at_here s i) (ap (rule atom (λ k xs. wrong)) (drop_of_length-le s l))

  module _ (h : i < length s) where
    pub simple_any : (t : Text) → t ≡ [] → get_or s i 0 ≡ 46 → x ≡ moved e a t true → Leads (at_here s i) e itself a x
    unfolding rule is_character some_of
    simple_any t z n q = leads_at (at_here s i) (one true []) (drop (i + 1) s) (sign s i h 46 n) (λ b. q ∙ ap (λ t. moved e a t true) z ∙ sym (ends_one e true [] [] a no_byte))

    pub simple_byte : (t : Text) → t ≡ get_or s i 0 ∷ [] → (get_or s i 0 ≡ 46 → ⊥) → (get_or s i 0 ≡ 91 → ⊥) → (get_or s i 0 ≡ 92 → ⊥) → x ≡ moved e a t false → Leads (at_here s i) e itself a x
    unfolding rule
    simple_byte t z n d f q = go (is_character (get_or s i 0)) refl
      where
        other : is_character (get_or s i 0) ≡ false → (b : Bool) → eqb (get_or s i 0) 40 ≡ b → rule atom (λ k xs. wrong) (get_or s i 0 ∷ drop (i + 1) s) ≡ wrong
        other c true y = rw (c, eqb_false (get_or s i 0) 92 f, eqb_false (get_or s i 0) 46 n, eqb_false (get_or s i 0) 91 d, y)
        other c false y = rw (c, eqb_false (get_or s i 0) 92 f, eqb_false (get_or s i 0) 46 n, eqb_false (get_or s i 0) 91 d, y)

        go : (c : Bool) → is_character (get_or s i 0) ≡ c → Leads (at_here s i) e itself a x
        go true c = leads_at (at_here s i) (just (get_or s i 0)) (drop (i + 1) s) (cons s i h ∙ rw c)
            (λ b. q ∙ ap (λ t. moved e a t false) z ∙ sym (ends_one e false (get_or s i 0 ∷ []) (range (get_or s i 0) (get_or s i 0) ∷ []) a (a_byte tt no_byte)))
        go false c = leads_none (at_here s i) (cons s i h ∙ other c (eqb (get_or s i 0) 40) refl)

    pub simple_last : get_or s i 0 ≡ 92 → length s ≤ i + 1 → Leads (at_here s i) e itself a x
    unfolding rule is_character some_of
    simple_last n l = leads_none (at_here s i) (sign s i h 92 n ∙ ap read_ordinary (drop_of_length-le s l))

    pub simple_escaped : (t : Text) → i + 1 < length s → t ≡ get_or s (i + 1) 0 ∷ [] → get_or s i 0 ≡ 92 → x ≡ moved e a t false → Leads (at_here s i) e itself a x
    unfolding rule is_character some_of
    simple_escaped t l z n q =
        let y = get_or s (i + 1) 0 in
        leads_at (at_here s i) (just y) (drop (i + 1 + 1) s) (sign s i h 92 n ∙ ap read_ordinary (cons_at s (i + 1) l))
        (λ b. q ∙ ap (λ t. moved e a t false) z ∙ sym (ends_one e false (y ∷ []) (range y y ∷ []) a (a_byte tt no_byte)))

    pub simple_complement : get_or s i 0 ≡ 91 → get_or s (i + 1) 0 ≡ 94 → Leads (read_set true (drop (i + 2) s)) e itself a x → Leads (at_here s i) e itself a x
    unfolding rule is_character some_of
    simple_complement n d l =
        let two : i + 1 + 1 ≡ i + 2 = omega arith in
        leads_as (at_here s i) (read_set true (drop (i + 2) s))
        (sign s i h 91 n ∙ by_true _ _ (starts (ascii "^") (drop (i + 1) s)) (starts_byte 94 s (i + 1) refl ∙ eqb_true (get_or s (i + 1) 0) 94 d)
        ∙ ap (read_set true) (drop-drop 1 (i + 1) s ∙ ap (λ k. drop k s) two)) l

    pub simple_set : get_or s i 0 ≡ 91 → (get_or s (i + 1) 0 ≡ 94 → ⊥) → Leads (read_set false (drop (i + 1) s)) e itself a x → Leads (at_here s i) e itself a x
    unfolding rule is_character some_of
    simple_set n d l =
        leads_as (at_here s i) (read_set false (drop (i + 1) s))
        (sign s i h 91 n ∙ by_false _ _ (starts (ascii "^") (drop (i + 1) s)) (starts_byte 94 s (i + 1) refl ∙ eqb_false (get_or s (i + 1) 0) 94 d)) l

-- sets
module _ {e : Text} {a : ℕ} (s : Text) (i : ℕ) (c : Bool) (x : ℕ) where
  pub members_past : length s ≤ i → Leads (read_set c (drop i s)) e itself a x
  unfolding read_set
  members_past l = leads_none (read_set c (drop i s)) (ap (read_set c) (drop_of_length-le s l))

  pub members_in : (j : ℕ) (t : Text) → i < length s → j ≡ to_close_at s (i + 1) → j ≤ length s → t ≡ take (j - i) (drop i s) → x ≡ moved e a t c → Leads (read_set c (drop i s)) e itself a x
  members_in j t h q l z y = go (dec_lt j (length s))
    where
      body : Text
      body = take (j - i) (drop i s)

      inner : (o : Option (List Range)) → Listed body o → read_set c (drop i s) ≡ set_of c o (drop (j + 1) s) → Leads (read_set c (drop i s)) e itself a x
      inner o nowhere w = leads_none (read_set c (drop i s)) w
      inner o (so {rs} d) w = leads_at (read_set c (drop i s)) (one c rs) (drop (j + 1) s) w (λ b. y ∙ ap (λ t. moved e a t c) z ∙ sym (ends_one e c body rs a d))

      pick : (b : Bool) → read_set c (drop i s) ≡ cond b (set_of c (listed body) (drop (j + 1) s)) wrong → Leads (read_set c (drop i s)) e itself a x
      pick true w = inner (listed body) (listed_lists body) w
      pick false w = leads_none (read_set c (drop i s)) w

      go : Dec (j < length s) → Leads (read_set c (drop i s)) e itself a x
      go (yes g) = pick (no_class body) (set_body s i c h j q g)
      go (no g) = leads_none (read_set c (drop i s)) (set_cons s i c h ∙ ap (λ o. set_read c (onto (get_or s i 0) o)) (uncut_at (drop (i + 1) s) (unclosed j (let k : length s ≤ j = omega arith in k) q)))
        where
          unclosed : (j : ℕ) → length s ≤ j → j ≡ to_close_at s (i + 1) → length (drop (i + 1) s) ≤ span stays (drop (i + 1) s)
          unclosed j k q = unfold to_close_at in (let d = length-drop (i + 1) s in omega arith)

-- a part of one byte
pub one_byte : (s : Text) (i k : ℕ) → i < length s → k ≡ 1 → take k (drop i s) ≡ get_or s i 0 ∷ []
one_byte s i k h q = ap (λ n. take n (drop i s)) q ∙ ap (take 1) (cons_at s i h)
