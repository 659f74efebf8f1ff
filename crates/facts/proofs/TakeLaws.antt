-- A line taken in: what its role says of the definition's pass, and that a part of a line is a part of the text.
use Prim.Native.Nat.{ℕ, zero, suc, ◌+◌, ◌-◌, ◌≤◌}
use mathlib.Core.Path.{◌≡◌, refl, sym, ap, ap₂, ◌∙◌}
use mathlib.Core.List.{List, [], ◌∷◌, map, append-nil, map-map}
use mathlib.Core.Bool.{Bool, true, false, cond}
use native.Mathlib.Omega.{arith}
use lib.ListN.{length, take, drop, length-drop, length-map}
use lib.Seq.{length-take-le, take-take, drop-drop}
use Rattle.definition.specs.Text.{Text, ascii, starts, gather}
use Rattle.definition.specs.Answer.{Answer, ok, refused, refusal}
use Rattle.definition.specs.Facts.{Line, Element, Fact, skipped, fact}
use Rattle.definition.specs.Join.{join_lines}
use Rattle.definition.specs.declared.Refusal.{Refusal}
use Rattle.breaks.proofs.FirstLine.{line_size}
use Rattle.parts.specs.Packed.{pack}
use Rattle.parts.specs.Entries.{note, note_all, enter_all}
use Rattle.parts.proofs.EntryLaws.{take_drop}
use Rattle.parts.proofs.HeldLaws.{held_first}
use Rattle.facts.specs.declared.Item.{Item}
use Rattle.facts.specs.declared.FactLine.{FactLine}
use Rattle.facts.specs.declared.Counts.{Counts}
use Rattle.std.specs.declared.option.Option.TheVariants.{Some, None}
use Rattle.std.specs.declared.result.Result.TheVariants.{Ok, Err}
use Rattle.facts.specs.Lines.{start_of, items_of, element_of, elements_of, fact_of, Role, end, skip, says, role, Within, AllWithin}
use Rattle.facts.specs.Words.{element_at, elements_at, fact_at, item_word, line_word, element_word, fact_word}
use Rattle.facts.specs.Pass.{with_elements, FactTaken}
use Rattle.facts.specs.Reading.{line_facts, line_of, Taken, more_relations, more_elements}

-- what a role says
by_role : Bool → Bool → Answer Fact → Role
by_role s k x = cond s end (cond k skip (says x))

was_end : (s k : Bool) (x : Answer Fact) → by_role s k x ≡ end → s ≡ true
unfolding by_role
was_end true k x e = refl
was_end false true x e = let z : ◌≡◌ {A = ℕ} 0 1 = cc in absurd (omega arith)
was_end false false x e = let z : ◌≡◌ {A = ℕ} 0 1 = cc in absurd (omega arith)

was_skip : (s k : Bool) (x : Answer Fact) → by_role s k x ≡ skip → (s ≡ false) × (k ≡ true)
unfolding by_role
was_skip true k x e = let z : ◌≡◌ {A = ℕ} 0 1 = cc in absurd (omega arith)
was_skip false true x e = (refl, refl)
was_skip false false x e = let z : ◌≡◌ {A = ℕ} 0 1 = cc in absurd (omega arith)

was_said : (s k : Bool) (x y : Answer Fact) → by_role s k x ≡ says y → (s ≡ false) × (k ≡ false) × (x ≡ y)
unfolding by_role
was_said true k x y e = let z : ◌≡◌ {A = ℕ} 0 1 = cc in absurd (omega arith)
was_said false true x y e = let z : ◌≡◌ {A = ℕ} 0 1 = cc in absurd (omega arith)
was_said false false x y e = (refl, refl, cc)

module _ (facts query : Text) (l : Line) (rs us : List ℕ) (c : Counts) where
  pub taken_dot : end ≡ role l → Taken facts query l rs rs us us c (Ok None)
  unfolding role by_role
  taken_dot e = (was_end (starts (ascii ".") l.bytes) (skipped l.bytes) (fact l) (sym e), refl, refl)

  pub taken_skip : c.relations ≤ length rs → c.elements ≤ length us → skip ≡ role l → Taken facts query l rs rs us us c (Ok (Some c))
  unfolding role by_role line_facts join_lines note_all enter_all gather
  taken_skip a b e =
      let w = was_skip (starts (ascii ".") l.bytes) (skipped l.bytes) (fact l) (sym e) in
      (w.0, rw w.1 (held_first rs c.relations a), rw w.1 (held_first us c.elements b), λ ls fs. rw (w.1, append-nil))

  pub taken_wrong : (q : Refusal) → says (refusal q) ≡ role l → Taken facts query l rs rs us us c (Err q)
  unfolding role by_role join_lines
  taken_wrong q e =
      let w = was_said (starts (ascii ".") l.bytes) (skipped l.bytes) (fact l) (refusal q) (sym e) in
      (w.0, λ ls fs. rw (w.1, w.2))

-- a line that gives no fact
pub no_fact : (l : Line) → skip ≡ role l → (starts (ascii ".") l.bytes ≡ false) × (line_facts l ≡ [])
unfolding role by_role line_facts
no_fact l e = let w = was_skip (starts (ascii ".") l.bytes) (skipped l.bytes) (fact l) (sym e) in (w.0, rw w.1)

pub bad_fact : (l : Line) (r p : ℕ) → says (refused r p) ≡ role l → (starts (ascii ".") l.bytes ≡ false) × (line_facts l ≡ [])
unfolding role by_role line_facts
bad_fact l r p e = let w = was_said (starts (ascii ".") l.bytes) (skipped l.bytes) (fact l) (refused r p) (sym e) in (w.0, rw (w.1, w.2))

pub dot_line : (l : Line) → end ≡ role l → starts (ascii ".") l.bytes ≡ true
unfolding role by_role
dot_line l e = was_end (starts (ascii ".") l.bytes) (skipped l.bytes) (fact l) (sym e)

-- a part of a line is a part of the text
part_in : (m s n : ℕ) (d : Text) → s + n ≤ m → take n (drop s (take m d)) ≡ take n (drop s d)
part_in m s n d h =
    let e : s + (m - s) ≡ m = omega arith in
    ap (λ (k : ℕ). take n (drop s (take k d))) (sym e) ∙ ap (take n) (sym (take_drop (m - s) s d)) ∙ take-take n (m - s) (drop s d) (omega arith)

three : {A : Type 0} (f g : Item → A) (k : ℕ) (x y z : Item) → f x ≡ g x → f y ≡ g y → f z ≡ g z → map f (take k (x ∷ y ∷ z ∷ [])) ≡ map g (take k (x ∷ y ∷ z ∷ []))
three {A} f g zero x y z p q r = refl
three {A} f g (suc zero) x y z p q r = rw p
three {A} f g (suc (suc zero)) x y z p q r = rw (p, q)
three {A} f g (suc (suc (suc zero))) x y z p q r = rw (p, q, r)
three {A} f g (suc (suc (suc (suc k)))) x y z p q r = rw (p, q, r)

offset_same : (b : Bool) (a p : ℕ) → cond b (suc (a + p)) (a + p) ≡ a + cond b (p + 1) p
offset_same true a p = omega arith
offset_same false a p = refl

module _ (facts query : Text) (a e : ℕ) (h : a ≤ e) (w : e ≤ length facts) (f : FactLine) (b : AllWithin (length (take (e - a) (drop a facts))) f) where
  size : length (take (e - a) (drop a facts)) ≡ e - a
  size = line_size facts a e h w

  module _ (x : Item) (i : Within (length (take (e - a) (drop a facts))) x) where
    element_same : element_of (take (e - a) (drop a facts)) a x ≡ element_at facts a x
    element_same =
        let v : take x.len (drop (start_of x) (take (e - a) (drop a facts))) ≡ take x.len (drop (a + start_of x) facts)
        = part_in (e - a) (start_of x) x.len (drop a facts) (omega (arith, size, i.end)) ∙ ap (take x.len) (drop-drop (start_of x) a facts) in
        ap (λ (t : Text). record { value = t; quoted = x.quoted; at = a + x.place }) v

    word_same : element_word (element_at facts a x) ≡ item_word a x
    word_same =
        let n : length (take x.len (drop (a + start_of x) facts)) ≡ x.len
        = length-take-le x.len (drop (a + start_of x) facts) (rw length-drop (omega (arith, size, i.end))) in
        ap₂ (λ (o k : ℕ). pack 0 o k (cond x.quoted 1 0)) (offset_same x.quoted a x.place) n

  fact_same : fact_of (take (e - a) (drop a facts)) a f ≡ fact_at facts a f
  fact_same =
      let n : take f.name_len (take (e - a) (drop a facts)) ≡ take f.name_len (drop a facts) = take-take f.name_len (e - a) (drop a facts) (omega (arith, size, b.name_end)) in
      let es : elements_of (take (e - a) (drop a facts)) a (items_of f) ≡ elements_at facts a (items_of f)
      = three (element_of (take (e - a) (drop a facts)) a) (element_at facts a) f.arity f.first f.second f.third (element_same f.first b.first) (element_same f.second b.second) (element_same f.third b.third) in
      ap₂ (λ (t : Text) (xs : List Element). record { name = t; at = a; elements = xs }) n es

  name_word : fact_word (fact_at facts a f) ≡ line_word a f
  name_word =
      let n : length (take f.name_len (drop a facts)) ≡ f.name_len = length-take-le f.name_len (drop a facts) (rw length-drop (omega (arith, size, b.name_end))) in
      let k : length (elements_at facts a (items_of f)) ≡ f.arity = length-map (items_of f) (element_at facts a) ∙ length-take-le f.arity (f.first ∷ f.second ∷ f.third ∷ []) b.arity in
      ap₂ (λ (i j : ℕ). pack 0 a i j) n k

  item_words : map element_word (elements_at facts a (items_of f)) ≡ map (item_word a) (items_of f)
  item_words =
      map-map element_word (element_at facts a) (items_of f)
      ∙ three (λ x. element_word (element_at facts a x)) (item_word a) f.arity f.first f.second f.third (word_same f.first b.first) (word_same f.second b.second) (word_same f.third b.third)

  module _ (said : says (ok (fact_of (take (e - a) (drop a facts)) a f)) ≡ role (line_of facts a e)) (rs rs' us us' : List ℕ) (c : Counts) where
    pub what : (starts (ascii ".") (take (e - a) (drop a facts)) ≡ false) × (skipped (take (e - a) (drop a facts)) ≡ false) × (fact (line_of facts a e) ≡ ok (fact_at facts a f))
    unfolding role by_role
    what =
        let k = was_said (starts (ascii ".") (take (e - a) (drop a facts))) (skipped (take (e - a) (drop a facts))) (fact (line_of facts a e)) (ok (fact_of (take (e - a) (drop a facts)) a f)) (sym said) in
        (k.0, k.1, k.2 ∙ ap ok fact_same)

    pub gives : line_facts (line_of facts a e) ≡ fact_at facts a f ∷ []
    unfolding line_facts
    gives = rw (what.1, what.2)

    relations_more : more_relations facts query (line_facts (line_of facts a e)) (take c.relations rs) ≡ note facts query (line_word a f) (take c.relations rs)
    unfolding note_all
    relations_more = rw (gives, name_word)

    elements_more : more_elements facts query (line_facts (line_of facts a e)) (take c.elements us) ≡ with_elements facts query a f (take c.elements us)
    unfolding gather
    elements_more = rw (gives, append-nil, item_words)

    pub taken_refused : (q : Refusal) → FactTaken facts query a f rs rs' us us' c (Err q) → Taken facts query (line_of facts a e) rs rs' us us' c (Err q)
    unfolding join_lines
    taken_refused q t = (what.0, λ ls fs. rw (what.1, what.2, t fs))

    pub taken_fact : (d : Counts) → FactTaken facts query a f rs rs' us us' c (Ok d) → Taken facts query (line_of facts a e) rs rs' us us' c (Ok (Some d))
    unfolding join_lines
    taken_fact d t =
        (what.0, rw relations_more t.0, rw elements_more t.1, λ ls fs. rw (what.1, what.2, t.2 fs, relations_more, elements_more, gives))

-- bounds of a line hold of a longer one
wider : (n m : ℕ) (x : Item) → n ≤ m → Within n x → Within m x
wider n m x h w = record { place = omega (arith, w.place); end = omega (arith, w.end); len = w.len }

pub all_wider : (n m : ℕ) (f : FactLine) → n ≤ m → AllWithin n f → AllWithin m f
all_wider n m f h w =
    record { name = w.name; name_end = omega (arith, w.name_end); arity = w.arity; first = wider n m f.first h w.first; second = wider n m f.second h w.second; third = wider n m f.third h w.third }
