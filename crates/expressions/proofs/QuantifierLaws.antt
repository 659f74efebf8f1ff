-- The attributes of a quantifier as they are read, and its words as they are written.
use Rattle.std.specs.Prelude.{Ok, Err}
use mathlib.Core.List.{List, [], ◌∷◌, ◌++◌, map, append_assoc, append-nil}
use mathlib.Core.Path.{◌≡◌, refl, ap, sym, subst, ◌∙◌}
use native.Mathlib.Omega.{arith}
use Prim.Native.Nat.{ℕ, suc, ◌+◌, ◌*◌, ◌-◌, ◌≤◌, ◌<◌}
use lib.ListN.{length, set, length-set}
use lib.Seq.{sets}
use Rattle.definition.specs.Token.{LPAREN, COMMA}
use Rattle.expressions.specs.Operators.{Names, no_more, one_more, attribute, no_bracket, no_name, no_comma, IsBound, binders, BindSpace}
use Rattle.lexer.specs.Tokens.{NAME}
use Rattle.terms.proofs.TokenLaws.{kind_within}
use Rattle.terms.proofs.WriteLaws.{wrote_none, wrote_next, wrote_as}
use Rattle.terms.specs.declared.ParseError.TheVariants.{NoProgram}
use Rattle.terms.specs.Phrases.{kind_in, Wrote}
use Rattle.words.specs.Fields.{word}

map_next : (xs : List ℕ) (v : ℕ) → map attribute xs ++ (attribute v ∷ []) ≡ map attribute (xs ++ (v ∷ []))
map_next [] v = refl
map_next (x ∷ xs) v = ap (λ l. attribute x ∷ l) (map_next xs v)

-- the attributes before q are read, and another stands at q
pub record Attributes (ws : List ℕ) (p n : ℕ) (A A' : List ℕ) (q m : ℕ) : Type 0 where
  pub opened : kind_in ws p ≡ LPAREN
  pub name : kind_in ws (p + 1) ≡ NAME
  pub comma : kind_in ws (p + 2) ≡ COMMA
  pub sofar : List ℕ
  pub on : (r : ℕ) (vs : List ℕ) → Names ws q r vs → Names ws (p + 1) r (sofar ++ vs)
  pub here : kind_in ws q ≡ NAME
  pub then : kind_in ws (q + 1) ≡ COMMA
  pub wrote : Wrote A n (map attribute sofar) m A'
  pub long : length A' ≡ length A
  pub used : n ≤ m
  pub paid : 2 * m + p + 1 ≡ 2 * n + q
  pub place : q + 2 ≤ length ws

pub attributes_start : {ws : List ℕ} {p n : ℕ} {A : List ℕ} → kind_in ws p ≡ LPAREN → kind_in ws (p + 1) ≡ NAME → kind_in ws (p + 2) ≡ COMMA → Attributes ws p n A A (p + 1) n
attributes_start {ws} {p} {n} {A} e f g =
    let l = kind_within ws (p + 2) (omega arith) in
    let i : p + 2 ≡ p + 1 + 1 = omega arith in
    record { opened = e; name = f; comma = g; sofar = []; on = λ r vs i. i; here = f; then = ap (kind_in ws) (sym i) ∙ g; wrote = wrote_none A n; long = refl; used = omega arith; paid = omega arith; place = omega arith }

module _ {ws : List ℕ} {p n q m w : ℕ} {A A' : List ℕ} (f : Attributes ws p n A A' q m) (i : w ≡ attribute q) where
  past : Wrote A n (map attribute (f.sofar ++ (q ∷ []))) (m + 1) (set A' m w)
  past = wrote_as (ap (λ v. map attribute f.sofar ++ (v ∷ [])) i ∙ map_next f.sofar q) (wrote_next f.wrote w)

  pub attributes_end : (kind_in ws (q + 2) ≡ NAME → kind_in ws (q + 2 + 1) ≡ COMMA → ⊥) → IsBound ws p n A (set A' m w) (Ok (q + 2, m + 1))
  attributes_end h = record {
    is = record {
      names = f.sofar ++ (q ∷ []);
      opened = f.opened;
      name = f.name;
      comma = f.comma;
      more = f.on (q + 2) (q ∷ []) (one_more f.here f.then (no_more h));
      wrote = past;
      some = omega (arith, f.used);
      paid = omega (arith, f.paid);
      within = f.place;
    };
  }

  pub attributes_on : kind_in ws (q + 2) ≡ NAME → kind_in ws (q + 2 + 1) ≡ COMMA → Attributes ws p n A (set A' m w) (q + 2) (m + 1)
  attributes_on g h =
      let l = kind_within ws (q + 2 + 1) (omega arith) in
      record {
        opened = f.opened;
        name = f.name;
        comma = f.comma;
        sofar = f.sofar ++ (q ∷ []);
        on = λ r vs j. subst (Names ws (p + 1) r) (sym (append_assoc f.sofar (q ∷ []) vs)) (f.on r (q ∷ vs) (one_more f.here f.then j));
        here = g;
        then = h;
        wrote = past;
        long = length-set A' m w ∙ f.long;
        used = omega (arith, f.used);
        paid = omega (arith, f.paid);
        place = omega arith;
      }

module _ {ws : List ℕ} {p n : ℕ} {A B : List ℕ} where
  pub bracket_missing : p ≤ length ws → (kind_in ws p ≡ LPAREN → ⊥) → IsBound ws p n A B (Err (NoProgram p))
  bracket_missing l h = record { is = (refl, (no_bracket h, l)) }

  pub name_missing : kind_in ws p ≡ LPAREN → (kind_in ws (p + 1) ≡ NAME → ⊥) → IsBound ws p n A B (Err (NoProgram (p + 1)))
  name_missing e h = let l = kind_within ws p (omega arith) in record { is = (refl, (no_name e h, omega arith)) }

  pub comma_missing : kind_in ws p ≡ LPAREN → kind_in ws (p + 1) ≡ NAME → (kind_in ws (p + 2) ≡ COMMA → ⊥) → IsBound ws p n A B (Err (NoProgram (p + 2)))
  comma_missing e f h = let l = kind_within ws (p + 1) (omega arith) in record { is = (refl, (no_comma e f h, omega arith)) }

-- the words of the quantifiers down to attribute i are written up to k
pub record Binding (A : List ℕ) (kind n m l : ℕ) (A' : List ℕ) (i k : ℕ) : Type 0 where
  pub space : BindSpace (length A) kind n m l
  pub sofar : List ℕ
  pub rest : sofar ++ binders kind (i - n) n k ≡ binders kind (m - n) n l
  pub wrote : Wrote A l sofar k A'
  pub long : length A' ≡ length A
  pub low : n ≤ i
  pub high : i ≤ m
  pub count : k + i ≡ l + m

pub binding_starts : {A : List ℕ} {kind n m l : ℕ} → BindSpace (length A) kind n m l → Binding A kind n m l A m l
binding_starts {A} {l = l} s = record { space = s; sofar = []; rest = refl; wrote = wrote_none A l; long = refl; low = s.order; high = omega arith; count = refl }

one_binder : (kind j i n k : ℕ) → i ≡ suc (n + j) → binders kind (i - n) n k ≡ word kind (i - 1) (k - 1) 0 ∷ binders kind (i - 1 - n) n (k + 1)
unfolding binders
one_binder kind j i n k e =
    let a : i - n ≡ suc j = omega arith in
    let b : i - 1 - n ≡ j = omega arith in
    let c : n + j ≡ i - 1 = omega arith in
    ap (λ u. binders kind u n k) a ∙ ap (λ u. word kind u (k - 1) 0 ∷ binders kind j n (k + 1)) c ∙ ap (λ u. word kind (i - 1) (k - 1) 0 ∷ binders kind u n (k + 1)) (sym b)

no_binder : (kind i n k : ℕ) → i ≡ n → binders kind (i - n) n k ≡ []
unfolding binders
no_binder kind i n k e = let a : i - n ≡ 0 = omega arith in ap (λ u. binders kind u n k) a

module _ {A A' : List ℕ} {kind n m l i k : ℕ} (f : Binding A kind n m l A' i k) where
  pub binding_on : {w : ℕ} → n < i → w ≡ word kind (i - 1) (k - 1) 0 → Binding A kind n m l (set A' k w) (i - 1) (k + 1)
  binding_on {w} h e = record {
    space = f.space;
    sofar = f.sofar ++ (w ∷ []);
    rest = append_assoc f.sofar (w ∷ []) (binders kind (i - 1 - n) n (k + 1)) ∙ ap (λ v. f.sofar ++ (v ∷ binders kind (i - 1 - n) n (k + 1))) e ∙ ap (λ u. f.sofar ++ u) (sym (one_binder kind (i - 1 - n) i n k (omega arith))) ∙ f.rest;
    wrote = wrote_next f.wrote w;
    long = length-set A' k w ∙ f.long;
    low = omega arith;
    high = omega (arith, f.high);
    count = omega (arith, f.count);
  }

  pub binding_ends : i ≤ n → (k ≡ l + (m - n)) × (A' ≡ sets A l (binders kind (m - n) n l))
  binding_ends h =
      let e : i ≡ n = omega (arith, f.low) in
      (omega (arith, f.count, f.high), f.wrote.is ∙ ap (sets A l) (sym (append-nil f.sofar) ∙ ap (λ u. f.sofar ++ u) (sym (no_binder kind i n k e)) ∙ f.rest))
