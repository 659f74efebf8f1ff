-- Numbers for names, what the facts say of them, then the walk: together the definition's pass over the names.
use Prim.Native.Nat.{ℕ, zero, suc, ◌+◌, ◌/◌, ◌%◌, ◌-◌, ◌<◌, ◌≤◌}
use mathlib.Core.Path.{◌≡◌, refl, sym, ap, ap₂, ◌∙◌}
use mathlib.Core.Bool.{Bool, true, false, cond}
use mathlib.Core.List.{List, map}
use native.Mathlib.Omega.{arith}
use native.Mathlib.Nat.{add-sub_cancel_left}
use native.Mathlib.Numerals.{add-one}
use borrow.Author.Tests.{lt-ltb, le-ltb}
use lib.Dec.{eqb}
use lib.ListN.{length, get_or, take, drop, drop_of_length-le}
use lib.Seq.{length-take-le, drop-cons}
use Rattle.definition.specs.Text.{Text, same}
use Rattle.definition.specs.Limits.{document_01}
use Rattle.definition.specs.Token.{Token}
use Rattle.definition.specs.Syntax.{Program}
use Rattle.definition.specs.declared.Refusal.{Refusal}
use Rattle.definition.specs.Answer.{Answer, ok, refused, number, place}
use Rattle.definition.specs.Names.{nothing, relation, Kinds, in_program, use_names, numbered, fact_kinds}
use Rattle.words.specs.Shown.{Shows}
use Rattle.words.proofs.NameOrder.{program_uses}
use Rattle.facts.specs.Words.{relation_of}
use Rattle.intern.specs.Entries.{text_at, Stand}
use Rattle.intern.specs.Numbers.{name_of, seek, number_of, Numbered}
use Rattle.intern.proofs.Numbering.{of_relation, of_token, faithful, number_le}
use Rattle.std.specs.Prelude.{Result, Ok, Err}
use Rattle.kinds.specs.Walk.{known_of, relation_code, State, state, Walked, went, stopped, walk, meets}
use Rattle.kinds.specs.Resolved.{Parsed, Stands, Resolved, done, refuses, fact_code, FactsKnown}
use Rattle.kinds.proofs.Meaning.{Rep, Sim, walk_uses, known_relation}

seek_ge : (names : ℕ → Text) (x : Text) (f j : ℕ) → j ≤ seek names x f j
unfolding seek
seek_ge names x zero j = omega arith
seek_ge names x (suc f) j = go (same x (names j)) (seek_ge names x f (j + 1))
  where
    go : (b : Bool) → j + 1 ≤ seek names x f (j + 1) → j ≤ cond b j (seek names x f (j + 1))
    go true h = omega arith
    go false h = omega arith

-- the first place with a name among the facts' relations is what the facts say of the name
module _ (facts query : Text) (fs tokens : List ℕ) (x : Text) where
  abbrev names : ℕ → Text
  names = name_of facts query fs tokens

  code_here : (i : ℕ) → i < length fs → known_of (fact_code fs i) ≡ relation i (get_or fs i 0 % 4)
  unfolding fact_code
  code_here i h =
      let v = relation_code i (get_or fs i 0 % 4) in
      let a : (v - 4) / 4 ≡ i = omega arith in
      let b : v % 4 ≡ get_or fs i 0 % 4 = omega arith in
      rw (lt-ltb i (length fs) h) (known_relation v (omega arith) ∙ ap₂ relation a b)

  code_past : (i : ℕ) → length fs ≤ i → known_of (fact_code fs i) ≡ nothing
  unfolding fact_code known_of
  code_past i h = rw (le-ltb i (length fs) h) refl

  fact_arity : (i : ℕ) → get_or fs i 0 % 4 ≡ (relation_of facts query (get_or fs i 0)).arity
  fact_arity i = refl

  fact_name : (i : ℕ) → i < length fs → (relation_of facts query (get_or fs i 0)).name ≡ names i
  fact_name i h = of_relation facts query fs tokens i h

  step : (f i : ℕ) → seek names x (suc f) i ≡ cond (same x (names i)) i (seek names x f (i + 1))
  unfolding seek
  step f i = refl

  first_fact : (m i f : ℕ) → i + m ≡ length fs → m ≤ f → known_of (fact_code fs (seek names x f i)) ≡ numbered i (map (relation_of facts query) (drop i fs)) x
  unfolding numbered
  first_fact zero i f e l =
      let h : length fs ≤ i = omega arith in
      code_past (seek names x f i) (omega (arith, seek_ge names x f i)) ∙ rw (drop_of_length-le fs h) refl
  first_fact (suc m) i zero e l = absurd (omega arith)
  first_fact (suc m) i (suc f) e l =
      let h : i < length fs = omega arith in
      rw (drop-cons fs i 0 h, fact_name i h, step f i) (go i h (same x (names i)) (first_fact m (i + 1) f (omega arith) (omega arith)))
    where
      go : (i : ℕ) → i < length fs → (b : Bool) → known_of (fact_code fs (seek names x f (i + 1))) ≡ numbered (i + 1) (map (relation_of facts query) (drop (i + 1) fs)) x →
          known_of (fact_code fs (cond b i (seek names x f (i + 1)))) ≡ cond b (relation i (relation_of facts query (get_or fs i 0)).arity) (numbered (suc i) (map (relation_of facts query) (drop (suc i) fs)) x)
      go i h true ih = code_here i h ∙ ap (relation i) (fact_arity i)
      go i h false ih = rw (← add-one i) ih

-- the whole pass
module _ (facts query : Text) (tokens ids relations : List ℕ) (given L : ℕ) (given-few : given ≤ 16) (room : length relations ≡ 16) (long : given + length tokens ≤ L)
    (have : Numbered (name_of facts query (take given relations) tokens) (length (take given relations)) ids (length tokens)) where
  abbrev fs : List ℕ
  fs = take given relations

  abbrev all_names : ℕ → Text
  all_names = name_of facts query fs tokens

  count_fs : length fs ≡ given
  count_fs = length-take-le given relations (omega arith)

  token_name : (t : ℕ) → text_at query (get_or tokens t 0) ≡ all_names (length fs + t)
  token_name t = ap (λ (i : ℕ). text_at query (get_or tokens i 0)) (sym (add-sub_cancel_left (length fs) t)) ∙ of_token facts query fs tokens (length fs + t) (omega arith)

  tell_apart : (s t : ℕ) → s < length tokens → t < length tokens → same (text_at query (get_or tokens s 0)) (text_at query (get_or tokens t 0)) ≡ eqb (get_or ids s 0) (get_or ids t 0)
  tell_apart s t hs ht =
      ap₂ same (token_name s) (token_name t) ∙ faithful all_names (length fs + s) (length fs + t) ∙ ap₂ eqb (sym (have s hs)) (sym (have t ht))

  pub inside : (t : ℕ) → t < length tokens → get_or ids t 0 < L
  inside t h = rw (have t h) (omega (arith, number_le all_names (length fs + t), count_fs))

  module _ (ts : List Token) (stand : Stand query tokens ts) where
    abbrev Here : State → Kinds → Type 0
    Here = Rep facts query tokens ids ts stand L tell_apart inside

    fact_codes : (known : List ℕ) → length known ≡ L → FactsKnown fs known (length known) → (t : ℕ) → t < length tokens →
        numbered 0 (map (relation_of facts query) fs) (text_at query (get_or tokens t 0)) ≡ known_of (get_or known (get_or ids t 0) 0)
    unfolding number_of
    fact_codes known l k t h =
        let x = text_at query (get_or tokens t 0) in
        sym (ap known_of (k (get_or ids t 0) (omega (arith, inside t h)) ∙ ap (fact_code fs) (have t h ∙ ap (λ (y : Text). seek all_names y (length fs + t) 0) (sym (token_name t))))
        ∙ first_fact facts query fs tokens x (length fs) 0 (length fs + t) (omega arith) (omega arith))

    start : (known : List ℕ) → length known ≡ L → FactsKnown fs known (length known) → Here (state known relations given) (fact_kinds (map (relation_of facts query) fs))
    start known l k = record { long = l; knows = fact_codes known l k; named = refl; room = room; few = given-few }

    stands : (s : State) (known relations' : List ℕ) (c : ℕ) (k : Kinds) → s ≡ state known relations' c → Here s k → Stands facts query tokens ids known relations' c k
    stands s known relations' c k e r =
        let q : Here (state known relations' c) k = rw e at r in
        record { apart = tell_apart; knows = q.knows; named = q.named; few = q.few }

    nothing_both : {A : Type 0} (s : State) (r p : ℕ) → went s ≡ stopped r p → A
    nothing_both s r p e = let z : ◌≡◌ {A = ℕ} 0 1 = cc in absurd (omega arith)

    conclude : (o : Walked) (a : Answer Kinds) (r : Result ℕ Refusal) (known relations' : List ℕ) → Sim facts query tokens ids ts stand L tell_apart inside o a → meets o known relations' r → Resolved facts query tokens ids known relations' r a
    conclude (went s) (ok k) (Ok c) known relations' m e = let q : s ≡ state known relations' c = (let f = e.0 in cc) in done (stands s known relations' c k q m)
    conclude (went s) (ok k) (Err q) known relations' m e = nothing_both s (number q) (place q) e
    conclude (went s) (refused r p) n known relations' m e = absurd m
    conclude (stopped r p) (ok k) n known relations' m e = absurd m
    conclude (stopped r p) (refused r' p') (Ok c) known relations' m e = nothing_both (state known relations' c) r p (sym e.0)
    conclude (stopped r p) (refused r' p') (Err q) known relations' m e =
        let a : r' ≡ number q = (let x = m.0 in cc) in
        let b : p' ≡ place q = (let x = m.1 in cc) in
        rw (a, b) refuses

  pub resolved : (words known known' relations' : List ℕ) (r : Result ℕ Refusal) → length known ≡ L → FactsKnown fs known (length known) → meets (walk tokens ids words (state known relations given)) known' relations' r →
      (ts : List Token) (p : Program) → Parsed query tokens words ts p → Resolved facts query tokens ids known' relations' r (use_names document_01 (in_program p) (fact_kinds (map (relation_of facts query) fs)))
  resolved words known known' relations' r l k m ts p parsed =
      let shows : Shows ts words (in_program p) = rw parsed.flat (program_uses ts parsed.few p 0 (omega (arith, parsed.small)) parsed.own) in
      conclude ts parsed.stand (walk tokens ids words (state known relations given)) (use_names document_01 (in_program p) (fact_kinds (map (relation_of facts query) fs))) r known' relations'
      (walk_uses facts query tokens ids ts parsed.stand L tell_apart inside (state known relations given) _ shows (start ts parsed.stand known l k)) m
