-- How the passes make up the answer, and what the arrays hold then.
use Rattle.std.specs.Prelude.{Result, Ok, Err}
use Prim.Native.Nat.{ℕ, ◌+◌, ◌<◌, ◌≤◌}
use mathlib.Core.Path.{◌≡◌, refl, sym, ap, ap₂, subst, ◌∙◌}
use mathlib.Core.List.{List}
use native.Mathlib.Omega.{arith}
use lib.ListN.{length, get_or, take}
use lib.Seq.{length-take-le, take-length, take-take}
use Rattle.std.specs.Prelude.{Result, Ok, Err}
use Rattle.definition.specs.Text.{Text}
use Rattle.definition.specs.Limits.{document_01}
use Rattle.definition.specs.Token.{Token}
use Rattle.definition.specs.Syntax.{Program}
use Rattle.definition.specs.Answer.{Answer, ok, refused, number, place}
use Rattle.definition.specs.Facts.{Facts, Relation, read_facts, use_elements}
use Rattle.definition.specs.Names.{Kinds, program_patterns, pattern_rows, in_program, use_names, fact_kinds, variables, program_rows, left_strings}
use Rattle.definition.specs.Accept.{Accepted, accept}
use Rattle.definition.specs.declared.Refusal.{Refusal}
use Rattle.definition.specs.declared.Refusal.TheVariants as Refusal
use Rattle.definition.proofs.AcceptLaws as AcceptLaws
use Rattle.parts.specs.Entries.{texts_of}
use Rattle.parts.proofs.HeldLaws.{held_take}
use Rattle.facts.specs.declared.Counts.{Counts}
use Rattle.std.specs.declared.result.Result.{Result}
use Rattle.std.specs.declared.result.Result.TheVariants.{Ok, Err}
use Rattle.facts.specs.Words.{relations_of, noted, entered}
use Rattle.facts.specs.Pass.{limits_of, facts_of}
use Rattle.facts.specs.Reading.{all_facts, Meets}
use Rattle.words.specs.Raw.{flat_program}
use Rattle.words.specs.Tokens.{OwnProgram}
use Rattle.kinds.specs.Resolved.{Parsed, Stands, Resolved}
use Rattle.kinds.specs.Resolved as Resolved
use Rattle.intern.specs.Entries.{Stand}
use Rattle.malformed.specs.Walk as Malformed
use Rattle.rows.specs.Statements.{meets, Setting}
use Rattle.lexer.specs.Tokens.{tokens_of}
use Rattle.parser.specs.Queries.{ReadAs, IsRead}
use Rattle.universe.specs.Strings.{WithStrings, StringsMeet}
use Rattle.universe.proofs.Filling.{filled}
use Rattle.acceptance.specs.declared.Sizes.{Sizes}
use Rattle.acceptance.specs.Passes.{FactsIn, QueryIn, FormedIn, NamesIn}
use Rattle.acceptance.specs.Reading.{Reading, Sized, Accepts, accepts, refuses}

-- The answer of the pass over names.
module _ (facts query : Text) (tokens ids known relations : List ℕ) where
  pub record NamedAs (r : ℕ) (a : Answer Kinds) : Type 0 where
    pub kinds : Kinds
    pub is : a ≡ ok kinds
    pub stands : Stands facts query tokens ids known relations r kinds

  resolved_done : {x : Result ℕ Refusal} {a : Answer Kinds} → Resolved facts query tokens ids known relations x a → (r : ℕ) → x ≡ Ok r → NamedAs r a
  resolved_done (Resolved.done {c = c} {k = k} s) r e = let same : c ≡ r = cc in record { kinds = k; is = refl; stands = subst (λ (i : ℕ). Stands facts query tokens ids known relations i k) same s }
  resolved_done Resolved.refuses r e = let z : ◌≡◌ {A = ℕ} 0 1 = cc in absurd (omega arith)

  resolved_refused : {x : Result ℕ Refusal} {a : Answer Kinds} → Resolved facts query tokens ids known relations x a → (y : Refusal) → x ≡ Err y → a ≡ refused (number y) (place y)
  resolved_refused (Resolved.done {c = c} {k = k} s) y e = let z : ◌≡◌ {A = ℕ} 0 1 = cc in absurd (omega arith)
  resolved_refused (Resolved.refuses {q = q}) y e = let same : q ≡ y = cc in ap (λ (v : Refusal). refused (number v) (place v)) same

-- More room behind the tokens and the words.
module _ (facts query : Text) (tokens words ids known relations places : List ℕ) (t m : ℕ) (h : t ≤ length tokens) (l : m ≤ length words) where
  sized_in : (s : Sizes) (w : Accepted) → Sized facts query (take t tokens) (take m words) ids known relations places s w → Sized facts query tokens words ids known relations places s w
  sized_in s w z =
      let a : s.tokens ≤ t = omega (arith, z.tokens_inside, length-take-le t tokens h) in
      let b : s.words ≤ m = omega (arith, z.words_inside, length-take-le m words l) in
      record {
        reading = rw (← take-take s.tokens t tokens a, ← take-take s.words m words b) z.reading;
        tokens_inside = omega arith;
        words_inside = omega arith;
        relations_inside = z.relations_inside;
        places_inside = z.places_inside;
      }

  pub with_room : {r : Result Sizes Refusal} → Accepts facts query (take t tokens) (take m words) ids known relations places r → Accepts facts query tokens words ids known relations places r
  with_room (accepts {s = s} w z) = accepts {s = s} w (sized_in s w z)
  with_room (refuses e) = refuses e

-- The query's answer.
module _ (query : Text) (tokens words : List ℕ) (x : Result (ℕ × ℕ) Refusal) (e : IsRead query tokens words x) where
  pub query_right : (t m : ℕ) → x ≡ Ok (t, m) → ReadAs query (take t tokens) (take m words) t m
  query_right t m a = subst (IsRead query tokens words) a e

  pub query_in : (t m : ℕ) (a : x ≡ Ok (t, m)) → 2048 ≤ length tokens → 2048 ≤ length words
      → QueryIn query (take t tokens) (take m words) (tokens_of query 0 (take t tokens)) (query_right t m a).program
  query_in t m a h l =
      let g = query_right t m a in
      record {
        read = g.accepted;
        parsed = g.parsed;
        inside = g.inside;
        few_tokens = omega (arith, g.few, length-take-le t tokens (omega (arith, g.few)));
        few_words = omega (arith, g.few, g.paid, length-take-le m words (omega (arith, g.few, g.paid)));
      }

-- The facts' answer.
module _ (facts query : Text) (rs rs' us us' : List ℕ) (x : Result Counts Refusal) (h : length rs ≡ 16) (l : length us ≡ 64) (e : Meets facts query rs rs' us us' x) where
  pub facts_in : (c : Counts) → x ≡ Ok c → FactsIn facts query rs' us' c
  facts_in c a = record { old_relations = rs; old_places = us; sixteen = h; sixty_four = l; read = subst (Meets facts query rs rs' us us') a e }

  pub facts_wrong : (tokens words ids known : List ℕ) (q : Refusal) → x ≡ Err q → Accepts facts query tokens words ids known rs' us' (Err q)
  facts_wrong tokens words ids known q a =
      let m : Meets facts query rs rs' us us' (Err q) = subst (Meets facts query rs rs' us us') a e in
      refuses (AcceptLaws.refused_facts document_01 facts query (number q) (place q) (ap₂ (λ (i j : ℕ). read_facts (limits_of i j) facts) (sym h) (sym l) ∙ m.0))

module _ (facts query : Text) (given places : List ℕ) (c : Counts) (f : FactsIn facts query given places c) where
  -- what the facts are
  abbrev pub all : Facts
  all = facts_of facts query (noted facts query (all_facts facts)) (entered facts query (all_facts facts)) (all_facts facts)

  pub facts_read : read_facts document_01 facts ≡ ok all
  facts_read = ap₂ (λ (i j : ℕ). read_facts (limits_of i j) facts) (sym f.sixteen) (sym f.sixty_four) ∙ f.read.0

  pub relations_read : relations_of facts query (take c.relations given) ≡ all.relations
  relations_read = ap (relations_of facts query) (held_take f.read.1)

  pub universe_read : texts_of facts query (take c.elements places) ≡ all.universe
  universe_read = ap (texts_of facts query) (held_take f.read.2)

  pub query_wrong : (tokens words ids known relations places' : List ℕ) (x : Result (ℕ × ℕ) Refusal) (y : Refusal) → x ≡ Err y → IsRead query tokens words x
      → Accepts facts query tokens words ids known relations places' (Err y)
  query_wrong tokens words ids known relations places' x y a e =
      refuses (AcceptLaws.refused_query document_01 facts query all facts_read (number y) (place y) (subst (IsRead query tokens words) a e))

  -- the patterns' answer
  module _ (tokens words : List ℕ) (ts : List Token) (p : Program) (q : QueryIn query tokens words ts p) (x : Result (Unit {0}) Refusal)
      (h : (ts : List Token) (p : Program) → Stand query tokens ts → length ts < 65536 → OwnProgram ts p → words ≡ flat_program p 0 → Malformed.meets x (pattern_rows (program_patterns p))) where
    met : Malformed.meets x (pattern_rows (program_patterns p))
    met = h ts p q.parsed.stand q.parsed.few q.parsed.own q.parsed.flat

    pub patterns_wrong : (ids known relations places' : List ℕ) (y : Refusal) → x ≡ Err y → Accepts facts query tokens words ids known relations places' (Err y)
    patterns_wrong ids known relations places' y e =
        refuses (AcceptLaws.refused_patterns document_01 facts query all facts_read p q.read (number y) (place y) (subst (λ (v : Result (Unit {0}) Refusal). Malformed.meets v (pattern_rows (program_patterns p))) e met))

    pub patterns_right : x ≡ Ok tt → FormedIn query tokens words ts p
    patterns_right e = record { query_in = q; formed = subst (λ (v : Result (Unit {0}) Refusal). Malformed.meets v (pattern_rows (program_patterns p))) e met }

  module _ (tokens words : List ℕ) (ts : List Token) (p : Program) (formed : FormedIn query tokens words ts p) where
    abbrev pub q : QueryIn query tokens words ts p
    q = formed.query_in

    names_refused : (x : Refusal) → use_names document_01 (in_program p) (fact_kinds (relations_of facts query (take c.relations given))) ≡ refused (number x) (place x)
        → accept document_01 facts query ≡ refused (number x) (place x)
    names_refused x e =
        AcceptLaws.refused_names document_01 facts query all facts_read p q.read formed.formed (number x) (place x)
        (ap (λ (rs : List Relation). use_names document_01 (in_program p) (fact_kinds rs)) (sym relations_read) ∙ e)

    pub names_wrong : (ids known relations places' : List ℕ) (x : Result ℕ Refusal) (y : Refusal) → x ≡ Err y
        → ((ts : List Token) (p : Program) → Parsed query tokens words ts p
        → Resolved facts query tokens ids known relations x (use_names document_01 (in_program p) (fact_kinds (relations_of facts query (take c.relations given)))))
        → Accepts facts query tokens words ids known relations places' (Err y)
    names_wrong ids known relations places' x y e h = refuses (names_refused y (resolved_refused facts query tokens ids known relations (h ts p q.parsed) y e))

    -- the kinds that a pass without refusal has found
    pub record Kinded (ids known relations : List ℕ) (r : ℕ) : Type 0 where
      pub kinds : Kinds
      pub names : NamesIn facts query tokens ids known (take c.relations given) relations r p kinds

    pub names_right : (ids known relations : List ℕ) (x : Result ℕ Refusal) (r : ℕ) → x ≡ Ok r
        → ((ts : List Token) (p : Program) → Parsed query tokens words ts p
        → Resolved facts query tokens ids known relations x (use_names document_01 (in_program p) (fact_kinds (relations_of facts query (take c.relations given)))))
        → length relations ≡ 16 → ((t : ℕ) → t < length tokens → get_or ids t 0 < c.relations + length tokens) → c.relations ≤ 16 → Kinded ids known relations r
    names_right ids known relations x r e h l few-ids few =
        let g = resolved_done facts query tokens ids known relations (h ts p q.parsed) r e in
        record {
          kinds = g.kinds;
          names = record { named = g.is; stands = g.stands; room = l; numbers = λ t i. omega (arith, few-ids t i, q.few_tokens) };
        }

    module _ (ids known relations : List ℕ) (r : ℕ) (k : Kinds) (n : NamesIn facts query tokens ids known (take c.relations given) relations r p k) where
      names_known : use_names document_01 (in_program p) (fact_kinds all.relations) ≡ ok k
      names_known = ap (λ (rs : List Relation). use_names document_01 (in_program p) (fact_kinds rs)) (sym relations_read) ∙ n.named

      -- what the pass over statements is given
      abbrev pub setting : Setting words ids known
      setting =
          record {
            facts = facts;
            query = query;
            tokens = tokens;
            relations = relations;
            count = r;
            kinds = k;
            stands = n.stands;
            ts = ts;
            stand = q.parsed.stand;
            few = q.parsed.few;
            small = omega (arith, q.few_words);
          }

      rows_refused : (x : Refusal) → program_rows (variables k) p ≡ refused (number x) (place x) → accept document_01 facts query ≡ refused (number x) (place x)
      rows_refused x e = AcceptLaws.refused_rows document_01 facts query all facts_read p q.read formed.formed k names_known (number x) (place x) e

      abbrev Ruling : Result (Unit {0}) Refusal → Type 0
      Ruling x = (S : Setting words ids known) (p : Program) → OwnProgram S.ts p → words ≡ flat_program p 0 → meets x (program_rows (variables S.kinds) p)

      pub rows_wrong : (places' : List ℕ) (x : Result (Unit {0}) Refusal) (y : Refusal) → x ≡ Err y → Ruling x → Accepts facts query tokens words ids known relations places' (Err y)
      rows_wrong places' x y e h = refuses (rows_refused y (subst (λ (v : Result (Unit {0}) Refusal). meets v (program_rows (variables k) p)) e (h setting p q.parsed.own q.parsed.flat)))

      pub rows_right : (x : Result (Unit {0}) Refusal) → x ≡ Ok tt → Ruling x → program_rows (variables k) p ≡ ok tt
      rows_right x e h = subst (λ (v : Result (Unit {0}) Refusal). meets v (program_rows (variables k) p)) e (h setting p q.parsed.own q.parsed.flat)

      module _ (right : program_rows (variables k) p ≡ ok tt) where
        pub strings_refused : (at : ℕ) → use_elements document_01 (left_strings p) (texts_of facts query (take c.elements places)) ≡ refused 7 at → accept document_01 facts query ≡ refused 7 at
        strings_refused at e =
            AcceptLaws.refused_universe document_01 facts query all facts_read p q.read formed.formed k names_known right 7 at
            (ap (λ (us : List Text). use_elements document_01 (left_strings p) us) (sym universe_read) ∙ e)

        module _ (places' : List ℕ) (u : ℕ) (s : WithStrings facts query p tokens words places places' c.elements u) where
          abbrev given_by : Accepted
          given_by = record { universe = texts_of facts query (take u places'); relations = k.relations; variables = variables k; facts = all.facts; program = p }

          is_accepted : accept document_01 facts query ≡ ok given_by
          is_accepted =
              AcceptLaws.all_accepted document_01 facts query all facts_read p q.read formed.formed k names_known right (texts_of facts query (take u places'))
              (ap (λ (us : List Text). use_elements document_01 (left_strings p) us) (sym universe_read) ∙ s.universe)

          all_in : u ≤ length places'
              → Accepts facts query tokens words ids known relations places' (Ok (record { relations = r; elements = u; tokens = length tokens; words = length words }))
          all_in room =
              let few = n.stands.few in
              let first : length (take r relations) ≡ r = length-take-le r relations (omega (arith, n.room)) in
              let shorter : length (take u places') ≡ u = length-take-le u places' (omega arith) in
              let reading : Reading facts query tokens words ids known (take r relations) (take u places') given_by = record {
                accepted = is_accepted;
                ts = ts;
                parsed = q.parsed;
                inside = q.inside;
                few_tokens = q.few_tokens;
                few_words = q.few_words;
                kinds = k;
                facts_read = all;
                read = facts_read;
                names = names_known;
                stands =
                    record {
                      apart = n.stands.apart;
                      knows = n.stands.knows;
                      named = n.stands.named ∙ ap (relations_of facts query) (sym (take-length (take r relations)));
                      few = omega (arith, few, first);
                    };
                numbers = n.numbers;
                relations_are = sym n.stands.named;
                few_relations = omega (arith, few, first);
                filled =
                    filled facts query f.old_relations given f.old_places places tokens words places' c u p given_by f.sixteen f.sixty_four f.read s q.read is_accepted;
                few_places = omega (arith, s.few, shorter);
              } in
              accepts {s = record { relations = r; elements = u; tokens = length tokens; words = length words }} given_by (record {
                reading = rw (take-length tokens, take-length words) reading;
                tokens_inside = omega arith;
                words_inside = omega arith;
                relations_inside = omega (arith, few, n.room);
                places_inside = omega arith;
              })

        pub strings_full : (places' : List ℕ) (at : ℕ) (x : Result ℕ ℕ) → x ≡ Err at → StringsMeet facts query p tokens words places places' c.elements x
            → Accepts facts query tokens words ids known relations places' (Err (Refusal.TooManyElements at))
        strings_full places' at x a b = refuses (strings_refused at (subst (StringsMeet facts query p tokens words places places' c.elements) a b))

        pub strings_in : (places' : List ℕ) (u : ℕ) (x : Result ℕ ℕ) → x ≡ Ok u → StringsMeet facts query p tokens words places places' c.elements x → length places' ≡ 64
            → Accepts facts query tokens words ids known relations places' (Ok (record { relations = r; elements = u; tokens = length tokens; words = length words }))
        strings_in places' u x a b l =
            let s : WithStrings facts query p tokens words places places' c.elements u = subst (StringsMeet facts query p tokens words places places' c.elements) a b in
            all_in places' u s (omega (arith, s.few))
