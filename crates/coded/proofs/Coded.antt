-- What the lowering pass leaves of an accepted query is the code of its program.
use Prim.Native.Nat.{ℕ, zero, suc, ◌<◌, ◌≤◌}
use mathlib.Core.Path.{◌≡◌, refl, sym, ap, subst, ◌∙◌}
use mathlib.Core.Bool.{Bool, false}
use mathlib.Core.List.{List, [], ◌∷◌, map}
use native.Mathlib.Omega.{arith}
use native.Mathlib.Nat.{zero-add}
use borrow.Author.Tests.{ltb-false}
use lib.Dec.{ltb}
use lib.ListN.{length, get_or, take}
use Rattle.definition.specs.Text.{Text, member, some_of}
use Rattle.definition.specs.Limits.{document_01, QUERY_BYTES}
use Rattle.definition.specs.Token.{Token}
use Rattle.definition.specs.Answer.{ok, refuse_if}
use Rattle.definition.specs.Facts.{Facts, Relation, read_facts}
use Rattle.definition.specs.Syntax.{Program}
use Rattle.definition.specs.Names.{Kinds, variables, in_program, use_names, fact_kinds, program_rows}
use Rattle.definition.specs.Accept.{Accepted, accept, elements, read_query}
use Rattle.definition.proofs.AcceptLaws.{Parts, parts, universe, ok_injective, was_ok, not_refused}
use Rattle.definition.proofs.NameLaws.{names_fit, names_numbered, facts_numbered}
use Rattle.definition.proofs.UniverseSize.{universe_few}
use Rattle.definition.proofs.ScopeLaws.{scoped}
use Rattle.definition.proofs.ArityLaws.{small_arities}
use Rattle.definition.proofs.NestingLaws.{nested}
use Rattle.definition.proofs.FormLaws.{formed}
use Rattle.definition.proofs.RowLaws.{rows_ok}
use Rattle.definition.proofs.QuantityLaws.{read_shaped}
use Rattle.definition.proofs.BoolLaws.{contradiction}
use Rattle.words.specs.Raw.{size_program, flat_program}
use Rattle.words.specs.Standing.{Has}
use Rattle.words.proofs.Places.{has_all}
use Rattle.words.proofs.Sizes.{length_program}
use Rattle.parts.specs.Packed.{text_of}
use Rattle.facts.specs.Words.{relation_of}
use Rattle.lexer.specs.Tokens as Lexer
use Rattle.lexer.specs.Tokens.{Inside}
use Rattle.intern.specs.Entries.{start_of}
use Rattle.kinds.specs.Resolved.{Parsed, Stands}
use Rattle.actions.specs.Parts.{start}
use Rattle.code.specs.Program.{Code}
use Rattle.coding.specs.Pass.{Depths, depths_at, Passed}
use Rattle.coded.proofs.Given.{Case}
use Rattle.coded.proofs.Standing.{Begun}
use Rattle.coded.proofs.Programs.{Fine}
use Rattle.coded.proofs.Whole.{program}

few_map : (f : ℕ → Relation) (n : ℕ) (xs : List ℕ) → length (map f (take n xs)) ≤ n
few_map f zero xs = omega arith
few_map f (suc n) [] = omega arith
few_map f (suc n) (x ∷ xs) = omega (arith, few_map f n xs)

short_query : (query : Text) (p : Program) → read_query query ≡ ok p → length query ≤ QUERY_BYTES
unfolding read_query
short_query query p e = ltb-false QUERY_BYTES (length query) (not_refused (ltb QUERY_BYTES (length query)) 8 QUERY_BYTES (was_ok (refuse_if (ltb QUERY_BYTES (length query)) 8 QUERY_BYTES) _ p e))

no_member : (x : Text) → member x [] ≡ false
unfolding member some_of
no_member x = refl

-- the two texts are accepted; the tokens, the words, the numbers of names and the universe stand; and the pass has made the words
pub record Lowering (facts query : Text) (w : Accepted) (tokens ids known relations words places low : List ℕ) (c : ℕ) (k : Kinds) (ts : List Token) (d : Depths) : Type 0 where
  pub accepted : accept document_01 facts query ≡ ok w
  pub read : Facts
  pub facts_read : read_facts document_01 facts ≡ ok read
  pub names : use_names document_01 (in_program w.program) (fact_kinds read.relations) ≡ ok k
  pub inside : Inside query tokens
  pub parsed : Parsed query tokens words ts w.program
  pub stands : Stands facts query tokens ids known relations c k
  pub universe_is : map (text_of facts query) places ≡ w.universe
  pub long : length low ≡ length words
  pub passed : Passed facts query places tokens ids known words low (elements w) d
  -- no FOR is open, and each name has a cell
  pub none_open : d.deep ≡ 0
  pub room : (i : ℕ) → i < length tokens → get_or ids i 0 < length d.depths

module _ (facts query : Text) (w : Accepted) (tokens ids known relations words places low : List ℕ) (c : ℕ) (k : Kinds) (ts : List Token) (d : Depths)
    (L : Lowering facts query w tokens ids known relations words places low c k ts d) where
  abbrev p : Program
  p = w.program

  A : Parts document_01 facts query w
  A = parts document_01 facts query w L.accepted

  same_read : L.read ≡ A.facts_read
  same_read = ok_injective (sym L.facts_read ∙ A.read)

  same_kinds : k ≡ A.kinds
  same_kinds = ok_injective (sym L.names ∙ ap (λ (f : Facts). use_names document_01 (in_program p) (fact_kinds f.relations)) same_read ∙ A.names)

  same_variables : variables k ≡ w.variables
  same_variables = ap variables same_kinds ∙ A.variables

  same_relations : k.relations ≡ w.relations
  same_relations = ap (λ (l : Kinds). l.relations) same_kinds ∙ A.relations

  words_length : length words ≡ size_program p
  words_length = ap length L.parsed.flat ∙ length_program p 0

  -- the program's places are those of the words
  pub code_length : size_program w.program ≡ length low
  code_length = sym (L.long ∙ words_length)

  near : (i : ℕ) → i < length tokens → start_of (get_or tokens i 0) < 65536
  unfolding Lexer.quote_of
  near i h = omega (arith, L.inside i h, short_query query p A.query_read)

  few_relations : length w.relations ≤ 16
  few_relations = omega (arith, ap length (sym same_relations ∙ L.stands.named), few_map (relation_of facts query) c relations, L.stands.few)

  abbrev C : Case
  C = record {
    facts = facts;
    query = query;
    w = w;
    tokens = tokens;
    ids = ids;
    known = known;
    relations = relations;
    words = words;
    places = places;
    low = low;
    count = c;
    kinds = k;
    ts = ts;
    stand = L.parsed.stand;
    few = L.parsed.few;
    small = omega (arith, words_length, L.parsed.small);
    near = near;
    stands = L.stands;
    same_variables = same_variables;
    same_relations = same_relations;
    numbered = names_numbered document_01 (in_program p) (fact_kinds L.read.relations) k L.names (facts_numbered L.read.relations);
    few_relations = few_relations;
    arities = (small_arities document_01 facts query w L.accepted).each;
    universe = L.universe_is;
    ascending = (universe document_01 facts query w L.accepted).ascending;
    few_elements = universe_few document_01 facts query w L.accepted;
    first = d;
    room = L.room;
    long = L.long;
    passed = L.passed;
  }

  fine : Fine C [] p
  fine = record {
    own = L.parsed.own;
    scoped = scoped document_01 L.read.relations p k L.names;
    nested = nested query p A.query_read;
    rows = rows_ok w.variables p (subst (λ (v : Text → Bool). program_rows v p ≡ ok tt) A.variables A.rows);
    formed = formed query p A.query_read;
    shaped = read_shaped query p A.query_read;
    fit = names_fit document_01 (in_program p) (fact_kinds L.read.relations) k L.names;
    lefts = λ x h. (universe document_01 facts query w L.accepted).members x ∙ rw h refl;
  }

  begun : Begun C [] 0
  unfolding start depths_at
  begun = record {
    start_words = refl;
    start_low = refl;
    depths = record { deep = L.none_open; room = refl; held = λ t o m. contradiction (member t.text []) m (no_member t.text) };
  }

  pub coded : Code w query low [] w.program 0 (size_program w.program)
  coded =
      let x : Has words 0 (flat_program p 0) = rw (← L.parsed.flat) (has_all words) in
      let D = program C p [] 0 (λ y m. contradiction (member y []) m (no_member y)) (omega arith) begun fine x (omega (arith, words_length)) in
      subst (Code w query low [] p 0) (zero-add (size_program p)) D.code
