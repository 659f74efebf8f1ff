-- What a join writes: relations in byte order of name, tuples ascending, each line once.
use mathlib.Core.Path.{◌≡◌, refl, sym, ap, ap₂, subst, ◌∙◌}
use mathlib.Core.Bool.{false}
use mathlib.Core.List.{List, [], ◌∷◌, map}
use Prim.Native.Nat.{ℕ, ◌<◌}
use lib.Dec.{T, not_T}
use Rattle.definition.specs.Text.{Text, same, member, some_of}
use Rattle.definition.specs.Limits.{Limits}
use Rattle.definition.specs.Facts.{Fact, Relation, Facts, fact}
use Rattle.definition.specs.Tables.{Tuple, tuples}
use Rattle.definition.specs.Accept.{Accepted, elements}
use Rattle.definition.specs.Assignment.{fact_holds}
use Rattle.definition.specs.Join.{as_accepted, by_name, relation_tuples, join, right}
use Rattle.definition.proofs.BoolLaws.{is_false}
use Rattle.definition.proofs.ListLaws.{Every, every_none, every_one}
use Rattle.definition.proofs.InLaws.{In, every_in, keep_in, map_in}
use Rattle.definition.proofs.OrderLaws.{Sorted, sorted_none, sorted_one, sorted_keep, sorted_map, sorted_gather, Lex, at_once, after, lex_other, tuples_sorted, Earlier, ascending_sorted, texts_sorted}
use Rattle.definition.proofs.MeaningLaws.{same_eq, same_refl}
use Rattle.definition.proofs.DistinctLaws.{Distinct, distinct_none, distinct_one}
use Rattle.definition.proofs.UniverseLaws.{earlier_not_same}
use Rattle.definition.proofs.AcceptLaws.{ok_injective}
use Rattle.definition.proofs.NamedLaws.{names}
use Rattle.definition.proofs.LoadLaws.{tuples_fit}
use Rattle.definition.proofs.WrittenLaws.{Row, IsRow, IsLine, row_line, rows_text, text_of, text_lines, all_lines, fact_values, written_fact}
use Rattle.definition.proofs.ReadBack.{tuple_row}
use Rattle.definition.proofs.JoinReading.{Good}
use Rattle.definition.proofs.JoinLaws.{names_ascend, relation_rows, rows_of, rows_right, union_rows, join_parts, both_values}

-- by name, and then by the first element that differs
abbrev pub Precedes : Row → Row → Type 0
Precedes r s = Lex Earlier (r.name ∷ r.values) (s.name ∷ s.values)

relations_sorted : (qs : List Relation) → Sorted Earlier (names qs) → Sorted (λ q r. Earlier q.name r.name) qs
relations_sorted [] sorted_none = sorted_none
relations_sorted (q ∷ qs) (sorted_one h hs) = sorted_one (go qs h) (relations_sorted qs hs)
  where
    go : (qs : List Relation) → Every (Earlier q.name) (names qs) → Every (λ r. Earlier q.name r.name) qs
    go [] every_none = every_none
    go (r ∷ qs) (every_one h hs) = every_one h (go qs hs)

pub rows_ascend : (limits : Limits) (u : Facts) → Good limits u → Sorted Precedes (rows_of u)
unfolding rows_of relation_tuples
rows_ascend limits u good =
    sorted_gather (relation_rows w) (relations_sorted (by_name u.relations) (ascending_sorted (names (by_name u.relations)) (names_ascend good.named.distinct).ascending)) within across
  where
    w : Accepted
    w = as_accepted u

    within : (q : Relation) → In q (by_name u.relations) → Sorted Precedes (relation_rows w q)
    within q i = sorted_map (tuple_row w q.name) step (sorted_keep (λ t. some_of (fact_holds w q.name t) u.facts) (tuples_sorted (elements w) q.arity))
      where
        step : (s t : Tuple) → In s (relation_tuples w q) → In t (relation_tuples w q) → Lex ◌<◌ s t → Precedes (tuple_row w q.name s) (tuple_row w q.name t)
        step s t i j h =
            let k = keep_in (λ t. some_of (fact_holds w q.name t) u.facts) (tuples (elements w) q.arity) j in
            after refl (texts_sorted (ascending_sorted u.universe good.universe.ascending) (every_in (tuples_fit (elements w) q.arity) k.0).below h)

    across : (q r : Relation) → Earlier q.name r.name → (a b : Row) → In a (relation_rows w q) → In b (relation_rows w r) → Precedes a b
    across q r h a b i j =
        let (s, k, e) = map_in (tuple_row w q.name) (relation_tuples w q) i in
        let (t, l, d) = map_in (tuple_row w r.name) (relation_tuples w r) j in
        subst (λ (z : Row). Precedes a z) (sym d) (subst (λ (z : Row). Precedes z (tuple_row w r.name t)) (sym e) (at_once h))

-- a line says which row it is
line_row : (r s : Row) → IsRow r → IsRow s → row_line r ≡ row_line s → r.name ∷ r.values ≡ s.name ∷ s.values
line_row r s g h e =
    let a = written_fact r.name 0 g.named g.written g.few in
    let b = written_fact s.name 0 h.named h.written h.few in
    let d : a.0 ≡ b.0 = ok_injective (sym a.1 ∙ ap (λ (l : Text). fact (record { bytes = l; at = 0 })) e ∙ b.1) in
    ap₂ ◌∷◌ (sym a.2 ∙ ap (λ (f : Fact). f.name) d ∙ b.2) (sym a.3 ∙ ap fact_values d ∙ b.3)

other_line : {r s : Row} → IsRow r → IsRow s → Precedes r s → same (row_line r) (row_line s) ≡ false
other_line {r} {s} g h p =
    is_false (same (row_line r) (row_line s)) (not_T (same (row_line r) (row_line s)) (λ e.
    lex_other (λ x y k d. earlier_not_same x y k (subst (λ (z : Text). T (same x z)) d (same_refl x))) p (line_row r s g h (same_eq (row_line r) (row_line s) e))))

lines_distinct : {rs : List Row} → Every IsRow rs → Sorted Precedes rs → Distinct (map row_line rs)
unfolding member some_of
lines_distinct every_none sorted_none = distinct_none
lines_distinct (every_one {a = r} {xs = rs} g gs) (sorted_one h hs) = distinct_one (none rs gs h) (lines_distinct gs hs)
  where
    none : (rs : List Row) → Every IsRow rs → Every (Precedes r) rs → member (row_line r) (map row_line rs) ≡ false
    none [] every_none every_none = refl
    none (s ∷ rs) (every_one k ks) (every_one p ps) = rw (other_line g k p, none rs ks ps)

-- "relations in byte order of name, tuples ascending": the result is the lines of rows, each later than those before it
pub record InOrder (t : Text) : Type 0 where
  pub rows : List Row
  pub is : rows_text rows ≡ t
  pub right : Every IsRow rows
  pub ascending : Sorted Precedes rows

pub joined_order : (limits : Limits) (first second : Text) (room : ℕ) (t : Text) → join limits first second room ≡ right t → InOrder t
joined_order limits first second room t e =
    let p = join_parts limits first second room t e in
    record {
      rows = rows_of p.union;
      is = sym (union_rows p.union) ∙ p.is;
      right = rows_right limits p.union p.both.good (both_values limits p.both);
      ascending = rows_ascend limits p.union p.both.good;
    }

-- "each line once": the lines of the result, each ended by byte 10, and no two are the same
pub record EachOnce (t : Text) : Type 0 where
  pub lines : List Text
  pub is : text_of lines ≡ t
  pub right : Every IsLine lines
  pub once : Distinct lines

pub joined_once : (limits : Limits) (first second : Text) (room : ℕ) (t : Text) → join limits first second room ≡ right t → EachOnce t
joined_once limits first second room t e =
    let o = joined_order limits first second room t e in
    record { lines = map row_line o.rows; is = sym (text_lines o.rows) ∙ o.is; right = all_lines o.right; once = lines_distinct o.right o.ascending }
