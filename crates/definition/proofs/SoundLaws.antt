-- What is true of the facts of accepted texts, and of two texts joined: names differ, the limits are kept, and each fact fits.
use mathlib.Core.Path.{◌≡◌, sym, subst}
use Prim.Native.Nat.{◌≤◌}
use lib.Dec.{T}
use lib.ListN.{length}
use Rattle.definition.specs.Text.{Text, member}
use Rattle.definition.specs.Limits.{Limits}
use Rattle.definition.specs.Answer.{ok}
use Rattle.definition.specs.Facts.{Ascending}
use Rattle.definition.specs.Names.{left_strings}
use Rattle.definition.specs.Accept.{Accepted, accept}
use Rattle.definition.proofs.BoolLaws.{or_right}
use Rattle.definition.proofs.ListLaws.{Every}
use Rattle.definition.proofs.DistinctLaws.{Distinct}
use Rattle.definition.proofs.AcceptLaws.{universe, has, in_facts}
use Rattle.definition.proofs.NamedLaws.{names, HasArity, accepted_named}
use Rattle.definition.proofs.ArityLaws.{Small, small_arities}
use Rattle.definition.proofs.UniverseSize.{universe_few}
use Rattle.definition.proofs.RelationCount.{few_relations}

pub record Sound (limits : Limits) (w : Accepted) : Type 0 where
  pub ascending : Ascending w.universe
  pub few_elements : length w.universe ≤ limits.elements
  pub few_relations : length w.relations ≤ limits.relations
  pub small : Small w.relations
  pub distinct : Distinct (names w.relations)
  pub fitted : Every (HasArity w.relations) w.facts
  -- elements of the facts are of the universe
  pub inside : (x : Text) → T (in_facts x w.facts) → T (member x w.universe)

pub accepted_sound : (limits : Limits) (facts query : Text) (w : Accepted) → accept limits facts query ≡ ok w → Sound limits w
accepted_sound limits facts query w e =
    let u = universe limits facts query w e in
    let n = accepted_named limits facts query w e in
    record {
      ascending = u.ascending;
      few_elements = universe_few limits facts query w e;
      few_relations = few_relations limits facts query w e;
      small = small_arities limits facts query w e;
      distinct = n.distinct;
      fitted = n.fitted;
      inside = λ x t. subst T (sym (u.members x)) (or_right (has x (left_strings w.program)) (in_facts x w.facts) t);
    }
