-- What the five calls answer to hosts: each the fields of an answer that meets its definition.
use Rattle.std.specs.Prelude.{ℕ, ◌≡◌, List, Result}
use Rattle.definition.specs.Text.{Text}
use Rattle.definition.specs.Limits.{document_01}
use Rattle.definition.specs.Calls.{CheckMeets, RunMeets, CountsMeet, ChainMeets, JoinMeets}
use Rattle.definition.specs.declared.Refusal.{Refusal}
use Rattle.definition.specs.declared.Checked.{Checked}
use Rattle.definition.specs.declared.RunAnswer.{RunAnswer}
use Rattle.definition.specs.declared.RefusedJoin.{RefusedJoin}
use Rattle.fields.specs.declared.CChecked.{CChecked}
use Rattle.fields.specs.declared.CRan.{CRan}
use Rattle.fields.specs.declared.CChained.{CChained}
use Rattle.fields.specs.declared.CJoined.{CJoined}
use Rattle.fields.specs.Fields.{checked_fields, ran_fields, chained_fields, joined_fields}

pub record CheckAnswers (facts query : Text) (r : CChecked) : Type 0 where
  pub answer : Checked
  pub meets : CheckMeets document_01 facts query answer
  pub fields : r ≡ checked_fields answer

pub record RunAnswers (facts query : Text) (budget : ℕ) (store : List ℕ) (output : Text) (r : CRan) (store' : List ℕ) (output' : Text) : Type 0 where
  pub answer : RunAnswer
  pub meets : RunMeets document_01 facts query budget store output answer.ran store' output'
  pub counts : CountsMeet document_01 facts query store answer.counts store'
  pub fields : r ≡ ran_fields answer

pub record ChainAnswers (facts name first second : Text) (buffer : List ℕ) (r : CChained) (buffer' : List ℕ) : Type 0 where
  pub answer : Result ℕ Refusal
  pub meets : ChainMeets document_01 facts name first second buffer answer buffer'
  pub fields : r ≡ chained_fields answer

pub record JoinAnswers (first second output : Text) (r : CJoined) (output' : Text) : Type 0 where
  pub answer : Result ℕ RefusedJoin
  pub meets : JoinMeets document_01 first second output answer output'
  pub fields : r ≡ joined_fields answer
