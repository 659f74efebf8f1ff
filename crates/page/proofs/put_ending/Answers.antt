use mathlib.Core.Path.{sym, subst}
use mathlib.Core.Bool.{true}
use Rattle.definition.specs.Answer.{ending_word}
use Rattle.definition.specs.declared.Ending.{Ending}
use Rattle.lines.specs.Put.{Put}
use Rattle.page.proofs.put_ending.Goals as goal

pub returns-in-Done : goal.returns-in-Done
returns-in-Done c = let a = c.args in
    subst (λ (e : Ending). Put true a.out.now 0 (ending_word e) c.put_text.result c.put_text.new.out) (sym c.in-Done.is) c.put_text.ensures

pub returns-in-Spent : goal.returns-in-Spent
returns-in-Spent c = let a = c.args in
    subst (λ (e : Ending). Put true a.out.now 0 (ending_word e) c.put_text-in-Spent.result c.put_text-in-Spent.new.out) (sym c.in-Spent.is) c.put_text-in-Spent.ensures

pub returns-in-Full : goal.returns-in-Full
returns-in-Full c = let a = c.args in
    subst (λ (e : Ending). Put true a.out.now 0 (ending_word e) c.put_text-in-Full.result c.put_text-in-Full.new.out) (sym c.in-Full.is) c.put_text-in-Full.ensures
