use Rattle.std.proofs.Common.{Decides, subst, rules}
use Rattle.std.proofs.lemmas.List.Elements.{contains_decides}
use Rattle.terms.specs.Among.{Among}
use Rattle.terms.specs.contracts.question.QuestionLinePartialEq.TheImpl.{ghosts}
use Rattle.question.proofs.Question.has.Goals as goal

pub returns : goal.returns
unfolding Among
returns c =
    subst (λ qs. Decides c.contains.result (Among qs c.args.line)) c.lines.ensures
    (contains_decides ghosts.eq (λ a b. search rules) c.lines.result.now c.args.line c.contains.result c.contains.ensures.cases)
