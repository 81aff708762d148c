use Rattle.std.proofs.Common.{◌≡◌, List, Decides, subst}
use Rattle.terms.specs.declared.line.Line.{Line}
use Rattle.logic.specs.Meeting.{AnyAsked}
use Rattle.logic.specs.Lines.{EachLine, half_line}
use Rattle.judge.proofs.case.Case.root_is_asked.Goals as goal

pub returns : goal.returns
returns c =
    subst (λ (ls : List Line). Decides c.root_asks.result (EachLine (λ l. AnyAsked (λ q. half_line q ≡ l) c.args.self.now.question.now) ls)) c.lines.ensures c.root_asks.ensures
