use Rattle.std.proofs.Common.{List, Decides, subst}
use Rattle.terms.specs.declared.line.Line.{Line}
use Rattle.logic.specs.Standing.{Serves}
use Rattle.labels.specs.Ruled.{ruled}
use Rattle.judge.proofs.case.Case.serves.Goals as goal

pub returns : goal.returns
returns c =
    let z = c.args.z in
    subst (λ (ls : List Line). Decides c.serves.result (Serves (ruled c.args.self.now.rules) c.args.from.now z.role z.part z.bound ls)) c.label-label.ensures c.serves.ensures
