use Rattle.std.proofs.Common.{List, Decides, subst}
use Rattle.terms.specs.declared.line.Line.{Line}
use Rattle.logic.specs.Lines.{EachLine}
use Rattle.logic.specs.Standing.{Served}
use Rattle.labels.specs.Ruled.{ruled}
use Rattle.judge.proofs.case.Case.settled.Goals as goal

pub returns-then-settled_alone : goal.returns-then-settled_alone
returns-then-settled_alone c =
    let s = c.args.self.now in
    let d = subst (λ (ls : List Line). Decides c.all_served.result (EachLine (Served (ruled s.rules) s.entries ls) ls)) c.lines.ensures c.all_served.ensures in (
      λ e. let a = c.settled_alone.ensures.0 c.if-settled_alone.true in record { clear = a.0; conclusions = a.1; inclusions = a.2; served = d.0 e },
      λ h. d.1 h.served,
    )
