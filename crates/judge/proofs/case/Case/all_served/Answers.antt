use Rattle.std.proofs.Common.{rules, of_calls}
use Rattle.std.proofs.lemmas.Iterator.{YieldsList-from_slice}
use Rattle.logic.specs.Lines.{blank_line}
use Rattle.logic.specs.Standing.{Served}
use Rattle.labels.specs.Ruled.{ruled}
use Rattle.labels.proofs.Searching.{each_from_all}
use Rattle.judge.proofs.case.Case.all_served.Goals as goal

pub returns : goal.returns
returns c =
    let s = c.args.self.now in
    each_from_all blank_line (Served (ruled s.rules) s.entries c.args.label.now) _ _ c.all.result c.all.ensures.ran (YieldsList-from_slice c.args.label.now cc) (λ x b q k. search (rules, of_calls))
