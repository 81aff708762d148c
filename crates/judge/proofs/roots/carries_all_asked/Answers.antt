use Rattle.std.proofs.Common.{rules, of_calls}
use Rattle.std.proofs.lemmas.Iterator.{YieldsList-from_slice}
use Rattle.logic.specs.Meeting.{blank_question_line}
use Rattle.logic.specs.Lines.{Carries, half_line}
use Rattle.labels.specs.Ruled.{ruled}
use Rattle.labels.specs.Labelled.{labelled}
use Rattle.labels.proofs.Searching.{each_from_all}
use Rattle.judge.proofs.roots.carries_all_asked.Goals as goal

pub returns : goal.returns
returns c =
    let r = c.args.tested.now in
    each_from_all blank_question_line (λ q. Carries (ruled r.rules.now).fineness (labelled r.label.now) (half_line q)) _ _ c.all.result c.all.ensures.ran (YieldsList-from_slice c.args.question.now cc) (λ x b q k. search (rules, of_calls))
