use Rattle.std.proofs.Common.{◌≡◌, rules, of_calls}
use Rattle.std.proofs.lemmas.Iterator.{YieldsList-from_slice}
use Rattle.logic.specs.Meeting.{AnyAsked}
use Rattle.logic.specs.Lines.{blank_line, half_line}
use Rattle.labels.proofs.Searching.{each_from_all}
use Rattle.closing.proofs.root.root_asks.Goals as goal

pub returns : goal.returns
returns c =
    each_from_all blank_line (λ l. AnyAsked (λ q. half_line q ≡ l) c.args.question.now) _ _ c.all.result c.all.ensures.ran (YieldsList-from_slice c.args.label.now cc) (λ x b q k. search (rules, of_calls))
