use Rattle.std.proofs.Common.{rules, of_calls}
use Rattle.labels.proofs.Looking.{rising_by}
use Rattle.labels.proofs.rising.rises.Goals as goal

pub returns : goal.returns
returns c = rising_by c.args.lines.now c.is_sorted_by.result c.is_sorted_by.ensures.cases (λ a b q k. search (rules, of_calls))
