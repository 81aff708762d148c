use Rattle.std.proofs.Common.{rules, of_calls}
use Rattle.labels.specs.Lookup.{Lower}
use Rattle.labels.proofs.Looking.{parted, lower_before, lower_test, lower_agrees}
use Rattle.labels.proofs.rising.Rising.turn.Goals as goal

pub returns : goal.returns
returns c =
    let r = c.args.self.now in
    let n = c.args.concept in
    parted (Lower n) (lower_test n) (lower_agrees n) (lower_before n) r.lines.now r.up c.partition_point.result c.partition_point.ensures.bound c.partition_point.ensures.partitioned (λ a b q k. search (rules, of_calls))
