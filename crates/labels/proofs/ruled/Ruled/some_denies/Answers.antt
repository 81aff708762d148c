use Rattle.std.proofs.Common.{rules, of_calls}
use Rattle.labels.specs.Ruled.{ruled}
use Rattle.labels.specs.Labelled.{labelled}
use Rattle.labels.specs.Passing.{Denier}
use Rattle.labels.proofs.Searching.{some_below}
use Rattle.labels.proofs.ruled.Ruled.some_denies.Goals as goal

pub returns : goal.returns
returns c = some_below (Denier (ruled c.args.self.now.rules.now) (labelled c.args.self.now.label.now) c.args.z.role c.args.l) _ _ _ c.any.result (search rules) c.any.ensures.ran (λ x b q k. search (rules, of_calls))
