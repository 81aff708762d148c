use Rattle.std.proofs.Common.{rules, of_calls}
use Rattle.std.proofs.lemmas.Iterator.{YieldsList-from_slice}
use Rattle.logic.specs.Lines.{blank_line}
use Rattle.labels.specs.Ruled.{ruled}
use Rattle.labels.specs.Labelled.{labelled}
use Rattle.labels.specs.Passing.{DenialOf}
use Rattle.labels.proofs.Searching.{each_from_all}
use Rattle.labels.proofs.ruled.Ruled.carries_all_denied.Goals as goal

pub returns : goal.returns
returns c = each_from_all blank_line (DenialOf (ruled c.args.self.now.rules.now) c.args.z.role c.args.z.bound (labelled c.args.self.now.label.now)) _ _ c.all.result c.all.ensures.ran (YieldsList-from_slice c.args.from.now cc) (λ x b q k. search (rules, of_calls))
