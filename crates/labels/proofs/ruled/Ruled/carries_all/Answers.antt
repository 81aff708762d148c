use Rattle.std.proofs.Common.{rules}
use Rattle.logic.specs.Lines.{Carries}
use Rattle.labels.specs.Ruled.{ruled}
use Rattle.labels.specs.Labelled.{labelled}
use Rattle.labels.proofs.Following.{all_decides}
use Rattle.labels.proofs.ruled.Ruled.carries_all.Goals as goal

pub returns : goal.returns
returns c = all_decides (Carries (ruled c.args.self.now.rules.now).fineness (labelled c.args.self.now.label.now)) _ c.args.all (search rules)
