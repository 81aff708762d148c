use Rattle.labels.specs.Ruled.{ruled}
use Rattle.labels.specs.Labelled.{labelled}
use Rattle.labels.proofs.Meaning.{serves_decides}
use Rattle.labels.proofs.ruled.Ruled.serves.Goals as goal

pub returns : goal.returns
returns c = serves_decides (ruled c.args.self.now.rules.now) c.args.from.now c.args.z.role c.args.z.part c.args.z.bound (labelled c.args.self.now.label.now) c.serves_by_line.result c.serves_by_line.ensures
