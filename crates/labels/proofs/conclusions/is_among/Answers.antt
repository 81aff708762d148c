use Rattle.std.proofs.Common.{rules}
use Rattle.labels.proofs.Following.{among_decides}
use Rattle.labels.proofs.conclusions.is_among.Goals as goal

pub returns : goal.returns
returns c = among_decides _ c.args.all c.args.l (search rules)
