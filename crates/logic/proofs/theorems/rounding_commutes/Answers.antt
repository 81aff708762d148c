use Rattle.logic.proofs.theorems.rounding_commutes.Goals as goal
use Rattle.logic.proofs.Rounds.{rounding_commutes}

pub returns : goal.returns
returns c = rounding_commutes
