use Rattle.logic.proofs.theorems.standing_is_met.Goals as goal
use Rattle.logic.proofs.Truth.{standing_is_met}

pub returns : goal.returns
returns c = standing_is_met
