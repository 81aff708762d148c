use Rattle.logic.proofs.theorems.closed_means_unmet.Goals as goal
use Rattle.logic.proofs.Unmet.{closed_means_unmet}

pub returns : goal.returns
returns c = closed_means_unmet
