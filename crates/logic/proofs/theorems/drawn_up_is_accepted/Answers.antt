use Rattle.logic.proofs.theorems.drawn_up_is_accepted.Goals as goal
use Rattle.logic.proofs.Drawn.{drawn_up_is_accepted}

pub returns : goal.returns
returns c = drawn_up_is_accepted
