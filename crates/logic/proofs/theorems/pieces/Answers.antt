use Rattle.logic.proofs.theorems.pieces.Goals as goal
use Rattle.logic.proofs.Computed.{pieces}

pub returns : goal.returns
returns c = pieces
