use Rattle.logic.proofs.theorems.tests_agree.Goals as goal
use Rattle.logic.proofs.Computed.{tests_agree}

pub returns : goal.returns
returns c = tests_agree
