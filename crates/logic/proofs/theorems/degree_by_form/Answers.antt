use Rattle.logic.proofs.theorems.degree_by_form.Goals as goal
use Rattle.logic.proofs.Degrees.{degree_by_form}

pub returns : goal.returns
returns c = degree_by_form
