use Rattle.logic.proofs.theorems.question_line_by_halves.Goals as goal
use Rattle.logic.proofs.Rounds.{question_line_by_halves}

pub returns : goal.returns
returns c = question_line_by_halves
