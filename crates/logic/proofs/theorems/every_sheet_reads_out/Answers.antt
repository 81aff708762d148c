use Rattle.logic.proofs.theorems.every_sheet_reads_out.Goals as goal
use Rattle.logic.proofs.Reading.{every_sheet_reads_out}

pub returns : goal.returns
returns c = every_sheet_reads_out
