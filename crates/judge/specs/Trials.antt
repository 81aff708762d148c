-- A judgement of a sheet with one more line on trial.
use Rattle.std.specs.Prelude.{List, is_ok, Decides, Result}
use Rattle.terms.specs.declared.question.QuestionLine.{QuestionLine}
use Rattle.terms.specs.declared.refusal.Refused.{Refused}
use Rattle.book.specs.States.{BookModel}
use Rattle.question.specs.Asked.{beside}
use Rattle.question.specs.Trials.{Tried}
use Rattle.sheet.specs.declared.Finished.{Finished}
use Rattle.judge.specs.declared.verdict.Verdict.{Verdict}
use Rattle.judge.specs.Verdicts.{Judged, Obeyed}

-- The answer is that of the table, and the sheet is accepted exactly if it obeys.
pub record JudgedExactly (b : BookModel) (f : Finished) (qs : List QuestionLine) (r : Result Verdict Refused) : Type 0 where
  pub judged : Judged b qs f r
  pub exact : Decides (is_ok r) (Obeyed b qs f)

-- Either the line is not laid, and its least ground is the answer, at place 0; or the answer is that of the question with the line.
abbrev pub JudgedOnTrial : BookModel → List QuestionLine → QuestionLine → Finished → Result Verdict Refused → Type 0
JudgedOnTrial b qs q f r = Tried (JudgedExactly b f) (beside b qs) q r
