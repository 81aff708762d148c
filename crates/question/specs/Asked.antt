-- The lines of a question.
use Rattle.std.specs.Prelude.{List}
use Rattle.terms.specs.declared.question.QuestionLine.{QuestionLine}
use Rattle.question.specs.declared.Question.{Question}
use Rattle.book.specs.States.{BookModel, State}

abbrev pub asked : Question → List QuestionLine
asked q = q.lines.items

-- a book and the lines beside it
abbrev pub beside : BookModel → List QuestionLine → State
beside b qs = record { book = b; question = qs }
