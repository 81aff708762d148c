-- The line that a question is read to have past its last one.
use Rattle.terms.specs.declared.question.QuestionLine.{QuestionLine}
use Rattle.terms.specs.declared.question.Comparison.TheVariants.{NotBelow}

abbrev pub blank_line : QuestionLine
blank_line = record { concept = 0; comparison = NotBelow; degree = 0 }
