-- A question is its lines.
use Rattle.std.proofs.Common.{◌≡◌}
use denote.Struct.Record.{values_one}
use Rattle.arrayvec.specs.ArrayVec.{array_vec_code}
use Rattle.terms.specs.contracts.question.QuestionLine as LineRow
use Rattle.question.specs.declared.Question.{Question}
use Rattle.question.specs.contracts.Question as question_row
use Rattle.question.specs.Asked.{asked}

pub asked_one : (a b : Question) → asked a ≡ asked b → a ≡ b
asked_one a b e = values_one question_row.struct (question_row.the_propositions (array_vec_code (LineRow.the_row).coded) (LineRow.the_row).coded) a b (λ i. (record { items = e i }, tt))
