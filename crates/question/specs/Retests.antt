-- The retest of a question: a line that stood when it was entered may stand no longer, since a book can be begun anew beside it.
use Rattle.std.specs.Prelude.{ℕ, ◌<◌, ◌≤◌, List, length, Ok, Err, Result, slice_index_or}
use Rattle.terms.specs.declared.question.QuestionLine.{QuestionLine}
use Rattle.terms.specs.declared.refusal.Refusal.{Refusal}
use Rattle.terms.specs.declared.refusal.Refusal.TheVariants.{Fineness, Full, Missing, TooHigh, BadName, Already, NoLines, NoRoom, OutOfOrder, BrokenRule, BadRoot, Unfit, BadText, NoMemory}
use Rattle.terms.specs.declared.refusal.Refused.{Refused}
use Rattle.terms.specs.Answers.{Answered}
use Rattle.question.specs.Blanks.{blank_line}
use Rattle.book.specs.States.{BookModel}

-- the line has the ground: 3, its concept does not stand in the book; 4, its degree is above the fineness; no other
abbrev pub LineGround : BookModel → Refusal → QuestionLine → Type 0
LineGround b Fineness q = ⊥
LineGround b Full q = ⊥
LineGround b Missing q = length b.concepts ≤ q.concept
LineGround b TooHigh q = b.fineness < q.degree
LineGround b BadName q = ⊥
LineGround b Already q = ⊥
LineGround b NoLines q = ⊥
LineGround b NoRoom q = ⊥
LineGround b OutOfOrder q = ⊥
LineGround b BrokenRule q = ⊥
LineGround b BadRoot q = ⊥
LineGround b Unfit q = ⊥
LineGround b BadText q = ⊥
LineGround b NoMemory q = ⊥

-- the line of number k is the first that has the ground
pub record FirstLine (b : BookModel) (qs : List QuestionLine) (e : Refusal) (k : ℕ) : Type 0 where
  pub stands : k < length qs
  pub applies : LineGround b e (slice_index_or qs k blank_line)
  pub first : (j : ℕ) → j < k → ¬ LineGround b e (slice_index_or qs j blank_line)

-- some line has the ground
unfoldable pub SomeLine : BookModel → List QuestionLine → Refusal → Type 0
SomeLine b qs e = (k : ℕ) × (k < length qs) × LineGround b e (slice_index_or qs k blank_line)

-- The retest passes if no line has a ground; else it is refused with the lower number, at the first line that has it.
abbrev pub Retested : BookModel → List QuestionLine → Result (Unit {0}) Refused → Type 0
Retested b qs (Ok u) = Answered (SomeLine b qs) (Ok u)
Retested b qs (Err x) = Answered {X = Unit {0}} (SomeLine b qs) (Err x.refusal) × FirstLine b qs x.refusal x.place
