-- A judgement of a question with one more line on trial.
use Rattle.std.specs.Prelude.{◌≡◌, ◌⊎◌, List, [], ◌∷◌, ◌++◌, Ok, Err, Result}
use Rattle.terms.specs.declared.question.QuestionLine.{QuestionLine}
use Rattle.terms.specs.declared.refusal.Refusal.{Refusal}
use Rattle.terms.specs.declared.refusal.Refused.{Refused}
use Rattle.terms.specs.Refusals.{unplaced}
use Rattle.terms.specs.Answers.{Answered}
use Rattle.terms.specs.Among.{Among}
use Rattle.book.specs.States.{State, trial}
use Rattle.book.specs.Grounds.{Ground}

-- ls are the lines qs with q on trial
abbrev pub OnTrial : List QuestionLine → QuestionLine → List QuestionLine → Type 0
OnTrial qs q ls = (Among qs q × (ls ≡ qs)) ⊎ (¬ Among qs q × (ls ≡ qs ++ q ∷ []))

-- the line is not laid: its least ground is the answer, at place 0
pub record NotLaid {A : Type 0} (s : State) (q : QuestionLine) (r : Result A Refused) : Type 0 where
  pub ground : Refusal
  pub refused : Answered {X = Unit {0}} (Ground s (trial q)) (Err ground)
  pub told : r ≡ Err (unplaced ground)

-- the line is laid, and the answer is that of the question with it
pub record LaidAndJudged {A : Type 0} (judged : List QuestionLine → Result A Refused → Type 0) (s : State) (q : QuestionLine) (r : Result A Refused) : Type 0 where
  pub accepted : Answered {X = Unit {0}} (Ground s (trial q)) (Ok tt)
  pub lines : List QuestionLine
  pub on_trial : OnTrial s.question q lines
  pub answered : judged lines r

abbrev pub Tried : {A : Type 0} → (List QuestionLine → Result A Refused → Type 0) → State → QuestionLine → Result A Refused → Type 0
Tried judged s q r = NotLaid s q r ⊎ LaidAndJudged judged s q r
