-- What it is that a holding meets a book and a question.
use Rattle.std.specs.Prelude.{◌≡◌, ℕ, ◌*◌, ◌<◌, ◌≤◌, false, List}
use Rattle.terms.specs.declared.concept.Inclusion.{Inclusion}
use Rattle.terms.specs.declared.question.Comparison.{Comparison}
use Rattle.terms.specs.declared.question.Comparison.TheVariants.{NotBelow, Above, NotAbove, Under}
use Rattle.terms.specs.declared.question.QuestionLine.{QuestionLine}
use Rattle.logic.specs.Places.{Each, Any}
use Rattle.logic.specs.Books.{Book, EachInclusion}
use Rattle.logic.specs.Holdings.{Holding, OnScale, unit, degree}

-- The degree v compares so with the degree k.
abbrev pub Compares : Comparison → ℕ → ℕ → Type 0
Compares NotBelow k v = k ≤ v
Compares Above k v = k < v
Compares NotAbove k v = v ≤ k
Compares Under k v = v < k

-- The inclusion holds at every individual, or is struck.
abbrev pub Includes : Book → Holding → Inclusion → Type 0
Includes b H i = i.struck ≡ false → (x : ℕ) → x < H.size → degree b H i.lower x ≤ degree b H i.upper x

-- The holding obeys the book (it is a model of the TBox).
abbrev pub Obeys : Book → Holding → Type 0
Obeys b H = EachInclusion (Includes b H) b

-- Each line of a question (an assertion about the individual asked for) has P; some line has.
abbrev pub blank_question_line : QuestionLine
blank_question_line = record { concept = 0; comparison = NotBelow; degree = 0 }

abbrev pub EachAsked : (QuestionLine → Type 0) → List QuestionLine → Type 0
EachAsked P question = Each blank_question_line P question

abbrev pub AnyAsked : (QuestionLine → Type 0) → List QuestionLine → Type 0
AnyAsked P question = Any blank_question_line P question

-- The line of a question holds at x.
abbrev pub Answers : Book → Holding → ℕ → QuestionLine → Type 0
Answers b H x q = Compares q.comparison (q.degree * unit b.fineness H.top) (degree b H q.concept x)

-- The holding meets book and question at the individual x: its scale serves, it obeys the book, and the question's lines hold at x.
pub record Meets (b : Book) (question : List QuestionLine) (H : Holding) (x : ℕ) : Type 0 where
  pub here : x < H.size
  pub scale : OnScale b.fineness H.top
  pub obeys : Obeys b H
  pub answers : EachAsked (Answers b H x) question
