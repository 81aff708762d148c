-- That the computing forms agree with the relations: each is true exactly where its relation holds.
use Rattle.std.specs.Prelude.{ℕ, List, ℤ, Decides}
use Rattle.terms.specs.declared.question.QuestionLine.{QuestionLine}
use Rattle.terms.specs.declared.line.Side.{Side}
use Rattle.terms.specs.declared.line.Line.{Line}
use Rattle.terms.specs.declared.entry.Letter.{Letter}
use Rattle.terms.specs.declared.entry.Head.{Head}
use Rattle.logic.specs.Books.{Book}
use Rattle.logic.specs.Holdings.{Holding, OnScale, Fit}
use Rattle.logic.specs.Meeting.{Obeys, Meets}
use Rattle.logic.specs.Lines.{HasLine, Carries}
use Rattle.logic.specs.Clashes.{Beyond, Clashes}
use Rattle.logic.specs.Conclusions.{Among, Passes}
use Rattle.logic.specs.Entries.{Entry, Faultless}
use Rattle.logic.specs.Closing.{Rule, Closes, Closing, ClosingFits}
use Rattle.logic.specs.Standing.{Serves, Settled, Stands, Standing, StandingFits}
use Rattle.logic.specs.ReadOut.{ReadOut}
use Rattle.logic.specs.LineTests.{has_test, among_test, carries_test, beyond_test, clashes_test, passes_test, faultless_test}
use Rattle.logic.specs.MeetingTests.{scale_test, fit_test, obeys_test, meets_test}
use Rattle.logic.specs.ClosingTests.{rule_test, closes_test, closing_test, closing_fits_test}
use Rattle.logic.specs.StandingTests.{serves_test, settled_test, stands_test, standing_test, standing_fits_test}
use Rattle.logic.specs.ReadingTests.{read_out}

pub record TestsAgree : Type 0 where
  pub scale : (fineness top : ℕ) → Decides (scale_test fineness top) (OnScale fineness top)
  pub fit : (fineness size top : ℕ) → Decides (fit_test fineness size top) (Fit fineness size top)
  pub obeys : (b : Book) (H : Holding) → Decides (obeys_test b H) (Obeys b H)
  pub meets : (b : Book) (question : List QuestionLine) (H : Holding) (x : ℕ) → Decides (meets_test b question H x) (Meets b question H x)
  pub has : (label : List Line) (l : Line) → Decides (has_test label l) (HasLine label l)
  pub among : (lines : List Line) (l : Line) → Decides (among_test lines l) (Among lines l)
  pub carries : (fineness : ℕ) (label : List Line) (l : Line) → Decides (carries_test fineness label l) (Carries fineness label l)
  pub beyond : (fineness : ℕ) (s : Side) (z : ℤ) → Decides (beyond_test fineness s z) (Beyond fineness s z)
  pub clashes : (b : Book) (label : List Line) → Decides (clashes_test b label) (Clashes b label)
  pub passes : (b : Book) (label : List Line) (r c : ℕ) (z : ℤ) (l : Line) → Decides (passes_test b label r c z l) (Passes b label r c z l)
  pub faultless : (b : Book) (e : Entry) → Decides (faultless_test b e) (Faultless b e)
  pub rule : (a : Letter) (b : Book) (k : ℕ) (head : Head) (label first second : List Line) →
      Decides (rule_test a b k head label first second) (Rule a b k head label first second)
  pub closes : (b : Book) (sheet : List Entry) (k : ℕ) → Decides (closes_test b sheet k) (Closes b sheet k)
  pub closing : (b : Book) (sheet : List Entry) → Decides (closing_test b sheet) (Closing b sheet)
  pub closing_fits : (question : List QuestionLine) (sheet : List Entry) (root : ℕ) → Decides (closing_fits_test question sheet root) (ClosingFits question sheet root)
  pub serves : (b : Book) (from : List Line) (r c : ℕ) (z : ℤ) (label : List Line) → Decides (serves_test b from r c z label) (Serves b from r c z label)
  pub settled : (b : Book) (sheet : List Entry) (label : List Line) → Decides (settled_test b sheet label) (Settled b sheet label)
  pub stands : (b : Book) (sheet : List Entry) (k : ℕ) → Decides (stands_test b sheet k) (Stands b sheet k)
  pub standing : (b : Book) (sheet : List Entry) → Decides (standing_test b sheet) (Standing b sheet)
  pub standing_fits : (b : Book) (question : List QuestionLine) (sheet : List Entry) (root : ℕ) →
      Decides (standing_fits_test b question sheet root) (StandingFits b question sheet root)
  pub read : (b : Book) (sheet : List Entry) → ReadOut b sheet (read_out b sheet)
