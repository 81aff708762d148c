-- Closing sheets (closed tableaux): each entry shows by the rule of its letter that no individual keeps its label, if none keeps its children's.
use Rattle.std.specs.Prelude.{◌≡◌, ℕ, ◌-◌, ◌*◌, ◌<◌, ◌≤◌, false, ◌⊎◌, List, length, ℤ, pos, ◌≤ℤ◌}
use Rattle.terms.specs.declared.concept.Concept.{Concept}
use Rattle.terms.specs.declared.concept.Concept.TheVariants.{Heading, Constant, Not, Less, Lesser, Exists}
use Rattle.terms.specs.declared.question.QuestionLine.{QuestionLine}
use Rattle.terms.specs.declared.line.Side.{Side}
use Rattle.terms.specs.declared.line.Side.TheVariants.{AtLeast, AtMost}
use Rattle.terms.specs.declared.line.Line.{Line}
use Rattle.terms.specs.declared.entry.Letter.{Letter}
use Rattle.terms.specs.declared.entry.Letter.TheVariants.{Z, N, S, M, I, E, L}
use Rattle.terms.specs.declared.entry.Head.{Head}
use Rattle.logic.specs.Books.{Book, concept_at, inclusion_at}
use Rattle.logic.specs.Meeting.{AnyAsked}
use Rattle.logic.specs.Lines.{line, line_at, EachLine, HasLine, half_line}
use Rattle.logic.specs.Clashes.{Clashes}
use Rattle.logic.specs.Conclusions.{conclusions_of, Among, Passes}
use Rattle.logic.specs.Entries.{Entry, entry_at, label_at, Faultless, Bare}

-- The line at the entry's place, and its concept's form.
abbrev pub placed : Head → List Line → Line
placed head label = line_at label head.place

abbrev pub placed_form : Book → Head → List Line → Concept
placed_form b head label = concept_at b (placed head label).concept

-- Each line of the child equals one of the label's, or is new.
abbrev pub Adds : List Line → (Line → Type 0) → List Line → Type 0
Adds label New child = EachLine (λ l. HasLine label l ⊎ New l) child

-- The entry k has one child, of a lower number; or two.
pub record OneChild (k : ℕ) (h : Head) : Type 0 where
  pub first : h.first < k
  pub second : h.second ≡ 0

pub record TwoChildren (k : ℕ) (h : Head) : Type 0 where
  pub first : h.first < k
  pub second : h.second < k

-- The entry names no inclusion and no step.
pub record NoInclusion (h : Head) : Type 0 where
  pub inclusion : h.inclusion ≡ 0
  pub step : h.step ≡ 0

-- The concept has the form 'not c', 'c less k', 'the lesser of c and d'.
abbrev pub IsNot : Concept → Type 0
IsNot (Heading p) = ⊥
IsNot (Constant k) = ⊥
IsNot (Not c) = Unit {0}
IsNot (Less c k) = ⊥
IsNot (Lesser c d) = ⊥
IsNot (Exists r c) = ⊥

abbrev pub IsLess : Concept → Type 0
IsLess (Heading p) = ⊥
IsLess (Constant k) = ⊥
IsLess (Not c) = ⊥
IsLess (Less c k) = Unit {0}
IsLess (Lesser c d) = ⊥
IsLess (Exists r c) = ⊥

abbrev pub IsLesser : Concept → Type 0
IsLesser (Heading p) = ⊥
IsLesser (Constant k) = ⊥
IsLesser (Not c) = ⊥
IsLesser (Less c k) = ⊥
IsLesser (Lesser c d) = Unit {0}
IsLesser (Exists r c) = ⊥

-- The line at the place is on a concept of the form asked for, and the one child adds its conclusions.
pub record Concludes (Form : Concept → Type 0) (b : Book) (k : ℕ) (head : Head) (label child : List Line) : Type 0 where
  pub place : head.place < length label
  pub form : Form (placed_form b head label)
  pub one : OneChild k head
  pub unused : NoInclusion head
  pub adds : Adds label (Among (conclusions_of b (placed head label))) child

-- On 'the lesser of c and d at most z' the first child adds 'c at most z', the second 'd at most z'.
abbrev pub Splits : Concept → ℤ → List Line → List Line → List Line → Type 0
Splits (Heading p) z label first second = ⊥
Splits (Constant k) z label first second = ⊥
Splits (Not c) z label first second = ⊥
Splits (Less c k) z label first second = ⊥
Splits (Lesser c d) z label first second = Adds label (λ l. l ≡ line c AtMost z) first × Adds label (λ l. l ≡ line d AtMost z) second
Splits (Exists r c) z label first second = ⊥

-- The line at the place is 'the lesser at most', and two children divide it.
pub record LesserAtMost (b : Book) (k : ℕ) (head : Head) (label first second : List Line) : Type 0 where
  pub place : head.place < length label
  pub two : TwoChildren k head
  pub unused : NoInclusion head
  pub adds : Splits (placed_form b head label) (placed head label).bound label first second

-- All lines of the child are passed on by 'some r that is c at least z'.
abbrev pub Reaches : Book → Concept → ℤ → List Line → List Line → Type 0
Reaches b (Heading p) z label child = ⊥
Reaches b (Constant k) z label child = ⊥
Reaches b (Not c) z label child = ⊥
Reaches b (Less c k) z label child = ⊥
Reaches b (Lesser c d) z label child = ⊥
Reaches b (Exists r c) z label child = EachLine (Passes b label r c z) child

-- Z: the label clashes. No field is used.
pub record ClashRule (b : Book) (head : Head) (label : List Line) : Type 0 where
  pub clashes : Clashes b label
  pub unused : Bare head

-- N: by a line on 'not c'.
abbrev pub NotRule : Book → ℕ → Head → List Line → List Line → Type 0
NotRule b k head label child = Concludes IsNot b k head label child

-- S: by a line on 'c less k'.
abbrev pub LessRule : Book → ℕ → Head → List Line → List Line → Type 0
LessRule b k head label child = Concludes IsLess b k head label child

-- M: by a line on 'the lesser of c and d'. At least: one child adds both conclusions. At most: two children.
abbrev pub LesserBy : Side → Book → ℕ → Head → List Line → List Line → List Line → Type 0
LesserBy AtLeast b k head label first second = Concludes IsLesser b k head label first
LesserBy AtMost b k head label first second = LesserAtMost b k head label first second

abbrev pub LesserRule : Book → ℕ → Head → List Line → List Line → List Line → Type 0
LesserRule b k head label first second = LesserBy (placed head label).side b k head label first second

-- I: by an unstruck inclusion, at a step of 1 to twice the fineness (a cut). Either the lower concept is below the step, which the first child adds, or the upper concept is not, which the second adds.
pub record InclusionRule (b : Book) (k : ℕ) (head : Head) (label first second : List Line) : Type 0 where
  pub stands : head.inclusion < length b.inclusions
  pub unstruck : (inclusion_at b head.inclusion).struck ≡ false
  pub low : 1 ≤ head.step
  pub high : head.step ≤ 2 * b.fineness
  pub two : TwoChildren k head
  pub unused : head.place ≡ 0
  pub under : Adds label (λ l. l ≡ line (inclusion_at b head.inclusion).lower AtMost (pos (head.step - 1))) first
  pub over : Adds label (λ l. l ≡ line (inclusion_at b head.inclusion).upper AtLeast (pos head.step)) second

-- E: by a line 'some r that is c at least z', with z at least 1. The one child has only lines that it passes on.
pub record ExistsRule (b : Book) (k : ℕ) (head : Head) (label child : List Line) : Type 0 where
  pub place : head.place < length label
  pub side : (placed head label).side ≡ AtLeast
  pub positive : pos 1 ≤ℤ (placed head label).bound
  pub one : OneChild k head
  pub unused : NoInclusion head
  pub reaches : Reaches b (placed_form b head label) (placed head label).bound label child

-- The rule of a letter, for the entry k with the head and label given, where `first` and `second` are the labels of the children that it names. L has none in a closing sheet.
abbrev pub Rule : Letter → Book → ℕ → Head → List Line → List Line → List Line → Type 0
Rule Z b k head label first second = ClashRule b head label
Rule N b k head label first second = NotRule b k head label first
Rule S b k head label first second = LessRule b k head label first
Rule M b k head label first second = LesserRule b k head label first second
Rule I b k head label first second = InclusionRule b k head label first second
Rule E b k head label first second = ExistsRule b k head label first
Rule L b k head label first second = ⊥

abbrev pub KeepsRule : Book → List Entry → ℕ → Entry → Type 0
KeepsRule b sheet k e = Rule e.head.letter b k e.head e.label (label_at sheet e.head.first) (label_at sheet e.head.second)

-- The entry k of a closing sheet obeys: it is without fault, and keeps the rule of its letter.
pub record Closes (b : Book) (sheet : List Entry) (k : ℕ) : Type 0 where
  pub faultless : Faultless b (entry_at sheet k)
  pub rule : KeepsRule b sheet k (entry_at sheet k)

-- The sheet is an obeyed closing sheet.
abbrev pub Closing : Book → List Entry → Type 0
Closing b sheet = (k : ℕ) → k < length sheet → Closes b sheet k

-- The root of a closing sheet fits the question: each of its lines equals a question line's.
pub record ClosingFits (question : List QuestionLine) (sheet : List Entry) (root : ℕ) : Type 0 where
  pub stands : root < length sheet
  pub asked : EachLine (λ l. AnyAsked (λ q. half_line q ≡ l) question) (label_at sheet root)
