-- Standing sheets (complete tableaux without a clash): from them a holding is read out.
use Rattle.std.specs.Prelude.{◌≡◌, ℕ, ◌*◌, ◌<◌, false, ◌⊎◌, List, length, ℤ, pos, ◌≤ℤ◌}
use Rattle.std.specs.List.{AllByRecursion}
use Rattle.terms.specs.declared.concept.Concept.{Concept}
use Rattle.terms.specs.declared.concept.Concept.TheVariants.{Heading, Constant, Not, Less, Lesser, Exists}
use Rattle.terms.specs.declared.concept.Inclusion.{Inclusion}
use Rattle.terms.specs.declared.question.QuestionLine.{QuestionLine}
use Rattle.terms.specs.declared.line.Side.{Side}
use Rattle.terms.specs.declared.line.Side.TheVariants.{AtLeast, AtMost}
use Rattle.terms.specs.declared.line.Line.{Line}
use Rattle.terms.specs.declared.entry.Letter.TheVariants.{L}
use Rattle.logic.specs.Books.{Book, concept_at, EachInclusion}
use Rattle.logic.specs.Meeting.{EachAsked}
use Rattle.logic.specs.Lines.{line, EachLine, HasLine, Carries, half_line}
use Rattle.logic.specs.Clashes.{Clashes}
use Rattle.logic.specs.Conclusions.{conclusions_of, Passes}
use Rattle.logic.specs.Entries.{Entry, entry_at, label_at, AnyEntry, Faultless, Bare}

-- Of 'the lesser of c and d at most z' the label carries one: 'c at most z' or 'd at most z'.
abbrev pub Chooses : ℕ → List Line → Concept → Side → ℤ → Type 0
Chooses fineness label (Heading p) s z = Unit {0}
Chooses fineness label (Constant k) s z = Unit {0}
Chooses fineness label (Not c) s z = Unit {0}
Chooses fineness label (Less c k) s z = Unit {0}
Chooses fineness label (Lesser c d) AtLeast z = Unit {0}
Chooses fineness label (Lesser c d) AtMost z = Carries fineness label (line c AtMost z) ⊎ Carries fineness label (line d AtMost z)
Chooses fineness label (Exists r c) s z = Unit {0}

-- The label carries what its line l concludes.
pub record CarriesConclusions (b : Book) (label : List Line) (l : Line) : Type 0 where
  pub all : AllByRecursion (Carries b.fineness label) (conclusions_of b l)
  pub one : Chooses b.fineness label (concept_at b l.concept) l.side l.bound

-- z is the smallest number with P, or `most` if there is none or that is smaller.
pub record Smallest (P : ℤ → Type 0) (most z : ℤ) : Type 0 where
  pub bounds : (y : ℤ) → P y → z ≤ℤ y
  pub limit : z ≤ℤ most
  pub reached : (z ≡ most) ⊎ P z

-- z is the greatest number with P, or `least` if there is none or that is greater.
pub record Greatest (P : ℤ → Type 0) (least z : ℤ) : Type 0 where
  pub bounds : (y : ℤ) → P y → y ≤ℤ z
  pub limit : least ≤ℤ z
  pub reached : (z ≡ least) ⊎ P z

-- The smallest at-most bound on the concept c, or twice the fineness; the greatest at-least bound on it, or 0.
abbrev pub SmallestAtMost : ℕ → List Line → ℕ → ℤ → Type 0
SmallestAtMost fineness label c z = Smallest (λ y. HasLine label (line c AtMost y)) (pos (2 * fineness)) z

abbrev pub GreatestAtLeast : List Line → ℕ → ℤ → Type 0
GreatestAtLeast label c z = Greatest (λ y. HasLine label (line c AtLeast y)) (pos 0) z

-- The lower concept's smallest at-most bound is no more than the upper concept's greatest at-least bound.
pub record LiesUnder (fineness : ℕ) (label : List Line) (i : Inclusion) : Type 0 where
  pub high : ℤ
  pub low : ℤ
  pub smallest : SmallestAtMost fineness label i.lower high
  pub greatest : GreatestAtLeast label i.upper low
  pub under : high ≤ℤ low

-- The label keeps the inclusion, or that is struck.
abbrev pub KeepsInclusion : ℕ → List Line → Inclusion → Type 0
KeepsInclusion fineness label i = i.struck ≡ false → LiesUnder fineness label i

-- A label serves the line 'some r that is c at least z' of the label `from` (its entry can be the successor) if it carries all that the line passes on.
abbrev pub Serves : Book → List Line → ℕ → ℕ → ℤ → List Line → Type 0
Serves b from r c z label = (l : Line) → Passes b from r c z l → Carries b.fineness label l

-- If the line l is 'some r that is c at least z', with z at least 1, some entry serves it.
abbrev pub Served : Book → List Entry → List Line → Line → Type 0
Served b sheet label l =
    (r c : ℕ) → concept_at b l.concept ≡ Exists r c → l.side ≡ AtLeast → pos 1 ≤ℤ l.bound →
    AnyEntry (λ e. Serves b label r c l.bound e.label) sheet

-- What a label of a standing sheet keeps.
pub record Settled (b : Book) (sheet : List Entry) (label : List Line) : Type 0 where
  pub clear : ¬ Clashes b label
  pub conclusions : EachLine (CarriesConclusions b label) label
  pub inclusions : EachInclusion (KeepsInclusion b.fineness label) b
  pub served : EachLine (Served b sheet label) label

-- The entry k of a standing sheet obeys: it is without fault, it has the letter L and no field, and its label is settled.
pub record Stands (b : Book) (sheet : List Entry) (k : ℕ) : Type 0 where
  pub faultless : Faultless b (entry_at sheet k)
  pub letter : (entry_at sheet k).head.letter ≡ L
  pub unused : Bare (entry_at sheet k).head
  pub settled : Settled b sheet (label_at sheet k)

-- The sheet is an obeyed standing sheet.
abbrev pub Standing : Book → List Entry → Type 0
Standing b sheet = (k : ℕ) → k < length sheet → Stands b sheet k

-- The root of a standing sheet fits the question: it carries every question line.
pub record StandingFits (b : Book) (question : List QuestionLine) (sheet : List Entry) (root : ℕ) : Type 0 where
  pub stands : root < length sheet
  pub carries : EachAsked (λ q. Carries b.fineness (label_at sheet root) (half_line q)) question
