-- What is passed on, line by line.
use Rattle.std.specs.Prelude.{◌≡◌, ℕ, List, ℤ, pos, ◌≤ℤ◌, ◌<ℤ◌, Some, None, Option}
use Rattle.terms.specs.declared.concept.Concept.{Concept}
use Rattle.terms.specs.declared.concept.Concept.TheVariants.{Heading, Constant, Not, Less, Lesser, Exists}
use Rattle.terms.specs.declared.line.Side.TheVariants.{AtLeast, AtMost}
use Rattle.terms.specs.declared.line.Line.{Line}
use Rattle.logic.specs.Books.{Book, StandsIn, concept_at}
use Rattle.logic.specs.Lines.{line, HasLine, Carries}
use Rattle.labels.specs.declared.passing.Reach.{Reach}

-- The line m says at most less than z.
pub record Under (z : ℤ) (m : Line) : Type 0 where
  pub high : m.side ≡ AtMost
  pub under : m.bound <ℤ z

-- The label has a line on the concept c that denies, over r, what the line l says.
pub record Denier (b : Book) (label : List Line) (r : ℕ) (l : Line) (c : ℕ) : Type 0 where
  pub form : concept_at b c ≡ Exists r l.concept
  pub stands : HasLine label (line c AtMost l.bound)

abbrev pub SomeDenier : Book → List Line → ℕ → Line → Type 0
SomeDenier b label r l = (c : ℕ) × StandsIn b c × Denier b label r l c

-- The line l is 'some role that is part at least bound', with a bound of at least 1.
pub record ReachesBy (b : Book) (l : Line) (x : Reach) : Type 0 where
  pub form : concept_at b l.concept ≡ Exists x.role x.part
  pub side : l.side ≡ AtLeast
  pub positive : pos 1 ≤ℤ l.bound
  pub bound : x.bound ≡ l.bound

-- What the line reaches; none only if there is nothing.
abbrev pub Reaching : Book → Line → Option Reach → Type 0
Reaching b l (Some x) = ReachesBy b l x
Reaching b l None = (x : Reach) → ¬ ReachesBy b l x

-- The label carries what the line m, on a concept of the form given, denies over r to z.
abbrev pub DenialBy : ℕ → ℕ → ℤ → List Line → Concept → Line → Type 0
DenialBy fineness r z label (Heading p) m = Unit {0}
DenialBy fineness r z label (Constant k) m = Unit {0}
DenialBy fineness r z label (Not c) m = Unit {0}
DenialBy fineness r z label (Less c k) m = Unit {0}
DenialBy fineness r z label (Lesser c d) m = Unit {0}
DenialBy fineness r z label (Exists q d) m = q ≡ r → Under z m → Carries fineness label (line d AtMost m.bound)

abbrev pub DenialOf : Book → ℕ → ℤ → List Line → Line → Type 0
DenialOf b r z label m = DenialBy b.fineness r z label (concept_at b m.concept) m
