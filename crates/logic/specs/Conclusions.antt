-- What follows from a line of a label (the expansion rules of a tableau): at the same individual, and at another.
use Rattle.std.specs.Prelude.{◌≡◌, ℕ, ◌*◌, cond, ◌⊎◌, List, [], ◌∷◌, ℤ, pos, ◌+ℤ◌, ◌-ℤ◌, ◌<ℤ◌, int_lt}
use Rattle.terms.specs.declared.concept.Concept.{Concept}
use Rattle.terms.specs.declared.concept.Concept.TheVariants.{Heading, Constant, Not, Less, Lesser, Exists}
use Rattle.terms.specs.declared.line.Side.{Side}
use Rattle.terms.specs.declared.line.Side.TheVariants.{AtLeast, AtMost}
use Rattle.terms.specs.declared.line.Line.{Line}
use Rattle.logic.specs.Books.{Book, concept_at}
use Rattle.logic.specs.Lines.{line, other, AnyLine}

-- The conclusions of a line with the bound z on a concept of the form given, all of which hold where it does. Their bounds may leave a label's range, and are not clipped.
-- 'The lesser at most z' has none: one of its parts is at most z, and it is not said which.
abbrev pub conclusions : ℕ → Concept → Side → ℤ → List Line
conclusions fineness (Heading p) s z = []
conclusions fineness (Constant k) s z = []
conclusions fineness (Not c) s z = line c (other s) (pos (2 * fineness) -ℤ z) ∷ []
conclusions fineness (Less c k) AtLeast z = cond (int_lt z (pos 1)) [] (line c AtLeast (z +ℤ pos (2 * k)) ∷ [])
conclusions fineness (Less c k) AtMost z = line c AtMost (z +ℤ pos (2 * k)) ∷ []
conclusions fineness (Lesser c d) AtLeast z = line c AtLeast z ∷ line d AtLeast z ∷ []
conclusions fineness (Lesser c d) AtMost z = []
conclusions fineness (Exists r c) s z = []

abbrev pub conclusions_of : Book → Line → List Line
conclusions_of b l = conclusions b.fineness (concept_at b l.concept) l.side l.bound

-- The line l is one of the conclusions.
abbrev pub Among : List Line → Line → Type 0
Among [] l = ⊥
Among (m ∷ ms) l = (l ≡ m) ⊎ Among ms l

-- m is a line 'some r that is d at most e', with e below z. At an individual to which r leads by z or more, d is then at most e; and that is the line l.
pub record Denies (b : Book) (r : ℕ) (z : ℤ) (m l : Line) : Type 0 where
  pub form : concept_at b m.concept ≡ Exists r l.concept
  pub high : m.side ≡ AtMost
  pub under : m.bound <ℤ z
  pub side : l.side ≡ AtMost
  pub bound : l.bound ≡ m.bound

-- A line 'some r that is c at least z' of a label passes on, to an individual to which r leads, 'c at least z', and what the label's lines deny there.
abbrev pub Passes : Book → List Line → ℕ → ℕ → ℤ → Line → Type 0
Passes b label r c z l = (l ≡ line c AtLeast z) ⊎ AnyLine (λ m. Denies b r z m l) label
