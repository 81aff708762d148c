-- Clashes: labels that no individual keeps.
use Rattle.std.specs.Prelude.{◌≡◌, ℕ, ◌*◌, ◌⊎◌, List, ℤ, pos, ◌<ℤ◌}
use Rattle.terms.specs.declared.concept.Concept.{Concept}
use Rattle.terms.specs.declared.concept.Concept.TheVariants.{Heading, Constant, Not, Less, Lesser, Exists}
use Rattle.terms.specs.declared.line.Side.{Side}
use Rattle.terms.specs.declared.line.Side.TheVariants.{AtLeast, AtMost}
use Rattle.terms.specs.declared.line.Line.{Line}
use Rattle.logic.specs.Books.{Book, concept_at}
use Rattle.logic.specs.Lines.{AnyLine, Keeps}

-- By range: no degree is above twice the fineness, and none is below 0.
abbrev pub Beyond : ℕ → Side → ℤ → Type 0
Beyond fineness AtLeast z = pos (2 * fineness) <ℤ z
Beyond fineness AtMost z = z <ℤ pos 0

-- By a constant: the degree k, which is 2k half steps, breaks the line.
abbrev pub Broken : Concept → Side → ℤ → Type 0
Broken (Heading p) s z = ⊥
Broken (Constant k) s z = ¬ Keeps s z (2 * k)
Broken (Not c) s z = ⊥
Broken (Less c k) s z = ⊥
Broken (Lesser c d) s z = ⊥
Broken (Exists r c) s z = ⊥

-- By two lines on one concept: at least b, and at most less than b.
pub record Crosses (l m : Line) : Type 0 where
  pub concept : l.concept ≡ m.concept
  pub low : l.side ≡ AtLeast
  pub high : m.side ≡ AtMost
  pub under : m.bound <ℤ l.bound

-- The line clashes, by itself or with another of the label.
abbrev pub Clashing : Book → List Line → Line → Type 0
Clashing b label l = Beyond b.fineness l.side l.bound ⊎ (Broken (concept_at b l.concept) l.side l.bound ⊎ AnyLine (Crosses l) label)

abbrev pub Clashes : Book → List Line → Type 0
Clashes b label = AnyLine (Clashing b label) label
