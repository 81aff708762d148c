-- Lines (graded assertions), of which a label (the label of a tableau's node) is a row. Bounds are whole numbers of half steps, and may be negative.
use Rattle.std.specs.Prelude.{◌≡◌, ℕ, ◌+◌, ◌*◌, ◌⊎◌, List, ℤ, pos, ◌-ℤ◌, ◌≤ℤ◌, slice_index_or}
use Rattle.terms.specs.declared.question.Comparison.{Comparison}
use Rattle.terms.specs.declared.question.Comparison.TheVariants.{NotBelow, Above, NotAbove, Under}
use Rattle.terms.specs.declared.question.QuestionLine.{QuestionLine}
use Rattle.terms.specs.declared.line.Side.{Side}
use Rattle.terms.specs.declared.line.Side.TheVariants.{AtLeast, AtMost}
use Rattle.terms.specs.declared.line.Line.{Line}
use Rattle.logic.specs.Places.{Each, Any}

-- The line 'c at least z' or 'c at most z'.
abbrev pub line : ℕ → Side → ℤ → Line
line c s z = record { concept = c; side = s; bound = z }

-- The line of a label at a place.
abbrev pub blank_line : Line
blank_line = line 0 AtLeast (pos 0)

abbrev pub line_at : List Line → ℕ → Line
line_at label k = slice_index_or label k blank_line

-- Each line of the label has P; some line has; the line l is one of the label's.
abbrev pub EachLine : (Line → Type 0) → List Line → Type 0
EachLine P label = Each blank_line P label

abbrev pub AnyLine : (Line → Type 0) → List Line → Type 0
AnyLine P label = Any blank_line P label

abbrev pub HasLine : List Line → Line → Type 0
HasLine label l = AnyLine (λ m. m ≡ l) label

abbrev pub other : Side → Side
other AtLeast = AtMost
other AtMost = AtLeast

-- The degree v, in half steps, keeps the bound.
abbrev pub Keeps : Side → ℤ → ℕ → Type 0
Keeps AtLeast z v = z ≤ℤ pos v
Keeps AtMost z v = pos v ≤ℤ z

-- A line of a question in half steps: >= k is at least 2k, > k at least 2k + 1, <= k at most 2k, < k at most 2k - 1.
abbrev pub asked_side : Comparison → Side
asked_side NotBelow = AtLeast
asked_side Above = AtLeast
asked_side NotAbove = AtMost
asked_side Under = AtMost

abbrev pub asked_bound : Comparison → ℕ → ℤ
asked_bound NotBelow k = pos (2 * k)
asked_bound Above k = pos (2 * k + 1)
asked_bound NotAbove k = pos (2 * k)
asked_bound Under k = pos (2 * k) -ℤ pos 1

abbrev pub half_line : QuestionLine → Line
half_line q = line q.concept (asked_side q.comparison) (asked_bound q.comparison q.degree)

-- A line is idle if every degree keeps it: it says at least 0 or less, or at most twice the fineness or more.
abbrev pub Idle : ℕ → Side → ℤ → Type 0
Idle fineness AtLeast z = z ≤ℤ pos 0
Idle fineness AtMost z = pos (2 * fineness) ≤ℤ z

-- The bound y asks at least as much as the bound z.
abbrev pub AsStrong : Side → ℤ → ℤ → Type 0
AsStrong AtLeast y z = z ≤ℤ y
AsStrong AtMost y z = y ≤ℤ z

-- The line m is on the same concept and side as l, and at least as strong.
pub record Covers (m l : Line) : Type 0 where
  pub concept : m.concept ≡ l.concept
  pub side : m.side ≡ l.side
  pub strong : AsStrong l.side m.bound l.bound

-- A label carries a line if the line is idle, or the label has one on the same concept and side at least as strong.
abbrev pub Carries : ℕ → List Line → Line → Type 0
Carries fineness label l = Idle fineness l.side l.bound ⊎ AnyLine (λ m. Covers m l) label
