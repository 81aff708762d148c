-- A label is an ordered row of lines in part of the store: what appending a line to it does.
use Rattle.std.specs.Prelude.{◌≡◌, ℕ, ◌+◌, ◌-◌, ◌⊎◌, cond, List, length, is_ok, Ok, Result, Option, Some, None, slice_set}
use Rattle.row.specs.declared.Unplaced.{Unplaced}
use Rattle.row.specs.Order.{Ascending, LastNotBelow}
use Rattle.row.specs.Placing.{AppendOutcome}
use Rattle.terms.specs.declared.line.Line.{Line}
use Rattle.terms.specs.Lines.{line_order, BoundOutside}
use Rattle.sheet.specs.Entries.{part}

-- the slots have a row of n lines from number k on, and x was put behind it or not
pub record Appended (x : Line) (k n : ℕ) (slots after : List Line) (r : Result ℕ Unplaced) : Type 0 where
  pub outcome : AppendOutcome line_order x (part k n slots) (length slots - k) (part k (cond (is_ok r) (n + 1) n) after) r
  pub up : Ascending line_order (part k n slots) → Ascending line_order (part k (cond (is_ok r) (n + 1) n) after)
  pub slots_are : after ≡ cond (is_ok r) (slice_set slots (k + n) x) slots

-- the line x is not above the last of a label, or its bound is outside -1 to 4,000
abbrev pub Misplaced : Line → List Line → Type 0
Misplaced x label = LastNotBelow line_order x label ⊎ BoundOutside x

-- the slots have a label of n lines from number k on with room behind it, and x was entered there, or was misplaced and the slots are as they were
abbrev pub LineEnteredIn : Line → ℕ → ℕ → List Line → List Line → Option ℕ → Type 0
LineEnteredIn x k n slots after (Some i) = ¬ Misplaced x (part k n slots) × Appended x k n slots after (Ok i)
LineEnteredIn x k n slots after None = Misplaced x (part k n slots) × (after ≡ slots)
