-- When a name is refused: the rows of the table that speak of names. And what placing a record does.
use Rattle.std.specs.Prelude.{◌≡◌, ℕ, ◌+◌, ◌≤◌, cond, List, length, take, is_ok, Result}
use Rattle.row.specs.declared.Unplaced.{Unplaced}
use Rattle.row.specs.Order.{Ascending}
use Rattle.row.specs.Placing.{InsertOutcome, InsertSorted}
use Rattle.names.specs.declared.name.Name.{Name}
use Rattle.names.specs.declared.name.NameRecord.{NameRecord}
use Rattle.names.specs.Order.{record_order}
use Rattle.terms.specs.declared.refusal.Refusal.{Refusal}
use Rattle.terms.specs.declared.refusal.Refusal.TheVariants.{Fineness, Full, Missing, TooHigh, BadName, Already, NoLines, NoRoom, OutOfOrder, BrokenRule, BadRoot, Unfit, BadText, NoMemory}
use Rattle.terms.specs.Among.{Among}
use Rattle.names.specs.Spelling.{NoName}

-- the name m, where the names ms stand and there may be n: 2, there are n; 5, it is no name; 6, it is there
abbrev pub NameGround : ℕ → List (List ℕ) → List ℕ → Refusal → Type 0
NameGround n ms m Fineness = ⊥
NameGround n ms m Full = n ≤ length ms
NameGround n ms m Missing = ⊥
NameGround n ms m TooHigh = ⊥
NameGround n ms m BadName = NoName m
NameGround n ms m Already = Among ms m
NameGround n ms m NoLines = ⊥
NameGround n ms m NoRoom = ⊥
NameGround n ms m OutOfOrder = ⊥
NameGround n ms m BrokenRule = ⊥
NameGround n ms m BadRoot = ⊥
NameGround n ms m Unfit = ⊥
NameGround n ms m BadText = ⊥
NameGround n ms m NoMemory = ⊥

-- the record of a name and its number
abbrev pub numbered : Name → ℕ → NameRecord
numbered m k = record { name = m; number = k }

-- the slots begin with a row of n records, and x was put into it or not
pub record Placed (x : NameRecord) (n : ℕ) (slots after : List NameRecord) (r : Result ℕ Unplaced) : Type 0 where
  pub outcome : InsertOutcome record_order x (take n slots) (length slots) (take (cond (is_ok r) (n + 1) n) after) r
  pub sorted : InsertSorted record_order x (take n slots) (take (cond (is_ok r) (n + 1) n) after) r
  pub up : Ascending record_order (take (cond (is_ok r) (n + 1) n) after)
  pub size : length after ≡ length slots
