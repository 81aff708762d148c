-- The table of refusals for the calls on sheets: when each number applies. A clause that says ⊥ says: never.
use Rattle.std.specs.Prelude.{◌≡◌, ℕ, ◌<◌, ◌≤◌, ◌⊎◌, List, Ok, Err}
use Rattle.row.specs.Order.{LastNotBelow}
use Rattle.terms.specs.declared.line.Line.{Line}
use Rattle.terms.specs.declared.entry.Head.{Head}
use Rattle.terms.specs.declared.refusal.Refusal.{Refusal}
use Rattle.terms.specs.declared.refusal.Refusal.TheVariants.{Fineness, Full, Missing, TooHigh, BadName, Already, NoLines, NoRoom, OutOfOrder, BrokenRule, BadRoot, Unfit, BadText, NoMemory}
use Rattle.terms.specs.declared.refusal.Refused.{Refused}
use Rattle.terms.specs.Answers.{Answered}
use Rattle.terms.specs.Lines.{line_order, BoundOutside}

-- a call that may be refused, with what it is asked of
pub data Call : Type 0 where
  -- to begin an entry, where n entries are filed and there are so many entry slots
  an_entry : (slots n : ℕ) → Head → Call
  -- to enter a line in a label, where there are so many line slots and those below `end` are taken
  a_line : (slots end : ℕ) → (label : List Line) → Line → Call
  -- to finish a sheet of n entries, naming its root
  finishing : (n root : ℕ) → Call
  -- to take over a store with so many entries
  taking : (n : ℕ) → Call

-- a number of the head is above 2,000
abbrev pub NumberAbove : Head → Type 0
NumberAbove h = (2000 < h.place) ⊎ ((2000 < h.first) ⊎ ((2000 < h.second) ⊎ ((2000 < h.inclusion) ⊎ (2000 < h.step))))

-- 3: a number that does not stand
abbrev pub Ground3 : Call → Type 0
Ground3 (an_entry slots n h) = NumberAbove h
Ground3 (a_line slots end label x) = 127 < x.concept
Ground3 (finishing n root) = ⊥
Ground3 (taking n) = ⊥

-- 8: the store is too short, or there are 1,024 entries
abbrev pub Ground8 : Call → Type 0
Ground8 (an_entry slots n h) = (1024 ≤ n) ⊎ (slots ≤ n)
Ground8 (a_line slots end label x) = slots ≤ end
Ground8 (finishing n root) = ⊥
Ground8 (taking n) = 1024 < n

-- 9: the line is not above the label's last, or its bound is outside -1 to 4,000
abbrev pub Ground9 : Call → Type 0
Ground9 (an_entry slots n h) = ⊥
Ground9 (a_line slots end label x) = LastNotBelow line_order x label ⊎ BoundOutside x
Ground9 (finishing n root) = ⊥
Ground9 (taking n) = ⊥

-- 11: the root is no entry
abbrev pub Ground11 : Call → Type 0
Ground11 (an_entry slots n h) = ⊥
Ground11 (a_line slots end label x) = ⊥
Ground11 (finishing n root) = n ≤ root
Ground11 (taking n) = ⊥

-- the call has the ground
abbrev pub Ground : Call → Refusal → Type 0
Ground c Fineness = ⊥
Ground c Full = ⊥
Ground c Missing = Ground3 c
Ground c TooHigh = ⊥
Ground c BadName = ⊥
Ground c Already = ⊥
Ground c NoLines = ⊥
Ground c NoRoom = Ground8 c
Ground c OutOfOrder = Ground9 c
Ground c BrokenRule = ⊥
Ground c BadRoot = Ground11 c
Ground c Unfit = ⊥
Ground c BadText = ⊥
Ground c NoMemory = ⊥

-- the call is accepted: it has no ground
abbrev pub Accepted : Call → Type 0
Accepted c = Answered {X = Unit {0}} (Ground c) (Ok tt)

-- the call is refused with its least ground, at place 0
abbrev pub RefusedWith : Call → Refused → Type 0
RefusedWith c x = Answered {X = Unit {0}} (Ground c) (Err x.refusal) × (x.place ≡ 0)
