-- The numbers of the refusals, and refusals that speak of no place.
use Rattle.std.specs.Prelude.{ℕ, List, [], ◌∷◌}
use Rattle.terms.specs.declared.refusal.Refusal.{Refusal}
use Rattle.terms.specs.declared.refusal.Refusal.TheVariants.{Fineness, Full, Missing, TooHigh, BadName, Already, NoLines, NoRoom, OutOfOrder, BrokenRule, BadRoot, Unfit, BadText, NoMemory}
use Rattle.terms.specs.declared.refusal.Refused.{Refused}

-- the number of each refusal; want of memory has none, which is told as 0
abbrev pub number : Refusal → ℕ
number Fineness = 1
number Full = 2
number Missing = 3
number TooHigh = 4
number BadName = 5
number Already = 6
number NoLines = 7
number NoRoom = 8
number OutOfOrder = 9
number BrokenRule = 10
number BadRoot = 11
number Unfit = 12
number BadText = 13
number NoMemory = 0

-- those that have a number, from 1 on
abbrev pub numbered : List Refusal
numbered = Fineness ∷ Full ∷ Missing ∷ TooHigh ∷ BadName ∷ Already ∷ NoLines ∷ NoRoom ∷ OutOfOrder ∷ BrokenRule ∷ BadRoot ∷ Unfit ∷ BadText ∷ []

-- a refusal that speaks of no place
abbrev pub unplaced : Refusal → Refused
unplaced e = record { refusal = e; place = 0 }
