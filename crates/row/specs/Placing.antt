-- What insert and append make of a row: it held xs and holds ys, and `room` is the number of its slots. Assumes nothing.
use Rattle.std.specs.Prelude.{◌≡◌, ℕ, ◌<◌, ◌≤◌, List, [], ◌∷◌, ◌++◌, length, Ok, Err, Result}
use Rattle.std.specs.declared.cmp.Ordering.TheVariants.{Equal}
use Rattle.std.specs.declared.cmp.Ordering.{Ordering}
use Rattle.std.specs.List.{insert, HoldsAt}
use Rattle.row.specs.declared.Unplaced.{Unplaced}
use Rattle.row.specs.declared.Unplaced.TheVariants.{There, Full, NotAbove}
use Rattle.row.specs.Order.{Found, Missing, Absent, LastBelow, LastNotBelow, put}

-- insert, in any row
abbrev pub InsertOutcome : {X : Type 0} → (X → X → Ordering) → X → List X → ℕ → List X → Result ℕ Unplaced → Type 0
-- there was room, and x stands at i between the elements that were before and after that place
InsertOutcome cmp x xs room ys (Ok i) = (length xs < room) × (i ≤ length xs) × (ys ≡ insert xs i x)
-- the element at i equals x, and the row is as it was
InsertOutcome cmp x xs room ys (Err (There i)) = (i < length xs) × HoldsAt (λ y. cmp y x ≡ Equal) xs i × (ys ≡ xs)
-- each slot was taken, and the row is as it was
InsertOutcome cmp x xs room ys (Err Full) = (length xs ≡ room) × (ys ≡ xs)
InsertOutcome cmp x xs room ys (Err NotAbove) = ⊥

-- insert, in an ascending row
abbrev pub InsertSorted : {X : Type 0} → (X → X → Ordering) → X → List X → List X → Result ℕ Unplaced → Type 0
-- no element equals x, i is its place, and ys is xs with x sorted in
InsertSorted cmp x xs ys (Ok i) = Absent cmp x xs × Missing cmp x xs i × (ys ≡ put cmp x xs)
-- the element at i equals x, and no other, so that sorting x in changes nothing
InsertSorted cmp x xs ys (Err (There i)) = Found cmp x xs i × (ys ≡ put cmp x xs)
-- no element equals x: room was all that lacked
InsertSorted cmp x xs ys (Err Full) = Absent cmp x xs
InsertSorted cmp x xs ys (Err NotAbove) = ⊥

-- append
abbrev pub AppendOutcome : {X : Type 0} → (X → X → Ordering) → X → List X → ℕ → List X → Result ℕ Unplaced → Type 0
-- there was room, the last element was below x if there was one, and x stands at n, the new end
AppendOutcome cmp x xs room ys (Ok n) = (length xs < room) × LastBelow cmp x xs × (n ≡ length xs) × (ys ≡ xs ++ x ∷ [])
-- each slot was taken, and the row is as it was
AppendOutcome cmp x xs room ys (Err Full) = (length xs ≡ room) × (ys ≡ xs)
-- there was room, the last element was not below x, and the row is as it was
AppendOutcome cmp x xs room ys (Err NotAbove) = (length xs < room) × LastNotBelow cmp x xs × (ys ≡ xs)
AppendOutcome cmp x xs room ys (Err (There i)) = ⊥
