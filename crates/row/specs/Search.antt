-- What a binary search for x in xs answers. Assumes nothing.
use Rattle.std.specs.Prelude.{◌≡◌, ℕ, ◌<◌, ◌≤◌, List, length, Ok, Err, Result}
use Rattle.std.specs.declared.cmp.Ordering.TheVariants.{Equal}
use Rattle.std.specs.declared.cmp.Ordering.{Ordering}
use Rattle.std.specs.List.{HoldsAt}
use Rattle.row.specs.Order.{Found, Missing}

-- in any list: an element that equals x, or else a place within the list or at its end
abbrev pub SearchOutcome : {X : Type 0} → (X → X → Ordering) → X → List X → Result ℕ ℕ → Type 0
SearchOutcome cmp x xs (Ok i) = (i < length xs) × HoldsAt (λ y. cmp y x ≡ Equal) xs i
SearchOutcome cmp x xs (Err i) = i ≤ length xs

-- in an ascending list: the one element that equals x, or, only where there is none, the place where x would go
abbrev pub SearchSorted : {X : Type 0} → (X → X → Ordering) → X → List X → Result ℕ ℕ → Type 0
SearchSorted cmp x xs (Ok i) = Found cmp x xs i
SearchSorted cmp x xs (Err i) = Missing cmp x xs i
