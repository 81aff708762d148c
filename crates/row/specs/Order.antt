-- Lists in the order of a comparison `cmp`: strictly ascending, and where an element x stands in one. Assumes nothing.
use Rattle.std.specs.Prelude.{◌≡◌, ℕ, ◌+◌, ◌-◌, ◌<◌, ◌≤◌, List, [], ◌∷◌, length, ◌≢◌, slice_index_or}
use Rattle.std.specs.declared.cmp.Ordering.TheVariants.{Less, Equal, Greater}
use Rattle.std.specs.declared.cmp.Ordering.{Ordering}
use Rattle.std.specs.List.Sorted.{IsStrictlySortedBy}
use Rattle.std.specs.List.{AllWithin, HoldsAt}

-- xs is strictly ascending (a sorted array without equal elements): each element is below every later one
abbrev pub Ascending : {X : Type 0} → (X → X → Ordering) → List X → Type 0
Ascending {X} cmp xs = (i j : ℕ) (d : X) → i < j → j < length xs → cmp (slice_index_or xs i d) (slice_index_or xs j d) ≡ Less

-- the same as Ascending, in the form that a struct's ghost field takes, since it has one proof at most
abbrev pub Climbing : {X : Type 0} → (X → X → Ordering) → List X → Type 0
Climbing cmp xs = IsStrictlySortedBy cmp xs

-- x equals the element at i and no other: those before it are below x, and those after it above
pub record Found {X : Type 0} (cmp : X → X → Ordering) (x : X) (xs : List X) (i : ℕ) : Type 0 where
  pub within : i < length xs
  pub below : AllWithin (λ y. cmp y x ≡ Less) xs 0 i
  pub equal : HoldsAt (λ y. cmp y x ≡ Equal) xs i
  pub above : AllWithin (λ y. cmp y x ≡ Greater) xs (i + 1) (length xs)

-- no element equals x, whose place is i: those before i are below x, and those from i on above
pub record Missing {X : Type 0} (cmp : X → X → Ordering) (x : X) (xs : List X) (i : ℕ) : Type 0 where
  pub within : i ≤ length xs
  pub below : AllWithin (λ y. cmp y x ≡ Less) xs 0 i
  pub above : AllWithin (λ y. cmp y x ≡ Greater) xs i (length xs)

-- no element equals x
abbrev pub Absent : {X : Type 0} → (X → X → Ordering) → X → List X → Type 0
Absent cmp x xs = AllWithin (λ y. cmp y x ≢ Equal) xs 0 (length xs)

-- the last element, if there is one, is below x
abbrev pub LastBelow : {X : Type 0} → (X → X → Ordering) → X → List X → Type 0
LastBelow cmp x xs = 0 < length xs → HoldsAt (λ y. cmp y x ≡ Less) xs (length xs - 1)

-- there is a last element, and it is not below x
abbrev pub LastNotBelow : {X : Type 0} → (X → X → Ordering) → X → List X → Type 0
LastNotBelow cmp x xs = (0 < length xs) × HoldsAt (λ y. cmp y x ≢ Less) xs (length xs - 1)

-- the first, second or third of a, b and c, as the answer is Less, Equal or Greater
abbrev pub pick : {X : Type 0} → Ordering → X → X → X → X
pick Less a b c = a
pick Equal a b c = b
pick Greater a b c = c

-- sorted insertion: x before the first element that is above it, unless one before that equals it
abbrev pub put : {X : Type 0} → (X → X → Ordering) → X → List X → List X
put cmp x [] = x ∷ []
put cmp x (y ∷ ys) = pick (cmp x y) (x ∷ y ∷ ys) (y ∷ ys) (y ∷ put cmp x ys)
