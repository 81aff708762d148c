-- Words for lists: what each element brings, what comes last, what comes since.
use Rattle.std.specs.Prelude.{ℕ, Bool, true, false, cond, ◌||◌, List, [], ◌∷◌, ◌++◌, ◌==◌}

-- what each element brings, in order
abbrev pub gather : {A B : Type 0} → (A → List B) → List A → List B
gather f [] = []
gather f (x ∷ xs) = f x ++ gather f xs

-- the last of a list, or `first` where it is empty
abbrev pub last : {A : Type 0} → A → List A → A
last first [] = first
last first (x ∷ xs) = last x xs

abbrev pub empty : {A : Type 0} → List A → Bool
empty [] = true
empty (x ∷ xs) = false

-- no element brings anything
abbrev pub silent : {A B : Type 0} → (A → List B) → List A → Bool
silent f xs = empty (gather f xs)

-- what comes after the last element that brings something; the whole list where none does
abbrev pub since : {A B : Type 0} → (A → List B) → List A → List A
since f [] = []
since f (x ∷ xs) = cond (silent f xs) (cond (empty (f x)) (x ∷ xs) xs) (since f xs)

abbrev pub member : ℕ → List ℕ → Bool
member k [] = false
member k (x ∷ xs) = x == k || member k xs
