-- What holds of each element of a list, and of some, by their places. `d` is what is read past the end, and nothing depends on it.
use Rattle.std.specs.Prelude.{ℕ, ◌<◌, List, length, slice_index_or}

abbrev pub Each : {X : Type 0} → X → (X → Type 0) → List X → Type 0
Each d P xs = (k : ℕ) → k < length xs → P (slice_index_or xs k d)

abbrev pub Any : {X : Type 0} → X → (X → Type 0) → List X → Type 0
Any d P xs = (k : ℕ) × (k < length xs) × P (slice_index_or xs k d)
