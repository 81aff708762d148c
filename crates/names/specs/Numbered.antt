-- Names by number, and records of the same names in a row.
use Rattle.std.specs.Prelude.{◌≡◌, ℕ, ◌<◌, List, length, get_or, ◌≢◌, slice_index_or}
use Rattle.names.specs.declared.name.Name.{Name}
use Rattle.names.specs.declared.name.NameRecord.{NameRecord}

-- each record of the row has the name of its number
abbrev pub Numbered : List Name → List NameRecord → Type 0
Numbered names row = (j : ℕ) (d : NameRecord) → j < length row → ((get_or row j d).number < length names) × (slice_index_or names (get_or row j d).number d.name ≡ (get_or row j d).name)

-- no number is left out of the row
abbrev pub Listed : List Name → List NameRecord → Type 0
Listed names row = (k : ℕ) (d : NameRecord) → k < length names → ((j : ℕ) → j < length row → (get_or row j d).number ≢ k) → ⊥
