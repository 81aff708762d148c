-- Entries of a sheet (nodes of a tableau): the slots of a store, and the entries that they describe.
use Rattle.std.specs.Prelude.{ℕ, ◌+◌, ◌-◌, min, max, List, [], ◌∷◌, ◌++◌, map, length, take, drop, replicate}
use Rattle.terms.specs.declared.line.Line.{Line}
use Rattle.terms.specs.declared.entry.Letter.TheVariants.{Z}
use Rattle.terms.specs.declared.entry.Head.{Head}
use Rattle.sheet.specs.declared.EntrySlot.{EntrySlot}

-- what stands in an entry's slot that is not in use
abbrev pub zero_slot : EntrySlot
zero_slot = record { head = record { letter = Z; place = 0; first = 0; second = 0; inclusion = 0; step = 0 }; start = 0; count = 0 }

-- an entry: its head, and its label (a list of graded assertions)
pub record FiledEntry : Type 0 where
  pub head : Head
  pub label : List Line

-- n of the lines ls from number k on, as far as there are so many
abbrev pub part : ℕ → ℕ → List Line → List Line
part k n ls = take n (drop k ls)

-- the entry that a slot describes, in a store of the lines ls
abbrev pub entry_of : List Line → EntrySlot → FiledEntry
entry_of ls e = record { head = e.head; label = part e.start e.count ls }

-- the entries of the first n slots
abbrev pub entries_in : List EntrySlot → List Line → ℕ → List FiledEntry
entries_in es ls n = map (entry_of ls) (take n es)

-- what stands past the last entry: nothing
abbrev pub no_entry : FiledEntry
no_entry = record { head = zero_slot.head; label = [] }

-- the number of the line slot where an entry's lines end, in a store of n line slots
abbrev pub end_in : ℕ → EntrySlot → ℕ
end_in n e = min (e.start + e.count) n

-- the greatest of these ends: from there on the line slots are free. (In a store taken over, an entry whose lines pass the store leaves no slot free.)
abbrev pub last_end : ℕ → List EntrySlot → ℕ
last_end n [] = 0
last_end n (e ∷ es) = max (end_in n e) (last_end n es)

-- the slots xs with n of them, from number k on, at the value y: as many of those as there are
abbrev pub wiped : {X : Type 0} → X → List X → ℕ → ℕ → List X
wiped y xs k n = take k xs ++ replicate (min n (length xs - k)) y ++ drop (k + min n (length xs - k)) xs
