-- A kept book and a finished sheet, as the theory sees them.
use Rattle.std.specs.Prelude.{◌+◌, ◌-◌, false, List, [], ◌++◌, map, length, take, replicate, nat_le}
use Rattle.terms.specs.declared.line.Line.{Line}
use Rattle.logic.specs.Books.{Book}
use Rattle.logic.specs.Entries.{Entry}
use Rattle.sheet.specs.declared.EntrySlot.{EntrySlot}
use Rattle.sheet.specs.declared.Finished.{Finished}
use Rattle.sheet.specs.Entries.{part, zero_slot}
use Rattle.book.specs.States.{BookModel}

-- The theory's book: names do not matter to it.
abbrev pub rules_of : BookModel → Book
rules_of b = record { fineness = b.fineness; concepts = b.concepts; inclusions = b.inclusions }

-- The entry that a slot describes in a store of the lines ls. It lies there if all its lines do.
abbrev pub seen : List Line → EntrySlot → Entry
seen ls e = record { head = e.head; lies = nat_le (e.start + e.count) (length ls); label = part e.start e.count ls }

-- An entry that is counted and has no slot in the store.
abbrev pub absent : Entry
absent = record { head = zero_slot.head; lies = false; label = [] }

-- The theory's sheet: an entry for each that is counted.
unfoldable pub sheet_of : Finished → List Entry
sheet_of f = map (seen f.lines.now) (take f.used f.entries.now) ++ replicate (f.used - length f.entries.now) absent
