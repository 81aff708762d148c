-- An entry as it was read.
use Rattle.logic.specs.Entries.{Entry}
use Rattle.labels.specs.Labelled.{labelled}
use Rattle.closing.specs.declared.entry.EntryRead.{EntryRead}

-- The theory's entry of which head, label and whether it lies in the store were read.
abbrev pub entry_read : EntryRead → Entry
entry_read e = record { head = e.head; lies = e.lies; label = labelled e.label }
