-- What the states of a sheet hold: the entries that are filed, the label that is begun, and what the calls keep true.
use Rattle.std.specs.Prelude.{◌≡◌, ℕ, ◌+◌, ◌-◌, ◌<◌, ◌≤◌, List, length, take, drop, replicate, slice_index_or}
use Rattle.terms.specs.declared.line.Line.{Line}
use Rattle.terms.specs.Lines.{zero_line}
use Rattle.sheet.specs.declared.EntrySlot.{EntrySlot}
use Rattle.sheet.specs.declared.Sheet.{Sheet}
use Rattle.sheet.specs.declared.Begun.{Begun}
use Rattle.sheet.specs.declared.Finished.{Finished}
use Rattle.sheet.specs.Entries.{FiledEntry, entries_in, part, last_end, zero_slot}

-- the entries of a sheet, by number
abbrev pub filed : Sheet → List FiledEntry
filed s = entries_in s.entries.now s.lines.now s.used

-- the entries that are filed beside the one begun
abbrev pub filed_beside : Begun → List FiledEntry
filed_beside b = entries_in b.entries.now b.lines.now b.used

-- the label of the entry begun
abbrev pub label_of : Begun → List Line
label_of b = part b.from b.count b.lines.now

-- the entries of a finished sheet that lie in its store
abbrev pub filed_finished : Finished → List FiledEntry
filed_finished f = entries_in f.entries.now f.lines.now f.used

-- What the calls keep true of a sheet in the slots es and ls: it has at most 1,024 entries, all in the store, and the line slots from `written` on are free.
pub record Kept (es : List EntrySlot) (ls : List Line) (used written : ℕ) : Type 0 where
  pub few : used ≤ 1024
  pub slots : used ≤ length es
  pub free : written ≡ last_end (length ls) (take used es)

abbrev pub Sound : Sheet → Type 0
Sound s = Kept s.entries.now s.lines.now s.used s.written

-- the same with an entry begun: there is a slot for it, and its lines begin where the slots were free
pub record SoundBegun (b : Begun) : Type 0 where
  pub kept : Kept b.entries.now b.lines.now b.used b.from
  pub few : b.used < 1024
  pub slot : b.used < length b.entries.now
  pub fits : b.from + b.count ≤ length b.lines.now

-- slots that are not in use are zero: so it is in a sheet that began blank
pub record Clean (es : List EntrySlot) (ls : List Line) (used written : ℕ) : Type 0 where
  pub slots : drop used es ≡ replicate (length es - used) zero_slot
  pub lines : drop written ls ≡ replicate (length ls - written) zero_line

abbrev pub CleanSheet : Sheet → Type 0
CleanSheet s = Clean s.entries.now s.lines.now s.used s.written

abbrev pub CleanBegun : Begun → Type 0
CleanBegun b = Clean b.entries.now b.lines.now b.used (b.from + b.count)

-- the entry of number k and all its lines lie in the store
abbrev pub Lies : Finished → ℕ → Type 0
Lies f k = (k < f.used) × (k < length f.entries.now) × ((slice_index_or f.entries.now k zero_slot).start + (slice_index_or f.entries.now k zero_slot).count ≤ length f.lines.now)
