-- What each call on a sheet answers and leaves: slot by slot, and on the list of filed entries.
use Rattle.std.specs.Prelude.{◌≡◌, ℕ, ◌+◌, ◌≤◌, min, List, [], ◌∷◌, ◌++◌, length, take, replicate, Ok, Err, Result, slice_set}
use Rattle.row.specs.Order.{Ascending}
use Rattle.terms.specs.declared.entry.Head.{Head}
use Rattle.terms.specs.declared.entry.Kind.{Kind}
use Rattle.terms.specs.declared.line.Line.{Line}
use Rattle.terms.specs.declared.refusal.Refused.{Refused}
use Rattle.terms.specs.Lines.{line_order, zero_line}
use Rattle.sheet.specs.declared.EntrySlot.{EntrySlot}
use Rattle.sheet.specs.declared.Sheet.{Sheet}
use Rattle.sheet.specs.declared.Begun.{Begun}
use Rattle.sheet.specs.declared.Finished.{Finished}
use Rattle.sheet.specs.declared.unchanged.Unchanged.{Unchanged}
use Rattle.sheet.specs.declared.not_taken.NotTaken.{NotTaken}
use Rattle.sheet.specs.Entries.{zero_slot, last_end, wiped}
use Rattle.sheet.specs.Sheets.{filed, filed_beside, filed_finished, label_of, Sound, SoundBegun, CleanSheet, CleanBegun}
use Rattle.sheet.specs.Grounds.{Call, an_entry, a_line, finishing, taking, Accepted, RefusedWith}

-- a sheet begun blank in the slots es and ls: each slot is zero, and nothing is filed
pub record Blank (es : List EntrySlot) (ls : List Line) (s : Sheet) : Type 0 where
  pub slots : s.entries.now ≡ replicate (length es) zero_slot
  pub lines : s.lines.now ≡ replicate (length ls) zero_line
  pub used : s.used ≡ 0
  pub written : s.written ≡ 0
  pub filed_is : filed s ≡ []
  pub sound : Sound s
  pub clean : CleanSheet s

-- ---- begin

abbrev pub beginning : Sheet → Head → Call
beginning s h = an_entry (length s.entries.now) (length (filed s)) h

-- the same store, with an entry begun that has no line yet
abbrev pub begun : Sheet → Head → Begun
begun s h = record { entries = s.entries; lines = s.lines; used = s.used; head = h; from = s.written; count = 0 }

-- what beginning means: nothing is filed, and the label is empty
pub record BegunOn (s : Sheet) (b : Begun) : Type 0 where
  pub filed_is : filed_beside b ≡ filed s
  pub label_is : label_of b ≡ []
  pub sound : Sound s → SoundBegun b
  pub clean : CleanSheet s → CleanBegun b

-- accepted: the entry is begun; refused: the sheet is as it was
abbrev pub BeginAnswer : Sheet → Head → Result Begun (Unchanged Sheet) → Type 0
BeginAnswer s h (Ok b) = Accepted (beginning s h) × (b ≡ begun s h) × BegunOn s b
BeginAnswer s h (Err u) = RefusedWith (beginning s h) u.refused × (u.value ≡ s)

-- ---- enter a line

abbrev pub entering : Begun → Line → Call
entering b x = a_line (length b.lines.now) (b.from + b.count) (label_of b) x

pub record LineEntered (b : Begun) (x : Line) (k : ℕ) (b' : Begun) : Type 0 where
  -- slot by slot: the first free line slot holds the line
  pub lines : b'.lines.now ≡ slice_set b.lines.now (b.from + b.count) x
  pub lent : b'.lines.ghost_name ≡ b.lines.ghost_name
  pub entries : b'.entries ≡ b.entries
  pub used : b'.used ≡ b.used
  pub head : b'.head ≡ b.head
  pub from : b'.from ≡ b.from
  pub count : b'.count ≡ b.count + 1
  -- what it means: the label has one line more, whose number k is the answer, and nothing is filed
  pub number : k ≡ length (label_of b)
  pub label_is : label_of b' ≡ label_of b ++ x ∷ []
  pub rising : Ascending line_order (label_of b) → Ascending line_order (label_of b')
  pub filed_is : SoundBegun b → filed_beside b' ≡ filed_beside b
  pub sound : SoundBegun b → SoundBegun b'
  pub clean : CleanBegun b → CleanBegun b'

-- accepted: the line is entered; refused: the entry begun and the store are as they were
abbrev pub LineAnswer : Begun → Line → Result ℕ Refused → Begun → Type 0
LineAnswer b x (Ok k) b' = Accepted (entering b x) × LineEntered b x k b'
LineAnswer b x (Err e) b' = RefusedWith (entering b x) e × (b' ≡ b)

-- ---- file, strike

abbrev pub slot_of : Begun → EntrySlot
slot_of b = record { head = b.head; start = b.from; count = b.count }

pub record EntryFiled (b : Begun) (s : Sheet) : Type 0 where
  -- slot by slot: the first free entry slot holds the entry; the counts are held to the store
  pub entries : s.entries.now ≡ slice_set b.entries.now b.used (slot_of b)
  pub lent : s.entries.ghost_name ≡ b.entries.ghost_name
  pub lines : s.lines ≡ b.lines
  pub used : s.used ≡ min (b.used + 1) (length b.entries.now)
  pub written : s.written ≡ min (b.from + b.count) (length b.lines.now)
  -- what it means: one entry more is filed, with the label begun
  pub filed_is : SoundBegun b → filed s ≡ filed_beside b ++ record { head = b.head; label = label_of b } ∷ []
  pub sound : SoundBegun b → Sound s
  pub clean : SoundBegun b → CleanBegun b → CleanSheet s

pub record EntryStruck (b : Begun) (s : Sheet) : Type 0 where
  -- slot by slot: the label's own lines are zero again
  pub lines : s.lines.now ≡ wiped zero_line b.lines.now b.from b.count
  pub lent : s.lines.ghost_name ≡ b.lines.ghost_name
  pub entries : s.entries ≡ b.entries
  pub used : s.used ≡ b.used
  pub written : s.written ≡ b.from
  -- what it means: the filed entries are those that were filed before
  pub filed_is : SoundBegun b → filed s ≡ filed_beside b
  pub sound : SoundBegun b → Sound s
  pub clean : SoundBegun b → CleanBegun b → CleanSheet s

-- ---- finish, reopen, take over

abbrev pub finishing_with : Sheet → ℕ → Call
finishing_with s root = finishing (length (filed s)) root

-- the same store, with kind and root
abbrev pub finished : Sheet → Kind → ℕ → Finished
finished s k root = record { entries = s.entries; lines = s.lines; used = s.used; kind = k; root = root }

-- The same store, taking entries again: the entries are those that lie in the store, and the line slots past all their lines are free.
abbrev pub reopened : Finished → Sheet
reopened f = record {
  entries = f.entries;
  lines = f.lines;
  used = min f.used (length f.entries.now);
  written = last_end (length f.lines.now) (take f.used f.entries.now);
}

-- accepted: the sheet is finished with its entries, and reopening it would give it back; refused: the sheet is as it was
abbrev pub FinishAnswer : Sheet → Kind → ℕ → Result Finished (Unchanged Sheet) → Type 0
FinishAnswer s k root (Ok f) = Accepted (finishing_with s root) × (f ≡ finished s k root) × (filed_finished f ≡ filed s) × (Sound s → reopened f ≡ s)
FinishAnswer s k root (Err u) = RefusedWith (finishing_with s root) u.refused × (u.value ≡ s)

-- what reopening means: no entry that lies in the store is lost, none comes
pub record ReopenedFrom (f : Finished) (s : Sheet) : Type 0 where
  pub same : s ≡ reopened f
  pub filed_is : filed s ≡ filed_finished f
  pub sound : f.used ≤ 1024 → Sound s

-- f is what the store makes as it lies; accepted: it is taken over so; refused: the store comes back as it was
abbrev pub TakeAnswer : Finished → Result Finished NotTaken → Type 0
TakeAnswer f (Ok g) = Accepted (taking f.used) × (g ≡ f)
TakeAnswer f (Err n) = RefusedWith (taking f.used) n.refused × (n.entries ≡ f.entries) × (n.lines ≡ f.lines)
