-- Entries of a sheet, and what every entry owes whatever the kind of its sheet.
use Rattle.std.specs.Prelude.{◌≡◌, ℕ, ◌+◌, ◌<◌, Bool, true, ◌⊎◌, List, [], length, ℤ, pos, negsuc, ◌≤ℤ◌, ◌<ℤ◌, slice_index_or}
use Rattle.terms.specs.declared.line.Side.{Side}
use Rattle.terms.specs.declared.line.Side.TheVariants.{AtLeast, AtMost}
use Rattle.terms.specs.declared.line.Line.{Line}
use Rattle.terms.specs.declared.entry.Letter.TheVariants.{Z}
use Rattle.terms.specs.declared.entry.Head.{Head}
use Rattle.logic.specs.Places.{Any}
use Rattle.logic.specs.Books.{Book, StandsIn}
use Rattle.logic.specs.Lines.{line_at, EachLine}

-- An entry of a sheet (a node of a tableau): what it says besides its label; whether it and all its lines lie in the store that keeps the sheet; and its label, the lines of it that do.
-- The definitions know no store. Who keeps one marks what does not lie in it, and every sheet then has a meaning, with faults or without.
pub record Entry : Type 0 where
  pub head : Head
  pub lies : Bool
  pub label : List Line

-- What stands for an entry past the last.
abbrev pub blank_entry : Entry
blank_entry = record { head = record { letter = Z; place = 0; first = 0; second = 0; inclusion = 0; step = 0 }; lies = true; label = [] }

-- The entry of a sheet with a number, and its label.
abbrev pub entry_at : List Entry → ℕ → Entry
entry_at sheet k = slice_index_or sheet k blank_entry

abbrev pub label_at : List Entry → ℕ → List Line
label_at sheet k = (entry_at sheet k).label

-- Some entry of the sheet has P.
abbrev pub AnyEntry : (Entry → Type 0) → List Entry → Type 0
AnyEntry P sheet = Any blank_entry P sheet

-- At least stands before at most.
abbrev pub BeforeSide : Side → Side → Type 0
BeforeSide AtLeast AtLeast = ⊥
BeforeSide AtLeast AtMost = Unit {0}
BeforeSide AtMost s = ⊥

-- The order of lines: by concept, at least before at most, then by bound.
abbrev pub Before : Line → Line → Type 0
Before l m = (l.concept < m.concept) ⊎ ((l.concept ≡ m.concept) × (BeforeSide l.side m.side ⊎ ((l.side ≡ m.side) × (l.bound <ℤ m.bound))))

-- The lines of a label rise: each stands before the next.
abbrev pub Rises : List Line → Type 0
Rises label = (k : ℕ) → k + 1 < length label → Before (line_at label k) (line_at label (k + 1))

-- The range of a label's bounds: -1 to 4,000.
pub record InRange (z : ℤ) : Type 0 where
  pub low : negsuc 0 ≤ℤ z
  pub high : z ≤ℤ pos 4_000

-- An entry without fault: it lies in the store, its lines rise, its bounds keep their range, and its concepts stand in the book.
pub record Faultless (b : Book) (e : Entry) : Type 0 where
  pub lies : e.lies ≡ true
  pub rises : Rises e.label
  pub ranges : EachLine (λ l. InRange l.bound) e.label
  pub stands : EachLine (λ l. StandsIn b l.concept) e.label

-- All five fields beside the letter are 0.
pub record Bare (h : Head) : Type 0 where
  pub place : h.place ≡ 0
  pub first : h.first ≡ 0
  pub second : h.second ≡ 0
  pub inclusion : h.inclusion ≡ 0
  pub step : h.step ≡ 0
