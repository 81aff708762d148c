-- The holding that is read out of a sheet (the canonical interpretation), whatever its labels: risen or not, with faults or without.
use Rattle.std.specs.Prelude.{◌≡◌, ℕ, ◌*◌, ◌<◌, ◌≤◌, min, List, length, ℤ, pos, negsuc}
use Rattle.terms.specs.declared.concept.Concept.TheVariants.{Heading, Exists}
use Rattle.terms.specs.declared.line.Side.TheVariants.{AtLeast}
use Rattle.terms.specs.declared.line.Line.{Line}
use Rattle.logic.specs.Books.{Book, concept_at}
use Rattle.logic.specs.Holdings.{Holding}
use Rattle.logic.specs.Lines.{line, HasLine}
use Rattle.logic.specs.Entries.{Entry, label_at}
use Rattle.logic.specs.Standing.{Greatest, Serves}

-- A bound as a degree: 0 if it is below 0, and twice the fineness if above.
abbrev pub clamped : ℕ → ℤ → ℕ
clamped fineness (pos v) = min v (2 * fineness)
clamped fineness (negsuc v) = 0

-- v is the greatest bound with P, as a degree; 0 if there is none.
pub record DegreeOf (fineness : ℕ) (P : ℤ → Type 0) (v : ℕ) : Type 0 where
  pub bound : ℤ
  pub greatest : Greatest P (pos 0) bound
  pub is : v ≡ clamped fineness bound

-- The label says 'at least z' of the heading p.
pub record Says (b : Book) (label : List Line) (p : ℕ) (z : ℤ) : Type 0 where
  pub concept : ℕ
  pub form : concept_at b concept ≡ Heading p
  pub stands : HasLine label (line concept AtLeast z)

-- The label `from` has a line 'some r that is c at least z', for some c, that the label `to` serves.
pub record Leads (b : Book) (from to : List Line) (r : ℕ) (z : ℤ) : Type 0 where
  pub concept : ℕ
  pub part : ℕ
  pub form : concept_at b concept ≡ Exists r part
  pub stands : HasLine from (line concept AtLeast z)
  pub serves : Serves b from r part z to

-- R is the holding read out of the sheet: its individuals are the entries, and its top is twice the fineness.
-- A heading has its greatest at-least bound; a role has the greatest of those that lead from x to y. Outside the sheet degrees are 0.
pub record ReadOut (b : Book) (sheet : List Entry) (R : Holding) : Type 0 where
  pub size : R.size ≡ length sheet
  pub top : R.top ≡ 2 * b.fineness
  pub headings : (p x : ℕ) → x < length sheet → DegreeOf b.fineness (Says b (label_at sheet x) p) (R.heading p x)
  pub roles : (r x y : ℕ) → x < length sheet → y < length sheet → DegreeOf b.fineness (Leads b (label_at sheet x) (label_at sheet y) r) (R.role r x y)
  pub no_heading : (p x : ℕ) → length sheet ≤ x → R.heading p x ≡ 0
  pub no_from : (r x y : ℕ) → length sheet ≤ x → R.role r x y ≡ 0
  pub no_to : (r x y : ℕ) → length sheet ≤ y → R.role r x y ≡ 0
