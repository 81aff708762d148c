-- Books: concepts and inclusions over a scale of degrees.
use Rattle.std.specs.Prelude.{◌≡◌, ℕ, ◌<◌, ◌≤◌, false, List, length, slice_index_or}
use Rattle.terms.specs.declared.concept.Concept.{Concept}
use Rattle.terms.specs.declared.concept.Concept.TheVariants.{Heading, Constant, Not, Less, Lesser, Exists}
use Rattle.terms.specs.declared.concept.Inclusion.{Inclusion}
use Rattle.logic.specs.Places.{Each}

-- A book (a TBox, with its concepts numbered): degrees are 0 to the fineness, and stand for 0 to 1. Headings (atomic concepts) and roles are numbers.
pub record Book : Type 0 where
  pub fineness : ℕ
  pub concepts : List Concept
  pub inclusions : List Inclusion

-- The number c stands for a concept of the book.
abbrev pub StandsIn : Book → ℕ → Type 0
StandsIn b c = c < length b.concepts

-- The concept of a number; where none stands, the degree 0.
abbrev pub concept_at : Book → ℕ → Concept
concept_at b c = slice_index_or b.concepts c (Constant 0)

-- The inclusion (a graded concept inclusion, an axiom of the TBox) of a number.
abbrev pub blank_inclusion : Inclusion
blank_inclusion = record { lower = 0; upper = 0; struck = false }

abbrev pub inclusion_at : Book → ℕ → Inclusion
inclusion_at b i = slice_index_or b.inclusions i blank_inclusion

-- Each inclusion of the book has P.
abbrev pub EachInclusion : (Inclusion → Type 0) → Book → Type 0
EachInclusion P b = Each blank_inclusion P b.inclusions

-- Of a concept with the number c, in a book of the fineness given: its parts have lower numbers, and its degree is one of the book's.
abbrev pub BuildsOn : ℕ → ℕ → Concept → Type 0
BuildsOn fineness c (Heading p) = Unit {0}
BuildsOn fineness c (Constant k) = k ≤ fineness
BuildsOn fineness c (Not d) = d < c
BuildsOn fineness c (Less d k) = (d < c) × (k ≤ fineness)
BuildsOn fineness c (Lesser d e) = (d < c) × (e < c)
BuildsOn fineness c (Exists r d) = d < c

-- What every book satisfies: a fineness of 1 to 1000, parts of lower numbers, degrees of its own scale, no concept twice, and inclusions between its concepts.
pub record Proper (b : Book) : Type 0 where
  pub fine : 1 ≤ b.fineness
  pub coarse : b.fineness ≤ 1000
  pub builds : (c : ℕ) → StandsIn b c → BuildsOn b.fineness c (concept_at b c)
  pub different : (c d : ℕ) → StandsIn b c → StandsIn b d → concept_at b c ≡ concept_at b d → c ≡ d
  pub within : EachInclusion (λ i. StandsIn b i.lower × StandsIn b i.upper) b
