-- What concepts and inclusions cite by number, and what a book asks of it. Nothing here names the book, whose file imports this.
use Rattle.std.specs.Prelude.{◌≡◌, ℕ, ◌<◌, ◌≤◌, false, ◌⊎◌, List, length, get_or, slice_index_or}
use Rattle.terms.specs.declared.concept.Concept.{Concept}
use Rattle.terms.specs.declared.concept.Concept.TheVariants.{Heading, Constant, Not, Less, Lesser, Exists}
use Rattle.terms.specs.declared.concept.Inclusion.{Inclusion}

-- a concept cites a heading, a role or a concept that does not stand, where h headings, r roles and n concepts do
abbrev pub CitesMissing : ℕ → ℕ → ℕ → Concept → Type 0
CitesMissing h r n (Heading p) = h ≤ p
CitesMissing h r n (Constant k) = ⊥
CitesMissing h r n (Not c) = n ≤ c
CitesMissing h r n (Less c k) = n ≤ c
CitesMissing h r n (Lesser c d) = (n ≤ c) ⊎ (n ≤ d)
CitesMissing h r n (Exists p c) = (r ≤ p) ⊎ (n ≤ c)

-- a concept cites a degree above the fineness N
abbrev pub CitesAbove : ℕ → Concept → Type 0
CitesAbove N (Heading p) = ⊥
CitesAbove N (Constant k) = N < k
CitesAbove N (Not c) = ⊥
CitesAbove N (Less c k) = N < k
CitesAbove N (Lesser c d) = ⊥
CitesAbove N (Exists p c) = ⊥

-- what stands at a number past the end
abbrev pub no_concept : Concept
no_concept = Heading 0

abbrev pub no_inclusion : Inclusion
no_inclusion = record { lower = 0; upper = 0; struck = false }

-- each concept cites only headings and roles that stand, and concepts of lower numbers
abbrev pub Founded : ℕ → ℕ → List Concept → Type 0
Founded h r cs = (k : ℕ) → k < length cs → ¬ CitesMissing h r k (slice_index_or cs k no_concept)

-- the degrees that concepts cite are at most the fineness
abbrev pub Graded : ℕ → List Concept → Type 0
Graded N cs = (k : ℕ) → k < length cs → ¬ CitesAbove N (slice_index_or cs k no_concept)

-- no two concepts are equal
abbrev pub Apart : List Concept → Type 0
Apart cs = (j k : ℕ) → j < k → k < length cs → ¬ (slice_index_or cs j no_concept ≡ slice_index_or cs k no_concept)

-- both concepts of each inclusion stand, where n concepts do
abbrev pub Joined : ℕ → List Inclusion → Type 0
Joined n is = (k : ℕ) → k < length is → ((get_or is k no_inclusion).lower < n) × ((get_or is k no_inclusion).upper < n)
