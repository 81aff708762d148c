-- Computing forms of the relations on lists, lines and entries: each answers true exactly where its relation holds.
use Rattle.std.specs.Prelude.{ℕ, zero, suc, ◌+◌, ◌-◌, ◌*◌, Bool, true, false, not, ◌&&◌, ◌||◌, ltb, List, [], ◌∷◌, length, ℤ, pos, negsuc, ◌==◌, int_le, int_lt, nat_lt}
use Rattle.terms.specs.declared.concept.Concept.{Concept}
use Rattle.terms.specs.declared.concept.Concept.TheVariants.{Heading, Constant, Not, Less, Lesser, Exists}
use Rattle.terms.specs.declared.line.Side.{Side}
use Rattle.terms.specs.declared.line.Side.TheVariants.{AtLeast, AtMost}
use Rattle.terms.specs.declared.line.Line.{Line}
use Rattle.terms.specs.declared.entry.Head.{Head}
use Rattle.logic.specs.Books.{Book, concept_at}
use Rattle.logic.specs.Lines.{line, line_at}
use Rattle.logic.specs.Entries.{Entry}

-- Every element passes; some element passes; every number below n passes.
abbrev pub all_test : {X : Type 0} → (X → Bool) → List X → Bool
all_test p [] = true
all_test p (x ∷ xs) = p x && all_test p xs

abbrev pub any_test : {X : Type 0} → (X → Bool) → List X → Bool
any_test p [] = false
any_test p (x ∷ xs) = p x || any_test p xs

abbrev pub below_test : (ℕ → Bool) → ℕ → Bool
below_test p zero = true
below_test p (suc n) = p n && below_test p n

-- Equality of sides, bounds and lines.
abbrev pub same_side : Side → Side → Bool
same_side AtLeast AtLeast = true
same_side AtLeast AtMost = false
same_side AtMost AtLeast = false
same_side AtMost AtMost = true

abbrev pub same_bound : ℤ → ℤ → Bool
same_bound y z = int_le y z && int_le z y

abbrev pub same_line : Line → Line → Bool
same_line l m = l.concept == m.concept && (same_side l.side m.side && same_bound l.bound m.bound)

abbrev pub has_test : List Line → Line → Bool
has_test label l = any_test (λ m. same_line m l) label

abbrev pub among_test : List Line → Line → Bool
among_test lines l = any_test (λ m. same_line l m) lines

-- Lines.
abbrev pub keeps_test : Side → ℤ → ℕ → Bool
keeps_test AtLeast z v = int_le z (pos v)
keeps_test AtMost z v = int_le (pos v) z

abbrev pub idle_test : ℕ → Side → ℤ → Bool
idle_test fineness AtLeast z = int_le z (pos 0)
idle_test fineness AtMost z = int_le (pos (2 * fineness)) z

abbrev pub strong_test : Side → ℤ → ℤ → Bool
strong_test AtLeast y z = int_le z y
strong_test AtMost y z = int_le y z

abbrev pub covers_test : Line → Line → Bool
covers_test m l = m.concept == l.concept && (same_side m.side l.side && strong_test l.side m.bound l.bound)

abbrev pub carries_test : ℕ → List Line → Line → Bool
carries_test fineness label l = idle_test fineness l.side l.bound || any_test (λ m. covers_test m l) label

-- Clashes.
abbrev pub beyond_test : ℕ → Side → ℤ → Bool
beyond_test fineness AtLeast z = int_lt (pos (2 * fineness)) z
beyond_test fineness AtMost z = int_lt z (pos 0)

abbrev pub broken_test : Concept → Side → ℤ → Bool
broken_test (Heading p) s z = false
broken_test (Constant k) s z = not (keeps_test s z (2 * k))
broken_test (Not c) s z = false
broken_test (Less c k) s z = false
broken_test (Lesser c d) s z = false
broken_test (Exists r c) s z = false

abbrev pub crosses_test : Line → Line → Bool
crosses_test l m = l.concept == m.concept && (same_side l.side AtLeast && (same_side m.side AtMost && int_lt m.bound l.bound))

abbrev pub clashing_test : Book → List Line → Line → Bool
clashing_test b label l = beyond_test b.fineness l.side l.bound || (broken_test (concept_at b l.concept) l.side l.bound || any_test (crosses_test l) label)

abbrev pub clashes_test : Book → List Line → Bool
clashes_test b label = any_test (clashing_test b label) label

-- What is passed on.
abbrev pub exists_test : Concept → ℕ → ℕ → Bool
exists_test (Heading p) r c = false
exists_test (Constant k) r c = false
exists_test (Not d) r c = false
exists_test (Less d k) r c = false
exists_test (Lesser d e) r c = false
exists_test (Exists q d) r c = q == r && d == c

abbrev pub denies_test : Book → ℕ → ℤ → Line → Line → Bool
denies_test b r z m l =
    exists_test (concept_at b m.concept) r l.concept
    && (same_side m.side AtMost && (int_lt m.bound z && (same_side l.side AtMost && same_bound l.bound m.bound)))

abbrev pub passes_test : Book → List Line → ℕ → ℕ → ℤ → Line → Bool
passes_test b label r c z l = same_line l (line c AtLeast z) || any_test (λ m. denies_test b r z m l) label

-- Faults.
abbrev pub before_side_test : Side → Side → Bool
before_side_test AtLeast AtLeast = false
before_side_test AtLeast AtMost = true
before_side_test AtMost s = false

abbrev pub before_test : Line → Line → Bool
before_test l m = nat_lt l.concept m.concept || (l.concept == m.concept && (before_side_test l.side m.side || (same_side l.side m.side && int_lt l.bound m.bound)))

abbrev pub rises_test : List Line → Bool
rises_test label = below_test (λ k. before_test (line_at label k) (line_at label (k + 1))) (length label - 1)

abbrev pub range_test : ℤ → Bool
range_test z = int_le (negsuc 0) z && int_le z (pos 4_000)

abbrev pub faultless_test : Book → Entry → Bool
faultless_test b e = e.lies && (rises_test e.label && (all_test (λ l. range_test l.bound) e.label && all_test (λ l. ltb l.concept (length b.concepts)) e.label))

abbrev pub bare_test : Head → Bool
bare_test h = h.place == 0 && (h.first == 0 && (h.second == 0 && (h.inclusion == 0 && h.step == 0)))
