-- Computing forms of the rules of standing sheets.
use Rattle.std.specs.Prelude.{ℕ, ◌*◌, Bool, true, false, not, ◌&&◌, ◌||◌, List, length, ℤ, pos, ◌==◌, int_le, int_lt, nat_lt}
use Rattle.terms.specs.declared.concept.Concept.{Concept}
use Rattle.terms.specs.declared.concept.Concept.TheVariants.{Heading, Constant, Not, Less, Lesser, Exists}
use Rattle.terms.specs.declared.concept.Inclusion.{Inclusion}
use Rattle.terms.specs.declared.question.QuestionLine.{QuestionLine}
use Rattle.terms.specs.declared.line.Side.{Side}
use Rattle.terms.specs.declared.line.Side.TheVariants.{AtLeast, AtMost}
use Rattle.terms.specs.declared.line.Line.{Line}
use Rattle.terms.specs.declared.entry.Letter.{Letter}
use Rattle.terms.specs.declared.entry.Letter.TheVariants.{Z, N, S, M, I, E, L}
use Rattle.logic.specs.Books.{Book, concept_at}
use Rattle.logic.specs.Lines.{line, half_line}
use Rattle.logic.specs.Conclusions.{conclusions_of}
use Rattle.logic.specs.Entries.{Entry, entry_at, label_at}
use Rattle.logic.specs.LineTests.{all_test, any_test, below_test, same_side, carries_test, clashes_test, faultless_test, bare_test}

abbrev pub chooses_test : ℕ → List Line → Concept → Side → ℤ → Bool
chooses_test fineness label (Heading p) s z = true
chooses_test fineness label (Constant k) s z = true
chooses_test fineness label (Not c) s z = true
chooses_test fineness label (Less c k) s z = true
chooses_test fineness label (Lesser c d) AtLeast z = true
chooses_test fineness label (Lesser c d) AtMost z = carries_test fineness label (line c AtMost z) || carries_test fineness label (line d AtMost z)
chooses_test fineness label (Exists r c) s z = true

abbrev pub conclusions_test : Book → List Line → Line → Bool
conclusions_test b label l = all_test (carries_test b.fineness label) (conclusions_of b l) && chooses_test b.fineness label (concept_at b l.concept) l.side l.bound

-- The line m bounds the lower concept from above, and the label carries the same bound for the upper concept from below.
abbrev pub between_test : ℕ → List Line → Inclusion → Line → Bool
between_test fineness label i m = m.concept == i.lower && (same_side m.side AtMost && carries_test fineness label (line i.upper AtLeast m.bound))

abbrev pub inclusion_test : ℕ → List Line → Inclusion → Bool
inclusion_test fineness label i = i.struck || (carries_test fineness label (line i.upper AtLeast (pos (2 * fineness))) || any_test (between_test fineness label i) label)

-- What the line m, of the form given, denies over r to z is carried.
abbrev pub denial_test : ℕ → ℕ → ℤ → List Line → Concept → Line → Bool
denial_test fineness r z label (Heading p) m = true
denial_test fineness r z label (Constant k) m = true
denial_test fineness r z label (Not c) m = true
denial_test fineness r z label (Less c k) m = true
denial_test fineness r z label (Lesser c d) m = true
denial_test fineness r z label (Exists q d) m = not (q == r && (same_side m.side AtMost && int_lt m.bound z)) || carries_test fineness label (line d AtMost m.bound)

abbrev pub serves_test : Book → List Line → ℕ → ℕ → ℤ → List Line → Bool
serves_test b from r c z label = carries_test b.fineness label (line c AtLeast z) && all_test (λ m. denial_test b.fineness r z label (concept_at b m.concept) m) from

abbrev pub served_form_test : Book → List Entry → List Line → Concept → Line → Bool
served_form_test b sheet label (Heading p) l = true
served_form_test b sheet label (Constant k) l = true
served_form_test b sheet label (Not c) l = true
served_form_test b sheet label (Less c k) l = true
served_form_test b sheet label (Lesser c d) l = true
served_form_test b sheet label (Exists r c) l = not (same_side l.side AtLeast && int_le (pos 1) l.bound) || any_test (λ e. serves_test b label r c l.bound e.label) sheet

abbrev pub served_test : Book → List Entry → List Line → Line → Bool
served_test b sheet label l = served_form_test b sheet label (concept_at b l.concept) l

abbrev pub settled_test : Book → List Entry → List Line → Bool
settled_test b sheet label =
    not (clashes_test b label)
    && (all_test (conclusions_test b label) label && (all_test (inclusion_test b.fineness label) b.inclusions && all_test (served_test b sheet label) label))

abbrev pub letter_test : Letter → Bool
letter_test Z = false
letter_test N = false
letter_test S = false
letter_test M = false
letter_test I = false
letter_test E = false
letter_test L = true

abbrev pub stands_test : Book → List Entry → ℕ → Bool
stands_test b sheet k =
    faultless_test b (entry_at sheet k)
    && (letter_test (entry_at sheet k).head.letter && (bare_test (entry_at sheet k).head && settled_test b sheet (label_at sheet k)))

abbrev pub standing_test : Book → List Entry → Bool
standing_test b sheet = below_test (stands_test b sheet) (length sheet)

abbrev pub standing_fits_test : Book → List QuestionLine → List Entry → ℕ → Bool
standing_fits_test b question sheet root = nat_lt root (length sheet) && all_test (λ q. carries_test b.fineness (label_at sheet root) (half_line q)) question
