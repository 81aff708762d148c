-- Computing forms of the rules of closing sheets.
use Rattle.std.specs.Prelude.{ℕ, ◌-◌, ◌*◌, Bool, true, false, not, ◌&&◌, ◌||◌, List, length, ℤ, pos, ◌==◌, int_le, nat_le, nat_lt}
use Rattle.terms.specs.declared.concept.Concept.{Concept}
use Rattle.terms.specs.declared.concept.Concept.TheVariants.{Heading, Constant, Not, Less, Lesser, Exists}
use Rattle.terms.specs.declared.question.QuestionLine.{QuestionLine}
use Rattle.terms.specs.declared.line.Side.{Side}
use Rattle.terms.specs.declared.line.Side.TheVariants.{AtLeast, AtMost}
use Rattle.terms.specs.declared.line.Line.{Line}
use Rattle.terms.specs.declared.entry.Letter.{Letter}
use Rattle.terms.specs.declared.entry.Letter.TheVariants.{Z, N, S, M, I, E, L}
use Rattle.terms.specs.declared.entry.Head.{Head}
use Rattle.logic.specs.Books.{Book, inclusion_at}
use Rattle.logic.specs.Lines.{line, half_line}
use Rattle.logic.specs.Conclusions.{conclusions_of}
use Rattle.logic.specs.Entries.{Entry, entry_at, label_at}
use Rattle.logic.specs.Closing.{placed, placed_form}
use Rattle.logic.specs.LineTests.{all_test, any_test, below_test, same_side, same_line, has_test, among_test, clashes_test, passes_test, faultless_test, bare_test}

abbrev pub adds_test : List Line → (Line → Bool) → List Line → Bool
adds_test label new child = all_test (λ l. has_test label l || new l) child

abbrev pub one_child_test : ℕ → Head → Bool
one_child_test k h = nat_lt h.first k && h.second == 0

abbrev pub two_children_test : ℕ → Head → Bool
two_children_test k h = nat_lt h.first k && nat_lt h.second k

abbrev pub no_inclusion_test : Head → Bool
no_inclusion_test h = h.inclusion == 0 && h.step == 0

abbrev pub not_test : Concept → Bool
not_test (Heading p) = false
not_test (Constant k) = false
not_test (Not c) = true
not_test (Less c k) = false
not_test (Lesser c d) = false
not_test (Exists r c) = false

abbrev pub less_test : Concept → Bool
less_test (Heading p) = false
less_test (Constant k) = false
less_test (Not c) = false
less_test (Less c k) = true
less_test (Lesser c d) = false
less_test (Exists r c) = false

abbrev pub lesser_test : Concept → Bool
lesser_test (Heading p) = false
lesser_test (Constant k) = false
lesser_test (Not c) = false
lesser_test (Less c k) = false
lesser_test (Lesser c d) = true
lesser_test (Exists r c) = false

abbrev pub concludes_test : (Concept → Bool) → Book → ℕ → Head → List Line → List Line → Bool
concludes_test form b k head label child =
    nat_lt head.place (length label)
    && (form (placed_form b head label) && (one_child_test k head && (no_inclusion_test head && adds_test label (among_test (conclusions_of b (placed head label))) child)))

abbrev pub splits_test : Concept → ℤ → List Line → List Line → List Line → Bool
splits_test (Heading p) z label first second = false
splits_test (Constant k) z label first second = false
splits_test (Not c) z label first second = false
splits_test (Less c k) z label first second = false
splits_test (Lesser c d) z label first second = adds_test label (λ l. same_line l (line c AtMost z)) first && adds_test label (λ l. same_line l (line d AtMost z)) second
splits_test (Exists r c) z label first second = false

abbrev pub lesser_at_most_test : Book → ℕ → Head → List Line → List Line → List Line → Bool
lesser_at_most_test b k head label first second =
    nat_lt head.place (length label)
    && (two_children_test k head && (no_inclusion_test head && splits_test (placed_form b head label) (placed head label).bound label first second))

abbrev pub reaches_test : Book → Concept → ℤ → List Line → List Line → Bool
reaches_test b (Heading p) z label child = false
reaches_test b (Constant k) z label child = false
reaches_test b (Not c) z label child = false
reaches_test b (Less c k) z label child = false
reaches_test b (Lesser c d) z label child = false
reaches_test b (Exists r c) z label child = all_test (passes_test b label r c z) child

abbrev pub lesser_by_test : Side → Book → ℕ → Head → List Line → List Line → List Line → Bool
lesser_by_test AtLeast b k head label first second = concludes_test lesser_test b k head label first
lesser_by_test AtMost b k head label first second = lesser_at_most_test b k head label first second

abbrev pub inclusion_rule_test : Book → ℕ → Head → List Line → List Line → List Line → Bool
inclusion_rule_test b k head label first second =
    nat_lt head.inclusion (length b.inclusions)
    && (not (inclusion_at b head.inclusion).struck
    && (nat_le 1 head.step
    && (nat_le head.step (2 * b.fineness)
    && (two_children_test k head
    && (head.place == 0
    && (adds_test label (λ l. same_line l (line (inclusion_at b head.inclusion).lower AtMost (pos (head.step - 1)))) first
    && adds_test label (λ l. same_line l (line (inclusion_at b head.inclusion).upper AtLeast (pos head.step))) second))))))

abbrev pub exists_rule_test : Book → ℕ → Head → List Line → List Line → Bool
exists_rule_test b k head label child =
    nat_lt head.place (length label)
    && (same_side (placed head label).side AtLeast
    && (int_le (pos 1) (placed head label).bound
    && (one_child_test k head && (no_inclusion_test head && reaches_test b (placed_form b head label) (placed head label).bound label child))))

abbrev pub rule_test : Letter → Book → ℕ → Head → List Line → List Line → List Line → Bool
rule_test Z b k head label first second = clashes_test b label && bare_test head
rule_test N b k head label first second = concludes_test not_test b k head label first
rule_test S b k head label first second = concludes_test less_test b k head label first
rule_test M b k head label first second = lesser_by_test (placed head label).side b k head label first second
rule_test I b k head label first second = inclusion_rule_test b k head label first second
rule_test E b k head label first second = exists_rule_test b k head label first
rule_test L b k head label first second = false

abbrev pub keeps_rule_test : Book → List Entry → ℕ → Entry → Bool
keeps_rule_test b sheet k e = rule_test e.head.letter b k e.head e.label (label_at sheet e.head.first) (label_at sheet e.head.second)

abbrev pub closes_test : Book → List Entry → ℕ → Bool
closes_test b sheet k = faultless_test b (entry_at sheet k) && keeps_rule_test b sheet k (entry_at sheet k)

abbrev pub closing_test : Book → List Entry → Bool
closing_test b sheet = below_test (closes_test b sheet) (length sheet)

abbrev pub closing_fits_test : List QuestionLine → List Entry → ℕ → Bool
closing_fits_test question sheet root = nat_lt root (length sheet) && all_test (λ l. any_test (λ q. same_line (half_line q) l) question) (label_at sheet root)
