-- The computing forms of the rules of closing sheets agree with the rules.
use Rattle.std.proofs.Common.{ℕ, ◌-◌, ◌*◌, Bool, List, length, ℤ, pos, Decides}
use Rattle.std.proofs.lemmas.Bool.Decides.{Decides-eqb, Decides-ltb}
use Rattle.terms.specs.declared.concept.Concept.{Concept}
use Rattle.terms.specs.declared.concept.Concept.TheVariants.{Heading, Constant, Not, Less, Lesser, Exists}
use Rattle.terms.specs.declared.question.QuestionLine.{QuestionLine}
use Rattle.terms.specs.declared.line.Side.{Side}
use Rattle.terms.specs.declared.line.Side.TheVariants.{AtLeast, AtMost}
use Rattle.terms.specs.declared.line.Line.{Line}
use Rattle.terms.specs.declared.entry.Letter.{Letter}
use Rattle.terms.specs.declared.entry.Letter.TheVariants.{Z, N, S, M, I, E, L}
use Rattle.terms.specs.declared.entry.Head.{Head}
use Rattle.logic.specs.Books.{Book, inclusion_at}
use Rattle.logic.specs.Meeting.{blank_question_line}
use Rattle.logic.specs.Lines.{line, blank_line, half_line}
use Rattle.logic.specs.Conclusions.{conclusions_of}
use Rattle.logic.specs.Entries.{Entry, entry_at, label_at}
use Rattle.logic.specs.Closing.{
  placed,
  placed_form,
  Adds,
  OneChild,
  TwoChildren,
  NoInclusion,
  IsNot,
  IsLess,
  IsLesser,
  Concludes,
  Splits,
  LesserAtMost,
  Reaches,
  LesserBy,
  InclusionRule,
  ExistsRule,
  Rule,
  Closes,
  Closing,
  ClosingFits,
}
use Rattle.logic.specs.ClosingTests.{
  adds_test,
  one_child_test,
  two_children_test,
  no_inclusion_test,
  not_test,
  less_test,
  lesser_test,
  concludes_test,
  splits_test,
  lesser_at_most_test,
  reaches_test,
  lesser_by_test,
  inclusion_rule_test,
  exists_rule_test,
  rule_test,
  closes_test,
  closing_test,
  closing_fits_test,
}
use Rattle.logic.proofs.LinesAgree.{
  reword,
  both,
  either,
  always,
  never,
  is_false,
  each_agrees,
  any_agrees,
  below_agrees,
  le_agrees,
  leZ_agrees,
  side_agrees,
  line_agrees,
  has_agrees,
  among_agrees,
  clashes_agrees,
  passes_agrees,
  faultless_agrees,
  bare_agrees,
}

adds_agrees : (label : List Line) {new : Line → Bool} {New : Line → Type 0} → ((l : Line) → Decides (new l) (New l)) → (child : List Line) →
    Decides (adds_test label new child) (Adds label New child)
adds_agrees label each child = each_agrees blank_line (λ l. either (has_agrees label l) (each l)) child

one_agrees : (k : ℕ) (h : Head) → Decides (one_child_test k h) (OneChild k h)
one_agrees k h = reword (both (Decides-ltb h.first k) (Decides-eqb h.second 0)) (λ p. record { first = p.0; second = p.1 }) (λ o. (o.first, o.second))

two_agrees : (k : ℕ) (h : Head) → Decides (two_children_test k h) (TwoChildren k h)
two_agrees k h = reword (both (Decides-ltb h.first k) (Decides-ltb h.second k)) (λ p. record { first = p.0; second = p.1 }) (λ o. (o.first, o.second))

unused_agrees : (h : Head) → Decides (no_inclusion_test h) (NoInclusion h)
unused_agrees h = reword (both (Decides-eqb h.inclusion 0) (Decides-eqb h.step 0)) (λ p. record { inclusion = p.0; step = p.1 }) (λ o. (o.inclusion, o.step))

not_agrees : (form : Concept) → Decides (not_test form) (IsNot form)
not_agrees (Heading p) = never (λ e. e)
not_agrees (Constant k) = never (λ e. e)
not_agrees (Not c) = always tt
not_agrees (Less c k) = never (λ e. e)
not_agrees (Lesser c d) = never (λ e. e)
not_agrees (Exists r c) = never (λ e. e)

less_agrees : (form : Concept) → Decides (less_test form) (IsLess form)
less_agrees (Heading p) = never (λ e. e)
less_agrees (Constant k) = never (λ e. e)
less_agrees (Not c) = never (λ e. e)
less_agrees (Less c k) = always tt
less_agrees (Lesser c d) = never (λ e. e)
less_agrees (Exists r c) = never (λ e. e)

lesser_agrees : (form : Concept) → Decides (lesser_test form) (IsLesser form)
lesser_agrees (Heading p) = never (λ e. e)
lesser_agrees (Constant k) = never (λ e. e)
lesser_agrees (Not c) = never (λ e. e)
lesser_agrees (Less c k) = never (λ e. e)
lesser_agrees (Lesser c d) = always tt
lesser_agrees (Exists r c) = never (λ e. e)

concludes_agrees : {test : Concept → Bool} {Form : Concept → Type 0} → ((f : Concept) → Decides (test f) (Form f)) →
    (b : Book) (k : ℕ) (head : Head) (label child : List Line) →
    Decides (concludes_test test b k head label child) (Concludes Form b k head label child)
concludes_agrees form b k head label child =
    reword
    (both (Decides-ltb head.place (length label)) (both (form (placed_form b head label)) (both (one_agrees k head) (both (unused_agrees head) (adds_agrees label (among_agrees (conclusions_of b (placed head label))) child)))))
    (λ p. record { place = p.0; form = p.1.0; one = p.1.1.0; unused = p.1.1.1.0; adds = p.1.1.1.1 })
    (λ c. (c.place, (c.form, (c.one, (c.unused, c.adds)))))

splits_agrees : (form : Concept) (z : ℤ) (label first second : List Line) → Decides (splits_test form z label first second) (Splits form z label first second)
splits_agrees (Heading p) z label first second = never (λ e. e)
splits_agrees (Constant k) z label first second = never (λ e. e)
splits_agrees (Not c) z label first second = never (λ e. e)
splits_agrees (Less c k) z label first second = never (λ e. e)
splits_agrees (Lesser c d) z label first second = both (adds_agrees label (λ l. line_agrees l (line c AtMost z)) first) (adds_agrees label (λ l. line_agrees l (line d AtMost z)) second)
splits_agrees (Exists r c) z label first second = never (λ e. e)

lesser_at_most_agrees : (b : Book) (k : ℕ) (head : Head) (label first second : List Line) →
    Decides (lesser_at_most_test b k head label first second) (LesserAtMost b k head label first second)
lesser_at_most_agrees b k head label first second =
    reword
    (both (Decides-ltb head.place (length label)) (both (two_agrees k head) (both (unused_agrees head) (splits_agrees (placed_form b head label) (placed head label).bound label first second))))
    (λ p. record { place = p.0; two = p.1.0; unused = p.1.1.0; adds = p.1.1.1 })
    (λ d. (d.place, (d.two, (d.unused, d.adds))))

reaches_agrees : (b : Book) (form : Concept) (z : ℤ) (label child : List Line) → Decides (reaches_test b form z label child) (Reaches b form z label child)
reaches_agrees b (Heading p) z label child = never (λ e. e)
reaches_agrees b (Constant k) z label child = never (λ e. e)
reaches_agrees b (Not c) z label child = never (λ e. e)
reaches_agrees b (Less c k) z label child = never (λ e. e)
reaches_agrees b (Lesser c d) z label child = never (λ e. e)
reaches_agrees b (Exists r c) z label child = each_agrees blank_line (passes_agrees b label r c z) child

lesser_by_agrees : (s : Side) (b : Book) (k : ℕ) (head : Head) (label first second : List Line) →
    Decides (lesser_by_test s b k head label first second) (LesserBy s b k head label first second)
lesser_by_agrees AtLeast b k head label first second = concludes_agrees lesser_agrees b k head label first
lesser_by_agrees AtMost b k head label first second = lesser_at_most_agrees b k head label first second

inclusion_agrees : (b : Book) (k : ℕ) (head : Head) (label first second : List Line) →
    Decides (inclusion_rule_test b k head label first second) (InclusionRule b k head label first second)
inclusion_agrees b k head label first second =
    let i = inclusion_at b head.inclusion in
    reword
    (both (Decides-ltb head.inclusion (length b.inclusions))
    (both (is_false i.struck)
    (both (le_agrees 1 head.step)
    (both (le_agrees head.step (2 * b.fineness))
    (both (two_agrees k head)
    (both (Decides-eqb head.place 0)
    (both (adds_agrees label (λ l. line_agrees l (line i.lower AtMost (pos (head.step - 1)))) first)
    (adds_agrees label (λ l. line_agrees l (line i.upper AtLeast (pos head.step))) second))))))))
    (λ p. record { stands = p.0; unstruck = p.1.0; low = p.1.1.0; high = p.1.1.1.0; two = p.1.1.1.1.0; unused = p.1.1.1.1.1.0; under = p.1.1.1.1.1.1.0; over = p.1.1.1.1.1.1.1 })
    (λ r. (r.stands, (r.unstruck, (r.low, (r.high, (r.two, (r.unused, (r.under, r.over))))))))

exists_agrees : (b : Book) (k : ℕ) (head : Head) (label child : List Line) → Decides (exists_rule_test b k head label child) (ExistsRule b k head label child)
exists_agrees b k head label child =
    reword
    (both (Decides-ltb head.place (length label))
    (both (side_agrees (placed head label).side AtLeast)
    (both (leZ_agrees (pos 1) (placed head label).bound)
    (both (one_agrees k head) (both (unused_agrees head) (reaches_agrees b (placed_form b head label) (placed head label).bound label child))))))
    (λ p. record { place = p.0; side = p.1.0; positive = p.1.1.0; one = p.1.1.1.0; unused = p.1.1.1.1.0; reaches = p.1.1.1.1.1 })
    (λ r. (r.place, (r.side, (r.positive, (r.one, (r.unused, r.reaches))))))

pub rule_agrees : (a : Letter) (b : Book) (k : ℕ) (head : Head) (label first second : List Line) →
    Decides (rule_test a b k head label first second) (Rule a b k head label first second)
rule_agrees Z b k head label first second = reword (both (clashes_agrees b label) (bare_agrees head)) (λ p. record { clashes = p.0; unused = p.1 }) (λ r. (r.clashes, r.unused))
rule_agrees N b k head label first second = concludes_agrees not_agrees b k head label first
rule_agrees S b k head label first second = concludes_agrees less_agrees b k head label first
rule_agrees M b k head label first second = lesser_by_agrees (placed head label).side b k head label first second
rule_agrees I b k head label first second = inclusion_agrees b k head label first second
rule_agrees E b k head label first second = exists_agrees b k head label first
rule_agrees L b k head label first second = never (λ e. e)

pub closes_agrees : (b : Book) (sheet : List Entry) (k : ℕ) → Decides (closes_test b sheet k) (Closes b sheet k)
closes_agrees b sheet k =
    let e = entry_at sheet k in
    reword (both (faultless_agrees b e) (rule_agrees e.head.letter b k e.head e.label (label_at sheet e.head.first) (label_at sheet e.head.second)))
    (λ p. record { faultless = p.0; rule = p.1 })
    (λ c. (c.faultless, c.rule))

pub closing_agrees : (b : Book) (sheet : List Entry) → Decides (closing_test b sheet) (Closing b sheet)
closing_agrees b sheet = below_agrees (closes_agrees b sheet) (length sheet)

pub closing_fits_agrees : (question : List QuestionLine) (sheet : List Entry) (root : ℕ) →
    Decides (closing_fits_test question sheet root) (ClosingFits question sheet root)
closing_fits_agrees question sheet root =
    reword (both (Decides-ltb root (length sheet)) (each_agrees blank_line (λ l. any_agrees blank_question_line (λ q. line_agrees (half_line q) l) question) (label_at sheet root)))
    (λ p. record { stands = p.0; asked = p.1 })
    (λ f. (f.stands, f.asked))
