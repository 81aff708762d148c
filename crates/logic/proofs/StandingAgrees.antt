-- The computing forms of the rules of standing sheets agree with the rules.
use Rattle.std.proofs.Common.{◌≡◌, ℕ, ◌*◌, List, length, ℤ, pos, Decides, sym, refl, ap, ◌∙◌, subst, arith}
use Rattle.std.proofs.lemmas.Bool.Decides.{Decides-eqb, Decides-ltb, Decides-not}
use Rattle.terms.specs.declared.concept.Concept.{Concept}
use Rattle.terms.specs.declared.concept.Concept.TheVariants.{Heading, Constant, Not, Less, Lesser, Exists}
use Rattle.terms.specs.declared.concept.Inclusion.{Inclusion}
use Rattle.terms.specs.declared.question.QuestionLine.{QuestionLine}
use Rattle.terms.specs.declared.line.Side.{Side}
use Rattle.terms.specs.declared.line.Side.TheVariants.{AtLeast, AtMost}
use Rattle.terms.specs.declared.line.Line.{Line}
use Rattle.terms.specs.declared.entry.Letter.{Letter}
use Rattle.terms.specs.declared.entry.Letter.TheVariants.{Z, N, S, M, I, E, L}
use Rattle.logic.specs.Books.{Book, concept_at, blank_inclusion}
use Rattle.logic.specs.Meeting.{blank_question_line}
use Rattle.logic.specs.Lines.{line, blank_line, Carries, half_line}
use Rattle.logic.specs.Conclusions.{conclusions_of}
use Rattle.logic.specs.Entries.{Entry, blank_entry, entry_at, label_at, AnyEntry}
use Rattle.logic.specs.Standing.{Chooses, CarriesConclusions, KeepsInclusion, Serves, Served, Settled, Stands, Standing, StandingFits}
use Rattle.logic.specs.StandingTests.{chooses_test, conclusions_test, between_test, inclusion_test, denial_test, serves_test, served_form_test, settled_test, letter_test, stands_test, standing_test, standing_fits_test}
use Rattle.logic.proofs.ByLines.{Denial, serves_parts, Between, lies_under_parts}
use Rattle.logic.proofs.LinesAgree.{
  reword,
  both,
  either,
  always,
  never,
  implies,
  unless,
  all_agrees,
  each_agrees,
  any_agrees,
  below_agrees,
  leZ_agrees,
  ltZ_agrees,
  side_agrees,
  carries_agrees,
  clashes_agrees,
  faultless_agrees,
  bare_agrees,
}

-- ---- conclusions
chooses_agrees : (n : ℕ) (label : List Line) (form : Concept) (s : Side) (z : ℤ) → Decides (chooses_test n label form s z) (Chooses n label form s z)
chooses_agrees n label (Heading p) s z = always tt
chooses_agrees n label (Constant k) s z = always tt
chooses_agrees n label (Not c) s z = always tt
chooses_agrees n label (Less c k) s z = always tt
chooses_agrees n label (Lesser c d) AtLeast z = always tt
chooses_agrees n label (Lesser c d) AtMost z = either (carries_agrees n label (line c AtMost z)) (carries_agrees n label (line d AtMost z))
chooses_agrees n label (Exists r c) s z = always tt

conclusions_agrees : (b : Book) (label : List Line) (l : Line) → Decides (conclusions_test b label l) (CarriesConclusions b label l)
conclusions_agrees b label l =
    reword (both (all_agrees (carries_agrees b.fineness label) (conclusions_of b l)) (chooses_agrees b.fineness label (concept_at b l.concept) l.side l.bound))
    (λ p. record { all = p.0; one = p.1 })
    (λ r. (r.all, r.one))

-- ---- inclusions
between_agrees : (n : ℕ) (label : List Line) (i : Inclusion) (m : Line) → Decides (between_test n label i m) (Between n label i m)
between_agrees n label i m =
    reword (both (Decides-eqb m.concept i.lower) (both (side_agrees m.side AtMost) (carries_agrees n label (line i.upper AtLeast m.bound))))
    (λ p. record { concept = p.0; side = p.1.0; carries = p.1.1 })
    (λ r. (r.concept, (r.side, r.carries)))

pub inclusion_agrees : (n : ℕ) (label : List Line) (i : Inclusion) → Decides (inclusion_test n label i) (KeepsInclusion n label i)
inclusion_agrees n label i =
    let parts = lies_under_parts n label i in
    unless i.struck (reword (either (carries_agrees n label (line i.upper AtLeast (pos (2 * n)))) (any_agrees blank_line (between_agrees n label i) label)) parts.1 parts.0)

-- ---- serving
module _ (b : Book) (r : ℕ) (z : ℤ) (label : List Line) (m : Line) where
  denial_by : (form : Concept) → concept_at b m.concept ≡ form → Decides (denial_test b.fineness r z label form m) (Denial b r z label m)
  denial_by (Heading p) e = always (λ l d. absurd (let f = d.form in let z : ◌≡◌ {A = ℕ} 0 1 = cc in omega arith))
  denial_by (Constant k) e = always (λ l d. absurd (let f = d.form in let z : ◌≡◌ {A = ℕ} 0 1 = cc in omega arith))
  denial_by (Not c) e = always (λ l d. absurd (let f = d.form in let z : ◌≡◌ {A = ℕ} 0 1 = cc in omega arith))
  denial_by (Less c k) e = always (λ l d. absurd (let f = d.form in let z : ◌≡◌ {A = ℕ} 0 1 = cc in omega arith))
  denial_by (Lesser c d) e = always (λ l d. absurd (let f = d.form in let z : ◌≡◌ {A = ℕ} 0 1 = cc in omega arith))
  denial_by (Exists q c) e =
      reword (implies (both (Decides-eqb q r) (both (side_agrees m.side AtMost) (ltZ_agrees m.bound z))) (carries_agrees b.fineness label (line c AtMost m.bound)))
      (λ f l d.
      let g : Exists q c ≡ Exists r l.concept = sym e ∙ d.form in
      let h : q ≡ r = cc in
      let k : c ≡ l.concept = cc in
      subst (Carries b.fineness label) (λ i. record { concept = k i; side = sym d.side i; bound = sym d.bound i }) (f (h, (d.high, d.under))))
      (λ f p. f (line c AtMost m.bound) (record { form = e ∙ ap (λ q. Exists q c) p.0; high = p.1.0; under = p.1.1; side = refl; bound = refl }))

pub serves_agrees : (b : Book) (from : List Line) (r c : ℕ) (z : ℤ) (label : List Line) → Decides (serves_test b from r c z label) (Serves b from r c z label)
serves_agrees b from r c z label =
    let parts = serves_parts b from r c z label in
    reword (both (carries_agrees b.fineness label (line c AtLeast z)) (each_agrees blank_line (λ m. denial_by b r z label m (concept_at b m.concept) refl) from)) parts.1 parts.0

module _ (b : Book) (sheet : List Entry) (label : List Line) (l : Line) where
  served_by : (form : Concept) → concept_at b l.concept ≡ form → Decides (served_form_test b sheet label form l) (Served b sheet label l)
  served_by (Heading p) e = always (λ r c f. absurd (let z : ◌≡◌ {A = ℕ} 0 1 = cc in omega arith))
  served_by (Constant k) e = always (λ r c f. absurd (let z : ◌≡◌ {A = ℕ} 0 1 = cc in omega arith))
  served_by (Not d) e = always (λ r c f. absurd (let z : ◌≡◌ {A = ℕ} 0 1 = cc in omega arith))
  served_by (Less d k) e = always (λ r c f. absurd (let z : ◌≡◌ {A = ℕ} 0 1 = cc in omega arith))
  served_by (Lesser d g) e = always (λ r c f. absurd (let z : ◌≡◌ {A = ℕ} 0 1 = cc in omega arith))
  served_by (Exists q d) e =
      reword (implies (both (side_agrees l.side AtLeast) (leZ_agrees (pos 1) l.bound)) (any_agrees blank_entry (λ y. serves_agrees b label q d l.bound y.label) sheet))
      (λ f r c g s o.
      let h : q ≡ r = cc in
      let k : d ≡ c = cc in
      subst (λ r. AnyEntry (λ y. Serves b label r c l.bound y.label) sheet) h (subst (λ c. AnyEntry (λ y. Serves b label q c l.bound y.label) sheet) k (f (s, o))))
      (λ f p. f q d e p.0 p.1)

-- ---- entries and sheets
pub settled_agrees : (b : Book) (sheet : List Entry) (label : List Line) → Decides (settled_test b sheet label) (Settled b sheet label)
settled_agrees b sheet label =
    reword
    (both (Decides-not _ (clashes_agrees b label)) (both (each_agrees blank_line (conclusions_agrees b label) label)
    (both (each_agrees blank_inclusion (inclusion_agrees b.fineness label) b.inclusions) (each_agrees blank_line (λ l. served_by b sheet label l (concept_at b l.concept) refl) label))))
    (λ p. record { clear = p.0; conclusions = p.1.0; inclusions = p.1.1.0; served = p.1.1.1 })
    (λ s. (s.clear, (s.conclusions, (s.inclusions, s.served))))

letter_agrees : (a : Letter) → Decides (letter_test a) (a ≡ L)
letter_agrees Z = never (λ e. (let z : ◌≡◌ {A = ℕ} 0 1 = cc in omega arith))
letter_agrees N = never (λ e. (let z : ◌≡◌ {A = ℕ} 0 1 = cc in omega arith))
letter_agrees S = never (λ e. (let z : ◌≡◌ {A = ℕ} 0 1 = cc in omega arith))
letter_agrees M = never (λ e. (let z : ◌≡◌ {A = ℕ} 0 1 = cc in omega arith))
letter_agrees I = never (λ e. (let z : ◌≡◌ {A = ℕ} 0 1 = cc in omega arith))
letter_agrees E = never (λ e. (let z : ◌≡◌ {A = ℕ} 0 1 = cc in omega arith))
letter_agrees L = always refl

pub stands_agrees : (b : Book) (sheet : List Entry) (k : ℕ) → Decides (stands_test b sheet k) (Stands b sheet k)
stands_agrees b sheet k =
    let e = entry_at sheet k in
    reword (both (faultless_agrees b e) (both (letter_agrees e.head.letter) (both (bare_agrees e.head) (settled_agrees b sheet e.label))))
    (λ p. record { faultless = p.0; letter = p.1.0; unused = p.1.1.0; settled = p.1.1.1 })
    (λ s. (s.faultless, (s.letter, (s.unused, s.settled))))

pub standing_agrees : (b : Book) (sheet : List Entry) → Decides (standing_test b sheet) (Standing b sheet)
standing_agrees b sheet = below_agrees (stands_agrees b sheet) (length sheet)

pub standing_fits_agrees : (b : Book) (question : List QuestionLine) (sheet : List Entry) (root : ℕ) →
    Decides (standing_fits_test b question sheet root) (StandingFits b question sheet root)
standing_fits_agrees b question sheet root =
    reword (both (Decides-ltb root (length sheet)) (each_agrees blank_question_line (λ q. carries_agrees b.fineness (label_at sheet root) (half_line q)) question))
    (λ p. record { stands = p.0; carries = p.1 })
    (λ f. (f.stands, f.carries))
