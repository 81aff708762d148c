-- No individual keeps a label of a closing sheet; so nothing meets book and question where the root fits.
use Rattle.std.proofs.Common.{◌≡◌, ℕ, ◌-◌, ◌*◌, ◌<◌, ◌≤◌, ◌⊎◌, List, length, pos, ◌≤ℤ◌, sym, refl, subst, inl, inr, arith}
use native.Mathlib.Decide.{dec_lt, dec_le}
use Rattle.std.proofs.lemmas.Int.{ints}
use Rattle.terms.specs.declared.concept.Concept.{Concept}
use Rattle.terms.specs.declared.concept.Concept.TheVariants.{Heading, Constant, Not, Less, Lesser, Exists}
use Rattle.terms.specs.declared.question.QuestionLine.{QuestionLine}
use Rattle.terms.specs.declared.line.Side.{Side}
use Rattle.terms.specs.declared.line.Side.TheVariants.{AtLeast, AtMost}
use Rattle.terms.specs.declared.line.Line.{Line}
use Rattle.terms.specs.declared.entry.Letter.{Letter}
use Rattle.terms.specs.declared.entry.Letter.TheVariants.{Z, N, S, M, I, E, L}
use Rattle.terms.specs.declared.entry.Head.{Head}
use Rattle.logic.specs.Books.{Book, blank_inclusion, inclusion_at, Proper}
use Rattle.logic.specs.Holdings.{Holding, Within, degree}
use Rattle.logic.specs.Meeting.{AnyAsked, Includes, Obeys, Answers, Meets}
use Rattle.logic.specs.Lines.{line, blank_line, EachLine, HasLine, Keeps, half_line}
use Rattle.logic.specs.Conclusions.{conclusions_of, Among, Passes}
use Rattle.logic.specs.Entries.{Entry, entry_at, label_at}
use Rattle.logic.specs.Closing.{
  placed,
  placed_form,
  Adds,
  Concludes,
  Splits,
  Reaches,
  LesserBy,
  InclusionRule,
  ExistsRule,
  Rule,
  Closing,
}
use Rattle.logic.specs.Theorems.{ClosedMeansUnmet}
use Rattle.logic.proofs.Members.{each_has, each_weaker, all_among}
use Rattle.logic.proofs.Degrees.{below_ind}
use Rattle.logic.proofs.Rounds.{halved, halved_within, unit_in, unit_divides, round_up, degree_rounds, half_at, question_line_by_halves}
use Rattle.logic.proofs.Keeping.{Kept, concluded_kept, no_clash, passed_kept}

module _ (b : Book) (ok : Proper b) (G : Holding) (within : Within G) (halfs : G.top ≡ 2 * b.fineness) (obeys : Obeys b G) where
  -- The entry k, if nobody keeps the label of an entry below it.
  module _ (k : ℕ) (head : Head) (label : List Line) (x : ℕ) (here : x < G.size) (all : EachLine (Kept b G x) label) where
    -- a child's lines are kept, if the new ones are
    child_kept : (child : List Line) (New : Line → Type 0) → Adds label New child → ((l : Line) → New l → Kept b G x l) → EachLine (Kept b G x) child
    child_kept child New adds new =
        each_weaker blank_line (λ l. HasLine label l ⊎ New l) (Kept b G x) (λ l d. elim d [ inl h ↦ each_has blank_line (Kept b G x) label l all h | inr n ↦ new l n ]) child adds

    placed_kept : head.place < length label → Kept b G x (placed head label)
    placed_kept h = all head.place h

    by_conclusion : (Form : Concept → Type 0) (first : List Line) → Concludes Form b k head label first → EachLine (Kept b G x) first
    by_conclusion Form first r =
        child_kept first (Among (conclusions_of b (placed head label))) r.adds
        (λ l h. all_among (Kept b G x) (conclusions_of b (placed head label)) l (concluded_kept b ok G within halfs x (placed head label) (placed_kept r.place)) h)

    by_split : (form : Concept) (first second : List Line) → placed_form b head label ≡ form →
        pos (degree b G (placed head label).concept x) ≤ℤ (placed head label).bound →
        Splits form (placed head label).bound label first second → EachLine (Kept b G x) first ⊎ EachLine (Kept b G x) second
    by_split (Heading p) first second f k r = absurd r
    by_split (Constant m) first second f k r = absurd r
    by_split (Not c) first second f k r = absurd r
    by_split (Less c m) first second f k r = absurd r
    by_split (Lesser c d) first second f k r =
        let z = (placed head label).bound in
        let is = half_at b ok G halfs (placed head label).concept x (Lesser c d) f in
        elim (dec_le (degree b G c x) (degree b G d x)) [
          | yes le ↦ inl (child_kept first (λ l. l ≡ line c AtMost z) r.0 (λ l eq. subst (Kept b G x) (sym eq) (omega (arith, ints))))
          | no le ↦ inr (child_kept second (λ l. l ≡ line d AtMost z) r.1 (λ l eq. subst (Kept b G x) (sym eq) (omega (arith, ints))))
        ]
    by_split (Exists r c) first second f k h = absurd h

    by_inclusion : (first second : List Line) → InclusionRule b k head label first second → EachLine (Kept b G x) first ⊎ EachLine (Kept b G x) second
    by_inclusion first second r =
        let i = inclusion_at b head.inclusion in
        let step = head.step in
        let le : degree b G i.lower x ≤ degree b G i.upper x = obeys head.inclusion r.stands r.unstruck x here in
        let one : 1 ≤ step = r.low in
        elim (dec_lt (degree b G i.lower x) step) [
          | yes h ↦ inl (child_kept first (λ l. l ≡ line i.lower AtMost (pos (step - 1))) r.under (λ l eq. subst (Kept b G x) (sym eq) (omega (arith, ints))))
          | no h ↦ inr (child_kept second (λ l. l ≡ line i.upper AtLeast (pos step)) r.over (λ l eq. subst (Kept b G x) (sym eq) (omega (arith, ints))))
        ]

    by_exists : (form : Concept) (first : List Line) → placed_form b head label ≡ form → ExistsRule b k head label first →
        Reaches b form (placed head label).bound label first → (y : ℕ) × (y < G.size) × EachLine (Kept b G y) first
    by_exists (Heading p) first f r h = absurd h
    by_exists (Constant m) first f r h = absurd h
    by_exists (Not c) first f r h = absurd h
    by_exists (Less c m) first f r h = absurd h
    by_exists (Lesser c d) first f r h = absurd h
    by_exists (Exists q c) first f r h =
        let l = placed head label in
        let has : HasLine label (line l.concept AtLeast l.bound) = subst (λ s. HasLine label (line l.concept s l.bound)) r.side (head.place, r.place, refl) in
        let found = passed_kept b ok G within halfs label x all l.concept q c l.bound has f r.positive in
        (found.0, found.1, each_weaker blank_line (Passes b label q c l.bound) (Kept b G found.0) found.2 first h)

    module _ (sheet : List Entry) (ih : (m : ℕ) → m < k → (y : ℕ) → y < G.size → ¬ EachLine (Kept b G y) (label_at sheet m)) where
      abbrev first : List Line
      first = label_at sheet head.first

      abbrev second : List Line
      second = label_at sheet head.second

      one_child : head.first < k → EachLine (Kept b G x) first → ⊥
      one_child lt h = ih head.first lt x here h

      two_children : head.first < k → head.second < k → EachLine (Kept b G x) first ⊎ EachLine (Kept b G x) second → ⊥
      two_children l m (inl h) = ih head.first l x here h
      two_children l m (inr h) = ih head.second m x here h

      by_lesser : (s : Side) → (placed head label).side ≡ s → LesserBy s b k head label first second → ⊥
      by_lesser AtLeast q r = one_child r.one.first (by_conclusion _ first r)
      by_lesser AtMost q r =
          two_children r.two.first r.two.second
          (by_split (placed_form b head label) first second refl (subst (λ s. Keeps s (placed head label).bound (degree b G (placed head label).concept x)) q (placed_kept r.place)) r.adds)

      by_rule : (a : Letter) → Rule a b k head label first second → ⊥
      by_rule Z r = no_clash b ok G within halfs label x all r.clashes
      by_rule N r = one_child r.one.first (by_conclusion _ first r)
      by_rule S r = one_child r.one.first (by_conclusion _ first r)
      by_rule M r = by_lesser (placed head label).side refl r
      by_rule I r = two_children r.two.first r.two.second (by_inclusion first second r)
      by_rule E r =
          let found = by_exists (placed_form b head label) first refl r r.reaches in
          ih head.first r.one.first found.0 found.1 found.2
      by_rule L r = r

  pub no_one : (sheet : List Entry) → Closing b sheet → (k : ℕ) → k < length sheet → (x : ℕ) → x < G.size → ¬ EachLine (Kept b G x) (label_at sheet k)
  no_one sheet closing =
      below_ind
      (λ k. k < length sheet → (x : ℕ) → x < G.size → ¬ EachLine (Kept b G x) (label_at sheet k))
      (λ k ih len x here all. by_rule k (entry_at sheet k).head (label_at sheet k) x here all sheet (λ m lt. ih m lt (omega arith)) (entry_at sheet k).head.letter (closing k len).rule)

module _ (b : Book) (ok : Proper b) (H : Holding) (within : Within H) (scale : H.top ≡ b.fineness * unit_in b H) where
  -- the rounded holding obeys what the holding obeys
  pub halved_obeys : Obeys b H → Obeys b (halved b H)
  halved_obeys all =
      each_weaker blank_inclusion (Includes b H) (Includes b (halved b H))
      (λ i h un y ly. rw (degree_rounds b H scale ok within i.lower y, degree_rounds b H scale ok within i.upper y)
      (round_up b H scale (degree b H i.lower y) (degree b H i.upper y) (h un y (omega (arith)))))
      b.inclusions all

-- where a holding meets book and question, the rounded holding keeps the question's half-step lines
pub halved_answers : (b : Book) (question : List QuestionLine) (H : Holding) (x : ℕ) → Proper b → Within H → Meets b question H x →
    (q : QuestionLine) → Answers b H x q → Kept b (halved b H) x (half_line q)
halved_answers b question H x ok within meets q h =
    let scale = unit_divides b.fineness H.top ok.fine meets.scale in
    subst (Keeps (half_line q).side (half_line q).bound) (sym (degree_rounds b H scale ok within q.concept x)) ((question_line_by_halves b ok H within meets.scale q x).0 h)

pub closed_means_unmet : ClosedMeansUnmet
closed_means_unmet b question sheet root ok closing fits H within x meets =
    let scale = unit_divides b.fineness H.top ok.fine meets.scale in
    let G = halved b H in
    no_one b ok G (halved_within b H) refl (halved_obeys b ok H within scale meets.obeys) sheet closing root fits.stands x (omega (arith, meets.here))
    (each_weaker blank_line (λ l. AnyAsked (λ q. half_line q ≡ l) question) (Kept b G x)
    (λ l a. subst (Kept b G x) a.2 (halved_answers b question H x ok within meets _ (meets.answers a.0 a.1))) (label_at sheet root) fits.asked)
