-- What an individual keeps in a holding whose degrees are half steps: with a line its conclusions, no clash, and elsewhere what is passed on.
use Rattle.std.proofs.Common.{◌≡◌, ℕ, ◌*◌, ◌<◌, ◌≤◌, min, Bool, true, false, cond, List, [], ◌∷◌, ℤ, pos, negsuc, ◌+ℤ◌, ◌≤ℤ◌, sym, refl, ◌∙◌, subst, inl, inr, arith}
use lib.Signed.{lt_z}
use Rattle.std.specs.List.{AllByRecursion}
use Rattle.std.proofs.lemmas.Int.{ints}
use Rattle.terms.specs.declared.concept.Concept.{Concept}
use Rattle.terms.specs.declared.concept.Concept.TheVariants.{Heading, Constant, Not, Less, Lesser, Exists}
use Rattle.terms.specs.declared.line.Side.{Side}
use Rattle.terms.specs.declared.line.Side.TheVariants.{AtLeast, AtMost}
use Rattle.terms.specs.declared.line.Line.{Line}
use Rattle.logic.specs.Books.{Book, concept_at, Proper}
use Rattle.logic.specs.Holdings.{Holding, Within, form_degree, degree}
use Rattle.logic.specs.Lines.{line, blank_line, EachLine, HasLine, Keeps}
use Rattle.logic.specs.Clashes.{Beyond, Broken, Crosses, Clashing, Clashes}
use Rattle.logic.specs.Conclusions.{conclusions, conclusions_of, Denies, Passes}
use Rattle.logic.proofs.Members.{each_has, any_which}
use Rattle.logic.proofs.Degrees.{most_bounds, most_reached}
use Rattle.logic.proofs.Rounds.{half_at, half_fits}

-- The individual x keeps the line.
abbrev pub Kept : Book → Holding → ℕ → Line → Type 0
Kept b G x l = Keeps l.side l.bound (degree b G l.concept x)

pub natural_of : (z : ℤ) → pos 1 ≤ℤ z → (t : ℕ) × (z ≡ pos t) × (1 ≤ t)
natural_of (pos t) h = (t, refl, omega (arith, ints))
natural_of (negsuc t) h = absurd (omega (arith, ints))

-- each conclusion of a line that is kept is kept
conclusions_keep : (G : Holding) (n : ℕ) → G.top ≡ 2 * n → (f : ℕ → ℕ → ℕ) → ((c x : ℕ) → f c x ≤ 2 * n) →
    (x : ℕ) (form : Concept) (s : Side) (z : ℤ) → Keeps s z (form_degree G 2 form f x) →
    AllByRecursion (λ l. Keeps l.side l.bound (f l.concept x)) (conclusions n form s z)
conclusions_keep G n t f fits x (Heading p) s z h = tt
conclusions_keep G n t f fits x (Constant k) s z h = tt
conclusions_keep G n t f fits x (Not c) AtLeast z h = (omega (arith, ints, fits c x), tt)
conclusions_keep G n t f fits x (Not c) AtMost z h = (omega (arith, ints, fits c x), tt)
conclusions_keep G n t f fits x (Less c k) AtLeast z h = go (lt_z z (pos 1)) refl
  where
    go : (t : Bool) → lt_z z (pos 1) ≡ t → AllByRecursion (λ l. Keeps l.side l.bound (f l.concept x)) (cond t [] (line c AtLeast (z +ℤ pos (2 * k)) ∷ []))
    go true e = tt
    go false e = (omega (arith, ints), tt)
conclusions_keep G n t f fits x (Less c k) AtMost z h = (omega (arith, ints), tt)
conclusions_keep G n t f fits x (Lesser c d) AtLeast z h = (omega (arith, ints), (omega (arith, ints), tt))
conclusions_keep G n t f fits x (Lesser c d) AtMost z h = tt
conclusions_keep G n t f fits x (Exists r c) s z h = tt

module _ (b : Book) (ok : Proper b) (G : Holding) (within : Within G) (halfs : G.top ≡ 2 * b.fineness) where
  pub concluded_kept : (x : ℕ) (l : Line) → Kept b G x l → AllByRecursion (Kept b G x) (conclusions_of b l)
  concluded_kept x l k =
      conclusions_keep G b.fineness halfs (degree b G) (half_fits b ok G halfs within) x (concept_at b l.concept) l.side l.bound
      (subst (Keeps l.side l.bound) (half_at b ok G halfs l.concept x (concept_at b l.concept) refl) k)

  module _ (label : List Line) (x : ℕ) (all : EachLine (Kept b G x) label) where
    by_range : (s : Side) (z : ℤ) (v : ℕ) → v ≤ 2 * b.fineness → Keeps s z v → ¬ Beyond b.fineness s z
    by_range AtLeast z v h k i = omega (arith, ints)
    by_range AtMost z v h k i = omega (arith, ints)

    by_constant : (c : ℕ) (form : Concept) → concept_at b c ≡ form → (s : Side) (z : ℤ) → Keeps s z (degree b G c x) → ¬ Broken form s z
    by_constant c (Heading p) e s z k i = i
    by_constant c (Constant m) e s z k i = i (subst (Keeps s z) (half_at b ok G halfs c x (Constant m) e ∙ omega arith) k)
    by_constant c (Not d) e s z k i = i
    by_constant c (Less d m) e s z k i = i
    by_constant c (Lesser d f) e s z k i = i
    by_constant c (Exists r d) e s z k i = i

    by_crossing : (l m : Line) → Kept b G x l → Kept b G x m → ¬ Crosses l m
    by_crossing l m k j i =
        let low : l.bound ≤ℤ pos (degree b G l.concept x) = subst (λ s. Keeps s l.bound (degree b G l.concept x)) i.low k in
        let high : pos (degree b G m.concept x) ≤ℤ m.bound = subst (λ s. Keeps s m.bound (degree b G m.concept x)) i.high j in
        let high' : pos (degree b G l.concept x) ≤ℤ m.bound = subst (λ c. pos (degree b G c x) ≤ℤ m.bound) (sym i.concept) high in
        omega (arith, ints, i.under)

    -- a label that is kept does not clash
    pub no_clash : ¬ Clashes b label
    no_clash clash =
        let found = any_which blank_line (Clashing b label) label clash in
        let l = found.0 in
        let k : Kept b G x l = each_has blank_line (Kept b G x) label l all found.1 in
        elim found.2 [
          | inl i ↦ by_range l.side l.bound (degree b G l.concept x) (half_fits b ok G halfs within l.concept x) k i
          | inr (inl i) ↦ by_constant l.concept (concept_at b l.concept) refl l.side l.bound k i
          | inr (inr i) ↦ (
              let other = any_which blank_line (Crosses l) label i in
              by_crossing l other.0 k (each_has blank_line (Kept b G x) label other.0 all other.1) other.2)
        ]

    -- what a line 'some r that is c at least z' passes on is kept by one individual
    pub passed_kept : (m r c : ℕ) (z : ℤ) → HasLine label (line m AtLeast z) → concept_at b m ≡ Exists r c → pos 1 ≤ℤ z →
        (y : ℕ) × (y < G.size) × ((l : Line) → Passes b label r c z l → Kept b G y l)
    passed_kept m r c z has form one =
        let over : z ≤ℤ pos (degree b G m x) = each_has blank_line (Kept b G x) label (line m AtLeast z) all has in
        let is = half_at b ok G halfs m x (Exists r c) form in
        let n = natural_of z one in
        let found = most_reached G.size (λ y. min (G.role r x y) (degree b G c y)) n.0 n.2 (omega (arith, ints, n.1)) in
        let y = found.0 in
        let part : Kept b G y (line c AtLeast z) = omega (arith, ints, n.1, found.2) in
        let denied : (l d : Line) → HasLine label d → Denies b r z d l → Kept b G y l = λ l d h den.
        let low : pos (degree b G d.concept x) ≤ℤ d.bound = subst (λ s. Keeps s d.bound (degree b G d.concept x)) den.high (each_has blank_line (Kept b G x) label d all h) in
        let whole = half_at b ok G halfs d.concept x (Exists r l.concept) den.form in
        let top = most_bounds G.size (λ y. min (G.role r x y) (degree b G l.concept y)) y found.1 in
        let keep : pos (degree b G l.concept y) ≤ℤ d.bound = omega (arith, ints, n.1, found.2, den.under) in
        subst (λ s. Keeps s l.bound (degree b G l.concept y)) (sym den.side) (subst (λ e. pos (degree b G l.concept y) ≤ℤ e) (sym den.bound) keep) in (
          y,
          found.1,
          λ l p. elim p [ inl e ↦ subst (Kept b G y) (sym e) part | inr d ↦ (let w = any_which blank_line (λ m. Denies b r z m l) label d in denied l w.0 w.1 w.2) ],
        )
