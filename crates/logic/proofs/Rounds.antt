-- The holding rounded to half steps: each of its degrees is the rounded degree, and it keeps what a question asks.
use Rattle.std.proofs.Common.{◌≡◌, ℕ, zero, suc, ◌+◌, ◌-◌, ◌*◌, ◌/◌, ◌<◌, ◌≤◌, min, max, ◌↔◌, sym, refl, ap, ◌∙◌, subst, ap₂, mul-le-mul_right, mul-div_cancel, arith}
use mathlib.Core.Path.{fun_ext}
use native.Mathlib.Decide.{dec_lt, dec_le}
use native.Mathlib.Nat.{mul-div_cancel'}
use Rattle.std.proofs.lemmas.Int.{ints}
use Rattle.terms.specs.declared.concept.Concept.{Concept}
use Rattle.terms.specs.declared.concept.Concept.TheVariants.{Heading, Constant, Not, Less, Lesser, Exists}
use Rattle.terms.specs.declared.question.Comparison.{Comparison}
use Rattle.terms.specs.declared.question.Comparison.TheVariants.{NotBelow, Above, NotAbove, Under}
use Rattle.logic.specs.Books.{Book, concept_at, BuildsOn, Proper}
use Rattle.logic.specs.Holdings.{Holding, Within, OnScale, unit, most, form_degree, degree}
use Rattle.logic.specs.Meeting.{Compares}
use Rattle.logic.specs.Rounding.{halves, rounded, rounded_holding}
use Rattle.logic.specs.Lines.{Keeps, asked_side, asked_bound}
use Rattle.logic.specs.Theorems.{RoundingCommutes, QuestionLineByHalves}
use Rattle.logic.proofs.Halves.{halves_at, halves_mono, halves_contrary, halves_less, halves_top, rise_min, rise_most, ge_even, ge_odd}
use Rattle.logic.proofs.Degrees.{below_ind, builds_at, degree_is, degree_at, degree_fits}

pub unit_two : (N : ℕ) → 1 ≤ N → unit N (2 * N) ≡ 2
unit_two N h = rw (mul-div_cancel 2 h)

-- the top of a scale that serves is as many units as the fineness says
pub unit_divides : (N T : ℕ) → 1 ≤ N → OnScale N T → T ≡ N * unit N T
unit_divides N T p s = go (T / N) refl
  where
    e : N * (T / N) ≡ T
    e = mul-div_cancel' N s.divides

    go : (k : ℕ) → T / N ≡ k → T ≡ N * max 1 (T / N)
    go zero z = absurd (omega (arith, e, ap (λ k. N * k) z, s.some))
    go (suc k) z = let f : max 1 (T / N) ≡ T / N = omega arith in rw f (sym e)

abbrev pub round : Book → Holding → ℕ → ℕ
round b H = rounded b.fineness H.top

abbrev pub unit_in : Book → Holding → ℕ
unit_in b H = unit b.fineness H.top

abbrev pub halved : Book → Holding → Holding
halved b H = rounded_holding b.fineness H

pub halved_within : (b : Book) (H : Holding) → Within (halved b H)
halved_within b H = record { headings = λ p x. omega arith; roles = λ r x y. omega arith }

module _ (b : Book) (H : Holding) (scale : H.top ≡ b.fineness * unit_in b H) where
  pub round_is : (x : ℕ) → x ≤ H.top → round b H x ≡ halves (unit_in b H) x
  round_is x h = omega (arith, halves_top (unit_in b H) b.fineness x (omega arith) (omega arith))

  pub round_up : (x y : ℕ) → x ≤ y → round b H x ≤ round b H y
  round_up x y h = omega (arith, halves_mono (unit_in b H) x y (omega arith) h)

  round_zero : round b H 0 ≡ 0
  round_zero = omega (arith, halves_at (unit_in b H) 0 (omega arith))

  form_rounds : (n : ℕ) (form : Concept) → BuildsOn b.fineness n form → (f g : ℕ → ℕ → ℕ) → ((c x : ℕ) → f c x ≤ H.top) →
      ((c : ℕ) → c < n → (y : ℕ) → g c y ≡ round b H (f c y)) → (x : ℕ) →
      form_degree (halved b H) 2 form g x ≡ round b H (form_degree H (unit_in b H) form f x)
  form_rounds n (Heading p) l f g fits e x = refl
  form_rounds n (Constant k) l f g fits e x =
      let h : k * unit_in b H ≤ H.top = omega (arith, mul-le-mul_right (unit_in b H) l) in
      omega (arith, round_is (k * unit_in b H) h, halves_at (unit_in b H) k (omega arith))
  form_rounds n (Not c) l f g fits e x =
      let h : f c x ≤ b.fineness * unit_in b H = omega (arith, fits c x) in
      rw (e c l x, round_is (f c x) (fits c x), round_is (H.top - f c x) (omega arith))
      (sym (halves_contrary (unit_in b H) b.fineness (f c x) (omega arith) h) ∙ ap (λ t. halves (unit_in b H) (t - f c x)) (sym scale))
  form_rounds n (Less c k) l f g fits e x =
      rw (e c l.0 x, round_is (f c x) (fits c x), round_is (f c x - k * unit_in b H) (omega (arith, fits c x)))
      (omega (arith, halves_less (unit_in b H) k (f c x) (omega arith)))
  form_rounds n (Lesser c d) l f g fits e x = ap₂ min (e c l.0 x) (e d l.1 x) ∙ sym (rise_min (round b H) round_up round_zero (f c x) (f d x))
  form_rounds n (Exists r c) l f g fits e x =
      ap (most H.size) (fun_ext (λ y. ap (min (round b H (H.role r x y))) (e c l y) ∙ sym (rise_min (round b H) round_up round_zero (H.role r x y) (f c y))))
      ∙ sym (rise_most (round b H) round_up round_zero H.size (λ y. min (H.role r x y) (f c y)))

  module _ (ok : Proper b) (within : Within H) where
    -- rounding commutes with taking degrees
    pub degree_rounds : (c x : ℕ) → degree b (halved b H) c x ≡ round b H (degree b H c x)
    degree_rounds =
        below_ind
        (λ c. (x : ℕ) → degree b (halved b H) c x ≡ round b H (degree b H c x))
        (λ c ih x.
        degree_is b ok (halved b H) c x
        ∙ (ap (λ u. form_degree (halved b H) u (concept_at b c) (degree b (halved b H)) x) (unit_two b.fineness ok.fine)
        ∙ (form_rounds c (concept_at b c) (builds_at b ok c) (degree b H) (degree b (halved b H)) (degree_fits b ok H within scale) ih x
        ∙ ap (round b H) (sym (degree_is b ok H c x)))))

pub rounding_commutes : RoundingCommutes
rounding_commutes b ok H within s =
    let scale = unit_divides b.fineness H.top ok.fine s in
    record {
      forms = λ n form l part fits x. form_rounds b H scale n form l part (λ c y. round b H (part c y)) fits (λ c _ y. refl) x;
      concepts = degree_rounds b H scale ok within;
    }

-- A comparison with k units holds of a degree exactly if its half-step line holds of the degree's half steps.
pub asked_rounds : (K : ℕ) → 0 < K → (q : Comparison) (k v : ℕ) → Compares q (k * K) v ↔ Keeps (asked_side q) (asked_bound q k) (halves K v)
asked_rounds K p NotBelow k v =
    (λ h. let i = (ge_even K k v p).1 h in omega (arith, ints), λ h. (ge_even K k v p).0 (omega (arith, ints)))
asked_rounds K p Above k v =
    (λ h. let i = (ge_odd K k v p).1 h in omega (arith, ints), λ h. (ge_odd K k v p).0 (omega (arith, ints)))
asked_rounds K p NotAbove k v = (
  λ h. elim (dec_le (2 * k + 1) (halves K v)) [ yes l ↦ absurd (omega (arith, (ge_odd K k v p).0 l)) | no l ↦ omega (arith, ints) ],
  λ h. elim (dec_lt (k * K) v) [ yes l ↦ absurd (omega (arith, ints, (ge_odd K k v p).1 l)) | no l ↦ omega arith ],
)
asked_rounds K p Under k v = (
  λ h. elim (dec_le (2 * k) (halves K v)) [ yes l ↦ absurd (omega (arith, (ge_even K k v p).0 l)) | no l ↦ omega (arith, ints) ],
  λ h. elim (dec_le (k * K) v) [ yes l ↦ absurd (omega (arith, ints, (ge_even K k v p).1 l)) | no l ↦ omega arith ],
)

pub question_line_by_halves : QuestionLineByHalves
question_line_by_halves b ok H within s q x =
    let scale = unit_divides b.fineness H.top ok.fine s in
    let v = degree b H q.concept x in
    let is : round b H v ≡ halves (unit_in b H) v = round_is b H scale v (degree_fits b ok H within scale q.concept x) in
    let law = asked_rounds (unit_in b H) (omega arith) q.comparison q.degree v in
    let P : ℕ → Type 0 = Keeps (asked_side q.comparison) (asked_bound q.comparison q.degree) in
    (λ h. subst P (sym is) (law.0 h), λ h. law.1 (subst P is h))

-- ---- a holding in half steps
module _ (b : Book) (ok : Proper b) (G : Holding) (halfs : G.top ≡ 2 * b.fineness) where
  pub half_unit : unit_in b G ≡ 2
  half_unit = rw halfs (unit_two b.fineness ok.fine)

  pub half_at : (c x : ℕ) (form : Concept) → concept_at b c ≡ form → degree b G c x ≡ form_degree G 2 form (degree b G) x
  half_at c x form e = degree_at b ok G c x form e ∙ ap (λ u. form_degree G u form (degree b G) x) half_unit

  pub half_fits : Within G → (c x : ℕ) → degree b G c x ≤ 2 * b.fineness
  half_fits within c x = omega (arith, degree_fits b ok G within (rw half_unit (omega arith)) c x)
