-- Each degree is what its concept's form says.
use Rattle.std.proofs.Common.{◌≡◌, ℕ, zero, suc, ◌-◌, ◌*◌, ◌<◌, ◌≤◌, min, max, length, refl, ap, ◌∙◌, ap₂, mul-le-mul_right, arith}
use mathlib.Core.Path.{fun_ext}
use native.Mathlib.Decide.{dec_lt, dec_le}
use Rattle.std.proofs.lemmas.List.{get_or_past}
use Rattle.terms.specs.declared.concept.Concept.{Concept}
use Rattle.terms.specs.declared.concept.Concept.TheVariants.{Heading, Constant, Not, Less, Lesser, Exists}
use Rattle.logic.specs.Books.{Book, concept_at, BuildsOn, Proper}
use Rattle.logic.specs.Holdings.{Holding, Within, unit, most, form_degree, degrees_below, degree}
use Rattle.logic.specs.Theorems.{DegreeByForm}

-- what holds of n if it holds of all below n, holds of all
pub below_ind : (P : ℕ → Type 0) → ((n : ℕ) → ((m : ℕ) → m < n → P m) → P n) → (n : ℕ) → P n
below_ind P step n = step n (all n)
  where
    all : (n m : ℕ) → m < n → P m
    all zero m h = absurd (omega arith)
    all (suc n) m h = step m (λ k l. all n k (omega arith))

-- where no concept stands, the constant 0 does, which has no parts
pub builds_at : (b : Book) → Proper b → (c : ℕ) → BuildsOn b.fineness c (concept_at b c)
builds_at b ok c = elim (dec_lt c (length b.concepts)) [ yes l ↦ ok.builds c l | no l ↦ past (omega arith) ]
  where
    past : length b.concepts ≤ c → BuildsOn b.fineness c (concept_at b c)
    past l = rw (get_or_past b.concepts c (Constant 0) l) (omega arith)

-- ---- the greatest of f y, y < n
pub most_bounds : (n : ℕ) (f : ℕ → ℕ) (y : ℕ) → y < n → f y ≤ most n f
most_bounds zero f y h = absurd (omega arith)
most_bounds (suc n) f y h = elim (dec_lt y n) [ yes l ↦ omega (arith, most_bounds n f y l) | no l ↦ last (omega arith) ]
  where
    last : y ≡ n → f y ≤ max (most n f) (f n)
    last e = omega (arith, ap f e)

pub most_under : (n : ℕ) (f : ℕ → ℕ) (t : ℕ) → ((y : ℕ) → y < n → f y ≤ t) → most n f ≤ t
most_under zero f t h = omega arith
most_under (suc n) f t h = omega (arith, most_under n f t (λ y l. h y (omega arith)), h n (omega arith))

pub most_reached : (n : ℕ) (f : ℕ → ℕ) (t : ℕ) → 1 ≤ t → t ≤ most n f → (y : ℕ) × (y < n) × (t ≤ f y)
most_reached zero f t p h = absurd (omega arith)
most_reached (suc n) f t p h =
    elim (dec_le t (f n)) [
      | yes l ↦ (n, omega arith, l)
      | no l ↦ (let r = most_reached n f t p (omega arith) in (r.0, omega (arith, r.1), r.2))
    ]

-- ---- the degree is what the form says
form_same : (H : Holding) (u N n : ℕ) (form : Concept) → BuildsOn N n form → (f g : ℕ → ℕ → ℕ) →
    ((c : ℕ) → c < n → (y : ℕ) → f c y ≡ g c y) → (x : ℕ) → form_degree H u form f x ≡ form_degree H u form g x
form_same H u N n (Heading p) l f g e x = refl
form_same H u N n (Constant k) l f g e x = refl
form_same H u N n (Not c) l f g e x = ap (λ v. H.top - v) (e c l x)
form_same H u N n (Less c k) l f g e x = ap (λ v. v - k * u) (e c l.0 x)
form_same H u N n (Lesser c d) l f g e x = ap₂ min (e c l.0 x) (e d l.1 x)
form_same H u N n (Exists r c) l f g e x = ap (most H.size) (fun_ext (λ y. ap (min (H.role r x y)) (e c l y)))

module _ (b : Book) (ok : Proper b) (H : Holding) where
  settled : (u n m c x : ℕ) → c < n → c < m → degrees_below b H u n c x ≡ degrees_below b H u m c x
  unfolding degrees_below
  settled u zero m c x h k = absurd (omega arith)
  settled u (suc n) zero c x h k = absurd (omega arith)
  settled u (suc n) (suc m) c x h k =
      form_same H u b.fineness c (concept_at b c) (builds_at b ok c) (degrees_below b H u n) (degrees_below b H u m)
      (λ d l y. settled u n m d y (omega arith) (omega arith)) x

  pub degree_is : (c x : ℕ) → degree b H c x ≡ form_degree H (unit b.fineness H.top) (concept_at b c) (degree b H) x
  unfolding degree degrees_below
  degree_is c x =
      let u = unit b.fineness H.top in
      form_same H u b.fineness c (concept_at b c) (builds_at b ok c) (degrees_below b H u c) (degree b H)
      (λ d l y. settled u c (suc d) d y l (omega arith)) x

  -- the same at a form that is known
  pub degree_at : (c x : ℕ) (form : Concept) → concept_at b c ≡ form → degree b H c x ≡ form_degree H (unit b.fineness H.top) form (degree b H) x
  degree_at c x form e = degree_is c x ∙ ap (λ f. form_degree H (unit b.fineness H.top) f (degree b H) x) e

  module _ (within : Within H) where
    form_fits : (u n : ℕ) (form : Concept) → H.top ≡ b.fineness * u → BuildsOn b.fineness n form → (f : ℕ → ℕ → ℕ) →
        ((c : ℕ) → c < n → (y : ℕ) → f c y ≤ H.top) → (x : ℕ) → form_degree H u form f x ≤ H.top
    form_fits u n (Heading p) t l f h x = within.headings p x
    form_fits u n (Constant k) t l f h x = omega (arith, mul-le-mul_right u l)
    form_fits u n (Not c) t l f h x = omega arith
    form_fits u n (Less c k) t l f h x = omega (arith, h c l.0 x)
    form_fits u n (Lesser c d) t l f h x = omega (arith, h c l.0 x)
    form_fits u n (Exists r c) t l f h x = most_under H.size (λ y. min (H.role r x y) (f c y)) H.top (λ y _. omega (arith, h c l y))

    -- no degree is above the top
    pub degree_fits : H.top ≡ b.fineness * unit b.fineness H.top → (c x : ℕ) → degree b H c x ≤ H.top
    degree_fits t =
        below_ind (λ c. (x : ℕ) → degree b H c x ≤ H.top)
        (λ c ih x. rw (degree_is c x) (form_fits (unit b.fineness H.top) c (concept_at b c) t (builds_at b ok c) (degree b H) ih x))

pub degree_by_form : DegreeByForm
degree_by_form b ok H c x = degree_is b ok H c x
