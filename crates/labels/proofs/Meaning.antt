-- What the tests find, line by line, as the definitions state it.
use Rattle.std.proofs.Common.{◌≡◌, ℕ, Bool, List, ℤ, ◌≤ℤ◌, Decides, sym, refl, ap, ◌∙◌, subst, inl, inr, arith}
use lib.Signed.{le_z}
use Rattle.std.proofs.lemmas.Int.{ints}
use Rattle.std.proofs.lemmas.Bool.Decides.{Decides-like}
use Rattle.terms.specs.declared.concept.Concept.{Concept}
use Rattle.terms.specs.declared.concept.Concept.TheVariants.{Heading, Constant, Not, Less, Lesser, Exists}
use Rattle.terms.specs.declared.concept.Inclusion.{Inclusion}
use Rattle.terms.specs.declared.line.Side.TheVariants.{AtLeast, AtMost}
use Rattle.terms.specs.declared.line.Line.{Line}
use Rattle.logic.specs.Books.{Book, concept_at}
use Rattle.logic.specs.Lines.{line, line_at, EachLine, Carries}
use Rattle.logic.specs.Conclusions.{Denies}
use Rattle.logic.specs.Standing.{SmallestAtMost, GreatestAtLeast, LiesUnder, Serves}
use Rattle.logic.proofs.LinesAgree.{leZ_agrees, reword}
use Rattle.labels.specs.Passing.{DenialBy, DenialOf}

-- ---- inclusions
-- two smallest bounds are one, and two greatest bounds
smallest_one : (n : ℕ) (lines : List Line) (c : ℕ) (y z : ℤ) → SmallestAtMost n lines c y → SmallestAtMost n lines c z → y ≤ℤ z
smallest_one n lines c y z p q = elim q.reached [ inl e ↦ subst (λ v. y ≤ℤ v) (sym e) p.limit | inr h ↦ p.bounds z h ]

greatest_one : (lines : List Line) (c : ℕ) (y z : ℤ) → GreatestAtLeast lines c y → GreatestAtLeast lines c z → y ≤ℤ z
greatest_one lines c y z p q = elim p.reached [ inl e ↦ subst (λ v. v ≤ℤ z) (sym e) q.limit | inr h ↦ q.bounds y h ]

pub under_decides : (n : ℕ) (lines : List Line) (i : Inclusion) (high low : ℤ) → SmallestAtMost n lines i.lower high → GreatestAtLeast lines i.upper low → Decides (le_z high low) (LiesUnder n lines i)
under_decides n lines i high low p q =
    reword (leZ_agrees high low)
    (λ h. record { high = high; low = low; smallest = p; greatest = q; under = h })
    (λ u.
    let a = smallest_one n lines i.lower high u.high p u.smallest in
    let b = greatest_one lines i.upper u.low low u.greatest q in
    omega (arith, ints, a, b, u.under))

-- ---- serving
-- the label carries what the line m denies over r to z
abbrev Denial : Book → ℕ → ℤ → List Line → Line → Type 0
Denial b r z label m = (l : Line) → Denies b r z m l → Carries b.fineness label l

module _ (b : Book) (r : ℕ) (z : ℤ) (label : List Line) (m : Line) where
  denial_to : (form : Concept) → concept_at b m.concept ≡ form → DenialBy b.fineness r z label form m → Denial b r z label m
  denial_to (Heading p) e h l d = absurd (let f = d.form in let z : ◌≡◌ {A = ℕ} 0 1 = cc in omega arith)
  denial_to (Constant k) e h l d = absurd (let f = d.form in let z : ◌≡◌ {A = ℕ} 0 1 = cc in omega arith)
  denial_to (Not c) e h l d = absurd (let f = d.form in let z : ◌≡◌ {A = ℕ} 0 1 = cc in omega arith)
  denial_to (Less c k) e h l d = absurd (let f = d.form in let z : ◌≡◌ {A = ℕ} 0 1 = cc in omega arith)
  denial_to (Lesser c c') e h l d = absurd (let f = d.form in let z : ◌≡◌ {A = ℕ} 0 1 = cc in omega arith)
  denial_to (Exists q c) e h l d =
      let g : Exists q c ≡ Exists r l.concept = sym e ∙ d.form in
      let o : q ≡ r = cc in
      let k : c ≡ l.concept = cc in
      subst (Carries b.fineness label) (λ i. record { concept = k i; side = sym d.side i; bound = sym d.bound i }) (h o (record { high = d.high; under = d.under }))

  denial_from : (form : Concept) → concept_at b m.concept ≡ form → Denial b r z label m → DenialBy b.fineness r z label form m
  denial_from (Heading p) e h = tt
  denial_from (Constant k) e h = tt
  denial_from (Not c) e h = tt
  denial_from (Less c k) e h = tt
  denial_from (Lesser c d) e h = tt
  denial_from (Exists q c) e h = λ o u. h (line c AtMost m.bound) (record { form = e ∙ ap (λ q. Exists q c) o; high = u.high; under = u.under; side = refl; bound = refl })

-- serving, line by line
abbrev ByLine : Book → List Line → ℕ → ℕ → ℤ → List Line → Type 0
ByLine b from r c z label = Carries b.fineness label (line c AtLeast z) × EachLine (DenialOf b r z label) from

module _ (b : Book) (from : List Line) (r c : ℕ) (z : ℤ) (label : List Line) where
  serves_to : ByLine b from r c z label → Serves b from r c z label
  serves_to p l (inl e) = subst (Carries b.fineness label) (sym e) p.0
  serves_to p l (inr (k, w, d)) = denial_to b r z label (line_at from k) (concept_at b (line_at from k).concept) refl (p.1 k w) l d

  serves_from : Serves b from r c z label → ByLine b from r c z label
  serves_from s = (s (line c AtLeast z) (inl refl), λ k w. denial_from b r z label (line_at from k) (concept_at b (line_at from k).concept) refl (λ l d. s l (inr (k, w, d))))

  pub serves_decides : (t : Bool) → Decides t (ByLine b from r c z label) → Decides t (Serves b from r c z label)
  serves_decides t d = Decides-like t serves_to serves_from d
