-- Holdings, and the degree that a concept has at an individual.
use Rattle.std.specs.Prelude.{ℕ, zero, suc, ◌-◌, ◌*◌, ◌/◌, ◌≤◌, min, max}
use Rattle.std.specs.Int.{◌∣◌}
use Rattle.terms.specs.declared.concept.Concept.{Concept}
use Rattle.terms.specs.declared.concept.Concept.TheVariants.{Heading, Constant, Not, Less, Lesser, Exists}
use Rattle.logic.specs.Books.{Book, concept_at}

-- A holding (a finite fuzzy interpretation): the individuals 0 to size - 1, the top of its scale, the degree of a heading at an individual, and that of a role from one to another.
pub record Holding : Type 0 where
  pub size : ℕ
  pub top : ℕ
  pub heading : (p x : ℕ) → ℕ
  pub role : (r x y : ℕ) → ℕ

-- Its degrees are 0 to the top.
pub record Within (H : Holding) : Type 0 where
  pub headings : (p x : ℕ) → H.heading p x ≤ H.top
  pub roles : (r x y : ℕ) → H.role r x y ≤ H.top

-- A holding's scale serves a book: the top is at least 1, and the fineness divides it.
pub record OnScale (fineness top : ℕ) : Type 0 where
  pub some : 1 ≤ top
  pub divides : fineness ∣ top

-- What is asked of a holding that is to be checked: its scale serves, and it has 1 to 64 individuals and a top of at most 900,000.
pub record Fit (fineness size top : ℕ) : Type 0 where
  pub scale : OnScale fineness top
  pub some : 1 ≤ size
  pub few : size ≤ 64
  pub low : top ≤ 900_000

-- One degree of the book in degrees of a holding: the top divided by the fineness without remainder, at least 1.
abbrev pub unit : ℕ → ℕ → ℕ
unit fineness top = max 1 (top / fineness)

-- The greatest of f 0 to f (n - 1), and 0 of none.
abbrev pub most : ℕ → (ℕ → ℕ) → ℕ
most zero f = 0
most (suc n) f = max (most n f) (f n)

-- The degree (the truth degree) that a form has at x, where `part` has the degrees of its parts and one degree of the book is u.
-- The forms are those of non-expansive fuzzy ALC: a heading (an atomic concept), a constant, 'not' (involutive negation), 'less' (subtraction of a constant, at least 0),
-- 'the lesser' (conjunction by the minimum) and 'some r that is c' (an existential restriction), which has the greatest, over all y, of the lesser of r from x to y and c at y.
abbrev pub form_degree : Holding → ℕ → Concept → (ℕ → ℕ → ℕ) → ℕ → ℕ
form_degree H u (Heading p) part x = H.heading p x
form_degree H u (Constant k) part x = k * u
form_degree H u (Not c) part x = H.top - part c x
form_degree H u (Less c k) part x = part c x - k * u
form_degree H u (Lesser c d) part x = min (part c x) (part d x)
form_degree H u (Exists r c) part x = most H.size (λ y. min (H.role r x y) (part c y))

-- The degrees of the concepts below n. A concept's parts have lower numbers, so that n = c + 1 serves for the concept c.
unfoldable pub degrees_below : Book → Holding → ℕ → (n : ℕ) → ℕ → ℕ → ℕ
degrees_below b H u zero c x = 0
degrees_below b H u (suc n) c x = form_degree H u (concept_at b c) (degrees_below b H u n) x

-- The degree of the concept c at the individual x.
unfoldable pub degree : Book → Holding → ℕ → ℕ → ℕ
degree b H c x = degrees_below b H (unit b.fineness H.top) (suc c) c x
