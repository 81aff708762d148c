-- The standing rules said line by line, as they can be decided: what serves a line, and what keeps an inclusion.
use Rattle.std.proofs.Common.{◌≡◌, ℕ, ◌*◌, ◌⊎◌, ◌↔◌, List, ℤ, pos, ◌≤ℤ◌, sym, refl, subst, inl, inr, arith}
use Rattle.std.proofs.lemmas.Int.{ints}
use Rattle.terms.specs.declared.concept.Inclusion.{Inclusion}
use Rattle.terms.specs.declared.line.Side.TheVariants.{AtLeast, AtMost}
use Rattle.terms.specs.declared.line.Line.{Line}
use Rattle.logic.specs.Books.{Book}
use Rattle.logic.specs.Lines.{line, blank_line, EachLine, AnyLine, HasLine, Covers, Carries}
use Rattle.logic.specs.Conclusions.{Denies}
use Rattle.logic.specs.Standing.{GreatestAtLeast, LiesUnder, Serves}
use Rattle.logic.proofs.Members.{covering, each_has, each_from_has, any_from, any_which}
use Rattle.logic.proofs.Bounds.{some_greatest, some_smallest}

-- ---- serving
-- the label carries what the line m denies over r to z
abbrev pub Denial : Book → ℕ → ℤ → List Line → Line → Type 0
Denial b r z label m = (l : Line) → Denies b r z m l → Carries b.fineness label l

-- serving, line by line
pub serves_parts : (b : Book) (from : List Line) (r c : ℕ) (z : ℤ) (label : List Line) →
    Serves b from r c z label ↔ (Carries b.fineness label (line c AtLeast z) × EachLine (Denial b r z label) from)
serves_parts b from r c z label = (
  λ s. (s (line c AtLeast z) (inl refl), each_from_has blank_line (Denial b r z label) from (λ m h l d. s l (inr (any_from blank_line (λ m. Denies b r z m l) from m h d)))),
  λ p l q. elim q [
    | inl e ↦ subst (Carries b.fineness label) (sym e) p.0
    | inr a ↦ (let w = any_which blank_line (λ m. Denies b r z m l) from a in each_has blank_line (Denial b r z label) from w.0 p.1 w.1 l w.2)
  ],
)

-- ---- inclusions
-- the line m bounds the lower concept from above, and the label carries the same bound for the upper concept from below
pub record Between (n : ℕ) (label : List Line) (i : Inclusion) (m : Line) : Type 0 where
  pub concept : m.concept ≡ i.lower
  pub side : m.side ≡ AtMost
  pub carries : Carries n label (line i.upper AtLeast m.bound)

-- a label carries 'c at least z' exactly if z is no more than the greatest at-least bound on c
carries_under : (n : ℕ) (label : List Line) (c : ℕ) (low z : ℤ) → GreatestAtLeast label c low → z ≤ℤ low → Carries n label (line c AtLeast z)
carries_under n label c low z g h =
    elim g.reached [
      | inl e ↦ inl (subst (λ y. z ≤ℤ y) e h)
      | inr k ↦ inr (any_from blank_line (λ m. Covers m (line c AtLeast z)) label (line c AtLeast low) k (record { concept = refl; side = refl; strong = h }))
    ]

under_carried : (n : ℕ) (label : List Line) (c : ℕ) (low z : ℤ) → GreatestAtLeast label c low → Carries n label (line c AtLeast z) → z ≤ℤ low
under_carried n label c low z g (inl i) = let l = g.limit in omega (arith, ints)
under_carried n label c low z g (inr a) = let h = covering label (line c AtLeast z) a in let k = g.bounds h.0 h.1 in omega (arith, ints, h.2)

pub lies_under_parts : (n : ℕ) (label : List Line) (i : Inclusion) →
    LiesUnder n label i ↔ (Carries n label (line i.upper AtLeast (pos (2 * n))) ⊎ AnyLine (Between n label i) label)
lies_under_parts n label i = (to, from)
  where
    to : LiesUnder n label i → Carries n label (line i.upper AtLeast (pos (2 * n))) ⊎ AnyLine (Between n label i) label
    to u =
        elim u.smallest.reached [
          | inl e ↦ inl (carries_under n label i.upper u.low (pos (2 * n)) u.greatest (subst (λ z. z ≤ℤ u.low) e u.under))
          | inr h ↦ inr (any_from blank_line (Between n label i) label (line i.lower AtMost u.high) h
              (record { concept = refl; side = refl; carries = carries_under n label i.upper u.low u.high u.greatest u.under }))
        ]

    from : Carries n label (line i.upper AtLeast (pos (2 * n))) ⊎ AnyLine (Between n label i) label → LiesUnder n label i
    from p =
        let s = some_smallest label i.lower (pos (2 * n)) in
        let g = some_greatest label i.upper (pos 0) in
        let under : s.0 ≤ℤ g.0 = elim p [
          | inl c ↦ (let l = s.1.limit in let k = under_carried n label i.upper g.0 (pos (2 * n)) g.1 c in omega (arith, ints))
          | inr a ↦ (
              let w = any_which blank_line (Between n label i) label a in
              let m = w.0 in
              let at : HasLine label (line i.lower AtMost m.bound) = subst (HasLine label) (λ j. record { concept = w.2.concept j; side = w.2.side j; bound = m.bound }) w.1 in
              let l = s.1.bounds m.bound at in
              let k = under_carried n label i.upper g.0 m.bound g.1 w.2.carries in
              omega (arith, ints))
        ] in
        record { high = s.0; low = g.0; smallest = s.1; greatest = g.1; under = under }
