-- The greatest and the smallest of the bounds of some lines of a label.
use Rattle.std.proofs.Common.{◌≡◌, ℕ, Bool, true, false, cond, ◌&&◌, eqb, List, [], ◌∷◌, ℤ, ◌≤ℤ◌, Decides, fold, sym, refl, ap, ◌∙◌, subst, inl, inr}
use Rattle.std.specs.Int.{int_max, int_min}
use Rattle.std.specs.List.{ContainsAt as Has}
use Rattle.std.proofs.ByRecursion.{all-has, folded_max_z_bounds, folded_max_z_reached, folded_min_z_bounds, folded_min_z_reached}
use Rattle.std.proofs.lemmas.Bool.Decides.{Decides-eqb}
use Rattle.terms.specs.declared.line.Side.{Side}
use Rattle.terms.specs.declared.line.Side.TheVariants.{AtLeast, AtMost}
use Rattle.terms.specs.declared.line.Line.{Line}
use Rattle.logic.specs.Lines.{line, blank_line, HasLine}
use Rattle.logic.specs.Standing.{Smallest, Greatest}
use Rattle.logic.specs.LineTests.{same_side}
use Rattle.logic.specs.ReadingTests.{bounds_by}
use Rattle.logic.proofs.Members.{has_head, has_tail, has_cases, has_none, has_from_place, has_at_place}
use Rattle.logic.proofs.LinesAgree.{both, side_agrees}

-- a line of the label passes, and has the bound z
abbrev BoundBy : (Line → Bool) → List Line → ℤ → Type 0
BoundBy p label z = (l : Line) × Has label l × (p l ≡ true) × (l.bound ≡ z)

-- a bound stands among those that pass exactly if a line that passes has it
bounds_has : (p : Line → Bool) (label : List Line) (l : Line) → Has label l → p l ≡ true → Has (bounds_by p label) l.bound
bounds_has p [] l h t = absurd (has_none l h)
bounds_has p (m ∷ ls) l h t =
    elim (has_cases m l ls h) [
      | inl e ↦ subst (λ r. Has (cond r (m.bound ∷ bounds_by p ls) (bounds_by p ls)) l.bound) (sym (ap p e ∙ t)) (subst (λ n. Has (m.bound ∷ bounds_by p ls) n.bound) e (has_head m.bound (bounds_by p ls)))
      | inr k ↦ later (p m) (bounds_has p ls l k t)
    ]
  where
    later : (r : Bool) → Has (bounds_by p ls) l.bound → Has (cond r (m.bound ∷ bounds_by p ls) (bounds_by p ls)) l.bound
    later true k = has_tail m.bound l.bound (bounds_by p ls) k
    later false k = k

bounds_which : (p : Line → Bool) (label : List Line) (z : ℤ) → Has (bounds_by p label) z → BoundBy p label z
bounds_which p [] z h = absurd (has_none z h)
bounds_which p (m ∷ ls) z h = go (p m) refl h (λ k. bounds_which p ls z k)
  where
    later : BoundBy p ls z → BoundBy p (m ∷ ls) z
    later w = (w.0, has_tail m w.0 ls w.1, w.2, w.3)

    go : (r : Bool) → p m ≡ r → Has (cond r (m.bound ∷ bounds_by p ls) (bounds_by p ls)) z → (Has (bounds_by p ls) z → BoundBy p ls z) → BoundBy p (m ∷ ls) z
    go true e k rest = elim (has_cases m.bound z (bounds_by p ls) k) [ inl q ↦ (m, has_head m ls, e, q) | inr t ↦ later (rest t) ]
    go false e k rest = later (rest k)

-- the same by places
abbrev pub BoundIn : (Line → Bool) → List Line → ℤ → Type 0
BoundIn p label z = (l : Line) × HasLine label l × (p l ≡ true) × (l.bound ≡ z)

bound_to : (p : Line → Bool) (label : List Line) (z : ℤ) → BoundIn p label z → Has (bounds_by p label) z
bound_to p label z w = subst (Has (bounds_by p label)) w.3 (bounds_has p label w.0 (has_from_place blank_line label w.0 w.1) w.2)

bound_from : (p : Line → Bool) (label : List Line) (z : ℤ) → Has (bounds_by p label) z → BoundIn p label z
bound_from p label z h = let w = bounds_which p label z h in (w.0, has_at_place blank_line label w.0 w.1, w.2, w.3)

-- the greatest by a test is the greatest by a relation, if the test says of each line what the relation says of its bound
module _ (p : Line → Bool) (P : ℤ → Type 0) (label : List Line) (to : (z : ℤ) → P z → BoundIn p label z) (from : (l : Line) → HasLine label l → p l ≡ true → P l.bound) where
  abbrev zs : List ℤ
  zs = bounds_by p label

  among : (z : ℤ) → Has zs z → P z
  among z h = let w = bound_from p label z h in subst P w.3 (from w.0 w.1 w.2)

  pub greatest_of : (least : ℤ) → Greatest P least (fold int_max least zs)
  greatest_of least =
      let top = fold int_max least zs in
      let over = folded_max_z_bounds least zs top refl in
      record {
        bounds = λ y h. all-has (λ z. z ≤ℤ top) zs y over.1 (bound_to p label y (to y h));
        limit = over.0;
        reached = elim (folded_max_z_reached least zs top refl) [ inl e ↦ inl e | inr h ↦ inr (among top h) ];
      }

  pub smallest_of : (most : ℤ) → Smallest P most (fold int_min most zs)
  smallest_of most =
      let low = fold int_min most zs in
      let under = folded_min_z_bounds most zs low refl in
      record {
        bounds = λ y h. all-has (λ z. low ≤ℤ z) zs y under.1 (bound_to p label y (to y h));
        limit = under.0;
        reached = elim (folded_min_z_reached most zs low refl) [ inl e ↦ inl e | inr h ↦ inr (among low h) ];
      }

-- ---- the bounds on one concept and side
abbrev on_test : ℕ → Side → Line → Bool
on_test c s l = eqb l.concept c && same_side l.side s

on_agrees : (c : ℕ) (s : Side) (l : Line) → Decides (on_test c s l) ((l.concept ≡ c) × (l.side ≡ s))
on_agrees c s l = both (Decides-eqb l.concept c) (side_agrees l.side s)

on_line : (label : List Line) (c : ℕ) (s : Side) (l : Line) → HasLine label l → on_test c s l ≡ true → HasLine label (line c s l.bound)
on_line label c s l h t = let d = (on_agrees c s l).0 t in subst (HasLine label) (λ i. record { concept = d.0 i; side = d.1 i; bound = l.bound }) h

on_bound : (label : List Line) (c : ℕ) (s : Side) (z : ℤ) → HasLine label (line c s z) → BoundIn (on_test c s) label z
on_bound label c s z h = (line c s z, h, (on_agrees c s (line c s z)).1 (refl, refl), refl)

pub some_greatest : (label : List Line) (c : ℕ) (least : ℤ) → (z : ℤ) × Greatest (λ y. HasLine label (line c AtLeast y)) least z
some_greatest label c least = (_, greatest_of (on_test c AtLeast) (λ y. HasLine label (line c AtLeast y)) label (on_bound label c AtLeast) (on_line label c AtLeast) least)

pub some_smallest : (label : List Line) (c : ℕ) (most : ℤ) → (z : ℤ) × Smallest (λ y. HasLine label (line c AtMost y)) most z
some_smallest label c most = (_, smallest_of (on_test c AtMost) (λ y. HasLine label (line c AtMost y)) label (on_bound label c AtMost) (on_line label c AtMost) most)
