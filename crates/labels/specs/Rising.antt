-- Lines rise in one way at most: a line stands before another in at most one way.
use Rattle.std.specs.Prelude.{◌≡◌, ◌⊎◌, List, ◌<ℤ◌}
use Rattle.std.specs.Coded.{×_prop, Π_prop, →_prop, Unit-prop, le_prop, Coded-set, coded_ℕ}
use Rattle.std.proofs.Common.{ℕ, ap, inl, inr, arith}
use lib.Dec.{T_prop}
use Rattle.terms.specs.contracts.line.Side as side
use Rattle.terms.specs.declared.line.Side.{Side}
use Rattle.terms.specs.declared.line.Side.TheVariants.{AtLeast, AtMost}
use Rattle.terms.specs.declared.line.Line.{Line}
use Rattle.logic.specs.Entries.{BeforeSide, Before, Rises}

-- one of two facts that exclude each other
either_prop : {P Q : Type 0} → IsProp P → IsProp Q → (P → Q → ⊥) → IsProp (P ⊎ Q)
either_prop p q apart (inl x) (inl y) = ap inl (p x y)
either_prop p q apart (inl x) (inr y) = absurd (apart x y)
either_prop p q apart (inr x) (inl y) = absurd (apart y x)
either_prop p q apart (inr x) (inr y) = ap inr (q x y)

before_side_prop : (s t : Side) → IsProp (BeforeSide s t)
before_side_prop AtLeast AtLeast = λ x y. absurd x
before_side_prop AtLeast AtMost = Unit-prop
before_side_prop AtMost t = λ x y. absurd x

side_apart : (s t : Side) → BeforeSide s t → s ≡ t → ⊥
side_apart AtLeast AtLeast h e = h
side_apart AtLeast AtMost h e = let z : ◌≡◌ {A = ℕ} 0 1 = cc in omega arith
side_apart AtMost t h e = h

-- on one concept and side, by the bounds; on one concept; and at all
then_prop : (l m : Line) → IsProp ((l.side ≡ m.side) × (l.bound <ℤ m.bound))
then_prop l m = ×_prop (Coded-set (side.the_row).coded l.side m.side) (Prim.hlevel T_prop)

below_prop : (l m : Line) → IsProp (BeforeSide l.side m.side ⊎ ((l.side ≡ m.side) × (l.bound <ℤ m.bound)))
below_prop l m = either_prop (before_side_prop l.side m.side) (then_prop l m) (λ h p. side_apart l.side m.side h p.0)

here_prop : (l m : Line) → IsProp ((l.concept ≡ m.concept) × (BeforeSide l.side m.side ⊎ ((l.side ≡ m.side) × (l.bound <ℤ m.bound))))
here_prop l m = ×_prop (Coded-set coded_ℕ l.concept m.concept) (below_prop l m)

before_prop : (l m : Line) → IsProp (Before l m)
before_prop l m = either_prop le_prop (here_prop l m) (λ h p. omega (arith, h, p.0))

pub Rises-prop : (lines : List Line) → IsProp (Rises lines)
Rises-prop lines = Π_prop (λ k. →_prop (before_prop _ _))
