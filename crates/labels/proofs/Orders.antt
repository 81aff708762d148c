-- The order of lines: what stands before is less, and so rising labels ascend.
use Rattle.std.proofs.Common.{◌≡◌, ℕ, ◌+◌, ◌<◌, ◌⊎◌, List, length, ◌<ℤ◌, sym, refl, ap, ◌∙◌, subst, inl, inr, arith}
use Rattle.std.specs.declared.cmp.Ordering.{Ordering}
use Rattle.std.specs.declared.cmp.Ordering.TheVariants.{Less, Equal, Greater}
use Rattle.std.specs.Ordering.{MatchOrdering, ordering_then, nat_cmp, int_cmp}
use Rattle.std.specs.Cmp.{IsTotalOrder, ranks, nat_cmp_is, int_ranks, int_cmp_is}
use Rattle.std.proofs.lemmas.Map.Keys.{sorted_from_all_adjacent, Less-from_sorted}
use Rattle.row.specs.Order.{Ascending}
use Rattle.row.specs.Numbers.{nat_cmp_agrees}
use Rattle.terms.specs.declared.line.Side.{Side}
use Rattle.terms.specs.declared.line.Side.TheVariants.{AtLeast, AtMost}
use Rattle.terms.specs.declared.line.Line.{Line}
use Rattle.terms.specs.Lines.{line_order, side_number}
use Rattle.terms.specs.LineOrderLaws.{line_order_total, line_order_transitive, line_order_agrees}
use Rattle.logic.specs.Lines.{line_at, blank_line}
use Rattle.logic.specs.Entries.{BeforeSide, Before, Rises}

laws : IsTotalOrder line_order
laws = record {
  antisymm = line_order_total;
  trans = line_order_transitive;
  congr = λ l m n e. ap (λ x. line_order x n) ((line_order_agrees l m).0 e);
}

-- the order of sides and bounds, where the concepts are one
abbrev then_order : Line → Line → Ordering
then_order l m = ordering_then (nat_cmp (side_number l.side) (side_number m.side)) (int_cmp l.bound m.bound)

abbrev ThenBefore : Line → Line → Type 0
ThenBefore l m = BeforeSide l.side m.side ⊎ ((l.side ≡ m.side) × (l.bound <ℤ m.bound))

-- ---- what stands before is less
side_less : (s t : Side) → BeforeSide s t → nat_cmp (side_number s) (side_number t) ≡ Less
side_less AtLeast AtLeast h = absurd h
side_less AtLeast AtMost h = refl
side_less AtMost t h = absurd h

then_less : (l m : Line) → ThenBefore l m → then_order l m ≡ Less
then_less l m (inl h) = ap (λ o. ordering_then o (int_cmp l.bound m.bound)) (side_less l.side m.side h)
then_less l m (inr (e, h)) = ap (λ o. ordering_then o (int_cmp l.bound m.bound)) ((nat_cmp_agrees (side_number l.side) (side_number m.side)).1 (ap side_number e)) ∙ sym (int_cmp_is l.bound m.bound Less h)

before_less : (l m : Line) → Before l m → line_order l m ≡ Less
before_less l m (inl h) = ap (λ o. ordering_then o (then_order l m)) (sym (nat_cmp_is l.concept m.concept Less h))
before_less l m (inr (e, h)) = ap (λ o. ordering_then o (then_order l m)) ((nat_cmp_agrees l.concept m.concept).1 e) ∙ then_less l m h

-- ---- and what is less stands before
by_first : (a b : Ordering) → ordering_then a b ≡ Less → (a ≡ Less) ⊎ ((a ≡ Equal) × (b ≡ Less))
by_first Less b h = inl refl
by_first Equal b h = inr (refl, h)
by_first Greater b h = absurd (let z : ◌≡◌ {A = ℕ} 0 1 = cc in omega arith)

less_side : (s t : Side) → nat_cmp (side_number s) (side_number t) ≡ Less → BeforeSide s t
less_side AtLeast AtLeast h = absurd (let z : ◌≡◌ {A = ℕ} 0 1 = cc in omega arith)
less_side AtLeast AtMost h = tt
less_side AtMost AtLeast h = absurd (let z : ◌≡◌ {A = ℕ} 0 1 = cc in omega arith)
less_side AtMost AtMost h = absurd (let z : ◌≡◌ {A = ℕ} 0 1 = cc in omega arith)

same_side : (s t : Side) → side_number s ≡ side_number t → s ≡ t
same_side AtLeast AtLeast h = refl
same_side AtLeast AtMost h = absurd (omega arith)
same_side AtMost AtLeast h = absurd (omega arith)
same_side AtMost AtMost h = refl

less_then : (l m : Line) → then_order l m ≡ Less → ThenBefore l m
less_then l m h =
    elim (by_first (nat_cmp (side_number l.side) (side_number m.side)) (int_cmp l.bound m.bound) h) [
      | inl e ↦ inl (less_side l.side m.side e)
      | inr p ↦ inr (same_side l.side m.side ((nat_cmp_agrees (side_number l.side) (side_number m.side)).0 p.0), subst (λ o. MatchOrdering o (l.bound <ℤ m.bound) (l.bound ≡ m.bound) (m.bound <ℤ l.bound)) p.1 (int_ranks l.bound m.bound))
    ]

less_before : (l m : Line) → line_order l m ≡ Less → Before l m
less_before l m h =
    elim (by_first (nat_cmp l.concept m.concept) (then_order l m) h) [
      | inl e ↦ inl (subst (λ o. MatchOrdering o (l.concept < m.concept) (l.concept ≡ m.concept) (m.concept < l.concept)) e (ranks l.concept m.concept))
      | inr p ↦ inr ((nat_cmp_agrees l.concept m.concept).0 p.0, less_then l m p.1)
    ]

-- ---- rising labels ascend, and each line stands before every later one
pub rising_ascends : (lines : List Line) → Rises lines → Ascending line_order lines
rising_ascends lines up i j d h w = Less-from_sorted line_order lines i j d (sorted_from_all_adjacent laws lines blank_line (λ k v. before_less (line_at lines k) (line_at lines (k + 1)) (up k v))) h w

pub before_later : (lines : List Line) → Rises lines → (i j : ℕ) → i < j → j < length lines → Before (line_at lines i) (line_at lines j)
before_later lines up i j h w = less_before (line_at lines i) (line_at lines j) (rising_ascends lines up i j blank_line h w)
