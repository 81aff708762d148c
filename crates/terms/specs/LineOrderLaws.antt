-- The laws of the order of lines, from those of numbers: it is total and transitive, and lines that are equal in it are the same.
use Rattle.std.specs.Prelude.{◌≡◌}
use Rattle.std.proofs.Common.{refl, ap, subst, true≢false, arith}
use Rattle.std.specs.declared.cmp.Ordering.{Ordering}
use Rattle.std.specs.declared.cmp.Ordering.TheVariants.{Less, Equal, Greater}
use Rattle.std.specs.Ordering.{ordering_then, ordering_reverse, is_eq, is_lt, is_gt, nat_cmp, int_cmp}
use Rattle.std.specs.Cmp.{IsTotalOrder, nat_cmp_total, int_cmp_total, signed_Decides, then_total, on_total, tied_itself}
use Rattle.row.specs.Numbers.{nat_cmp_agrees}
use Rattle.terms.specs.declared.line.Side.{Side}
use Rattle.terms.specs.declared.line.Side.TheVariants.{AtLeast, AtMost}
use Rattle.terms.specs.declared.line.Line.{Line}
use Rattle.terms.specs.Lines.{line_order, side_number}

laws : IsTotalOrder line_order
laws = then_total (on_total (λ (x : Line). x.concept) nat_cmp_total) (then_total (on_total (λ (x : Line). side_number x.side) nat_cmp_total) (on_total (λ (x : Line). x.bound) int_cmp_total))

pub line_order_total : (x y : Line) → line_order x y ≡ ordering_reverse (line_order y x)
line_order_total = laws.antisymm

pub line_order_transitive : (x y z : Line) → line_order x y ≡ Less → line_order y z ≡ Less → line_order x z ≡ Less
line_order_transitive = laws.trans

both_equal : (a b : Ordering) → ordering_then a b ≡ Equal → (a ≡ Equal) × (b ≡ Equal)
both_equal Less b h = absurd (true≢false (ap is_lt h))
both_equal Equal b h = (refl, h)
both_equal Greater b h = absurd (true≢false (ap is_gt h))

one_side : (s t : Side) → side_number s ≡ side_number t → s ≡ t
one_side AtLeast AtLeast h = refl
one_side AtLeast AtMost h = absurd (omega arith)
one_side AtMost AtLeast h = absurd (omega arith)
one_side AtMost AtMost h = refl

same_from_equal : (x y : Line) → line_order x y ≡ Equal → x ≡ y
same_from_equal x y h =
    let p = both_equal (nat_cmp x.concept y.concept) _ h in
    let q = both_equal (nat_cmp (side_number x.side) (side_number y.side)) (int_cmp x.bound y.bound) p.1 in
    let a = (nat_cmp_agrees x.concept y.concept).0 p.0 in
    let b = one_side x.side y.side ((nat_cmp_agrees (side_number x.side) (side_number y.side)).0 q.0) in
    let c = (signed_Decides x.bound y.bound).0 (ap is_eq q.1) in
    λ t. record { concept = a t; side = b t; bound = c t }

pub line_order_agrees : (x y : Line) → (line_order x y ≡ Equal → x ≡ y) × (x ≡ y → line_order x y ≡ Equal)
line_order_agrees x y = (same_from_equal x y, λ e. subst (λ z. line_order x z ≡ Equal) e (tied_itself laws x))
