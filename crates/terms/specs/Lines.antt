-- Lines (graded assertions): their order in a label, their limits, and the line of a slot that is not in use.
use Rattle.std.specs.Prelude.{◌≡◌, ℕ, ℤ, ◌⊎◌, pos, negsuc, ◌<ℤ◌}
use Rattle.std.specs.declared.cmp.Ordering.{Ordering}
use Rattle.std.specs.declared.cmp.Ordering.TheVariants.{Less, Equal}
use Rattle.std.specs.Ordering.{ordering_reverse, ordering_then, nat_cmp, int_cmp}
use Rattle.terms.specs.declared.line.Side.{Side}
use Rattle.terms.specs.declared.line.Side.TheVariants.{AtLeast, AtMost}
use Rattle.terms.specs.declared.line.Line.{Line}

abbrev pub side_number : Side → ℕ
side_number AtLeast = 0
side_number AtMost = 1

-- lines stand by concept, at least before at most, then by bound
abbrev pub line_order : Line → Line → Ordering
line_order x y = ordering_then (nat_cmp x.concept y.concept) (ordering_then (nat_cmp (side_number x.side) (side_number y.side)) (int_cmp x.bound y.bound))

-- it is an order, and two lines are equal in it exactly if they are the same
pub record LinesInOrder : Type 0 where
  pub total : (x y : Line) → line_order x y ≡ ordering_reverse (line_order y x)
  pub transitive : (x y z : Line) → line_order x y ≡ Less → line_order y z ≡ Less → line_order x z ≡ Less
  pub agrees : (x y : Line) → (line_order x y ≡ Equal → x ≡ y) × (x ≡ y → line_order x y ≡ Equal)

-- the bound is outside -1 to 4,000
abbrev pub BoundOutside : Line → Type 0
BoundOutside x = (x.bound <ℤ negsuc 0) ⊎ (pos 4000 <ℤ x.bound)

-- what stands in a line's slot that is not in use
abbrev pub zero_line : Line
zero_line = record { concept = 0; side = AtLeast; bound = pos 0 }

-- 'the concept is at least the bound', and at most
abbrev pub at_least : ℕ → ℤ → Line
at_least c b = record { concept = c; side = AtLeast; bound = b }

abbrev pub at_most : ℕ → ℤ → Line
at_most c b = record { concept = c; side = AtMost; bound = b }
