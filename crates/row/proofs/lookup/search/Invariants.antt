use Rattle.std.proofs.Common.{◌≡◌, ◌-◌, ◌≤◌, length, Less, Greater}
use Rattle.std.specs.List.{AllWithin}
use Rattle.row.specs.Order.{Ascending}
use Rattle.row.proofs.lookup.search.Given as goal

abbrev pub invariant-loop-low : goal.invariant-loop-low
invariant-loop-low g l =
    (l.low ≤ l.high) × (l.high ≤ length l.items)
    × (Ascending g.T.Ordered.cmp l.items → AllWithin (λ y. g.T.Ordered.cmp y l.x ≡ Less) l.items 0 l.low)
    × (Ascending g.T.Ordered.cmp l.items → AllWithin (λ y. g.T.Ordered.cmp y l.x ≡ Greater) l.items l.high (length l.items))

abbrev pub decreases-loop-low : goal.decreases-loop-low
decreases-loop-low g l = l.high - l.low
