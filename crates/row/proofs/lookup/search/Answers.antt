use Rattle.std.proofs.Common.{◌≡◌, ℕ, ◌+◌, ◌-◌, ◌/◌, ◌<◌, length, Less, Equal, Greater, sym, arith}
use Rattle.std.proofs.lemmas.List.Elements.{at_read}
use Rattle.row.proofs.Orders.{order_from_laws, below_through, above_from, found_from_equal}
use Rattle.row.proofs.lookup.search.Goals as goal

pub loop-low-preserved-in-Less : goal.loop-low-preserved-in-Less
loop-low-preserved-in-Less g c =
    let met = g.met.T.Ordered in
    let cmp = g.T.Ordered.cmp in
    let o = order_from_laws cmp g.T.Ordered.key met.total met.transitive met.agrees in
    let xs = c.args.items.now in
    let mid : ℕ = c.loop-low.low + (c.loop-low.high - c.loop-low.low) / 2 in
    let in' : mid < length xs = omega arith in
    let at = at_read xs (λ y. cmp y c.args.x.now ≡ Less) mid c.index-items-mid.result in' c.index-items-mid.is (sym c.in-Less.ensures) in
    (omega arith, omega arith, below_through cmp o c.args.x.now xs mid in' at, c.loop-low.invariant.3)

pub returns-in-Equal : goal.returns-in-Equal
returns-in-Equal g c =
    let met = g.met.T.Ordered in
    let cmp = g.T.Ordered.cmp in
    let o = order_from_laws cmp g.T.Ordered.key met.total met.transitive met.agrees in
    let xs = c.args.items.now in
    let mid : ℕ = c.loop-low.low + (c.loop-low.high - c.loop-low.low) / 2 in
    let in' : mid < length xs = omega arith in
    let at = at_read xs (λ y. cmp y c.args.x.now ≡ Equal) mid c.index-items-mid.result in' c.index-items-mid.is (sym c.in-Equal.ensures) in
    record { outcome = (in', at); sorted = found_from_equal cmp o c.args.x.now xs mid in' at }

pub loop-low-preserved : goal.loop-low-preserved
loop-low-preserved g c =
    let met = g.met.T.Ordered in
    let cmp = g.T.Ordered.cmp in
    let o = order_from_laws cmp g.T.Ordered.key met.total met.transitive met.agrees in
    let xs = c.args.items.now in
    let mid : ℕ = c.loop-low.low + (c.loop-low.high - c.loop-low.low) / 2 in
    let in' : mid < length xs = omega arith in
    let at = at_read xs (λ y. cmp y c.args.x.now ≡ Greater) mid c.index-items-mid.result in' c.index-items-mid.is (sym c.in-Greater.ensures) in
    (omega arith, omega arith, c.loop-low.invariant.2, above_from cmp o c.args.x.now xs mid at)
