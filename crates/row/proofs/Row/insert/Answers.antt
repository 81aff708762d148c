use Rattle.std.proofs.Common.{List, sym, ◌∙◌, subst}
use Rattle.row.specs.Rows.{items}
use Rattle.row.specs.Order.{Ascending}
use Rattle.row.proofs.Orders.{order_from_laws, absent_from_missing, put_missing, put_found, ascending_inserted}
use Rattle.row.proofs.Row.insert.Goals as goal

pub returns-in-Ok-clause-sorted : goal.returns-in-Ok-clause-sorted
returns-in-Ok-clause-sorted g c up =
    let met = g.met.T.Ordered in
    let o = order_from_laws g.T.Ordered.cmp g.T.Ordered.key met.total met.transitive met.agrees in
    let found = c.in-Ok.ensures.sorted up in
    (found, sym (put_found g.T.Ordered.cmp o c.args.x (items c.args.self.now) c.in-Ok.i found))

pub returns-clause-sorted : goal.returns-clause-sorted
returns-clause-sorted g c up =
    let met = g.met.T.Ordered in
    let cmp = g.T.Ordered.cmp in
    let o = order_from_laws cmp g.T.Ordered.key met.total met.transitive met.agrees in
    let missing = c.in-Err.ensures.sorted up in
    let xs = items c.args.self.now in
    (absent_from_missing cmp o c.args.x xs c.in-Err.i missing, missing, c.put_at.ensures.items ∙ sym (put_missing cmp o c.args.x xs c.in-Err.i missing))

pub returns-clause-ascending : goal.returns-clause-ascending
returns-clause-ascending g c up =
    let met = g.met.T.Ordered in
    let cmp = g.T.Ordered.cmp in
    let o = order_from_laws cmp g.T.Ordered.key met.total met.transitive met.agrees in
    let xs = items c.args.self.now in
    subst (λ (l : List g.row.T.Denot). Ascending cmp l) (sym c.put_at.ensures.items) (ascending_inserted cmp o c.args.x xs c.in-Err.i (c.in-Err.ensures.sorted up) up)
