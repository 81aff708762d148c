use Rattle.std.proofs.Common.{◌≡◌, ◌+◌, ◌<◌, List, [], ◌∷◌, ◌++◌, length, take, set, sym, subst, arith}
use Rattle.std.proofs.lemmas.List.{take_more_set}
use Rattle.row.specs.Order.{Ascending, LastBelow}
use Rattle.row.specs.Rows.{items}
use Rattle.row.proofs.Orders.{order_from_laws, ascending_appended}
use Rattle.row.proofs.Row.append.Goals as goal

pub returns-clause-ascending : goal.returns-clause-ascending
returns-clause-ascending g c up =
    let met = g.met.T.Ordered in
    let cmp = g.T.Ordered.cmp in
    let o = order_from_laws cmp g.T.Ordered.key met.total met.transitive met.agrees in
    let row = c.args.self.now in
    let w = row.within in
    let room : row.len < length row.slots.now = omega arith in
    let last = subst (λ (l : List g.row.T.Denot). LastBelow cmp c.args.x l) c.as_slice.ensures c.if-not-above_last.ensures in
    let after : take (row.len + 1) (set row.slots.now row.len c.args.x) ≡ items row ++ c.args.x ∷ [] = take_more_set row.slots.now row.len c.args.x room in
    subst (λ (l : List g.row.T.Denot). Ascending cmp l) (sym after) (ascending_appended cmp o c.args.x (items row) last up)
