use Rattle.std.proofs.Common.{length, ap, arith, rules}
use lib.ListN.{length-replicate}
use Rattle.names.proofs.Numbers.{kept_none}
use Rattle.names.proofs.list.NameList.new.Goals as goal

pub invariant_of-result : goal.invariant_of-result
invariant_of-result g c =
    let none = c.in_ok-names.ensures in
    let k = kept_none _ _ none.items in
    record { whole = search (rules, length-replicate); few = omega (arith, ap length none.items); room = search rules; up = k.0; numbered = k.1; listed = k.2 }
