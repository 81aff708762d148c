use Rattle.names.proofs.Numbers.{kept_none}
use Rattle.names.proofs.list.NameList.clear.Goals as goal

pub invariant_of-self-clause-up : goal.invariant_of-self-clause-up
invariant_of-self-clause-up g c = (kept_none c.clear.new.self.items c.args.self.now.records.items c.clear.ensures.items).0
