use Rattle.std.proofs.Common.{◌≡◌, ℕ, max, rules, arith}
use Rattle.std.specs.Prelude.{fold}
use Rattle.std.proofs.iter.runs.Made.{chains}
use Rattle.sheet.specs.declared.EntrySlot.{EntrySlot}
use Rattle.sheet.specs.Entries.{end_in}
use Rattle.sheet.proofs.Ends.{last_end_fold}
use Rattle.sheet.proofs.finishing.furthest_end.Goals as goal

pub returns : goal.returns
returns c =
    let e : c.fold.result ≡ fold (λ (m : ℕ) (x : EntrySlot). max (end_in c.args.room x) m) 0 c.args.entries.now = search (rules, chains) in
    let f = last_end_fold c.args.room 0 c.args.entries.now in
    omega arith
