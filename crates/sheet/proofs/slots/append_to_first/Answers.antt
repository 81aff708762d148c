use Rattle.std.proofs.Common.{rules}
use Rattle.sheet.proofs.Appending.{appended_row}
use Rattle.sheet.proofs.slots.append_to_first.Goals as goal

pub returns : goal.returns
returns c =
    let a = c.append.ensures in
    let o = c.over-row.ensures in
    appended_row c.args.line c.args.count c.args.slots.now _ c.over-row.result c.append.new.self c.requires o.len o.slots (search rules)
    c.append.result a.outcome a.ascending a.kept
