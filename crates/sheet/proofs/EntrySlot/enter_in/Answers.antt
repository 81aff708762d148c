use Rattle.std.proofs.Common.{arith}
use Rattle.std.proofs.lemmas.Bool.Decides.{not_from_Decides}
use Rattle.sheet.proofs.Appending.{appended_rest, entered_in}
use Rattle.sheet.proofs.EntrySlot.enter_in.Goals as goal

pub returns : goal.returns
returns c =
    let s = c.args.self in
    let x = c.args.line in
    let ls = c.args.lines.now in
    let res = c.append_to_first.result in
    let within = not_from_Decides _ c.is_out_of_range.ensures c.if-is_out_of_range.false in
    entered_in x s.start s.count ls _ res c.ok.result c.ok.ensures.value c.requires within
    (appended_rest x s.start s.count ls c.append_to_first.new.slots (omega (arith, c.requires)) res c.append_to_first.ensures)
