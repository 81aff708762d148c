use Rattle.std.proofs.Common.{◌≡◌, filter, length, sym, subst, rules}
use Rattle.std.specs.List.{reduce}
use Rattle.labels.specs.Lookup.{StrongestLine, stronger_of, on_test}
use Rattle.labels.proofs.Strongest.{scanned}
use Rattle.labels.proofs.scanning.strongest.Goals as goal

pub returns : goal.returns
returns c =
    let xs = c.args.lines.now in
    let e : c.reduce.result ≡ reduce stronger_of (filter (on_test c.args.concept c.args.side) xs) = search rules in
    subst (StrongestLine xs (length xs) c.args.concept c.args.side) (sym e) (scanned c.args.concept c.args.side xs)
