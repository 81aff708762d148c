use Rattle.std.proofs.Common.{◌≡◌, ◌<◌, length, ap, subst, arith}
use Rattle.logic.specs.Entries.{entry_at}
use Rattle.judge.proofs.Seeing.{counted, lies_is}
use Rattle.judge.proofs.entries.Entries.lies.Goals as goal

pub returns-else-k-count : goal.returns-else-k-count
returns-else-k-count c =
    let f = c.self.inside.sheet.now in
    let h : c.args.k < f.used = omega (arith, counted f, ap length c.self.view_is, c.count.ensures) in
    subst (λ s. c.lies.result ≡ (entry_at s c.args.k).lies) c.self.view_is (lies_is f c.args.k c.lies.result h c.lies.ensures)
