use Rattle.std.proofs.Common.{◌≡◌, ℕ, arith}
use Rattle.labels.specs.Ruled.{ruled}
use Rattle.labels.specs.Labelled.{labelled}
use Rattle.closing.proofs.Reaching.{reaches_nothing}
use Rattle.closing.proofs.entry.ClosingEntry.exists_rule.Goals as goal

pub returns-in-None : goal.returns-in-None
returns-in-None c =
    let s = c.args.self.now in (
      λ e. absurd (let z : ◌≡◌ {A = ℕ} 0 1 = cc in omega arith),
      λ x. absurd (reaches_nothing (ruled s.ruled.rules.now) (labelled s.ruled.label.now) s.first.now s.number s.head c.in-Some.line c.reach.result x c.reach.ensures c.in-None.is c.in-Some.ensures.1),
    )
