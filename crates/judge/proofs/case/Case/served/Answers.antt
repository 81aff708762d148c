use Rattle.std.proofs.Common.{refl}
use Rattle.labels.specs.Ruled.{ruled}
use Rattle.judge.proofs.Serving.{served_by_reach, served_idly}
use Rattle.judge.proofs.case.Case.served.Goals as goal

pub returns-in-Some : goal.returns-in-Some
returns-in-Some c =
    let s = c.args.self.now in
    served_by_reach (ruled s.rules) s.entries c.args.label.now c.args.l c.in-Some.z c.some_serves.result c.in-Some.ensures c.some_serves.ensures

pub returns-in-None : goal.returns-in-None
returns-in-None c = let s = c.args.self.now in (λ _. served_idly (ruled s.rules) s.entries c.args.label.now c.args.l c.in-None.ensures, λ _. refl)
