use Rattle.std.proofs.Common.{ℕ, ◌<◌, Decides, refl, subst, rules, of_calls}
use Rattle.logic.specs.Entries.{label_at}
use Rattle.logic.specs.Standing.{Serves}
use Rattle.labels.specs.Ruled.{ruled}
use Rattle.labels.proofs.Searching.{some_below}
use Rattle.judge.proofs.case.Case.some_serves.Goals as goal

pub returns : goal.returns
returns c =
    let s = c.args.self.now in
    let z = c.args.z in
    let P = λ (k : ℕ). Serves (ruled s.rules) c.args.from.now z.role z.part z.bound (label_at s.entries k) in
    subst (λ n. Decides c.any.result ((k : ℕ) × (k < n) × P k)) c.count.ensures (some_below P c.count.result _ _ c.any.result refl c.any.ensures.ran (λ x b q k. search (rules, of_calls)))
