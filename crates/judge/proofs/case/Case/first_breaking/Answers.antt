use Rattle.std.proofs.Common.{ℕ, rules}
use Rattle.std.proofs.lemmas.Iterator.{first_from_Range}
use borrow.Author.Tests.{tests}
use Rattle.labels.specs.Ruled.{ruled}
use Rattle.judge.specs.Verdicts.{Obeys}
use Rattle.judge.proofs.Weighing.{breaks_first}
use Rattle.judge.proofs.case.Case.first_breaking.Goals as goal

pub returns : goal.returns
returns c =
    let s = c.args.self.now in
    let P = λ (k : ℕ). Obeys s.kind (ruled s.rules) s.entries k in
    breaks_first s.kind (ruled s.rules) s.entries c.count.result c.count.ensures c.find.result
    (first_from_Range _ _ _ c.find.result (λ k. ¬ P k) P c.find.ensures.ran (λ x q k. search (rules, tests)) (λ x q k. search (rules, tests)))
