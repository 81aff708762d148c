use Rattle.std.proofs.Common.{Decides, sym, subst, rules}
use Rattle.logic.specs.Lines.{HasLine}
use Rattle.labels.proofs.Looking.{searched_line}
use Rattle.labels.proofs.rising.Rising.has.Goals as goal

pub returns : goal.returns
returns c =
    let r = c.args.self.now in
    let l = c.args.l in
    subst (λ b. Decides b (HasLine r.lines.now l)) (sym c.is_ok.ensures.value)
    (searched_line _ (λ m n. search rules) r.lines.now l c.search.result r.up c.search.ensures.sorted)
