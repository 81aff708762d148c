use Rattle.std.proofs.Common.{ℤ, Decides, sym, subst, w64, SFits, to_z, of_z, rules}
use lib.Signed.{le_z}
use Rattle.std.proofs.lemmas.Int.{to_z-of_z}
use Rattle.logic.specs.Standing.{LiesUnder}
use Rattle.labels.specs.Ruled.{ruled}
use Rattle.labels.specs.Labelled.{labelled}
use Rattle.labels.proofs.Meaning.{under_decides}
use Rattle.labels.proofs.ruled.Ruled.lies_under.Goals as goal

pub returns : goal.returns
returns c =
    let n = (ruled c.args.self.now.rules.now).fineness in
    let lines = labelled c.args.self.now.label.now in
    let y = c.smallest_at_most.result in
    let z = c.greatest_at_least.result in
    let fy : SFits w64 y = search rules in
    let fz : SFits w64 z = search rules in
    let P = LiesUnder n lines c.args.i in
    subst (λ (v : ℤ). Decides (le_z v (to_z w64 (of_z w64 z))) P) (sym (to_z-of_z w64 y fy))
    (subst (λ (v : ℤ). Decides (le_z y v) P) (sym (to_z-of_z w64 z fz))
    (under_decides n lines c.args.i y z c.smallest_at_most.ensures c.greatest_at_least.ensures))
