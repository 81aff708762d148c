use Rattle.std.proofs.Common.{◌-◌, length, sym, subst, arith}
use Rattle.terms.specs.declared.line.Side.TheVariants.{AtLeast, AtMost}
use Rattle.labels.specs.Lookup.{LineOn, StrongestLine}
use Rattle.labels.proofs.Looking.{low_line, high_line}
use Rattle.labels.proofs.rising.Rising.strongest.Goals as goal

pub returns-in_ok-checked_sub-in-AtLeast : goal.returns-in_ok-checked_sub-in-AtLeast
returns-in_ok-checked_sub-in-AtLeast c =
    let r = c.args.self.now in
    let xs = r.lines.now in
    let n = c.args.concept in
    let turn = c.turn-turn.result in
    let o = c.line_on.result in
    let p = c.in_ok-checked_sub-in-AtLeast.ensures in
    let at : LineOn xs (turn - 1) n AtLeast o = subst (λ k. LineOn xs k n AtLeast o) p.1 (subst (λ s. LineOn xs c.in_ok-checked_sub-in-AtLeast.field-0 n s o) c.in-AtLeast.is c.line_on.ensures) in
    subst (λ s. StrongestLine xs (length xs) n s o) (sym c.in-AtLeast.is) (low_line xs n turn r.up c.turn-turn.ensures o (omega (arith, p.0)) at)

pub returns-in-AtMost : goal.returns-in-AtMost
returns-in-AtMost c =
    let r = c.args.self.now in
    let xs = r.lines.now in
    let n = c.args.concept in
    let turn = c.turn-turn.result in
    let o = c.line_on-in-AtMost.result in
    let at : LineOn xs turn n AtMost o = subst (λ s. LineOn xs turn n s o) c.in-AtMost.is c.line_on-in-AtMost.ensures in
    subst (λ s. StrongestLine xs (length xs) n s o) (sym c.in-AtMost.is) (high_line xs n turn r.up c.turn-turn.ensures o at)
