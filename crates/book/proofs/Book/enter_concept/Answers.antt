use Rattle.std.proofs.Common.{length, vec_items, sym, subst, arith}
use Rattle.terms.specs.declared.refusal.Refusal.TheVariants.{Missing, TooHigh, Already}
use Rattle.terms.proofs.Least.{free_of}
use Rattle.names.specs.Texts.{texts}
use Rattle.book.specs.Citing.{no_concept, CitesMissing, CitesAbove, Founded, Graded, Apart}
use Rattle.book.specs.States.{enter, a_concept}
use Rattle.book.specs.Grounds.{Ground}
use Rattle.book.specs.Steps.{alone}
use Rattle.book.specs.Models.{model}
use Rattle.book.proofs.Entered.{each_push, apart_push}
use Rattle.book.proofs.Book.enter_concept.Goals as goal

pub invariant_of-self-clause-founded : goal.invariant_of-self-clause-founded
invariant_of-self-clause-founded c =
    let b = c.args.self.now in
    let free = free_of (Ground (alone (model b)) (enter (a_concept c.args.concept))) c.in_ok-may_enter_concept.ensures in
    let h = length (texts b.headings) in
    let r = length (texts b.roles) in
    subst (Founded h r) (sym c.push_reserved.ensures.items)
    (each_push (λ k d. ¬ CitesMissing h r k d) (vec_items b.concepts) c.args.concept no_concept b.founded (free Missing (omega arith)))

pub invariant_of-self-clause-graded : goal.invariant_of-self-clause-graded
invariant_of-self-clause-graded c =
    let b = c.args.self.now in
    let free = free_of (Ground (alone (model b)) (enter (a_concept c.args.concept))) c.in_ok-may_enter_concept.ensures in
    subst (Graded b.fineness.steps) (sym c.push_reserved.ensures.items)
    (each_push (λ k d. ¬ CitesAbove b.fineness.steps d) (vec_items b.concepts) c.args.concept no_concept b.graded (free TooHigh (omega arith)))

pub invariant_of-self-clause-apart : goal.invariant_of-self-clause-apart
invariant_of-self-clause-apart c =
    let b = c.args.self.now in
    let free = free_of (Ground (alone (model b)) (enter (a_concept c.args.concept))) c.in_ok-may_enter_concept.ensures in
    subst Apart (sym c.push_reserved.ensures.items) (apart_push (vec_items b.concepts) c.args.concept b.apart (free Already (omega arith)))
