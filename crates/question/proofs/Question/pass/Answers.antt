use Rattle.std.proofs.Common.{true, false, refl, subst, rules, MatchOption}
use Rattle.std.proofs.lemmas.Iterator.{IsFirst-from_position, YieldsList-from_slice}
use borrow.Author.Tests.{tests}
use Rattle.std.specs.Fn.{FnReturnsAt}
use Rattle.book.specs.Models.{model}
use Rattle.question.specs.Asked.{asked}
use Rattle.question.specs.Retests.{FirstLine, SomeLine}
use Rattle.question.proofs.Retesting.{passed_first}
use Rattle.question.proofs.Question.pass.Goals as goal

pub returns-in-Some : goal.returns-in-Some
returns-in-Some g c =
    let b = model c.args.book.now in
    let qs = asked c.args.self.now in
    let first = IsFirst-from_position _ _ c.position.result (λ q. FnReturnsAt g.F.Fn c.args.has q true) (λ q. FnReturnsAt g.F.Fn c.args.has q false) c.position.ensures.ran (YieldsList-from_slice qs (search rules)) (λ x q k. search (rules, tests)) (λ x q k. search (rules, tests)) in
    let found = passed_first b c.args.ground qs (λ q t. FnReturnsAt g.F.Fn c.args.has q t) c.requires.tells c.position.result first in
    (refl, subst (λ r. MatchOption r (¬ SomeLine b qs c.args.ground) (FirstLine b qs c.args.ground)) c.in-Some.is found)

pub returns : goal.returns
returns g c =
    let b = model c.args.book.now in
    let qs = asked c.args.self.now in
    let first = IsFirst-from_position _ _ c.position.result (λ q. FnReturnsAt g.F.Fn c.args.has q true) (λ q. FnReturnsAt g.F.Fn c.args.has q false) c.position.ensures.ran (YieldsList-from_slice qs (search rules)) (λ x q k. search (rules, tests)) (λ x q k. search (rules, tests)) in
    let found = passed_first b c.args.ground qs (λ q t. FnReturnsAt g.F.Fn c.args.has q t) c.requires.tells c.position.result first in
    subst (λ r. MatchOption r (¬ SomeLine b qs c.args.ground) (FirstLine b qs c.args.ground)) c.in-None.is found
