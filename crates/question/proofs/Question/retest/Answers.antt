use Rattle.std.proofs.lemmas.Result.{err_from_is_err_and}
use Rattle.book.specs.Models.{model}
use Rattle.question.specs.Asked.{asked}
use Rattle.question.proofs.Retesting.{first_pass, second_pass}
use Rattle.question.proofs.Question.retest.Goals as goal

pub returns-in_err-pass : goal.returns-in_err-pass
returns-in_err-pass c =
    let p = err_from_is_err_and c.from_residual.result c.from_residual.ensures.1 in
    let e = c.in_err-pass.ensures in
    rw (p.1, p.2) (first_pass (model c.args.book.now) (asked c.args.self.now) _ e.0 e.1)

pub returns : goal.returns
returns c = second_pass (model c.args.book.now) (asked c.args.self.now) c.pass-2.result c.in_ok-pass.ensures c.pass-2.ensures
