use Rattle.book.specs.Models.{model}
use Rattle.question.specs.Asked.{asked}
use Rattle.judge.proofs.Properly.{every_book_is_proper}
use Rattle.judge.proofs.Weighing.{by_weighing, exact}
use Rattle.judge.proofs.judging.judge_lent.Goals as goal

pub returns : goal.returns
returns c =
    let b = model c.args.book.now in
    let qs = asked c.args.question.now in
    let f = c.args.sheet.now in
    let r = c.weigh.result in
    let s = c.new.ensures in
    let j = by_weighing b qs f tt c.in_ok-retest.ensures (every_book_is_proper c.args.book.now) _ _ _ _ _ s.rules s.question s.kind s.entries s.root r c.weigh.ensures in
    record { judged = j; exact = exact b qs f r j }
