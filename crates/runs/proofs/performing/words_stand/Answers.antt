use Rattle.std.proofs.Common.{ap}
use Rattle.runs.specs.Lists.{last}
use Rattle.runs.specs.Contents.{new_book, new_question}
use Rattle.runs.proofs.Lists.{since_ever, since_last, last_yield}
use Rattle.runs.proofs.Outcome.{replies_exact}
use Rattle.runs.proofs.performing.words_stand.Goals as goal

pub returns : goal.returns
returns c = record {
  exact = replies_exact;
  book = λ s xs ys x b e g. (last_yield new_book s.book b xs ys x e g, since_last new_book b xs ys x e g);
  same_book = λ s cs e. (ap (last s.book) e, since_ever new_book cs e);
  question = λ s xs ys x q e g. (last_yield new_question s.question q xs ys x e g, since_last new_question q xs ys x e g);
  same_question = λ s cs e. (ap (last s.question) e, since_ever new_question cs e);
}
