use Rattle.names.proofs.Differing.{keeps_names}
use Rattle.book.proofs.laws.every_book_is_sound.Goals as goal

pub returns : goal.returns
returns c = λ b. record {
  some = b.fineness.some;
  fine = b.fineness.fine;
  headings = keeps_names 64 b.headings;
  roles = keeps_names 16 b.roles;
  most_concepts = b.few;
  founded = b.founded;
  graded = b.graded;
  apart = b.apart;
  most_inclusions = b.inclusions.few;
  joined = b.joined;
}
