-- The plain book that a book in memory stands for.
use Rattle.std.specs.Prelude.{vec_items}
use Rattle.names.specs.Texts.{texts}
use Rattle.book.specs.declared.Book.{Book}
use Rattle.book.specs.States.{BookModel}

abbrev pub model : Book → BookModel
model b = record {
  fineness = b.fineness.steps;
  headings = texts b.headings;
  roles = texts b.roles;
  concepts = vec_items b.concepts;
  inclusions = vec_items b.inclusions.records;
}
