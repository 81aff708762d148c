-- What always holds of the theory's book.
use Rattle.logic.specs.Books.{Proper}
use Rattle.book.specs.declared.Book.{Book}
use Rattle.book.specs.Models.{model}
use Rattle.judge.specs.Views.{rules_of}

abbrev pub EveryBookIsProper : Type 0
EveryBookIsProper = (b : Book) → Proper (rules_of (model b))
