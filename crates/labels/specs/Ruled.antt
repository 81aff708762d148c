-- The book that the tests read.
use Rattle.logic.specs.Books.{Book}
use Rattle.labels.specs.declared.rules.Rules.{Rules}

abbrev pub ruled : Rules → Book
ruled r = record { fineness = r.fineness; concepts = r.concepts.now; inclusions = r.inclusions.now }
