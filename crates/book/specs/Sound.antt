-- What always holds of a book.
use Rattle.std.specs.Prelude.{◌≤◌, length}
use Rattle.names.specs.Kept.{NamesKept}
use Rattle.book.specs.declared.Book.{Book}
use Rattle.book.specs.Citing.{Founded, Graded, Apart, Joined}
use Rattle.book.specs.States.{BookModel}
use Rattle.book.specs.Models.{model}

pub record Sound (b : BookModel) : Type 0 where
  pub some : 1 ≤ b.fineness
  pub fine : b.fineness ≤ 1000
  -- names, all different, at most 64 and 16
  pub headings : NamesKept 64 b.headings
  pub roles : NamesKept 16 b.roles
  -- what concepts cite stands, parts have lower numbers, degrees are at most the fineness, and no two concepts are equal
  pub most_concepts : length b.concepts ≤ 128
  pub founded : Founded (length b.headings) (length b.roles) b.concepts
  pub graded : Graded b.fineness b.concepts
  pub apart : Apart b.concepts
  -- the concepts of inclusions stand
  pub most_inclusions : length b.inclusions ≤ 64
  pub joined : Joined (length b.concepts) b.inclusions

-- No book that exists lacks any of this.
abbrev pub EveryBookIsSound : Type 0
EveryBookIsSound = (b : Book) → Sound (model b)
