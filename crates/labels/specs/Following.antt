-- The lines that follow.
use Rattle.std.specs.Prelude.{List, [], ◌∷◌, Option, Some, None}
use Rattle.terms.specs.declared.line.Line.{Line}

abbrev pub followed : List (Option Line) → List Line
followed [] = []
followed (None ∷ ws) = followed ws
followed (Some w ∷ ws) = w ∷ followed ws
