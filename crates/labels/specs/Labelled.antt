-- The lines that a label holds.
use Rattle.std.specs.Prelude.{List}
use Rattle.terms.specs.declared.line.Line.{Line}
use Rattle.labels.specs.declared.label.Lines.{Lines}
use Rattle.labels.specs.declared.label.Lines.TheVariants.{Rising, Unordered}
use Rattle.labels.specs.declared.label.Label.{Label}

abbrev pub lines_of : Lines → List Line
lines_of (Rising r) = r.lines.now
lines_of (Unordered lines) = lines.now

abbrev pub labelled : Label → List Line
labelled l = lines_of l.lines
