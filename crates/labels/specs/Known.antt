-- What is known of the order of a label's lines.
use Rattle.std.specs.Coded.{→_prop}
use Rattle.logic.specs.Entries.{Rises}
use Rattle.labels.specs.Rising.{Rises-prop}
use Rattle.labels.specs.declared.label.Lines.{Lines}
use Rattle.labels.specs.declared.label.Lines.TheVariants.{Rising, Unordered}

-- they rise, or they do not
abbrev pub Known : Lines → Type 0
Known (Rising r) = Rises r.lines.now
Known (Unordered lines) = ¬ Rises lines.now

pub Known-prop : (lines : Lines) → IsProp (Known lines)
Known-prop (Rising r) = Rises-prop r.lines.now
Known-prop (Unordered lines) = →_prop (λ x y. absurd x)
