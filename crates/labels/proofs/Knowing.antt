-- What is known of a label, case by case.
use Rattle.std.proofs.Common.{◌≡◌, List, Bor, sym, subst}
use Rattle.terms.specs.declared.line.Line.{Line}
use Rattle.logic.specs.Entries.{Rises}
use Rattle.labels.specs.declared.label.Lines.{Lines}
use Rattle.labels.specs.declared.label.Lines.TheVariants.{Unordered}
use Rattle.labels.specs.Known.{Known}
use Rattle.labels.specs.Labelled.{lines_of}

-- lines without an order do not rise
pub falls : (lines : Lines) (xs : Bor (List Line)) → lines ≡ Unordered xs → Known lines → ¬ Rises (lines_of lines)
falls lines xs e = subst (λ ls. Known ls → ¬ Rises (lines_of ls)) (sym e) (λ n. n)
