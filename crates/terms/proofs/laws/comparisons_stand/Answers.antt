use Rattle.terms.specs.LineOrderLaws.{line_order_total, line_order_transitive, line_order_agrees}
use Rattle.terms.proofs.laws.comparisons_stand.Goals as goal

pub returns-clause-laws : goal.returns-clause-laws
returns-clause-laws c = record { total = line_order_total; transitive = line_order_transitive; agrees = line_order_agrees }
