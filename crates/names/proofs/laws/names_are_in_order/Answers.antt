use Rattle.std.specs.Cmp.{nat_cmp_total}
use Rattle.std.specs.Cmp.Lexicographic.{lists_total}
use Rattle.names.specs.Letters.{letters}
use Rattle.names.specs.Lexical.{same_from_lex, lex_from_same}
use Rattle.names.proofs.laws.names_are_in_order.Goals as goal

pub returns-clause-laws : goal.returns-clause-laws
returns-clause-laws c = record {
  total = λ x y. (lists_total nat_cmp_total).antisymm (letters x.name) (letters y.name);
  transitive = λ x y z. (lists_total nat_cmp_total).trans (letters x.name) (letters y.name) (letters z.name);
  agrees = λ x y. (same_from_lex (letters x.name) (letters y.name), lex_from_same (letters x.name) (letters y.name));
}
