-- The lexical order of numbers tells lists apart.
use Rattle.std.proofs.Common.{◌≡◌, ℕ, List, Equal, sym, ap, ◌∙◌}
use Rattle.std.specs.Ordering.{nat_cmp}
use Rattle.std.specs.Cmp.{nat_cmp_total, tied_itself}
use Rattle.std.specs.Cmp.Lexicographic.{slice_cmp, lists_total}
use Rattle.std.proofs.lemmas.Map.Lookups.{exact_bytes}

pub same_from_lex : (xs ys : List ℕ) → slice_cmp nat_cmp xs ys ≡ Equal → xs ≡ ys
same_from_lex xs ys h = exact_bytes xs ys h

pub lex_from_same : (xs ys : List ℕ) → xs ≡ ys → slice_cmp nat_cmp xs ys ≡ Equal
lex_from_same xs ys e = ap (slice_cmp nat_cmp xs) (sym e) ∙ tied_itself (lists_total nat_cmp_total) xs
