-- The order of names: byte by byte, a shorter one before what continues it (the lexical order).
use Rattle.std.specs.Prelude.{◌≡◌, ℕ, List}
use Rattle.std.specs.declared.cmp.Ordering.{Ordering}
use Rattle.std.specs.declared.cmp.Ordering.TheVariants.{Less, Equal}
use Rattle.std.specs.Ordering.{ordering_reverse, nat_cmp}
use Rattle.std.specs.Cmp.Lexicographic.{slice_cmp}
use Rattle.names.specs.declared.name.NameRecord.{NameRecord}
use Rattle.names.specs.Letters.{letters}

abbrev pub compared : List ℕ → List ℕ → Ordering
compared xs ys = slice_cmp nat_cmp xs ys

-- records stand as their names do
abbrev pub record_order : NameRecord → NameRecord → Ordering
record_order x y = compared (letters x.name) (letters y.name)

-- it is an order, and two are equal in it exactly if their names have the same letters
pub record NamesInOrder : Type 0 where
  pub total : (x y : NameRecord) → record_order x y ≡ ordering_reverse (record_order y x)
  pub transitive : (x y z : NameRecord) → record_order x y ≡ Less → record_order y z ≡ Less → record_order x z ≡ Less
  pub agrees : (x y : NameRecord) → (record_order x y ≡ Equal → letters x.name ≡ letters y.name) × (letters x.name ≡ letters y.name → record_order x y ≡ Equal)
