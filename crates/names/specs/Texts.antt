-- The names of a list, by number.
use Rattle.std.specs.Prelude.{ℕ, List, map, vec_items}
use Rattle.names.specs.Letters.{letters}
use Rattle.names.specs.declared.list.NameList.{NameList}

abbrev pub texts : {most : ℕ} → NameList most → List (List ℕ)
texts list = map letters (vec_items list.names)
