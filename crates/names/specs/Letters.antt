-- The letters of a name.
use Rattle.std.specs.Prelude.{ℕ, List}
use Rattle.names.specs.declared.name.Name.{Name}

abbrev pub letters : Name → List ℕ
letters n = n.text.bytes
