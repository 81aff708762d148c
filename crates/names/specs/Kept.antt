-- What always holds of a list of names.
use Rattle.std.specs.Prelude.{◌≡◌, ℕ, ◌<◌, ◌≤◌, List, [], length, slice_index_or}
use Rattle.names.specs.declared.list.NameList.{NameList}
use Rattle.names.specs.Spelling.{NoName}
use Rattle.names.specs.Texts.{texts}

-- at most `most` names, each a name, no two the same
pub record NamesKept (most : ℕ) (ms : List (List ℕ)) : Type 0 where
  pub few : length ms ≤ most
  pub proper : (k : ℕ) → k < length ms → ¬ NoName (slice_index_or ms k [])
  pub different : (j k : ℕ) → j < k → k < length ms → ¬ (slice_index_or ms j [] ≡ slice_index_or ms k [])

abbrev pub EveryListKeepsNames : Type 0
EveryListKeepsNames = (most : ℕ) (l : NameList most) → NamesKept most (texts l)
