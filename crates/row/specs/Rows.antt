-- What a row holds. Assumes nothing.
use Rattle.std.specs.Prelude.{◌≡◌, ℕ, ◌+◌, Bool, false, cond, List, length, take, drop}
use Rattle.row.specs.declared.Row.{Row}

-- the elements of a row
abbrev pub items : {X : Type 0} → Row X → List X
items r = take r.len r.slots.now

-- how many elements a row can hold
abbrev pub room : {X : Type 0} → Row X → ℕ
room r = length r.slots.now

-- What a call that may place one element leaves as it was. The row is longer by one if it did; slots past the row,
-- and each slot if it did not, hold what they held; and there are as many slots.
pub record Kept {X : Type 0} (before after : Row X) (placed : Bool) : Type 0 where
  pub len : after.len ≡ cond placed (before.len + 1) before.len
  pub rest : drop after.len after.slots.now ≡ drop after.len before.slots.now
  pub refused : placed ≡ false → after.slots.now ≡ before.slots.now
  pub size : room after ≡ room before
