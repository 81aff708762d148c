-- What bytes make a name: 1 to 12 ASCII letters, digits or hyphens.
use Rattle.std.specs.Prelude.{◌≡◌, ℕ, ◌<◌, ◌≤◌, ◌⊎◌, List, length, slice_index}

-- a byte that is no capital (65 to 90), no small letter (97 to 122), no digit (48 to 57) and not the hyphen (45)
pub record Odd (b : ℕ) : Type 0 where
  pub no_capital : 65 ≤ b → b ≤ 90 → ⊥
  pub no_small : 97 ≤ b → b ≤ 122 → ⊥
  pub no_digit : 48 ≤ b → b ≤ 57 → ⊥
  pub no_hyphen : b ≡ 45 → ⊥

-- some byte can stand in no name
unfoldable pub HasOdd : List ℕ → Type 0
HasOdd m = (k : ℕ) × (k < length m) × Odd (slice_index m k)

-- the bytes make no name: there are none, more than 12, or one is odd
abbrev pub NoName : List ℕ → Type 0
NoName m = (length m ≡ 0) ⊎ ((12 < length m) ⊎ HasOdd m)
