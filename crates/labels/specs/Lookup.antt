-- The strongest line of a label on a concept and a side.
use Rattle.std.specs.Prelude.{Bool, cond, ◌==◌, ◌&&◌, ◌≡◌, ℕ, ◌<◌, ◌≤◌, ◌⊎◌, List, length, Some, None, Option}
use Rattle.terms.specs.declared.line.Side.{Side}
use Rattle.terms.specs.declared.line.Side.TheVariants.{AtLeast}
use Rattle.terms.specs.declared.line.Line.{Line}
use Rattle.logic.specs.Lines.{line_at, AsStrong}
use Rattle.logic.specs.LineTests.{strong_test, same_side}

-- The line m is on the concept c and the side s.
pub record On (c : ℕ) (s : Side) (m : Line) : Type 0 where
  pub concept : m.concept ≡ c
  pub side : m.side ≡ s

-- Whether a line is; and of two lines on one side, the stronger.
abbrev pub on_test : ℕ → Side → Line → Bool
on_test c s m = m.concept == c && same_side m.side s

abbrev pub stronger_of : Line → Line → Line
stronger_of n m = cond (strong_test m.side n.bound m.bound) n m

-- r is that of n and m which asks at least as much as the other.
abbrev pub Stronger : Line → Line → Line → Type 0
Stronger n m r = ((r ≡ n) × AsStrong m.side n.bound m.bound) ⊎ ((r ≡ m) × AsStrong m.side m.bound n.bound)

-- Of the lines before the place i, m is one on c and s, and as strong as each of those.
pub record Strongest (lines : List Line) (i c : ℕ) (s : Side) (m : Line) : Type 0 where
  pub on : On c s m
  pub stands : (k : ℕ) × (k < i) × (line_at lines k ≡ m)
  pub strong : (k : ℕ) → k < i → On c s (line_at lines k) → AsStrong s m.bound (line_at lines k).bound

-- The strongest line on c and s before the place i; none only if there is none.
abbrev pub StrongestLine : List Line → ℕ → ℕ → Side → Option Line → Type 0
StrongestLine lines i c s None = (k : ℕ) → k < i → ¬ On c s (line_at lines k)
StrongestLine lines i c s (Some m) = Strongest lines i c s m

-- The line at the place, if there is one and it is on c and s.
abbrev pub LineOn : List Line → ℕ → ℕ → Side → Option Line → Type 0
LineOn lines place c s None = place < length lines → ¬ On c s (line_at lines place)
LineOn lines place c s (Some m) = (place < length lines) × (m ≡ line_at lines place) × On c s m

-- The line m is on a lower concept than c, or on c and an at-least line.
abbrev pub Lower : ℕ → Line → Type 0
Lower c m = (m.concept < c) ⊎ ((m.concept ≡ c) × (m.side ≡ AtLeast))

-- The lines before the place r have P, and those from there on do not.
pub record Parted (P : Line → Type 0) (lines : List Line) (r : ℕ) : Type 0 where
  pub within : r ≤ length lines
  pub front : (k : ℕ) → k < r → P (line_at lines k)
  pub back : (k : ℕ) → r ≤ k → k < length lines → ¬ P (line_at lines k)
