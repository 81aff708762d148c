-- One call: what it answers and what it leaves.
use Rattle.std.specs.Prelude.{◌≡◌, ℕ, cond, [], Ok, Err, Result, ◌==◌}
use Rattle.terms.specs.declared.refusal.Refusal.{Refusal}
use Rattle.terms.specs.declared.refusal.Refused.{Refused}
use Rattle.terms.specs.Refusals.{number}
use Rattle.terms.specs.Answers.{Answered}
use Rattle.book.specs.States.{BookModel, State, Reading, spells, bad, Call, begin, enter, strike, clear, read_in, trial, after, given}
use Rattle.book.specs.Grounds.{Ground}

-- what a call replies: a number, or a refusal with its place
abbrev pub Reply : Type 0
Reply = Result ℕ Refused

-- the reply of a call that gives no number of its own
abbrev pub numberless : Result (Unit {0}) Refused → Reply
numberless (Ok u) = Ok 0
numberless (Err x) = Err x

-- the line at which a text is bad
abbrev pub bad_line : Reading → ℕ
bad_line (spells s) = 0
bad_line (bad e p) = p

-- the place of a refusal: the bad line of a text, unless memory was wanting, and else 0
abbrev pub place : Call → Refusal → ℕ
place (begin n) e = 0
place (enter x) e = 0
place (strike i) e = 0
place clear e = 0
place (read_in t) e = cond (number e == 0) 0 (bad_line t)
place (trial q) e = 0

-- The reply r is due to the call c on the state s. Accepted: it has no ground, and gives the next number of its kind. Refused: with its least ground, at its place.
abbrev pub Due : State → Call → Reply → Type 0
Due s c (Ok k) = Answered {X = ℕ} (Ground s c) (Ok k) × (k ≡ given s c)
Due s c (Err x) = Answered {X = ℕ} (Ground s c) (Err x.refusal) × (x.place ≡ place c x.refusal)

-- what a call with this reply leaves: a refusal leaves all as it was
abbrev pub left : State → Call → Reply → State
left s c (Ok k) = after s c
left s c (Err x) = s

-- one call, its reply, and the state before and after: what each public call ensures
abbrev pub Step : State → Call → Reply → State → Type 0
Step s c r t = Due s c r × (t ≡ left s c r)

-- the book beside a question without lines: for calls that do not look at the question
abbrev pub alone : BookModel → State
alone b = record { book = b; question = [] }
