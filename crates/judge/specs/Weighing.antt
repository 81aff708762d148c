-- What weighing a sheet finds, where the lines of the question stand.
use Rattle.std.specs.Prelude.{◌≡◌, ℕ, List, length, Ok, Err, Result}
use Rattle.terms.specs.declared.question.QuestionLine.{QuestionLine}
use Rattle.terms.specs.declared.entry.Kind.{Kind}
use Rattle.terms.specs.declared.refusal.Refusal.{Refusal}
use Rattle.terms.specs.declared.refusal.Refusal.TheVariants.{Fineness, Full, Missing, TooHigh, BadName, Already, NoLines, NoRoom, OutOfOrder, BrokenRule, BadRoot, Unfit, BadText, NoMemory}
use Rattle.terms.specs.declared.refusal.Refused.{Refused}
use Rattle.logic.specs.Books.{Book}
use Rattle.logic.specs.Entries.{Entry}
use Rattle.judge.specs.declared.verdict.Verdict.{Verdict}
use Rattle.judge.specs.Verdicts.{AllObey, FirstBreaks, RootFits, TooMany, verdict_of}

-- The first ground, in the order of the numbers, with the place.
abbrev pub Found : Book → List QuestionLine → Kind → List Entry → ℕ → Refusal → ℕ → Type 0
Found b qs kind sheet root Fineness p = ⊥
Found b qs kind sheet root Full p = ⊥
Found b qs kind sheet root Missing p = ⊥
Found b qs kind sheet root TooHigh p = ⊥
Found b qs kind sheet root BadName p = ⊥
Found b qs kind sheet root Already p = ⊥
Found b qs kind sheet root NoLines p = (length qs ≡ 0) × (p ≡ 0)
Found b qs kind sheet root NoRoom p = ⊥
Found b qs kind sheet root OutOfOrder p = ⊥
Found b qs kind sheet root BrokenRule p = ¬ (length qs ≡ 0) × FirstBreaks kind b sheet p
Found b qs kind sheet root BadRoot p = ¬ (length qs ≡ 0) × AllObey kind b sheet × ¬ RootFits kind b qs sheet root × (p ≡ 0)
Found b qs kind sheet root Unfit p = ¬ (length qs ≡ 0) × AllObey kind b sheet × RootFits kind b qs sheet root × TooMany kind sheet × (p ≡ 0)
Found b qs kind sheet root BadText p = ⊥
Found b qs kind sheet root NoMemory p = ⊥

-- There is none.
pub record Unopposed (b : Book) (qs : List QuestionLine) (kind : Kind) (sheet : List Entry) (root : ℕ) (v : Verdict) : Type 0 where
  pub asks : ¬ (length qs ≡ 0)
  pub obeyed : AllObey kind b sheet
  pub fits : RootFits kind b qs sheet root
  pub few : ¬ TooMany kind sheet
  pub verdict : v ≡ verdict_of kind root

abbrev pub Weighed : Book → List QuestionLine → Kind → List Entry → ℕ → Result Verdict Refused → Type 0
Weighed b qs kind sheet root (Ok v) = Unopposed b qs kind sheet root v
Weighed b qs kind sheet root (Err x) = Found b qs kind sheet root x.refusal x.place
