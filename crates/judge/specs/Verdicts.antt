-- What a judgement answers: the grounds on which a sheet is refused, and what an accepted one shows.
use Rattle.std.specs.Prelude.{◌≡◌, ℕ, ◌<◌, ◌≤◌, List, ◌++◌, length, codes, decimal, Ok, Err, Result}
use Rattle.terms.specs.declared.question.QuestionLine.{QuestionLine}
use Rattle.terms.specs.declared.entry.Kind.{Kind}
use Rattle.terms.specs.declared.entry.Kind.TheVariants.{Closing, Standing}
use Rattle.terms.specs.declared.refusal.Refusal.{Refusal}
use Rattle.terms.specs.declared.refusal.Refusal.TheVariants.{Fineness, Full, Missing, TooHigh, BadName, Already, NoLines, NoRoom, OutOfOrder, BrokenRule, BadRoot, Unfit, BadText, NoMemory}
use Rattle.terms.specs.declared.refusal.Refused.{Refused}
use Rattle.terms.specs.Answers.{Answered}
use Rattle.logic.specs.Books.{Book}
use Rattle.logic.specs.Holdings.{Holding, Within}
use Rattle.logic.specs.Meeting.{EachAsked, Meets}
use Rattle.logic.specs.Entries.{Entry}
use Rattle.logic.specs.Closing.{Closes, ClosingFits}
use Rattle.logic.specs.Standing.{Stands, StandingFits}
use Rattle.logic.specs.ReadOut.{ReadOut}
use Rattle.logic.specs.Theorems.{MetAt}
use Rattle.book.specs.States.{BookModel}
use Rattle.question.specs.Retests.{FirstLine, SomeLine}
use Rattle.sheet.specs.declared.Finished.{Finished}
use Rattle.judge.specs.declared.verdict.Verdict.{Verdict}
use Rattle.judge.specs.declared.verdict.Verdict.TheVariants.{Closed, Stands as Stood}
use Rattle.judge.specs.Views.{rules_of, sheet_of}

-- The entry k obeys the rules of a sheet of its kind.
abbrev pub Obeys : Kind → Book → List Entry → ℕ → Type 0
Obeys Closing b sheet k = Closes b sheet k
Obeys Standing b sheet k = Stands b sheet k

abbrev pub AllObey : Kind → Book → List Entry → Type 0
AllObey kind b sheet = (k : ℕ) → k < length sheet → Obeys kind b sheet k

-- The entry k breaks a rule.
pub record Breaks (kind : Kind) (b : Book) (sheet : List Entry) (k : ℕ) : Type 0 where
  pub stands : k < length sheet
  pub breaks : ¬ Obeys kind b sheet k

-- The entry k is the lowest that does.
pub record FirstBreaks (kind : Kind) (b : Book) (sheet : List Entry) (k : ℕ) : Type 0 where
  pub breaks : Breaks kind b sheet k
  pub first : (j : ℕ) → j < k → Obeys kind b sheet j

-- The root is an entry, and fits the question.
abbrev pub RootFits : Kind → Book → List QuestionLine → List Entry → ℕ → Type 0
RootFits Closing b question sheet root = ClosingFits question sheet root
RootFits Standing b question sheet root = StandingFits b question sheet root

-- A standing sheet has over 64 entries.
abbrev pub TooMany : Kind → List Entry → Type 0
TooMany Closing sheet = ⊥
TooMany Standing sheet = 64 < length sheet

-- The table of grounds: 3 and 4, those of a question line tested again; 7, the question has no line; 10, an entry breaks a rule; 11, the root is no entry or does not fit; 12, a standing sheet has over 64 entries.
abbrev pub JudgeGround : BookModel → List QuestionLine → Finished → Refusal → Type 0
JudgeGround b qs f Fineness = ⊥
JudgeGround b qs f Full = ⊥
JudgeGround b qs f Missing = SomeLine b qs Missing
JudgeGround b qs f TooHigh = SomeLine b qs TooHigh
JudgeGround b qs f BadName = ⊥
JudgeGround b qs f Already = ⊥
JudgeGround b qs f NoLines = length qs ≡ 0
JudgeGround b qs f NoRoom = ⊥
JudgeGround b qs f OutOfOrder = ⊥
JudgeGround b qs f BrokenRule = (k : ℕ) × Breaks f.kind (rules_of b) (sheet_of f) k
JudgeGround b qs f BadRoot = ¬ RootFits f.kind (rules_of b) qs (sheet_of f) f.root
JudgeGround b qs f Unfit = TooMany f.kind (sheet_of f)
JudgeGround b qs f BadText = ⊥
JudgeGround b qs f NoMemory = ⊥

-- The place of a refusal: the first line that has the ground; the lowest entry that breaks a rule; else none, told as 0.
abbrev pub Placed : BookModel → List QuestionLine → Finished → Refusal → ℕ → Type 0
Placed b qs f Fineness p = p ≡ 0
Placed b qs f Full p = p ≡ 0
Placed b qs f Missing p = FirstLine b qs Missing p
Placed b qs f TooHigh p = FirstLine b qs TooHigh p
Placed b qs f BadName p = p ≡ 0
Placed b qs f Already p = p ≡ 0
Placed b qs f NoLines p = p ≡ 0
Placed b qs f NoRoom p = p ≡ 0
Placed b qs f OutOfOrder p = p ≡ 0
Placed b qs f BrokenRule p = FirstBreaks f.kind (rules_of b) (sheet_of f) p
Placed b qs f BadRoot p = p ≡ 0
Placed b qs f Unfit p = p ≡ 0
Placed b qs f BadText p = p ≡ 0
Placed b qs f NoMemory p = p ≡ 0

-- The verdict on an accepted sheet names its root.
abbrev pub verdict_of : Kind → ℕ → Verdict
verdict_of Closing root = Closed root
verdict_of Standing root = Stood root

-- No finite holding, of any size and on any scale that the fineness divides, meets book and question at any individual.
abbrev pub Unmet : Book → List QuestionLine → Type 0
Unmet b qs = (H : Holding) → Within H → (x : ℕ) → ¬ Meets b qs H x

-- The holding that is read out of the sheet meets book and question at the root.
abbrev pub Met : Book → List QuestionLine → List Entry → ℕ → Type 0
Met b qs sheet root = (R : Holding) → ReadOut b sheet R → MetAt b qs R root

-- What a verdict means.
abbrev pub Means : Book → List QuestionLine → List Entry → Verdict → Type 0
Means b qs sheet (Closed root) = Unmet b qs
Means b qs sheet (Stood root) = Met b qs sheet root

-- The sheet is accepted: there is no ground against it, all its entries obey, its root fits, and what the verdict means holds.
pub record Accepted (b : BookModel) (qs : List QuestionLine) (f : Finished) (v : Verdict) : Type 0 where
  pub free : Answered (JudgeGround b qs f) (Ok v)
  pub verdict : v ≡ verdict_of f.kind f.root
  pub obeyed : AllObey f.kind (rules_of b) (sheet_of f)
  pub fits : RootFits f.kind (rules_of b) qs (sheet_of f) f.root
  pub means : Means (rules_of b) qs (sheet_of f) v

-- It is refused: the ground applies, none of a lower number does, and the place is that of the ground.
pub record RefusedWith (b : BookModel) (qs : List QuestionLine) (f : Finished) (x : Refused) : Type 0 where
  pub least : Answered {X = Verdict} (JudgeGround b qs f) (Err x.refusal)
  pub placed : Placed b qs f x.refusal x.place

abbrev pub Judged : BookModel → List QuestionLine → Finished → Result Verdict Refused → Type 0
Judged b qs f (Ok v) = Accepted b qs f v
Judged b qs f (Err x) = RefusedWith b qs f x

-- The sheet obeys: the question has lines, all of them about concepts and degrees of the book; every entry obeys the rules of the sheet's kind; the root fits; and a standing sheet has at most 64 entries.
pub record Obeyed (b : BookModel) (qs : List QuestionLine) (f : Finished) : Type 0 where
  pub asks : 0 < length qs
  pub stand : EachAsked (λ q. q.concept < length b.concepts) qs
  pub low : EachAsked (λ q. q.degree ≤ b.fineness) qs
  pub obeyed : AllObey f.kind (rules_of b) (sheet_of f)
  pub fits : RootFits f.kind (rules_of b) qs (sheet_of f) f.root
  pub few : ¬ TooMany f.kind (sheet_of f)

-- A verdict as it is shown to a person.
abbrev pub verdict_text : Verdict → List ℕ
verdict_text (Closed root) = codes "closed at entry " ++ (decimal root ++ codes ": no such piece can exist")
verdict_text (Stood root) = codes "stands at entry " ++ (decimal root ++ codes ": such a piece can exist")
