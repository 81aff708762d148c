-- A retest: what a pass finds, and that the two passes make its answer.
use Rattle.std.proofs.Common.{◌≡◌, ℕ, ◌<◌, Bool, true, false, Decides, List, length, get_or, Option, Some, None, MatchOption, Ok, Err, Result, refl, sym, subst, true≢false, MatchResult, arith}
use Rattle.std.specs.List.{AllWithin, HoldsAt}
use Rattle.terms.specs.declared.question.QuestionLine.{QuestionLine}
use Rattle.terms.specs.declared.refusal.Refusal.{Refusal}
use Rattle.terms.specs.declared.refusal.Refusal.TheVariants.{Missing, TooHigh}
use Rattle.terms.specs.declared.refusal.Refused.{Refused}
use Rattle.terms.specs.Answers.{Answered}
use Rattle.book.specs.States.{BookModel}
use Rattle.question.specs.Blanks.{blank_line}
use Rattle.question.specs.Retests.{LineGround, FirstLine, SomeLine, Retested}

module _ (b : BookModel) (e : Refusal) (qs : List QuestionLine) (Says : QuestionLine → Bool → Type 0)
    (tells : (k : ℕ) (t : Bool) → k < length qs → Says (get_or qs k blank_line) t → Decides t (LineGround b e (get_or qs k blank_line))) where
  not_here : (k : ℕ) → k < length qs → Says (get_or qs k blank_line) false → ¬ LineGround b e (get_or qs k blank_line)
  not_here k h says g = true≢false (sym ((tells k false h says).1 g))

  -- where a test tells of each line whether it has the ground, the first line that passes it is the first that has the ground
  pub passed_first : (r : Option ℕ) → MatchOption r (AllWithin (λ q. Says q false) qs 0 (length qs)) (λ i. (i < length qs) × HoldsAt (λ q. Says q true) qs i × AllWithin (λ q. Says q false) qs 0 i)
      → MatchOption r (¬ SomeLine b qs e) (FirstLine b qs e)
  unfolding SomeLine
  passed_first None none = λ some. not_here some.0 some.1 (none some.0 blank_line (omega arith) some.1) some.2
  passed_first (Some i) found = record {
    stands = found.0;
    applies = (tells i true found.0 (found.1 blank_line)).0 refl;
    first = λ j l. not_here j (omega (arith, l, found.0)) (found.2 j blank_line (omega arith) l);
  }

module _ (b : BookModel) (qs : List QuestionLine) where
  pub some_first : (e : Refusal) (x : Refused) → FirstLine b qs e x.place → SomeLine b qs e
  unfolding SomeLine
  some_first e x f = (x.place, f.stands, f.applies)

  refused_with : (e : Refusal) (x : Refused) → x.refusal ≡ e → FirstLine b qs e x.place → Answered {X = Unit {0}} (SomeLine b qs) (Err e) → Retested b qs (Err x)
  refused_with e x is f a = (subst (λ d. Answered {X = Unit {0}} (SomeLine b qs) (Err d)) (sym is) a, subst (λ d. FirstLine b qs d x.place) (sym is) f)

  pub first_pass : (x : Refused) → x.refusal ≡ Missing → FirstLine b qs Missing x.place → Retested b qs (Err x)
  unfolding SomeLine
  first_pass x is f = refused_with Missing x is f (some_first Missing x f, ((λ h. h.2), ((λ h. h.2), tt)))

  pub second_pass : (r : Result (Unit {0}) Refused) → ¬ SomeLine b qs Missing
      → MatchResult r (λ u. ¬ SomeLine b qs TooHigh) (λ x. (x.refusal ≡ TooHigh) × FirstLine b qs TooHigh x.place) → Retested b qs r
  unfolding SomeLine
  second_pass (Ok u) none c =
      ((λ h. h.2), ((λ h. h.2), (none, (c, ((λ h. h.2), ((λ h. h.2), ((λ h. h.2), ((λ h. h.2), ((λ h. h.2), ((λ h. h.2), ((λ h. h.2), ((λ h. h.2), ((λ h. h.2), tt)))))))))))))
  second_pass (Err x) none c = refused_with TooHigh x c.0 c.1 (some_first TooHigh x c.1, ((λ h. h.2), ((λ h. h.2), (none, tt))))
