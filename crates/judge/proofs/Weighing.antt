-- A judgement, from the retest of the question and the weighing of the sheet.
use Rattle.std.proofs.Common.{◌≡◌, ℕ, ◌<◌, ◌≤◌, List, length, get_or, is_ok, Some, None, Ok, Err, Decides, Option, MatchOption, Result, sym, refl, subst, inl, inr, arith}
use Rattle.std.proofs.lemmas.Bool.{cases_lt}
use Rattle.terms.specs.declared.question.QuestionLine.{QuestionLine}
use Rattle.terms.specs.declared.entry.Kind.{Kind}
use Rattle.terms.specs.declared.entry.Kind.TheVariants.{Closing, Standing}
use Rattle.terms.specs.declared.refusal.Refusal.{Refusal}
use Rattle.terms.specs.declared.refusal.Refusal.TheVariants.{Fineness, Full, Missing, TooHigh, BadName, Already, NoLines, NoRoom, OutOfOrder, BrokenRule, BadRoot, Unfit, BadText, NoMemory}
use Rattle.terms.specs.declared.refusal.Refused.{Refused}
use Rattle.terms.specs.Answers.{Answered}
use Rattle.logic.specs.Books.{Book, Proper}
use Rattle.logic.specs.Entries.{Entry}
use Rattle.logic.proofs.Unmet.{closed_means_unmet}
use Rattle.logic.proofs.Truth.{standing_is_met}
use Rattle.book.specs.States.{BookModel}
use Rattle.question.specs.Blanks.{blank_line}
use Rattle.question.specs.Retests.{FirstLine, SomeLine, Retested}
use Rattle.sheet.specs.declared.Finished.{Finished}
use Rattle.judge.specs.declared.verdict.Verdict.{Verdict}
use Rattle.judge.specs.Views.{rules_of, sheet_of}
use Rattle.judge.specs.Verdicts.{Obeys, Breaks, FirstBreaks, AllObey, RootFits, JudgeGround, Placed, Means, verdict_of, Judged, Obeyed}
use Rattle.judge.specs.Weighing.{Found, Weighed}

-- the first number whose entry does not obey
pub breaks_first :
    (kind : Kind) (b : Book) (sheet : List Entry) (n : ℕ) → n ≡ length sheet → (r : Option ℕ) →
    MatchOption r ((k : ℕ) → 0 ≤ k → k < n → Obeys kind b sheet k) (λ i. (0 ≤ i) × (i < n) × ¬ Obeys kind b sheet i × ((k : ℕ) → 0 ≤ k → k < i → Obeys kind b sheet k)) →
    MatchOption r (AllObey kind b sheet) (FirstBreaks kind b sheet)
breaks_first kind b sheet n e None h = λ k l. h k (omega arith) (omega arith)
breaks_first kind b sheet n e (Some i) h = record { breaks = record { stands = omega (arith, h.1); breaks = h.2 }; first = λ k l. h.3 k (omega arith) l }

module _ (b : BookModel) (qs : List QuestionLine) (f : Finished) where
  means : Proper (rules_of b) → (kind : Kind) → AllObey kind (rules_of b) (sheet_of f) → RootFits kind (rules_of b) qs (sheet_of f) f.root → Means (rules_of b) qs (sheet_of f) (verdict_of kind f.root)
  means proper Closing obeyed fits = closed_means_unmet (rules_of b) qs (sheet_of f) f.root proper obeyed fits
  means proper Standing obeyed fits = standing_is_met (rules_of b) qs (sheet_of f) f.root proper obeyed fits

  abbrev Answers : Refusal → ℕ → Type 0
  Answers e p = Answered {X = Verdict} (JudgeGround b qs f) (Err e) × Placed b qs f e p

  retest_refuses : (e : Refusal) (p : ℕ) → Answered {X = Unit {0}} (SomeLine b qs) (Err e) → FirstLine b qs e p → Answers e p
  retest_refuses Fineness p a l = absurd l.applies
  retest_refuses Full p a l = absurd l.applies
  retest_refuses Missing p a l = ((a.0, ((λ h. h), ((λ h. h), tt))), l)
  retest_refuses TooHigh p a l = ((a.0, ((λ h. h), ((λ h. h), (a.1.1.1.0, tt)))), l)
  retest_refuses BadName p a l = absurd l.applies
  retest_refuses Already p a l = absurd l.applies
  retest_refuses NoLines p a l = absurd l.applies
  retest_refuses NoRoom p a l = absurd l.applies
  retest_refuses OutOfOrder p a l = absurd l.applies
  retest_refuses BrokenRule p a l = absurd l.applies
  retest_refuses BadRoot p a l = absurd l.applies
  retest_refuses Unfit p a l = absurd l.applies
  retest_refuses BadText p a l = absurd l.applies
  retest_refuses NoMemory p a l = absurd l.applies

  pub by_retest : (x : Refused) → Retested b qs (Err x) → Judged b qs f (Err x)
  by_retest x r = let a = retest_refuses x.refusal x.place r.0 r.1 in record { least = a.0; placed = a.1 }

  module _ (stand : ¬ SomeLine b qs Missing) (low : ¬ SomeLine b qs TooHigh) where
    none_breaks : AllObey f.kind (rules_of b) (sheet_of f) → ¬ ((k : ℕ) × Breaks f.kind (rules_of b) (sheet_of f) k)
    none_breaks obeyed w = w.1.breaks (obeyed w.0 w.1.stands)

    sheet_refuses : (e : Refusal) (p : ℕ) → Found (rules_of b) qs f.kind (sheet_of f) f.root e p → Answers e p
    sheet_refuses Fineness p h = absurd h
    sheet_refuses Full p h = absurd h
    sheet_refuses Missing p h = absurd h
    sheet_refuses TooHigh p h = absurd h
    sheet_refuses BadName p h = absurd h
    sheet_refuses Already p h = absurd h
    sheet_refuses NoLines p h = ((h.0, ((λ z. z), ((λ z. z), (stand, (low, ((λ z. z), ((λ z. z), tt))))))), h.1)
    sheet_refuses NoRoom p h = absurd h
    sheet_refuses OutOfOrder p h = absurd h
    sheet_refuses BrokenRule p h = (((p, h.1.breaks), ((λ z. z), ((λ z. z), (stand, (low, ((λ z. z), ((λ z. z), (h.0, ((λ z. z), ((λ z. z), tt)))))))))), h.1)
    sheet_refuses BadRoot p h =
        ((h.2, ((λ z. z), ((λ z. z), (stand, (low, ((λ z. z), ((λ z. z), (h.0, ((λ z. z), ((λ z. z), (none_breaks h.1, tt))))))))))), h.3)
    sheet_refuses Unfit p h =
        ((h.3, ((λ z. z), ((λ z. z), (stand, (low, ((λ z. z), ((λ z. z), (h.0, ((λ z. z), ((λ z. z), (none_breaks h.1, ((λ z. z h.2), tt)))))))))))), h.4)
    sheet_refuses BadText p h = absurd h
    sheet_refuses NoMemory p h = absurd h

    weighed_judged : Proper (rules_of b) → (r : Result Verdict Refused) → Weighed (rules_of b) qs f.kind (sheet_of f) f.root r → Judged b qs f r
    weighed_judged proper (Ok v) w = record {
      free = ((λ z. z), ((λ z. z), (stand, (low, ((λ z. z), ((λ z. z), (w.asks, ((λ z. z), ((λ z. z), (none_breaks w.obeyed, ((λ z. z w.fits), (w.few, ((λ z. z), tt)))))))))))));
      verdict = w.verdict;
      obeyed = w.obeyed;
      fits = w.fits;
      means = subst (Means (rules_of b) qs (sheet_of f)) (sym w.verdict) (means proper f.kind w.obeyed w.fits);
    }
    weighed_judged proper (Err x) w = let a = sheet_refuses x.refusal x.place w in record { least = a.0; placed = a.1 }

  -- what is weighed is the book, the question and the sheet
  pub by_weighing :
      (u : Unit {0}) → Retested b qs (Ok u) → Proper (rules_of b) → (x : Book) (ls : List QuestionLine) (k : Kind) (sheet : List Entry) (root : ℕ) →
      x ≡ rules_of b → ls ≡ qs → k ≡ f.kind → sheet ≡ sheet_of f → root ≡ f.root → (r : Result Verdict Refused) → Weighed x ls k sheet root r → Judged b qs f r
  by_weighing u t proper x ls k sheet root same lines kind entries last r w =
      weighed_judged t.1.1.0 t.1.1.1.0 proper r
      (subst (λ y. Weighed y qs f.kind (sheet_of f) f.root r) same
      (subst (λ y. Weighed x y f.kind (sheet_of f) f.root r) lines
      (subst (λ y. Weighed x ls y (sheet_of f) f.root r) kind
      (subst (λ y. Weighed x ls k y f.root r) entries
      (subst (λ y. Weighed x ls k sheet y r) last w)))))

  -- no ground, and the sheet obeys
  stands_each : ¬ SomeLine b qs Missing → (k : ℕ) → k < length qs → (get_or qs k blank_line).concept < length b.concepts
  unfolding SomeLine
  stands_each none k h = elim (cases_lt (get_or qs k blank_line).concept (length b.concepts)) [ inl l ↦ l | inr l ↦ absurd (none (k, h, l)) ]

  low_each : ¬ SomeLine b qs TooHigh → (k : ℕ) → k < length qs → (get_or qs k blank_line).degree ≤ b.fineness
  unfolding SomeLine
  low_each none k h = elim (cases_lt b.fineness (get_or qs k blank_line).degree) [ inl l ↦ absurd (none (k, h, l)) | inr l ↦ l ]

  some_asked : ¬ (length qs ≡ 0) → 0 < length qs
  some_asked h = elim (cases_lt 0 (length qs)) [ inl l ↦ l | inr l ↦ absurd (h (omega arith)) ]

  -- an obeyed sheet has no ground against it
  no_ground : Obeyed b qs f → (e : Refusal) → ¬ JudgeGround b qs f e
  unfolding SomeLine
  no_ground o Fineness g = g
  no_ground o Full g = g
  no_ground o Missing g = omega (arith, o.stand g.0 g.1, g.2)
  no_ground o TooHigh g = omega (arith, o.low g.0 g.1, g.2)
  no_ground o BadName g = g
  no_ground o Already g = g
  no_ground o NoLines g = omega (arith, o.asks)
  no_ground o NoRoom g = g
  no_ground o OutOfOrder g = g
  no_ground o BrokenRule g = g.1.breaks (o.obeyed g.0 g.1.stands)
  no_ground o BadRoot g = g o.fits
  no_ground o Unfit g = o.few g
  no_ground o BadText g = g
  no_ground o NoMemory g = g

  -- accepted exactly if the sheet obeys
  pub exact : (r : Result Verdict Refused) → Judged b qs f r → Decides (is_ok r) (Obeyed b qs f)
  exact (Ok v) j = (
    (λ _.
        let t = j.free in
        record {
          asks = some_asked t.1.1.1.1.1.1.0;
          stand = stands_each t.1.1.0;
          low = low_each t.1.1.1.0;
          obeyed = j.obeyed;
          fits = j.fits;
          few = t.1.1.1.1.1.1.1.1.1.1.1.0;
        }),
    (λ _. refl),
  )
  exact (Err x) j = ((λ e. absurd (let z : ◌≡◌ {A = ℕ} 0 1 = cc in omega arith)), (λ o. absurd (no_ground o x.refusal j.least.0)))
