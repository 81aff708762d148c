-- Every run is lawful; and a run with one call more at its end.
use Rattle.std.proofs.Common.{◌≡◌, ◌<◌, ◌⊎◌, ◌↔◌, List, [], ◌∷◌, ◌++◌, length, sym, refl, ap, subst, arith}
use Rattle.std.specs.List.{ContainsAt as Has}
use Rattle.book.specs.States.{State, strike}
use Rattle.book.specs.Steps.{Reply, Step}
use Rattle.runs.specs.declared.calls.Call.{Call}
use Rattle.runs.specs.Lists.{since}
use Rattle.runs.specs.Histories.{Event, Run, accepted_calls}
use Rattle.runs.specs.Contents.{new_book, ground_book}
use Rattle.runs.specs.Calls.{meant, events}
use Rattle.runs.specs.Laws.{Struck, RunsAreLawful}
use Rattle.runs.proofs.Kept.{contents_law, replies_law}
use Rattle.runs.proofs.Outcome.{one_outcome}
use Rattle.runs.proofs.Striking.{struck_law}

pub lawful : RunsAreLawful
lawful s h t r = record {
  ran = r;
  comes_to = contents_law s h t r;
  replies = λ earlier later e p. replies_law s earlier later e t (subst (λ g. Run s g t) p r);
  struck = λ i.
      subst (λ (u : State). i < length u.book.inclusions → Struck u.book i ↔ (Struck (ground_book s (accepted_calls h)) i ⊎ Has (since new_book (accepted_calls h)) (strike i)))
      (sym (contents_law s h t r)) (struck_law s (accepted_calls h) i);
  one_outcome = λ g u q e. one_outcome s h g t u r q e;
}

pub run_push : (s m t : State) (h : List Event) (e : Event) → Run s h m → Step m e.call e.reply t → Run s (h ++ e ∷ []) t
run_push s m t [] e r st = (t, subst (λ x. Step x e.call e.reply t) r st, refl)
run_push s m t (x ∷ h) e r st = (r.0, r.1, run_push r.0 m t h e r.2 st)

pub events_push : (cs : List Call) (rs : List Reply) (c : Call) (r : Reply) → length cs ≡ length rs → events (cs ++ c ∷ []) (rs ++ r ∷ []) ≡ events cs rs ++ record { call = meant c; reply = r } ∷ []
events_push [] [] c r e = refl
events_push [] (x ∷ rs) c r e = absurd (omega (arith, e))
events_push (x ∷ cs) [] c r e = absurd (omega (arith, e))
events_push (x ∷ cs) (y ∷ rs) c r e = ap (λ ps. record { call = meant x; reply = y } ∷ ps) (events_push cs rs c r (omega (arith, e)))
