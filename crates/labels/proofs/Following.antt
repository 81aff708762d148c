-- The lines that follow, as code keeps them: some of a few.
use Rattle.std.proofs.Common.{◌≡◌, zero, suc, List, [], ◌∷◌, Option, Some, None, Bool, Decides, IfSome, sym, inl, inr, arith}
use Rattle.std.specs.List.{AllByRecursion}
use Rattle.std.proofs.lemmas.Option.{same_Some, none-some}
use Rattle.terms.specs.declared.line.Line.{Line}
use Rattle.logic.specs.Places.{Each, Any}
use Rattle.logic.specs.Conclusions.{Among}
use Rattle.logic.proofs.LinesAgree.{reword}
use Rattle.labels.specs.Following.{followed}

-- one of them
more : (o : Option Line) (ws : List (Option Line)) (l : Line) → Among (followed ws) l → Among (followed (o ∷ ws)) l
more None ws l h = h
more (Some w) ws l h = inr h

first : (o : Option Line) (ws : List (Option Line)) (l : Line) → o ≡ Some l → Among (followed (o ∷ ws)) l
first None ws l e = absurd (none-some l e)
first (Some w) ws l e = inl (sym (same_Some w l e))

is_there : (ws : List (Option Line)) (l : Line) → Any None (λ o. o ≡ Some l) ws → Among (followed ws) l
is_there [] l (k, h, e) = absurd (omega arith)
is_there (o ∷ ws) l (zero, h, e) = first o ws l e
is_there (o ∷ ws) l (suc k, h, e) = more o ws l (is_there ws l (k, omega arith, e))

later : (o : Option Line) (ws : List (Option Line)) (l : Line) → Any None (λ o. o ≡ Some l) ws → Any None (λ o. o ≡ Some l) (o ∷ ws)
later o ws l h = (suc h.0, omega (arith, h.1), h.2)

there_is : (ws : List (Option Line)) (l : Line) → Among (followed ws) l → Any None (λ o. o ≡ Some l) ws
there_is [] l h = absurd h
there_is (None ∷ ws) l h = later None ws l (there_is ws l h)
there_is (Some w ∷ ws) l (inl e) = (0, omega arith, λ i. Some (sym e i))
there_is (Some w ∷ ws) l (inr h) = later (Some w) ws l (there_is ws l h)

pub among_decides : (r : Bool) (ws : List (Option Line)) (l : Line) → Decides r (Any None (λ o. o ≡ Some l) ws) → Decides r (Among (followed ws) l)
among_decides r ws l d = reword d (is_there ws l) (there_is ws l)

-- all of them
module _ (P : Line → Type 0) where
  all_there : (ws : List (Option Line)) → Each None (λ o. IfSome o P) ws → AllByRecursion P (followed ws)
  all_there [] h = tt
  all_there (None ∷ ws) h = all_there ws (λ k w. h (suc k) (omega arith))
  all_there (Some x ∷ ws) h = (h 0 (omega arith), all_there ws (λ k w. h (suc k) (omega arith)))

  there_all : (ws : List (Option Line)) → AllByRecursion P (followed ws) → Each None (λ o. IfSome o P) ws
  there_all [] h k w = absurd (omega arith)
  there_all (None ∷ ws) h zero w = tt
  there_all (None ∷ ws) h (suc k) w = there_all ws h k (omega arith)
  there_all (Some x ∷ ws) h zero w = h.0
  there_all (Some x ∷ ws) h (suc k) w = there_all ws h.1 k (omega arith)

  pub all_decides : (r : Bool) (ws : List (Option Line)) → Decides r (Each None (λ o. IfSome o P) ws) → Decides r (AllByRecursion P (followed ws))
  all_decides r ws d = reword d (all_there ws) (there_all ws)
