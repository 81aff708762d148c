-- What a table of grounds makes of a call: refused with the least ground, accepted where there is none.
use Rattle.std.specs.Prelude.{◌≡◌, ◌-◌, ◌<◌, ◌≤◌, ◌↔◌, take, Ok, Err, Result}
use Rattle.std.specs.List.{AllByRecursion}
use Rattle.terms.specs.declared.refusal.Refusal.{Refusal}
use Rattle.terms.specs.Refusals.{number, numbered}

-- `Ground e` says that the call has the ground e. It is accepted: none of the numbered grounds applies. It is refused with e: e applies, and none of a lower number does.
-- (`Ground NoMemory` says that the call wants memory, and so may find none.)
abbrev pub Answered : {X : Type 0} → (Refusal → Type 0) → Result X Refusal → Type 0
Answered Ground (Ok x) = AllByRecursion (λ e. ¬ Ground e) numbered
Answered Ground (Err e) = Ground e × AllByRecursion (λ f. ¬ Ground f) (take (number e - 1) numbered)

-- the ground of the lowest number
pub record Least (Ground : Refusal → Type 0) (e : Refusal) : Type 0 where
  pub applies : Ground e
  pub least : (f : Refusal) → 1 ≤ number f → number f < number e → ¬ Ground f

-- The same, said of accepting and refusing: a call that wants no memory is accepted exactly if it has no ground, and refused with e exactly if e is its least.
pub record Exactly {X : Type 0} (Ground : Refusal → Type 0) (r : Result X Refusal) : Type 0 where
  pub accepted : ((x : X) × (r ≡ Ok x)) ↔ ((e : Refusal) → ¬ Ground e)
  pub refused : (e : Refusal) → (r ≡ Err e) ↔ Least Ground e
