-- Calls with their replies, one after another.
use Rattle.std.specs.Prelude.{◌≡◌, cond, List, [], ◌∷◌, Ok, Err, ◌==◌}
use Rattle.terms.specs.Refusals.{number}
use Rattle.book.specs.States.{State, Call}
use Rattle.book.specs.Steps.{Reply, Step}
use Rattle.runs.specs.Lists.{gather}

-- a call and the reply that it had
pub record Event : Type 0 where
  pub call : Call
  pub reply : Reply

-- the events, one after another, lead from the state s to the state t
abbrev pub Run : State → List Event → State → Type 0
Run s [] t = t ≡ s
Run s (e ∷ h) t = (m : State) × Step s e.call e.reply m × Run m h t

-- the calls of a history
abbrev pub calls : List Event → List Call
calls h = gather (λ (e : Event). e.call ∷ []) h

-- the call of an event, if it was accepted
abbrev pub granted : Call → Reply → List Call
granted c (Ok k) = c ∷ []
granted c (Err x) = []

-- the calls of a history that were accepted, in order
abbrev pub accepted_calls : List Event → List Call
accepted_calls h = gather (λ (e : Event). granted e.call e.reply) h

-- an event, unless its call found no memory
abbrev pub heard : Event → Reply → List Event
heard e (Ok k) = e ∷ []
heard e (Err x) = cond (number x.refusal == 0) [] (e ∷ [])

-- the events of a history but for those that found no memory, which count as not made
abbrev pub counted : List Event → List Event
counted h = gather (λ (e : Event). heard e e.reply) h
