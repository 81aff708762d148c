-- The law over runs: what a list of calls makes of a book and a question.
use Rattle.std.specs.Prelude.{◌≡◌, ℕ, ◌<◌, true, ◌⊎◌, ◌↔◌, List, [], ◌∷◌, ◌++◌, length, Ok, Err, Result, slice_index_or}
use Rattle.std.specs.List.{ContainsAt as Has}
use Rattle.terms.specs.declared.refusal.Refusal.{Refusal}
use Rattle.terms.specs.declared.question.QuestionLine.{QuestionLine}
use Rattle.terms.specs.Answers.{Exactly}
use Rattle.book.specs.Citing.{no_inclusion}
use Rattle.book.specs.States.{BookModel, State, Call, strike}
use Rattle.book.specs.Grounds.{Ground, WantsMemory}
use Rattle.book.specs.Steps.{Reply, Due}
use Rattle.runs.specs.Lists.{gather, since}
use Rattle.runs.specs.Histories.{Event, Run, calls, accepted_calls, counted}
use Rattle.runs.specs.Contents.{new_book, new_question, ground_book, ground_lines, contents}

abbrev pub Struck : BookModel → ℕ → Type 0
Struck b i = (slice_index_or b.inclusions i no_inclusion).struck ≡ true

-- a reply without its place
abbrev pub unplaced_reply : Reply → Result ℕ Refusal
unplaced_reply (Ok k) = Ok k
unplaced_reply (Err x) = Err x.refusal

-- What holds of the events h that lead from the state s to the state t.
pub record Lawful (s : State) (h : List Event) (t : State) : Type 0 where
  pub ran : Run s h t
  -- book and question are what the accepted calls say
  pub comes_to : t ≡ contents s (accepted_calls h)
  -- each reply is the one that is due to what the accepted calls before it say
  pub replies : (earlier later : List Event) (e : Event) → h ≡ earlier ++ e ∷ later → Due (contents s (accepted_calls earlier)) e.call e.reply
  -- an inclusion is struck exactly if the book last begun or read in had it so, or a call accepted since struck its number
  pub struck : (i : ℕ) → i < length t.book.inclusions → Struck t.book i ↔ (Struck (ground_book s (accepted_calls h)) i ⊎ Has (since new_book (accepted_calls h)) (strike i))
  -- another run of the same calls has the same replies and comes to the same; calls that found no memory count as not made
  pub one_outcome : (g : List Event) (u : State) → Run s g u → calls (counted g) ≡ calls (counted h) → (counted g ≡ counted h) × (u ≡ t)

-- Every run is lawful.
abbrev pub RunsAreLawful : Type 0
RunsAreLawful = (s : State) (h : List Event) (t : State) → Run s h t → Lawful s h t

-- A reply that is due: accepted exactly if the call has no ground, refused with e exactly if e is its least ground.
abbrev pub RepliesAreExact : Type 0
RepliesAreExact = (s : State) (c : Call) (r : Reply) → ¬ WantsMemory c → Due s c r → Exactly (Ground s c) (unplaced_reply r)

-- ---- the words `ground_book` and `since`, said by places

-- where a call brings a book and none behind it does, that book is the ground, and what comes since is what stands behind the call
abbrev pub BookByPlaces : Type 0
BookByPlaces = (s : State) (earlier later : List Call) (c : Call) (b : BookModel) → new_book c ≡ b ∷ [] → gather new_book later ≡ []
    → (ground_book s (earlier ++ c ∷ later) ≡ b) × (since new_book (earlier ++ c ∷ later) ≡ later)

-- where none does, the ground is the first book, and all calls come since
abbrev pub BookNeverAnew : Type 0
BookNeverAnew = (s : State) (cs : List Call) → gather new_book cs ≡ [] → (ground_book s cs ≡ s.book) × (since new_book cs ≡ cs)

abbrev pub QuestionByPlaces : Type 0
QuestionByPlaces = (s : State) (earlier later : List Call) (c : Call) (q : List QuestionLine) → new_question c ≡ q ∷ [] → gather new_question later ≡ []
    → (ground_lines s (earlier ++ c ∷ later) ≡ q) × (since new_question (earlier ++ c ∷ later) ≡ later)

abbrev pub QuestionNeverAnew : Type 0
QuestionNeverAnew = (s : State) (cs : List Call) → gather new_question cs ≡ [] → (ground_lines s cs ≡ s.question) × (since new_question cs ≡ cs)
