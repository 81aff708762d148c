-- The calls of the code, as the plain calls that they are.
use Rattle.std.specs.Prelude.{List, [], ◌∷◌}
use Rattle.book.specs.States.{a_heading, a_role, a_concept, an_inclusion, a_line, begin, enter, strike, clear, trial}
use Rattle.book.specs.States as states
use Rattle.book.specs.Steps.{Reply}
use Rattle.runs.specs.declared.calls.Call.{Call}
use Rattle.runs.specs.declared.calls.Call.TheVariants.{Begin, EnterHeading, EnterRole, EnterConcept, EnterInclusion, StrikeInclusion, EnterLine, ClearQuestion, TryLine}
use Rattle.runs.specs.Histories.{Event}

abbrev pub meant : Call → states.Call
meant (Begin n) = begin n
meant (EnterHeading m) = enter (a_heading m.now)
meant (EnterRole m) = enter (a_role m.now)
meant (EnterConcept c) = enter (a_concept c)
meant (EnterInclusion c d) = enter (an_inclusion c d)
meant (StrikeInclusion i) = strike i
meant (EnterLine q) = enter (a_line q)
meant ClearQuestion = clear
meant (TryLine q) = trial q

-- calls beside their replies
abbrev pub events : List Call → List Reply → List Event
events [] rs = []
events (c ∷ cs) [] = []
events (c ∷ cs) (r ∷ rs) = record { call = meant c; reply = r } ∷ events cs rs
