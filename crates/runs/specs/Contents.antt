-- What book and question are, reckoned from the calls that were accepted.
use Rattle.std.specs.Prelude.{ℕ, suc, ◌||◌, List, [], ◌∷◌, ◌++◌}
use Rattle.terms.specs.declared.concept.Concept.{Concept}
use Rattle.terms.specs.declared.concept.Inclusion.{Inclusion}
use Rattle.terms.specs.declared.question.QuestionLine.{QuestionLine}
use Rattle.book.specs.States.{BookModel, State, Entry, a_heading, a_role, a_concept, an_inclusion, a_line, Reading, spells, bad, Call, begin, enter, strike, clear, read_in, trial, blank_book, unstruck}
use Rattle.runs.specs.Lists.{gather, last, since, member}

-- ---- what a call brings

-- the book that a text spells
abbrev pub book_of : Reading → List BookModel
book_of (spells s) = s.book ∷ []
book_of (bad e p) = []

abbrev pub lines_of : Reading → List (List QuestionLine)
lines_of (spells s) = s.question ∷ []
lines_of (bad e p) = []

-- a book in place of the one before
abbrev pub new_book : Call → List BookModel
new_book (begin n) = blank_book n ∷ []
new_book (enter e) = []
new_book (strike i) = []
new_book clear = []
new_book (read_in t) = book_of t
new_book (trial q) = []

-- a question in place of the one before
abbrev pub new_question : Call → List (List QuestionLine)
new_question (begin n) = []
new_question (enter e) = []
new_question (strike i) = []
new_question clear = [] ∷ []
new_question (read_in t) = lines_of t
new_question (trial q) = []

-- something entered
abbrev pub entered : Call → List Entry
entered (begin n) = []
entered (enter e) = e ∷ []
entered (strike i) = []
entered clear = []
entered (read_in t) = []
entered (trial q) = []

-- the number of an inclusion that is struck
abbrev pub struck_number : Call → List ℕ
struck_number (begin n) = []
struck_number (enter e) = []
struck_number (strike i) = i ∷ []
struck_number clear = []
struck_number (read_in t) = []
struck_number (trial q) = []

-- ---- the kinds of entry

abbrev pub heading_of : Entry → List (List ℕ)
heading_of (a_heading m) = m ∷ []
heading_of (a_role m) = []
heading_of (a_concept c) = []
heading_of (an_inclusion c d) = []
heading_of (a_line q) = []

abbrev pub role_of : Entry → List (List ℕ)
role_of (a_heading m) = []
role_of (a_role m) = m ∷ []
role_of (a_concept c) = []
role_of (an_inclusion c d) = []
role_of (a_line q) = []

abbrev pub concept_of : Entry → List Concept
concept_of (a_heading m) = []
concept_of (a_role m) = []
concept_of (a_concept c) = c ∷ []
concept_of (an_inclusion c d) = []
concept_of (a_line q) = []

abbrev pub inclusion_of : Entry → List Inclusion
inclusion_of (a_heading m) = []
inclusion_of (a_role m) = []
inclusion_of (a_concept c) = []
inclusion_of (an_inclusion c d) = unstruck c d ∷ []
inclusion_of (a_line q) = []

abbrev pub line_of : Entry → List QuestionLine
line_of (a_heading m) = []
line_of (a_role m) = []
line_of (a_concept c) = []
line_of (an_inclusion c d) = []
line_of (a_line q) = q ∷ []

-- the entries of one kind among the calls, in order
abbrev pub those : {B : Type 0} → (Entry → List B) → List Call → List B
those kind cs = gather kind (gather entered cs)

-- ---- what it all comes to

-- the inclusions, numbered from k: those are struck that were, and those whose number is among `numbers`
abbrev pub strike_all : List ℕ → ℕ → List Inclusion → List Inclusion
strike_all numbers k [] = []
strike_all numbers k (i ∷ is) = record { lower = i.lower; upper = i.upper; struck = i.struck || member k numbers } ∷ strike_all numbers (suc k) is

-- the book that was last begun or read in, or else the first
abbrev pub ground_book : State → List Call → BookModel
ground_book s cs = last s.book (gather new_book cs)

-- the lines that the last clearing or reading in left, or else the first
abbrev pub ground_lines : State → List Call → List QuestionLine
ground_lines s cs = last s.question (gather new_question cs)

-- What the state s has become after the accepted calls cs. In the book stands what the book last begun or read in had, and then what was entered since, in order;
-- an inclusion is struck if it was there or if a call has struck its number since. In the question stand the lines that the last clearing or reading in left,
-- and then those entered since. A trial line leaves nothing.
abbrev pub contents : State → List Call → State
contents s cs = record {
  book = record {
    fineness = (ground_book s cs).fineness;
    headings = (ground_book s cs).headings ++ those heading_of (since new_book cs);
    roles = (ground_book s cs).roles ++ those role_of (since new_book cs);
    concepts = (ground_book s cs).concepts ++ those concept_of (since new_book cs);
    inclusions = strike_all (gather struck_number (since new_book cs)) 0 ((ground_book s cs).inclusions ++ those inclusion_of (since new_book cs));
  };
  question = ground_lines s cs ++ those line_of (since new_question cs);
}
