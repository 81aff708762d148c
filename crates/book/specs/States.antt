-- A book and its question as plain lists, the calls that are made on them, and what an accepted call leaves.
use Rattle.std.specs.Prelude.{ℕ, true, false, List, [], ◌∷◌, ◌++◌, length, slice_index_or, slice_set}
use Rattle.terms.specs.declared.concept.Concept.{Concept}
use Rattle.terms.specs.declared.concept.Inclusion.{Inclusion}
use Rattle.terms.specs.declared.question.QuestionLine.{QuestionLine}
use Rattle.terms.specs.declared.refusal.Refusal.{Refusal}
use Rattle.book.specs.Citing.{no_inclusion}

-- a book (a TBox with its signature): what is entered has the number of its place
pub record BookModel : Type 0 where
  pub fineness : ℕ
  pub headings : List (List ℕ)
  pub roles : List (List ℕ)
  pub concepts : List Concept
  pub inclusions : List Inclusion

-- a book and the question beside it
pub record State : Type 0 where
  pub book : BookModel
  pub question : List QuestionLine

-- what is entered in book or question; a name is its bytes
pub data Entry : Type 0 where
  a_heading : List ℕ → Entry
  a_role : List ℕ → Entry
  a_concept : Concept → Entry
  an_inclusion : ℕ → ℕ → Entry
  a_line : QuestionLine → Entry

-- what a book text comes to: the book and question that it spells, or the refusal and line of its first bad line
pub data Reading : Type 0 where
  spells : State → Reading
  bad : Refusal → ℕ → Reading

-- a call: a book is begun with a fineness; something is entered; an inclusion is struck; the question is cleared; a text is read in; a line is laid for one judgement
pub data Call : Type 0 where
  begin : ℕ → Call
  enter : Entry → Call
  strike : ℕ → Call
  clear : Call
  read_in : Reading → Call
  trial : QuestionLine → Call

-- a book that has only its fineness
abbrev pub blank_book : ℕ → BookModel
blank_book n = record { fineness = n; headings = []; roles = []; concepts = []; inclusions = [] }

-- a blank book, and a question without lines
abbrev pub blank : ℕ → State
blank n = record { book = blank_book n; question = [] }

abbrev pub unstruck : ℕ → ℕ → Inclusion
unstruck c d = record { lower = c; upper = d; struck = false }

abbrev pub struck_off : Inclusion → Inclusion
struck_off i = record { lower = i.lower; upper = i.upper; struck = true }

-- the book with one thing more
abbrev pub with_heading : BookModel → List ℕ → BookModel
with_heading b m = record { fineness = b.fineness; headings = b.headings ++ m ∷ []; roles = b.roles; concepts = b.concepts; inclusions = b.inclusions }

abbrev pub with_role : BookModel → List ℕ → BookModel
with_role b m = record { fineness = b.fineness; headings = b.headings; roles = b.roles ++ m ∷ []; concepts = b.concepts; inclusions = b.inclusions }

abbrev pub with_concept : BookModel → Concept → BookModel
with_concept b c = record { fineness = b.fineness; headings = b.headings; roles = b.roles; concepts = b.concepts ++ c ∷ []; inclusions = b.inclusions }

abbrev pub with_inclusions : BookModel → List Inclusion → BookModel
with_inclusions b is = record { fineness = b.fineness; headings = b.headings; roles = b.roles; concepts = b.concepts; inclusions = is }

-- the inclusions with the one of number i struck
abbrev pub strike_one : List Inclusion → ℕ → List Inclusion
strike_one is i = slice_set is i (struck_off (slice_index_or is i no_inclusion))

-- what entering leaves
abbrev pub with_entry : State → Entry → State
with_entry s (a_heading m) = record { book = with_heading s.book m; question = s.question }
with_entry s (a_role m) = record { book = with_role s.book m; question = s.question }
with_entry s (a_concept c) = record { book = with_concept s.book c; question = s.question }
with_entry s (an_inclusion c d) = record { book = with_inclusions s.book (s.book.inclusions ++ unstruck c d ∷ []); question = s.question }
with_entry s (a_line q) = record { book = s.book; question = s.question ++ q ∷ [] }

abbrev pub spelled : State → Reading → State
spelled s (spells t) = t
spelled s (bad e p) = s

-- what an accepted call leaves: a trial line is gone again when its judgement is over
abbrev pub after : State → Call → State
after s (begin n) = record { book = blank_book n; question = s.question }
after s (enter e) = with_entry s e
after s (strike i) = record { book = with_inclusions s.book (strike_one s.book.inclusions i); question = s.question }
after s clear = record { book = s.book; question = [] }
after s (read_in t) = spelled s t
after s (trial q) = s

-- the number that an entry takes: the next of its kind
abbrev pub next : State → Entry → ℕ
next s (a_heading m) = length s.book.headings
next s (a_role m) = length s.book.roles
next s (a_concept c) = length s.book.concepts
next s (an_inclusion c d) = length s.book.inclusions
next s (a_line q) = length s.question

-- the number that an accepted call gives: that of the entry, or else 0
abbrev pub given : State → Call → ℕ
given s (begin n) = 0
given s (enter e) = next s e
given s (strike i) = 0
given s clear = 0
given s (read_in t) = 0
given s (trial q) = 0
