-- Small books, holdings and sheets, and what the definitions make of them. The fineness is 10.
use Rattle.std.specs.Prelude.{◌≡◌, ℕ, true, false, cond, ◌&&◌, List, [], ◌∷◌, map, pos, negsuc, ◌==◌, slice_index}
use Rattle.terms.specs.declared.concept.Concept.{Concept}
use Rattle.terms.specs.declared.concept.Concept.TheVariants.{Heading, Constant, Not, Less, Exists}
use Rattle.terms.specs.declared.concept.Inclusion.{Inclusion}
use Rattle.terms.specs.declared.question.Comparison.TheVariants.{NotBelow, Above, NotAbove}
use Rattle.terms.specs.declared.question.QuestionLine.{QuestionLine}
use Rattle.terms.specs.declared.line.Side.TheVariants.{AtLeast, AtMost}
use Rattle.terms.specs.declared.line.Line.{Line}
use Rattle.terms.specs.declared.entry.Letter.{Letter}
use Rattle.terms.specs.declared.entry.Letter.TheVariants.{Z, N, S, M, I, E, L}
use Rattle.terms.specs.declared.entry.Head.{Head}
use Rattle.logic.specs.Books.{Book}
use Rattle.logic.specs.Holdings.{Holding, degree}
use Rattle.logic.specs.Rounding.{rounded, rounded_holding}
use Rattle.logic.specs.Lines.{line}
use Rattle.logic.specs.Conclusions.{conclusions_of}
use Rattle.logic.specs.Entries.{Entry}
use Rattle.logic.specs.Drawing.{standing_head, drawn_up}
use Rattle.logic.specs.LineTests.{among_test, beyond_test, clashes_test, passes_test, faultless_test}
use Rattle.logic.specs.MeetingTests.{fit_test, obeys_test, meets_test}
use Rattle.logic.specs.ClosingTests.{closes_test, closing_test, closing_fits_test}
use Rattle.logic.specs.StandingTests.{serves_test, stands_test, standing_test, standing_fits_test}
use Rattle.logic.specs.ReadingTests.{read_out}

abbrev pub book_of : List Concept → List Inclusion → Book
book_of concepts inclusions = record { fineness = 10; concepts = concepts; inclusions = inclusions }

-- The inclusion of one concept in another, not struck.
abbrev pub in_force : ℕ → ℕ → Inclusion
in_force c d = record { lower = c; upper = d; struck = false }

abbrev pub clash_head : Head
clash_head = record { letter = Z; place = 0; first = 0; second = 0; inclusion = 0; step = 0 }

abbrev pub entry_of : Head → List Line → Entry
entry_of h label = record { head = h; lies = true; label = label }

-- ---- a heading in 'not some r that is not (the heading less 1)'
abbrev pub chain_book : Book
chain_book = book_of (Heading 0 ∷ Less 0 1 ∷ Not 1 ∷ Exists 0 2 ∷ Not 3 ∷ []) (in_force 0 4 ∷ [])

-- Two individuals on a scale of 10: the heading has 8 at the first and v at the second, and the role 9 from the first to the second.
abbrev pub chain_holding : ℕ → Holding
chain_holding v =
    record {
      size = 2;
      top = 10;
      heading = λ p x. cond (p == 0) (slice_index (8 ∷ v ∷ []) x) 0;
      role = λ r x y. cond (r == 0 && (x == 0 && y == 1)) 9 0;
    }

-- ---- a heading in 'some r that is the heading', asked for at 6 or more
abbrev pub loop_book : Book
loop_book = book_of (Heading 0 ∷ Exists 0 0 ∷ []) (in_force 0 1 ∷ [])

abbrev pub loop_question : List QuestionLine
loop_question = record { concept = 0; comparison = NotBelow; degree = 6 } ∷ []

abbrev pub loop_label : List Line
loop_label = line 0 AtLeast (pos 12) ∷ line 0 AtMost (pos 12) ∷ line 1 AtLeast (pos 12) ∷ []

-- the same without the at-most line
abbrev pub open_label : List Line
open_label = line 0 AtLeast (pos 12) ∷ line 1 AtLeast (pos 12) ∷ []

abbrev pub one_entry : List Line → List Entry
one_entry label = entry_of standing_head label ∷ []

-- a label in which the concept 1, 'some r that is the heading', is at least 12, at most 11 and at most 12
abbrev pub passing_label : List Line
passing_label = line 1 AtLeast (pos 12) ∷ line 1 AtMost (pos 11) ∷ line 1 AtMost (pos 12) ∷ []

-- ---- a degree, and it less 10
abbrev pub less_book : Book
less_book = book_of (Constant 0 ∷ Less 0 10 ∷ []) []

-- One entry clashes; the other goes, by the letter given, from a line on 'less'.
abbrev pub less_sheet : Letter → List Entry
less_sheet a =
    entry_of clash_head (line 0 AtLeast (pos 21) ∷ [])
    ∷ entry_of (record { letter = a; place = 0; first = 0; second = 0; inclusion = 0; step = 0 }) (line 1 AtLeast (pos 1) ∷ [])
    ∷ []

-- ---- one heading in another; the first is above 3, and the second is not
abbrev pub tithe_book : Book
tithe_book = book_of (Heading 0 ∷ Heading 1 ∷ []) (in_force 0 1 ∷ [])

abbrev pub tithe_question : List QuestionLine
tithe_question = record { concept = 0; comparison = Above; degree = 3 } ∷ record { concept = 1; comparison = NotAbove; degree = 3 } ∷ []

-- Two entries clash, and the third goes by the inclusion at the step; its place is not used.
abbrev pub tithe_sheet : ℕ → ℕ → List Entry
tithe_sheet place step =
    entry_of clash_head (line 0 AtLeast (pos 7) ∷ line 0 AtMost (pos 6) ∷ [])
    ∷ entry_of clash_head (line 1 AtLeast (pos 7) ∷ line 1 AtMost (pos 6) ∷ [])
    ∷ entry_of (record { letter = I; place = place; first = 0; second = 1; inclusion = 0; step = step }) (line 0 AtLeast (pos 7) ∷ line 1 AtMost (pos 6) ∷ [])
    ∷ []

-- One entry with each fault: lines that do not lie in the store, that do not rise, a bound above 4,000, one below -1, a concept that does not stand.
abbrev pub faulty_entries : List Entry
faulty_entries =
    record { head = clash_head; lies = false; label = [] }
    ∷ entry_of clash_head (line 0 AtMost (pos 6) ∷ line 0 AtLeast (pos 7) ∷ [])
    ∷ entry_of clash_head (line 0 AtLeast (pos 4_001) ∷ [])
    ∷ entry_of clash_head (line 0 AtMost (negsuc 1) ∷ [])
    ∷ entry_of clash_head (line 2 AtLeast (pos 7) ∷ [])
    ∷ []

-- One individual on a scale of 1000: the headings have 50 and 30.
abbrev pub near_holding : Holding
near_holding = record { size = 1; top = 1000; heading = λ p x. cond (x == 0) (slice_index (50 ∷ 30 ∷ []) p) 0; role = λ r x y. 0 }

-- What the definitions make of the pieces.
pub record Pieces : Type 0 where
  pub rounding : map (rounded 10 1000) (0 ∷ 1 ∷ 99 ∷ 100 ∷ 101 ∷ 1000 ∷ []) ≡ 0 ∷ 1 ∷ 1 ∷ 2 ∷ 3 ∷ 20 ∷ []
  -- the book is obeyed with 9 at the second individual, and not with 8
  pub chain_at_nine : degree chain_book (chain_holding 9) 4 0 ≡ 8
  pub chain_obeyed : obeys_test chain_book (chain_holding 9) ≡ true
  pub chain_at_eight : degree chain_book (chain_holding 8) 4 0 ≡ 7
  pub chain_broken : obeys_test chain_book (chain_holding 8) ≡ false
  -- one entry stands, fits and serves itself
  pub loop_stands : standing_test loop_book (one_entry loop_label) ≡ true
  pub loop_fits : standing_fits_test loop_book loop_question (one_entry loop_label) 0 ≡ true
  pub loop_serves : serves_test loop_book loop_label 0 0 (pos 12) loop_label ≡ true
  -- the holding read out of it meets book and question; and the sheet drawn up from the holding above stands
  pub loop_read : meets_test loop_book loop_question (read_out loop_book (one_entry loop_label)) 0 ≡ true
  pub chain_drawn : standing_test chain_book (drawn_up chain_book (chain_holding 9)) ≡ true
  -- without the at-most line it is without fault, and breaks the standing rule
  pub open_faultless : faultless_test loop_book (entry_of standing_head open_label) ≡ true
  pub open_broken : stands_test loop_book (one_entry open_label) 0 ≡ false
  -- clashes by range
  pub low_clashes : map (λ z. clashes_test tithe_book (line 0 AtLeast z ∷ [])) (pos 20 ∷ pos 21 ∷ []) ≡ false ∷ true ∷ []
  pub low_by_range : map (beyond_test 10 AtLeast) (pos 20 ∷ pos 21 ∷ []) ≡ false ∷ true ∷ []
  pub high_clashes : map (λ z. clashes_test tithe_book (line 0 AtMost z ∷ [])) (pos 0 ∷ negsuc 0 ∷ []) ≡ false ∷ true ∷ []
  pub high_by_range : map (beyond_test 10 AtMost) (pos 0 ∷ negsuc 0 ∷ []) ≡ false ∷ true ∷ []
  -- 'less 10 at least 0' concludes nothing
  pub less_concludes : among_test (conclusions_of less_book (line 1 AtLeast (pos 0))) (line 0 AtLeast (pos 20)) ≡ false
  pub none_concluded : conclusions_of less_book (line 1 AtLeast (pos 0)) ≡ []
  -- of all letters the form of the line at the place allows S alone
  pub by_letter : map (λ a. closes_test less_book (less_sheet a) 1) (Z ∷ N ∷ S ∷ M ∷ I ∷ E ∷ L ∷ []) ≡ false ∷ false ∷ true ∷ false ∷ false ∷ false ∷ false ∷ []
  -- at least 12 passes on at most 11, and not at most 12
  pub passed_on : map (λ z. passes_test loop_book passing_label 0 0 (pos 12) (line 0 AtMost z)) (pos 11 ∷ pos 12 ∷ []) ≡ true ∷ false ∷ []
  pub fitness : map (fit_test 10 1) (15 ∷ 20 ∷ []) ≡ false ∷ true ∷ []
  -- 50 and 30 round to the same, so that the rounded holding obeys what the holding does not
  pub near_rounds : map (rounded 10 1000) (50 ∷ 30 ∷ []) ≡ 1 ∷ 1 ∷ []
  pub near_broken : obeys_test tithe_book near_holding ≡ false
  pub near_rounded : obeys_test tithe_book (rounded_holding 10 near_holding) ≡ true
  -- at step 7 the sheet is accepted with the root 2; at step 6 the entry 2 alone breaks its rule
  pub tithe_closes : closing_test tithe_book (tithe_sheet 0 7) ≡ true
  pub tithe_fits : closing_fits_test tithe_question (tithe_sheet 0 7) 2 ≡ true
  pub tithe_breaks : map (closes_test tithe_book (tithe_sheet 0 6)) (0 ∷ 1 ∷ 2 ∷ []) ≡ true ∷ true ∷ false ∷ []
  -- so does an entry with a field that its letter does not use
  pub unused_field : map (closes_test tithe_book (tithe_sheet 1 7)) (0 ∷ 1 ∷ 2 ∷ []) ≡ true ∷ true ∷ false ∷ []
  pub faults : map (faultless_test tithe_book) faulty_entries ≡ false ∷ false ∷ false ∷ false ∷ false ∷ []
