-- The table of refusals for the calls on book and question: when each number applies. A clause that says ⊥ says: never.
use Rattle.std.specs.Prelude.{◌≡◌, ◌<◌, ◌≤◌, true, ◌⊎◌, length, slice_index_or}
use Rattle.terms.specs.declared.refusal.Refusal.{Refusal}
use Rattle.terms.specs.declared.refusal.Refusal.TheVariants.{Fineness, Full, Missing, TooHigh, BadName, Already, NoLines, NoRoom, OutOfOrder, BrokenRule, BadRoot, Unfit, BadText, NoMemory}
use Rattle.names.specs.Spelling.{NoName}
use Rattle.terms.specs.Among.{Among}
use Rattle.book.specs.Citing.{CitesMissing, CitesAbove, no_inclusion}
use Rattle.book.specs.States.{State, Entry, a_heading, a_role, a_concept, an_inclusion, a_line, Reading, spells, bad, Call, begin, enter, strike, clear, read_in, trial}

-- the first bad line of a text brings the refusal e
abbrev pub Brings : Reading → Refusal → Type 0
Brings (spells s) e = ⊥
Brings (bad f p) e = f ≡ e

-- ---- entering: when a number applies to an entry

-- a count is at its most: 64 headings, 16 roles, 128 concepts, 64 inclusions, 32 question lines
abbrev pub AtItsMost : State → Entry → Type 0
AtItsMost s (a_heading m) = 64 ≤ length s.book.headings
AtItsMost s (a_role m) = 16 ≤ length s.book.roles
AtItsMost s (a_concept c) = 128 ≤ length s.book.concepts
AtItsMost s (an_inclusion c d) = 64 ≤ length s.book.inclusions
AtItsMost s (a_line q) = 32 ≤ length s.question

-- a number that it cites does not stand
abbrev pub NotStanding : State → Entry → Type 0
NotStanding s (a_heading m) = ⊥
NotStanding s (a_role m) = ⊥
NotStanding s (a_concept c) = CitesMissing (length s.book.headings) (length s.book.roles) (length s.book.concepts) c
NotStanding s (an_inclusion c d) = (length s.book.concepts ≤ c) ⊎ (length s.book.concepts ≤ d)
NotStanding s (a_line q) = length s.book.concepts ≤ q.concept

-- a degree that it cites is above the fineness
abbrev pub AboveFineness : State → Entry → Type 0
AboveFineness s (a_heading m) = ⊥
AboveFineness s (a_role m) = ⊥
AboveFineness s (a_concept c) = CitesAbove s.book.fineness c
AboveFineness s (an_inclusion c d) = ⊥
AboveFineness s (a_line q) = s.book.fineness < q.degree

abbrev pub BadlyNamed : Entry → Type 0
BadlyNamed (a_heading m) = NoName m
BadlyNamed (a_role m) = NoName m
BadlyNamed (a_concept c) = ⊥
BadlyNamed (an_inclusion c d) = ⊥
BadlyNamed (a_line q) = ⊥

abbrev pub AlreadyThere : State → Entry → Type 0
AlreadyThere s (a_heading m) = Among s.book.headings m
AlreadyThere s (a_role m) = Among s.book.roles m
AlreadyThere s (a_concept c) = Among s.book.concepts c
AlreadyThere s (an_inclusion c d) = ⊥
AlreadyThere s (a_line q) = Among s.question q

-- ---- the table: when a number applies to a call. A trial line is refused as a question line is, but one that is already there counts as laid, full or not.

-- 1: the fineness is outside 1 to 1000
abbrev pub Ground1 : State → Call → Type 0
Ground1 s (begin n) = (n < 1) ⊎ (1000 < n)
Ground1 s (enter e) = ⊥
Ground1 s (strike i) = ⊥
Ground1 s clear = ⊥
Ground1 s (read_in t) = Brings t Fineness
Ground1 s (trial q) = ⊥

-- 2: a count of book or question is at its most
abbrev pub Ground2 : State → Call → Type 0
Ground2 s (begin n) = ⊥
Ground2 s (enter e) = AtItsMost s e
Ground2 s (strike i) = ⊥
Ground2 s clear = ⊥
Ground2 s (read_in t) = Brings t Full
Ground2 s (trial q) = ¬ Among s.question q × AtItsMost s (a_line q)

-- 3: a number that does not stand
abbrev pub Ground3 : State → Call → Type 0
Ground3 s (begin n) = ⊥
Ground3 s (enter e) = NotStanding s e
Ground3 s (strike i) = length s.book.inclusions ≤ i
Ground3 s clear = ⊥
Ground3 s (read_in t) = Brings t Missing
Ground3 s (trial q) = ¬ Among s.question q × NotStanding s (a_line q)

-- 4: a degree above the fineness
abbrev pub Ground4 : State → Call → Type 0
Ground4 s (begin n) = ⊥
Ground4 s (enter e) = AboveFineness s e
Ground4 s (strike i) = ⊥
Ground4 s clear = ⊥
Ground4 s (read_in t) = Brings t TooHigh
Ground4 s (trial q) = ¬ Among s.question q × AboveFineness s (a_line q)

-- 5: a bad name
abbrev pub Ground5 : State → Call → Type 0
Ground5 s (begin n) = ⊥
Ground5 s (enter e) = BadlyNamed e
Ground5 s (strike i) = ⊥
Ground5 s clear = ⊥
Ground5 s (read_in t) = Brings t BadName
Ground5 s (trial q) = ⊥

-- 6: a name, concept or question line is already there; an inclusion is already struck
abbrev pub Ground6 : State → Call → Type 0
Ground6 s (begin n) = ⊥
Ground6 s (enter e) = AlreadyThere s e
Ground6 s (strike i) = (slice_index_or s.book.inclusions i no_inclusion).struck ≡ true
Ground6 s clear = ⊥
Ground6 s (read_in t) = Brings t Already
Ground6 s (trial q) = ⊥

-- 7 to 13 can only come from a text
abbrev pub FromText : Call → Refusal → Type 0
FromText (begin n) e = ⊥
FromText (enter x) e = ⊥
FromText (strike i) e = ⊥
FromText clear e = ⊥
FromText (read_in t) e = Brings t e
FromText (trial q) e = ⊥

-- only reading in wants memory, and so may find none
abbrev pub WantsMemory : Call → Type 0
WantsMemory (begin n) = ⊥
WantsMemory (enter e) = ⊥
WantsMemory (strike i) = ⊥
WantsMemory clear = ⊥
WantsMemory (read_in t) = Unit {0}
WantsMemory (trial q) = ⊥

-- the call c on the state s has the ground
abbrev pub Ground : State → Call → Refusal → Type 0
Ground s c Fineness = Ground1 s c
Ground s c Full = Ground2 s c
Ground s c Missing = Ground3 s c
Ground s c TooHigh = Ground4 s c
Ground s c BadName = Ground5 s c
Ground s c Already = Ground6 s c
Ground s c NoLines = FromText c NoLines
Ground s c NoRoom = FromText c NoRoom
Ground s c OutOfOrder = FromText c OutOfOrder
Ground s c BrokenRule = FromText c BrokenRule
Ground s c BadRoot = FromText c BadRoot
Ground s c Unfit = FromText c Unfit
Ground s c BadText = FromText c BadText
Ground s c NoMemory = WantsMemory c
