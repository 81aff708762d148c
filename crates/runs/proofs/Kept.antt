-- Book and question are what the accepted calls say: one call more, and so every run.
use Rattle.std.proofs.Common.{◌≡◌, ℕ, zero, suc, ◌+◌, ◌<◌, ◌≤◌, Bool, true, false, ◌||◌, eqb, List, [], ◌∷◌, ◌++◌, length, get_or, set, Ok, Err, sym, refl, ap, ◌∙◌, subst, ap₂, append_assoc, append-nil, le_of_suc-le-suc, not-suc-le-zero, arith}
use Rattle.std.specs.List.{AllByRecursion}
use Rattle.std.proofs.lemmas.List.{length-append}
use Rattle.std.proofs.lemmas.Bool.Decides.{nat_tests}
use Rattle.terms.specs.declared.concept.Inclusion.{Inclusion}
use Rattle.terms.specs.declared.question.QuestionLine.{QuestionLine}
use Rattle.terms.specs.declared.refusal.Refusal.TheVariants.{Missing}
use Rattle.terms.proofs.Least.{free_of}
use Rattle.book.specs.Citing.{no_inclusion}
use Rattle.book.specs.States.{BookModel, State, Entry, a_heading, a_role, a_concept, an_inclusion, a_line, spells, bad, Call, begin, enter, strike, clear, read_in, trial, blank_book, unstruck, struck_off, strike_one, after}
use Rattle.book.specs.Grounds.{Ground}
use Rattle.book.specs.Steps.{Reply, Due, Step}
use Rattle.runs.specs.Lists.{gather, last, since, member}
use Rattle.runs.specs.Histories.{Event, Run, granted, accepted_calls}
use Rattle.runs.specs.Contents.{new_book, new_question, entered, struck_number, heading_of, role_of, concept_of, inclusion_of, line_of, those, strike_all, ground_book, ground_lines, contents}
use Rattle.runs.proofs.Lists.{gather_append, gather_push, gather_quiet, last_push, since_quiet, since_anew, or_assoc, or_false, member_push}

book_path : {b d : BookModel} → b.fineness ≡ d.fineness → b.headings ≡ d.headings → b.roles ≡ d.roles → b.concepts ≡ d.concepts → b.inclusions ≡ d.inclusions → b ≡ d
book_path p q r s t = λ i. record { fineness = p i; headings = q i; roles = r i; concepts = s i; inclusions = t i }

state_path : {s t : State} → s.book ≡ t.book → s.question ≡ t.question → s ≡ t
state_path p q = λ i. record { book = p i; question = q i }

-- ---- striking

inclusion_path : (x : Inclusion) {a b : Bool} → a ≡ b → ◌≡◌ {A = Inclusion} (record { lower = x.lower; upper = x.upper; struck = a }) (record { lower = x.lower; upper = x.upper; struck = b })
inclusion_path x e = λ i. record { lower = x.lower; upper = x.upper; struck = e i }

pub strike_none : (k : ℕ) (xs : List Inclusion) → strike_all [] k xs ≡ xs
strike_none k [] = refl
strike_none k (x ∷ xs) = ap₂ (λ (y : Inclusion) ys. y ∷ ys) (inclusion_path x (or_false x.struck)) (strike_none (suc k) xs)

strike_more : (ss : List ℕ) (i k : ℕ) (xs : List Inclusion) → strike_all (ss ++ i ∷ []) k xs ≡ strike_all (i ∷ []) k (strike_all ss k xs)
strike_more ss i k [] = refl
strike_more ss i k (x ∷ xs) =
    ap₂ (λ (y : Inclusion) ys. y ∷ ys)
    (inclusion_path x (ap (λ b. x.struck || b) (member_push k ss i) ∙ sym (or_assoc x.struck (member k ss) (member k (i ∷ [])))))
    (strike_more ss i (suc k) xs)

pub length_strike : (ss : List ℕ) (k : ℕ) (xs : List Inclusion) → length (strike_all ss k xs) ≡ length xs
length_strike ss k [] = refl
length_strike ss k (x ∷ xs) = ap suc (length_strike ss (suc k) xs)

or_true : (a : Bool) → a || true ≡ true
or_true true = refl
or_true false = refl

is_member : (j k : ℕ) → j ≡ k → member k (j ∷ []) ≡ true
is_member j k e = grind (arith, nat_tests)

no_member : (j k : ℕ) → ¬ (j ≡ k) → member k (j ∷ []) ≡ false
no_member j k e = grind (arith, nat_tests)

strike_below : (j k : ℕ) (xs : List Inclusion) → j < k → strike_all (j ∷ []) k xs ≡ xs
strike_below j k [] h = refl
strike_below j k (x ∷ xs) h =
    ap₂ (λ (y : Inclusion) ys. y ∷ ys) (inclusion_path x (ap (λ b. x.struck || b) (no_member j k (omega arith)) ∙ or_false x.struck)) (strike_below j (suc k) xs (omega arith))

strike_at : (j k i : ℕ) (xs : List Inclusion) → j ≡ k + i → i < length xs → strike_all (j ∷ []) k xs ≡ set xs i (struck_off (get_or xs i no_inclusion))
strike_at j k i [] e h = absurd (not-suc-le-zero h)
strike_at j k zero (x ∷ xs) e h =
    ap₂ (λ (y : Inclusion) ys. y ∷ ys) (inclusion_path x (ap (λ b. x.struck || b) (is_member j k (omega arith)) ∙ or_true x.struck)) (strike_below j (suc k) xs (omega arith))
strike_at j k (suc i) (x ∷ xs) e h =
    ap₂ (λ (y : Inclusion) ys. y ∷ ys) (inclusion_path x (ap (λ b. x.struck || b) (no_member j k (omega arith)) ∙ or_false x.struck)) (strike_at j (suc k) i xs (omega arith) (le_of_suc-le-suc h))

-- striking one in place is striking its number
strike_is_one : (i : ℕ) (xs : List Inclusion) → i < length xs → strike_all (i ∷ []) 0 xs ≡ strike_one xs i
strike_is_one i xs h = strike_at i 0 i xs (omega arith) h

not_eqb : (a b : ℕ) → a < b → eqb a b ≡ false
not_eqb a b h = grind (arith, nat_tests)

past_member : (k : ℕ) (ss : List ℕ) → AllByRecursion (λ i. i < k) ss → member k ss ≡ false
past_member k [] h = refl
past_member k (s ∷ ss) h = ap₂ (λ a b. a || b) (not_eqb s k h.0) (past_member k ss h.1)

all_more : {A : Type 0} (P Q : A → Type 0) (xs : List A) → ((x : A) → P x → Q x) → AllByRecursion P xs → AllByRecursion Q xs
all_more P Q [] f h = tt
all_more P Q (x ∷ xs) f h = (f x h.0, all_more P Q xs f h.1)

all_append : {A : Type 0} (P : A → Type 0) (xs ys : List A) → AllByRecursion P xs → AllByRecursion P ys → AllByRecursion P (xs ++ ys)
all_append P [] ys h g = g
all_append P (x ∷ xs) ys h g = (h.0, all_append P xs ys h.1 g)

strike_past : (ss : List ℕ) (k : ℕ) (xs : List Inclusion) (c d : ℕ) → AllByRecursion (λ i. i < k + length xs) ss
    → strike_all ss k (xs ++ unstruck c d ∷ []) ≡ strike_all ss k xs ++ unstruck c d ∷ []
strike_past ss k [] c d h = ap (λ (y : Inclusion). y ∷ []) (inclusion_path (unstruck c d) (past_member k ss (all_more (λ i. i < k + 0) (λ i. i < k) ss (λ i p. omega arith) h)))
strike_past ss k (x ∷ xs) c d h =
    ap (λ ys. record { lower = x.lower; upper = x.upper; struck = x.struck || member k ss } ∷ ys)
    (strike_past ss (suc k) xs c d (all_more (λ i. i < k + suc (length xs)) (λ i. i < suc k + length xs) ss (λ i p. omega arith) h))

-- ---- the entries of one kind, at one more call

those_push : {B : Type 0} (k : Entry → List B) (cs : List Call) (c : Call) → those k (cs ++ c ∷ []) ≡ those k cs ++ gather k (entered c)
those_push k cs c = ap (gather k) (gather_push entered cs c) ∙ gather_append k (gather entered cs) (entered c)

more : {B : Type 0} (k : Entry → List B) (b : List B) (cs : List Call) (c : Call) → b ++ those k (cs ++ c ∷ []) ≡ (b ++ those k cs) ++ gather k (entered c)
more k b cs c = ap (λ zs. b ++ zs) (those_push k cs c) ∙ sym (append_assoc b (those k cs) (gather k (entered c)))

same : {B : Type 0} (k : Entry → List B) (b : List B) (cs : List Call) (c : Call) → gather k (entered c) ≡ [] → b ++ those k (cs ++ c ∷ []) ≡ b ++ those k cs
same k b cs c e = ap (λ zs. b ++ zs) (those_push k cs c ∙ ap (λ zs. those k cs ++ zs) e ∙ append-nil (those k cs))

-- the contents by their four parts: the book last begun, the calls since, the lines last left, the calls since
made_book : BookModel → List Call → BookModel
made_book b cs = record {
  fineness = b.fineness;
  headings = b.headings ++ those heading_of cs;
  roles = b.roles ++ those role_of cs;
  concepts = b.concepts ++ those concept_of cs;
  inclusions = strike_all (gather struck_number cs) 0 (b.inclusions ++ those inclusion_of cs);
}

made : BookModel → List Call → List QuestionLine → List Call → State
made b cs q ds = record { book = made_book b cs; question = q ++ those line_of ds }

-- every number struck since is that of an inclusion
abbrev Stand : BookModel → List Call → Type 0
Stand b cs = AllByRecursion (λ i. i < length (b.inclusions ++ those inclusion_of cs)) (gather struck_number cs)

unmoved : (b : BookModel) (cs : List Call) (c : Call) → gather inclusion_of (entered c) ≡ [] → struck_number c ≡ []
    → strike_all (gather struck_number (cs ++ c ∷ [])) 0 (b.inclusions ++ those inclusion_of (cs ++ c ∷ [])) ≡ strike_all (gather struck_number cs) 0 (b.inclusions ++ those inclusion_of cs)
unmoved b cs c e f = ap₂ (λ ss xs. strike_all ss 0 xs) (gather_quiet struck_number cs c f) (same inclusion_of b.inclusions cs c e)

-- a call that enters nothing in the book and strikes nothing leaves it
book_same : (b : BookModel) (cs : List Call) (c : Call) → gather heading_of (entered c) ≡ [] → gather role_of (entered c) ≡ [] → gather concept_of (entered c) ≡ [] → gather inclusion_of (entered c) ≡ [] → struck_number c ≡ []
    → made_book b (cs ++ c ∷ []) ≡ made_book b cs
unfolding made_book
book_same b cs c h r k i n = book_path refl (same heading_of b.headings cs c h) (same role_of b.roles cs c r) (same concept_of b.concepts cs c k) (unmoved b cs c i n)

made_entry : (b : BookModel) (cs : List Call) (q : List QuestionLine) (ds : List Call) (e : Entry) → Stand b cs → made b (cs ++ enter e ∷ []) q (ds ++ enter e ∷ []) ≡ after (made b cs q ds) (enter e)
unfolding made made_book
made_entry b cs q ds (a_heading n) st = let c = enter (a_heading n) in
    state_path (book_path refl (more heading_of b.headings cs c) (same role_of b.roles cs c refl) (same concept_of b.concepts cs c refl) (unmoved b cs c refl refl)) (same line_of q ds c refl)
made_entry b cs q ds (a_role n) st = let c = enter (a_role n) in
    state_path (book_path refl (same heading_of b.headings cs c refl) (more role_of b.roles cs c) (same concept_of b.concepts cs c refl) (unmoved b cs c refl refl)) (same line_of q ds c refl)
made_entry b cs q ds (a_concept x) st = let c = enter (a_concept x) in
    state_path (book_path refl (same heading_of b.headings cs c refl) (same role_of b.roles cs c refl) (more concept_of b.concepts cs c) (unmoved b cs c refl refl)) (same line_of q ds c refl)
made_entry b cs q ds (an_inclusion x y) st = let c = enter (an_inclusion x y) in
    state_path
    (book_path refl (same heading_of b.headings cs c refl) (same role_of b.roles cs c refl) (same concept_of b.concepts cs c refl)
    (ap₂ (λ ss xs. strike_all ss 0 xs) (gather_quiet struck_number cs c refl) (more inclusion_of b.inclusions cs c)
    ∙ strike_past (gather struck_number cs) 0 (b.inclusions ++ those inclusion_of cs) x y (all_more (λ i. i < length (b.inclusions ++ those inclusion_of cs)) (λ i. i < 0 + length (b.inclusions ++ those inclusion_of cs)) (gather struck_number cs) (λ i p. omega arith) st)))
    (same line_of q ds c refl)
made_entry b cs q ds (a_line x) st = let c = enter (a_line x) in state_path (book_same b cs c refl refl refl refl refl) (more line_of q ds c)

-- the number struck is that of an inclusion
made_strike : (b : BookModel) (cs : List Call) (q : List QuestionLine) (ds : List Call) (i : ℕ) → i < length (b.inclusions ++ those inclusion_of cs) → made b (cs ++ strike i ∷ []) q (ds ++ strike i ∷ []) ≡ after (made b cs q ds) (strike i)
unfolding made made_book
made_strike b cs q ds i h = let c = strike i in
    let xs = strike_all (gather struck_number cs) 0 (b.inclusions ++ those inclusion_of cs) in
    state_path
    (book_path refl (same heading_of b.headings cs c refl) (same role_of b.roles cs c refl) (same concept_of b.concepts cs c refl)
    (ap₂ (λ ss ys. strike_all ss 0 ys) (gather_push struck_number cs c) (same inclusion_of b.inclusions cs c refl)
    ∙ strike_more (gather struck_number cs) i 0 (b.inclusions ++ those inclusion_of cs)
    ∙ strike_is_one i xs (omega (arith, h, length_strike (gather struck_number cs) 0 (b.inclusions ++ those inclusion_of cs)))))
    (same line_of q ds c refl)

-- the contents that are as they were
made_first : (s : State) → made s.book [] s.question [] ≡ s
unfolding made made_book
made_first s =
    state_path (book_path refl (append-nil s.book.headings) (append-nil s.book.roles) (append-nil s.book.concepts) (strike_none 0 (s.book.inclusions ++ []) ∙ append-nil s.book.inclusions))
    (append-nil s.question)

made_path : {b b' : BookModel} {cs cs' : List Call} {q q' : List QuestionLine} {ds ds' : List Call} → b ≡ b' → cs ≡ cs' → q ≡ q' → ds ≡ ds' → made b cs q ds ≡ made b' cs' q' ds'
made_path e f g h = λ i. made (e i) (f i) (g i) (h i)

-- ---- the four parts, at one more call

module _ (s : State) where
  book_quiet : (cs : List Call) (c : Call) → new_book c ≡ [] → ground_book s (cs ++ c ∷ []) ≡ ground_book s cs
  book_quiet cs c e = ap (last s.book) (gather_quiet new_book cs c e)

  book_anew : (cs : List Call) (c : Call) (b : BookModel) → new_book c ≡ b ∷ [] → ground_book s (cs ++ c ∷ []) ≡ b
  book_anew cs c b e = ap (last s.book) (gather_push new_book cs c ∙ ap (λ zs. gather new_book cs ++ zs) e) ∙ last_push s.book (gather new_book cs) b

  lines_quiet : (cs : List Call) (c : Call) → new_question c ≡ [] → ground_lines s (cs ++ c ∷ []) ≡ ground_lines s cs
  lines_quiet cs c e = ap (last s.question) (gather_quiet new_question cs c e)

  lines_anew : (cs : List Call) (c : Call) (q : List QuestionLine) → new_question c ≡ q ∷ [] → ground_lines s (cs ++ c ∷ []) ≡ q
  lines_anew cs c q e = ap (last s.question) (gather_push new_question cs c ∙ ap (λ zs. gather new_question cs ++ zs) e) ∙ last_push s.question (gather new_question cs) q

  abbrev Stands : List Call → Type 0
  Stands cs = Stand (ground_book s cs) (since new_book cs)

  stand_path : {b b' : BookModel} {cs cs' : List Call} → b' ≡ b → cs' ≡ cs → Stand b cs → Stand b' cs'
  stand_path {b} {b'} {cs} {cs'} e f st = subst (λ x. Stand x cs') (sym e) (subst (Stand b) (sym f) st)

  -- neither book nor question anew
  quiet : (cs : List Call) (c : Call) → new_book c ≡ [] → new_question c ≡ []
      → contents s (cs ++ c ∷ []) ≡ made (ground_book s cs) (since new_book cs ++ c ∷ []) (ground_lines s cs) (since new_question cs ++ c ∷ [])
  unfolding made made_book
  quiet cs c e f = made_path (book_quiet cs c e) (since_quiet new_book cs c e) (lines_quiet cs c f) (since_quiet new_question cs c f)

  -- a call that brings nothing at all
  idle : (cs : List Call) (c : Call) → new_book c ≡ [] → new_question c ≡ [] → entered c ≡ [] → struck_number c ≡ [] → contents s (cs ++ c ∷ []) ≡ contents s cs
  unfolding made made_book
  idle cs c e f g h =
      quiet cs c e f
      ∙ state_path
      (book_same (ground_book s cs) (since new_book cs) c (ap (gather heading_of) g) (ap (gather role_of) g) (ap (gather concept_of) g) (ap (gather inclusion_of) g) h)
      (same line_of (ground_lines s cs) (since new_question cs) c (ap (gather line_of) g))

  -- the number of an accepted strike is that of an inclusion
  in_range : (cs : List Call) (i : ℕ) → ¬ Ground (contents s cs) (strike i) Missing → i < length ((ground_book s cs).inclusions ++ those inclusion_of (since new_book cs))
  in_range cs i free =
      let xs = (ground_book s cs).inclusions ++ those inclusion_of (since new_book cs) in
      let some : ¬ (length (contents s cs).book.inclusions ≤ i) = free in
      omega (arith, length_strike (gather struck_number (since new_book cs)) 0 xs, some)

  abbrev Free : List Call → Call → Type 0
  Free cs c = ¬ Ground (contents s cs) c Missing

  grown : (cs : List Call) (c : Call) → Stands cs → Free cs c → contents s (cs ++ c ∷ []) ≡ after (contents s cs) c
  unfolding made made_book
  grown cs (begin m) st free =
      made_path (book_anew cs (begin m) (blank_book m) refl) (since_anew new_book cs (begin m) refl) (lines_quiet cs (begin m) refl) (since_quiet new_question cs (begin m) refl)
      ∙ state_path refl (same line_of (ground_lines s cs) (since new_question cs) (begin m) refl)
  grown cs (enter e) st free = quiet cs (enter e) refl refl ∙ made_entry (ground_book s cs) (since new_book cs) (ground_lines s cs) (since new_question cs) e st
  grown cs (strike i) st free = quiet cs (strike i) refl refl ∙ made_strike (ground_book s cs) (since new_book cs) (ground_lines s cs) (since new_question cs) i (in_range cs i free)
  grown cs clear st free =
      made_path (book_quiet cs clear refl) (since_quiet new_book cs clear refl) (lines_anew cs clear [] refl) (since_anew new_question cs clear refl)
      ∙ state_path (book_same (ground_book s cs) (since new_book cs) clear refl refl refl refl refl) refl
  grown cs (read_in (spells t)) st free =
      let c = read_in (spells t) in
      made_path (book_anew cs c t.book refl) (since_anew new_book cs c refl) (lines_anew cs c t.question refl) (since_anew new_question cs c refl) ∙ made_first t
  grown cs (read_in (bad e p)) st free = idle cs (read_in (bad e p)) refl refl refl refl
  grown cs (trial q) st free = idle cs (trial q) refl refl refl refl

  -- the numbers struck go on to stand
  stand_on : (b : BookModel) (cs : List Call) (c : Call) → Stand b cs → AllByRecursion (λ i. i < length (b.inclusions ++ those inclusion_of cs)) (struck_number c) → Stand b (cs ++ c ∷ [])
  stand_on b cs c st h =
      let xs = b.inclusions ++ those inclusion_of cs in
      let ys = gather inclusion_of (entered c) in
      subst (λ zs. AllByRecursion (λ i. i < length zs) (gather struck_number (cs ++ c ∷ []))) (sym (more inclusion_of b.inclusions cs c))
      (subst (AllByRecursion (λ i. i < length (xs ++ ys))) (sym (gather_push struck_number cs c))
      (all_more (λ i. i < length xs) (λ i. i < length (xs ++ ys)) (gather struck_number cs ++ struck_number c) (λ i p. omega (arith, length-append xs ys))
      (all_append (λ i. i < length xs) (gather struck_number cs) (struck_number c) st h)))

  stands_quiet : (cs : List Call) (c : Call) → new_book c ≡ [] → Stands cs → AllByRecursion (λ i. i < length ((ground_book s cs).inclusions ++ those inclusion_of (since new_book cs))) (struck_number c) → Stands (cs ++ c ∷ [])
  stands_quiet cs c e st h = stand_path (book_quiet cs c e) (since_quiet new_book cs c e) (stand_on (ground_book s cs) (since new_book cs) c st h)

  stands_on : (cs : List Call) (c : Call) → Stands cs → Free cs c → Stands (cs ++ c ∷ [])
  stands_on cs (begin m) st free = stand_path (book_anew cs (begin m) (blank_book m) refl) (since_anew new_book cs (begin m) refl) tt
  stands_on cs (enter e) st free = stands_quiet cs (enter e) refl st tt
  stands_on cs (strike i) st free = stands_quiet cs (strike i) refl st (in_range cs i free, tt)
  stands_on cs clear st free = stands_quiet cs clear refl st tt
  stands_on cs (read_in (spells t)) st free = let c = read_in (spells t) in stand_path (book_anew cs c t.book refl) (since_anew new_book cs c refl) tt
  stands_on cs (read_in (bad e p)) st free = stands_quiet cs (read_in (bad e p)) refl st tt
  stands_on cs (trial q) st free = stands_quiet cs (trial q) refl st tt

  -- ---- along a run

  -- what is kept after the events p
  Kept : List Event → State → Type 0
  Kept p t = (t ≡ contents s (accepted_calls p)) × Stands (accepted_calls p)

  kept_call : (cs : List Call) (c : Call) (r : Reply) (t u : State) → t ≡ contents s cs → Stands cs → Step t c r u → (u ≡ contents s (cs ++ granted c r)) × Stands (cs ++ granted c r)
  kept_call cs c (Ok k) t u e st a =
      let free : Free cs c = subst (λ x. ¬ Ground x c Missing) e (free_of (Ground t c) a.0.0 Missing (omega arith)) in
      (a.1 ∙ ap (λ x. after x c) e ∙ sym (grown cs c st free), stands_on cs c st free)
  kept_call cs c (Err x) t u e st a = (a.1 ∙ e ∙ ap (contents s) (sym (append-nil cs)), subst Stands (sym (append-nil cs)) st)

  kept_event : (p : List Event) (e : Event) (t u : State) → Kept p t → Step t e.call e.reply u → Kept (p ++ e ∷ []) u
  unfolding Kept
  kept_event p e t u k a =
      subst (λ cs. (u ≡ contents s cs) × Stands cs) (sym (gather_push (λ (x : Event). granted x.call x.reply) p e)) (kept_call (accepted_calls p) e.call e.reply t u k.0 k.1 a)

  kept_run : (p h : List Event) (t u : State) → Kept p t → Run t h u → Kept (p ++ h) u
  kept_run p [] t u k r = subst (λ x. Kept (p ++ []) x) (sym r) (subst (λ q. Kept q t) (sym (append-nil p)) k)
  kept_run p (e ∷ h) t u k r = subst (λ q. Kept q u) (append_assoc p (e ∷ []) h) (kept_run (p ++ e ∷ []) h r.0 u (kept_event p e t r.0 k r.1) r.2)

  kept_first : Kept [] s
  unfolding Kept made made_book
  kept_first = (sym (made_first s), tt)

  pub contents_law : (h : List Event) (t : State) → Run s h t → t ≡ contents s (accepted_calls h)
  unfolding Kept
  contents_law h t r = (kept_run [] h s t kept_first r).0

  -- a run that comes to an event stands there at what it was before
  comes_to : (t : State) (earlier later : List Event) (e : Event) (u : State) → Run t (earlier ++ e ∷ later) u → (m : State) × Run t earlier m × Due m e.call e.reply
  comes_to t [] later e u r = (t, refl, r.1.0)
  comes_to t (x ∷ xs) later e u r = let q = comes_to r.0 xs later e u r.2 in (q.0, (r.0, r.1, q.1), q.2)

  pub replies_law : (earlier later : List Event) (e : Event) (t : State) → Run s (earlier ++ e ∷ later) t → Due (contents s (accepted_calls earlier)) e.call e.reply
  replies_law earlier later e t r =
      let q = comes_to s earlier later e t r in
      subst (λ m. Due m e.call e.reply) (contents_law earlier q.0 q.1) q.2
