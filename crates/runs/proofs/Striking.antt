-- An inclusion is struck exactly if the book had it so or a call struck it.
use Rattle.std.proofs.Common.{◌≡◌, ℕ, zero, suc, ◌+◌, ◌<◌, Bool, true, false, cond, ◌||◌, eqb, ◌⊎◌, ◌↔◌, List, [], ◌∷◌, ◌++◌, length, get_or, sym, refl, ap, ◌∙◌, subst, ap₂, inl, inr, le_of_suc-le-suc, not-suc-le-zero, arith}
use Rattle.std.specs.List.{ContainsAt as Has, AllByRecursion}
use Rattle.std.proofs.lemmas.Bool.Decides.{nat_tests}
use Rattle.terms.specs.declared.concept.Inclusion.{Inclusion}
use Rattle.book.specs.Citing.{no_inclusion}
use Rattle.book.specs.States.{State, Entry, a_heading, a_role, a_concept, an_inclusion, a_line, Call, begin, enter, strike, clear, read_in, trial}
use Rattle.runs.specs.Lists.{gather, since, member}
use Rattle.runs.specs.Contents.{new_book, entered, struck_number, inclusion_of, those, strike_all, ground_book, contents}
use Rattle.runs.specs.Laws.{Struck}
use Rattle.runs.proofs.Kept.{length_strike}

struck_at : (ss : List ℕ) (k i : ℕ) (xs : List Inclusion) → i < length xs → (get_or (strike_all ss k xs) i no_inclusion).struck ≡ (get_or xs i no_inclusion).struck || member (k + i) ss
struck_at ss k i [] h = absurd (not-suc-le-zero h)
struck_at ss k zero (x ∷ xs) h = ap (λ j. x.struck || member j ss) (omega arith)
struck_at ss k (suc i) (x ∷ xs) h = struck_at ss (suc k) i xs (le_of_suc-le-suc h) ∙ ap (λ j. (get_or xs i no_inclusion).struck || member j ss) (omega arith)

abbrev Fresh : Inclusion → Type 0
Fresh x = x.struck ≡ false

fresh_at : (i : ℕ) (xs : List Inclusion) → AllByRecursion Fresh xs → (get_or xs i no_inclusion).struck ≡ false
fresh_at i [] a = refl
fresh_at zero (x ∷ xs) a = a.0
fresh_at (suc i) (x ∷ xs) a = fresh_at i xs a.1

fresh_behind : (i : ℕ) (bs xs : List Inclusion) → AllByRecursion Fresh xs → (get_or (bs ++ xs) i no_inclusion).struck ≡ (get_or bs i no_inclusion).struck
fresh_behind i [] xs a = fresh_at i xs a
fresh_behind zero (b ∷ bs) xs a = refl
fresh_behind (suc i) (b ∷ bs) xs a = fresh_behind i bs xs a

all_fresh : (es : List Entry) → AllByRecursion Fresh (gather inclusion_of es)
all_fresh [] = tt
all_fresh (a_heading n ∷ es) = all_fresh es
all_fresh (a_role n ∷ es) = all_fresh es
all_fresh (a_concept c ∷ es) = all_fresh es
all_fresh (an_inclusion x y ∷ es) = (refl, all_fresh es)
all_fresh (a_line q ∷ es) = all_fresh es

same_number : (j i : ℕ) → eqb j i ≡ true → j ≡ i
same_number j i e = grind (arith, nat_tests)

own_number : (i : ℕ) → eqb i i ≡ true
own_number i = grind (arith, nat_tests)

or_cases : (a b : Bool) → a || b ≡ true → (a ≡ true) ⊎ (b ≡ true)
or_cases true b e = inl refl
or_cases false b e = inr e

or_second : (a b : Bool) → b ≡ true → a || b ≡ true
or_second true b e = refl
or_second false b e = e

-- a list with an element, from its head or its tail
here : {X : Type 0} (x y : X) (xs : List X) → x ≡ y → Has (x ∷ xs) y
here x y xs e = (0, omega arith, λ d. e)

further : {X : Type 0} (x y : X) (xs : List X) → Has xs y → Has (x ∷ xs) y
further x y xs h = (suc h.0, omega (arith, h.1), h.2)

either : {X : Type 0} (x y : X) (xs : List X) → Has (x ∷ xs) y → (x ≡ y) ⊎ Has xs y
either x y xs (zero, l, e) = inl (e x)
either x y xs (suc k, l, e) = inr (k, le_of_suc-le-suc l, e)

nothing : {X : Type 0} (y : X) → ¬ Has [] y
nothing y h = absurd (not-suc-le-zero h.1)

called : (i : ℕ) (cs : List Call) → member i (gather struck_number cs) ≡ true → Has cs (strike i)
called i [] e = absurd (subst (λ b. cond b ⊥ (Unit {0})) e tt)
called i (begin n ∷ cs) e = further _ _ cs (called i cs e)
called i (enter x ∷ cs) e = further _ _ cs (called i cs e)
called i (strike j ∷ cs) e = elim (or_cases (eqb j i) (member i (gather struck_number cs)) e) [ inl p ↦ here _ _ cs (ap strike (same_number j i p)) | inr q ↦ further _ _ cs (called i cs q) ]
called i (clear ∷ cs) e = further _ _ cs (called i cs e)
called i (read_in t ∷ cs) e = further _ _ cs (called i cs e)
called i (trial q ∷ cs) e = further _ _ cs (called i cs e)

member_behind : (i : ℕ) (us vs : List ℕ) → member i vs ≡ true → member i (us ++ vs) ≡ true
member_behind i [] vs e = e
member_behind i (u ∷ us) vs e = or_second (eqb u i) (member i (us ++ vs)) (member_behind i us vs e)

counts : (i : ℕ) (cs : List Call) → Has cs (strike i) → member i (gather struck_number cs) ≡ true
counts i [] h = absurd (nothing (strike i) h)
counts i (c ∷ cs) h = go (counts i cs) (either c (strike i) cs h)
  where
    go : (Has cs (strike i) → member i (gather struck_number cs) ≡ true) → (c ≡ strike i) ⊎ Has cs (strike i) → member i (struck_number c ++ gather struck_number cs) ≡ true
    go tails (inl p) = ap (λ us. member i (us ++ gather struck_number cs)) (ap struck_number p) ∙ ap (λ b. b || member i (gather struck_number cs)) (own_number i)
    go tails (inr q) = member_behind i (struck_number c) (gather struck_number cs) (tails q)

pub struck_law : (s : State) (cs : List Call) (i : ℕ) → i < length (contents s cs).book.inclusions → Struck (contents s cs).book i ↔ (Struck (ground_book s cs) i ⊎ Has (since new_book cs) (strike i))
struck_law s cs i h =
    let b = (ground_book s cs).inclusions in
    let later = since new_book cs in
    let ss = gather struck_number later in
    let xs = b ++ those inclusion_of later in
    let e : (get_or (strike_all ss 0 xs) i no_inclusion).struck ≡ (get_or b i no_inclusion).struck || member i ss =
    struck_at ss 0 i xs (omega (arith, length_strike ss 0 xs)) ∙ ap₂ (λ a j. a || member j ss) (fresh_behind i b (those inclusion_of later) (all_fresh (gather entered later))) (omega arith) in (
      λ p. elim (or_cases (get_or b i no_inclusion).struck (member i ss) (sym e ∙ p)) [ inl q ↦ inl q | inr q ↦ inr (called i later q) ],
      λ p. e ∙ elim p [ inl q ↦ ap (λ a. a || member i ss) q | inr q ↦ or_second (get_or b i no_inclusion).struck (member i ss) (counts i later q) ],
    )
