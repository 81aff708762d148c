-- One list of calls has one outcome.
use Rattle.std.proofs.Common.{◌≡◌, ℕ, ◌≤◌, Bool, true, false, cond, eqb, List, [], ◌∷◌, ◌++◌, length, Ok, Err, sym, refl, ap, ◌∙◌, subst, ap₂, arith}
use Rattle.std.specs.List.{AllByRecursion}
use Rattle.std.proofs.lemmas.Bool.Decides.{nat_tests}
use Rattle.terms.specs.declared.refusal.Refused.{Refused}
use Rattle.terms.specs.Refusals.{number}
use Rattle.terms.specs.Answers.{Least}
use Rattle.terms.proofs.Least.{free_of, least_of, one_least, exactly}
use Rattle.book.specs.States.{State, Call, clear}
use Rattle.book.specs.Grounds.{Ground}
use Rattle.book.specs.Steps.{Reply, Due, place, left, Step}
use Rattle.runs.specs.Histories.{Event, Run, calls, heard, counted}
use Rattle.runs.specs.Laws.{RepliesAreExact}

-- the reply is no want of memory
abbrev Heard : Reply → Type 0
Heard (Ok k) = Unit {0}
Heard (Err x) = 1 ≤ number x.refusal

first : List Call → Call
first [] = clear
first (c ∷ cs) = c

rest : List Call → List Call
rest [] = []
rest (c ∷ cs) = cs

event_path : {e f : Event} → e.call ≡ f.call → e.reply ≡ f.reply → e ≡ f
event_path p q = λ i. record { call = p i; reply = q i }

some_number : (n : ℕ) → eqb n 0 ≡ false → 1 ≤ n
some_number n e = grind (arith, nat_tests)

module _ (e : Event) (P : Event → Type 0) (hs : List Event) where
  -- what holds of the event if it is heard, and of the rest, holds of all
  heard_cons : (r : Reply) → (Heard r → P e) → AllByRecursion P hs → AllByRecursion P (heard e r ++ hs)
  heard_cons (Ok k) f a = (f tt, a)
  heard_cons (Err x) f a = go (eqb (number x.refusal) 0) refl
    where
      go : (b : Bool) → eqb (number x.refusal) 0 ≡ b → AllByRecursion P (cond b [] (e ∷ []) ++ hs)
      go true p = a
      go false p = (f (some_number (number x.refusal) p), a)

all_heard : (h : List Event) → AllByRecursion (λ (x : Event). Heard x.reply) (counted h)
all_heard [] = tt
all_heard (e ∷ h) = heard_cons e (λ (x : Event). Heard x.reply) (counted h) e.reply (λ k. k) (all_heard h)

-- a run is one of the calls that count
counted_cons : (s m t : State) (e : Event) (r : Reply) (hs : List Event) → e.reply ≡ r → Step s e.call e.reply m → Run m hs t → Run s (heard e r ++ hs) t
counted_cons s m t e (Ok k) hs p a run = (m, a, run)
counted_cons s m t e (Err x) hs p a run = go (eqb (number x.refusal) 0)
  where
    go : (b : Bool) → Run s (cond b [] (e ∷ []) ++ hs) t
    go true = subst (λ y. Run y hs t) (a.1 ∙ ap (left s e.call) p) run
    go false = (m, a, run)

run_counted : (s t : State) (h : List Event) → Run s h t → Run s (counted h) t
run_counted s t [] r = r
run_counted s t (e ∷ h) r = counted_cons s r.0 t e e.reply (counted h) refl r.1 (run_counted r.0 t h r.2)

least_told : (s : State) (c : Call) (x : Refused) → Due s c (Err x) → Least (Ground s c) x.refusal
least_told s c x a = record { applies = a.0.0; least = least_of (Ground s c) x.refusal a.0.1 }

one_reply : (s : State) (c : Call) (r q : Reply) → Heard r → Heard q → Due s c r → Due s c q → r ≡ q
one_reply s c (Ok k) (Ok l) u v a b = ap (λ n. Ok n) (a.1 ∙ sym b.1)
one_reply s c (Ok k) (Err y) u v a b = absurd (free_of (Ground s c) a.0 y.refusal v b.0.0)
one_reply s c (Err x) (Ok l) u v a b = absurd (free_of (Ground s c) b.0 x.refusal u a.0.0)
one_reply s c (Err x) (Err y) u v a b =
    let e : x.refusal ≡ y.refusal = one_least (Ground s c) x.refusal y.refusal u v (least_told s c x a) (least_told s c y b) in
    let p : x.place ≡ y.place = a.1 ∙ ap (place c) e ∙ sym b.1 in
    λ i. Err (record { refusal = e i; place = p i })

one : (s t u : State) (h g : List Event) → AllByRecursion (λ (x : Event). Heard x.reply) h → AllByRecursion (λ (x : Event). Heard x.reply) g → calls h ≡ calls g → Run s h t → Run s g u → (h ≡ g) × (t ≡ u)
unfolding first rest
one s t u [] [] x y e r q = (refl, r ∙ sym q)
one s t u [] (b ∷ g) x y e r q = absurd (omega (arith, ap length e))
one s t u (a ∷ h) [] x y e r q = absurd (omega (arith, ap length e))
one s t u (a ∷ h) (b ∷ g) x y e r q =
    let c : a.call ≡ b.call = ap first e in
    let p : a.reply ≡ b.reply = one_reply s b.call a.reply b.reply x.0 y.0 (subst (λ z. Due s z a.reply) c r.1.0) q.1.0 in
    let m : q.0 ≡ r.0 = q.1.1 ∙ sym (ap₂ (left s) c p) ∙ sym r.1.1 in
    let tails = one r.0 t u h g x.1 y.1 (ap rest e) r.2 (subst (λ z. Run z g u) m q.2) in
    (ap₂ (λ (z : Event) zs. z ∷ zs) (event_path c p) tails.0, tails.1)

pub one_outcome : (s : State) (h g : List Event) (t u : State) → Run s h t → Run s g u → calls (counted g) ≡ calls (counted h) → (counted g ≡ counted h) × (u ≡ t)
one_outcome s h g t u r q e = one s u t (counted g) (counted h) (all_heard g) (all_heard h) e (run_counted s u g q) (run_counted s t h r)

-- a reply that is due is exactly that of the table
pub replies_exact : RepliesAreExact
replies_exact s c (Ok k) dry a = exactly (Ground s c) (Ok k) dry a.0
replies_exact s c (Err x) dry a = exactly (Ground s c) (Err x.refusal) dry a.0
