-- An answer by a table tells its least ground, or that there is none.
use Rattle.std.proofs.Common.{◌≡◌, ℕ, ◌-◌, ◌<◌, ◌≤◌, ◌⊎◌, length, get_or, take, Ok, Err, Result, sym, refl, ap, ◌∙◌, subst, inl, inr, arith, length-take-le, get_or-take}
use Rattle.std.specs.List.{AllByRecursion}
use Rattle.std.proofs.ByRecursion.{All-get_or}
use Rattle.std.proofs.lemmas.Bool.{cases_order}
use Rattle.terms.specs.declared.refusal.Refusal.{Refusal}
use Rattle.terms.specs.declared.refusal.Refusal.TheVariants.{Fineness, Full, Missing, TooHigh, BadName, Already, NoLines, NoRoom, OutOfOrder, BrokenRule, BadRoot, Unfit, BadText, NoMemory}
use Rattle.terms.specs.Refusals.{number, numbered}
use Rattle.terms.specs.Answers.{Answered, Least, Exactly}

-- each numbered refusal stands at its number
at : (e : Refusal) → 1 ≤ number e → (get_or numbered (number e - 1) Fineness ≡ e) × (number e ≤ 13)
at Fineness h = (refl, omega arith)
at Full h = (refl, omega arith)
at Missing h = (refl, omega arith)
at TooHigh h = (refl, omega arith)
at BadName h = (refl, omega arith)
at Already h = (refl, omega arith)
at NoLines h = (refl, omega arith)
at NoRoom h = (refl, omega arith)
at OutOfOrder h = (refl, omega arith)
at BrokenRule h = (refl, omega arith)
at BadRoot h = (refl, omega arith)
at Unfit h = (refl, omega arith)
at BadText h = (refl, omega arith)
at NoMemory h = absurd (omega arith)

at_most : (e : Refusal) → number e ≤ 13
at_most e = go (cases_order (number e) 0)
  where
    go : (number e ≡ 0) ⊎ ((number e < 0) ⊎ (0 < number e)) → number e ≤ 13
    go (inl h) = omega arith
    go (inr (inl h)) = omega arith
    go (inr (inr h)) = (at e (omega arith)).1

module _ (Ground : Refusal → Type 0) where
  under : (n : ℕ) → n ≤ 13 → AllByRecursion (λ f. ¬ Ground f) (take n numbered) → (f : Refusal) → 1 ≤ number f → number f ≤ n → ¬ Ground f
  under n top all f some h =
      let a = at f some in
      let long : length (take n numbered) ≡ n = length-take-le n numbered top in
      subst (λ x. ¬ Ground x) (get_or-take n numbered (number f - 1) Fineness (omega arith) ∙ a.0)
      (All-get_or (λ x. ¬ Ground x) (take n numbered) (number f - 1) Fineness (omega arith) all)

  -- an accepted call has none of the numbered grounds
  pub free_of : AllByRecursion (λ f. ¬ Ground f) numbered → (f : Refusal) → 1 ≤ number f → ¬ Ground f
  free_of all f some = under 13 (omega arith) all f some (at_most f)

  pub least_of : (e : Refusal) → AllByRecursion (λ f. ¬ Ground f) (take (number e - 1) numbered) → (f : Refusal) → 1 ≤ number f → number f < number e → ¬ Ground f
  least_of e all f some h = under (number e - 1) (omega (arith, at_most e)) all f some (omega arith)

same_number : (e f : Refusal) → 1 ≤ number e → number e ≡ number f → e ≡ f
same_number e f some h = sym (at e some).0 ∙ ap (λ (n : ℕ). get_or numbered (n - 1) Fineness) h ∙ (at f (omega arith)).0

numbered_or_none : (e : Refusal) → (1 ≤ number e) ⊎ (e ≡ NoMemory)
numbered_or_none Fineness = inl (omega arith)
numbered_or_none Full = inl (omega arith)
numbered_or_none Missing = inl (omega arith)
numbered_or_none TooHigh = inl (omega arith)
numbered_or_none BadName = inl (omega arith)
numbered_or_none Already = inl (omega arith)
numbered_or_none NoLines = inl (omega arith)
numbered_or_none NoRoom = inl (omega arith)
numbered_or_none OutOfOrder = inl (omega arith)
numbered_or_none BrokenRule = inl (omega arith)
numbered_or_none BadRoot = inl (omega arith)
numbered_or_none Unfit = inl (omega arith)
numbered_or_none BadText = inl (omega arith)
numbered_or_none NoMemory = inr refl

never : {X : Type 0} {Y : Type 0} (x : X) (e : Refusal) → ◌≡◌ {A = Result X Refusal} (Ok x) (Err e) → Y
never x e h = absurd (let z : ◌≡◌ {A = ℕ} 0 1 = cc in omega arith)

-- where the call wants no memory, each ground is a numbered one
some_number : (Ground : Refusal → Type 0) → ¬ Ground NoMemory → (e : Refusal) → Ground e → 1 ≤ number e
some_number Ground dry e g = go (numbered_or_none e)
  where
    go : (1 ≤ number e) ⊎ (e ≡ NoMemory) → 1 ≤ number e
    go (inl h) = h
    go (inr h) = absurd (dry (subst Ground h g))

-- two least grounds are one
pub one_least : (Ground : Refusal → Type 0) (e f : Refusal) → 1 ≤ number e → 1 ≤ number f → Least Ground e → Least Ground f → e ≡ f
one_least Ground e f some also l m = go (cases_order (number e) (number f))
  where
    go : (number e ≡ number f) ⊎ ((number e < number f) ⊎ (number f < number e)) → e ≡ f
    go (inl h) = same_number e f some h
    go (inr (inl h)) = absurd (m.least e some h l.applies)
    go (inr (inr h)) = absurd (l.least f also h m.applies)

pub exactly : {X : Type 0} (Ground : Refusal → Type 0) (r : Result X Refusal) → ¬ Ground NoMemory → Answered Ground r → Exactly Ground r
exactly {X} Ground (Ok x) dry a = record {
  accepted = ((λ p e g. free_of Ground a e (some_number Ground dry e g) g), (λ none. (x, refl)));
  refused = λ e. ((λ p. never x e p), (λ l. absurd (free_of Ground a e (some_number Ground dry e l.applies) l.applies)));
}
exactly {X} Ground (Err e) dry a = record {
  accepted = ((λ p. never p.0 e (sym p.1)), (λ none. absurd (none e a.0)));
  refused = λ f. (
    (λ p. let q : e ≡ f = cc in subst (Least Ground) q here),
    (λ l. ap (λ g. Err g) (one_least Ground e f (some_number Ground dry e a.0) (some_number Ground dry f l.applies) here l)),
  );
}
  where
    here : Least Ground e
    here = record { applies = a.0; least = least_of Ground e a.1 }
