-- What a list that grew by one keeps.
use Rattle.std.proofs.Common.{◌≡◌, ℕ, ◌<◌, ◌≤◌, ◌⊎◌, List, [], ◌∷◌, ◌++◌, length, get_or, sym, refl, ◌∙◌, subst, inl, inr, arith}
use lib.Seq.{get_or-append_seam}
use Rattle.std.specs.List.{ContainsAt as Has}
use Rattle.std.proofs.lemmas.List.{length_push, get_or_append_left}
use Rattle.std.proofs.ByRecursion.{has_get_or}
use Rattle.std.proofs.lemmas.Bool.{cases_lt}
use Rattle.terms.specs.declared.concept.Concept.{Concept}
use Rattle.terms.specs.Among.{Among}
use Rattle.book.specs.Citing.{no_concept, Apart}

-- what holds of each element and its number holds of one more
pub each_push : {X : Type 0} (Q : ℕ → X → Type 0) (xs : List X) (x d : X) → ((k : ℕ) → k < length xs → Q k (get_or xs k d)) → Q (length xs) x
    → (k : ℕ) → k < length (xs ++ x ∷ []) → Q k (get_or (xs ++ x ∷ []) k d)
each_push {X} Q xs x d each last k h = go (cases_lt k (length xs))
  where
    go : (k < length xs) ⊎ (length xs ≤ k) → Q k (get_or (xs ++ x ∷ []) k d)
    go (inl lt) = subst (Q k) (sym (get_or_append_left xs (x ∷ []) d k lt)) (each k lt)
    go (inr ge) =
        let e : k ≡ length xs = omega (arith, length_push xs x) in
        subst (λ j. Q j (get_or (xs ++ x ∷ []) j d)) (sym e) (subst (Q (length xs)) (sym (get_or-append_seam xs x [] d)) last)

-- a concept that is not there differs from those before it
pub apart_push : (xs : List Concept) (c : Concept) → Apart xs → ¬ Among xs c → Apart (xs ++ c ∷ [])
unfolding Among
apart_push xs c apart fresh j k l h = each_push (λ (n : ℕ) (x : Concept). n ≡ k → get_or (xs ++ c ∷ []) j no_concept ≡ x → ⊥) xs c no_concept old new k h refl
  where
    below : j < length xs → get_or (xs ++ c ∷ []) j no_concept ≡ get_or xs j no_concept
    below t = get_or_append_left xs (c ∷ []) no_concept j t

    old : (n : ℕ) → n < length xs → n ≡ k → get_or (xs ++ c ∷ []) j no_concept ≡ get_or xs n no_concept → ⊥
    old n t e f = apart j n (omega arith) t (sym (below (omega arith)) ∙ f)

    new : length xs ≡ k → get_or (xs ++ c ∷ []) j no_concept ≡ c → ⊥
    new e f = fresh (subst (Has xs) (sym (below (omega arith)) ∙ f) (has_get_or xs j no_concept (omega arith)))
