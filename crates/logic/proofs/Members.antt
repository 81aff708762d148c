-- What stands in a list: as its parts say it, and by places; and what stands in a label.
use Rattle.std.proofs.Common.{◌≡◌, ℕ, zero, suc, ◌<◌, ◌⊎◌, List, [], ◌∷◌, length, get_or, ℤ, sym, refl, ◌∙◌, subst, inl, inr, arith}
use Rattle.std.specs.List.{ContainsAt as Has, AllByRecursion}
use Rattle.std.proofs.ByRecursion.{has_get_or}
use Rattle.terms.specs.declared.line.Line.{Line}
use Rattle.logic.specs.Places.{Each, Any}
use Rattle.logic.specs.Lines.{line, blank_line, AnyLine, HasLine, AsStrong, Covers}
use Rattle.logic.specs.Conclusions.{Among}

module _ {X : Type 0} where
  pub has_head : (x : X) (xs : List X) → Has (x ∷ xs) x
  has_head x xs = (0, omega arith, λ d. refl)

  pub has_tail : (x y : X) (xs : List X) → Has xs y → Has (x ∷ xs) y
  has_tail x y xs h = (suc h.0, omega (arith, h.1), h.2)

  pub has_cases : (x y : X) (xs : List X) → Has (x ∷ xs) y → (x ≡ y) ⊎ Has xs y
  has_cases x y xs h = go h.0 h.1 h.2
    where
      go : (k : ℕ) → k < length (x ∷ xs) → ((d : X) → get_or (x ∷ xs) k d ≡ y) → (x ≡ y) ⊎ Has xs y
      go zero l e = inl (e x)
      go (suc k) l e = inr (k, omega arith, e)

  pub has_none : (x : X) → ¬ Has [] x
  has_none x h = omega (arith, h.1)

-- ---- by places
module _ {X : Type 0} (d : X) where
  abbrev Stands : List X → X → Type 0
  Stands xs x = Any d (λ y. y ≡ x) xs

  pub has_from_place : (xs : List X) (x : X) → Stands xs x → Has xs x
  has_from_place xs x h = let i = has_get_or xs h.0 d h.1 in (i.0, i.1, λ e. i.2 e ∙ h.2)

  pub has_at_place : (xs : List X) (x : X) → Has xs x → Stands xs x
  has_at_place xs x h = (h.0, h.1, h.2 d)

  pub each_has : (P : X → Type 0) (xs : List X) (x : X) → Each d P xs → Stands xs x → P x
  each_has P xs x all h = subst P h.2 (all h.0 h.1)

  pub each_from_has : (P : X → Type 0) (xs : List X) → ((x : X) → Stands xs x → P x) → Each d P xs
  each_from_has P xs f k h = f (get_or xs k d) (k, h, refl)

  pub each_weaker : (P Q : X → Type 0) → ((x : X) → P x → Q x) → (xs : List X) → Each d P xs → Each d Q xs
  each_weaker P Q f xs all k h = f (get_or xs k d) (all k h)

  pub any_which : (P : X → Type 0) (xs : List X) → Any d P xs → (x : X) × Stands xs x × P x
  any_which P xs a = (get_or xs a.0 d, (a.0, a.1, refl), a.2)

  pub any_from : (P : X → Type 0) (xs : List X) (x : X) → Stands xs x → P x → Any d P xs
  any_from P xs x h p = (h.0, h.1, subst P (sym h.2) p)

-- ---- conclusions
pub all_among : (P : Line → Type 0) (ls : List Line) (l : Line) → AllByRecursion P ls → Among ls l → P l
all_among P [] l all h = absurd h
all_among P (m ∷ ms) l all (inl e) = subst P (sym e) all.0
all_among P (m ∷ ms) l all (inr h) = all_among P ms l all.1 h

pub all_from_among : (P : Line → Type 0) (ls : List Line) → ((l : Line) → Among ls l → P l) → AllByRecursion P ls
all_from_among P [] f = tt
all_from_among P (m ∷ ms) f = (f m (inl refl), all_from_among P ms (λ l h. f l (inr h)))

-- ---- carried lines
-- the line that covers l, by its bound
pub covering : (label : List Line) (l : Line) → AnyLine (λ m. Covers m l) label →
    (y : ℤ) × HasLine label (line l.concept l.side y) × AsStrong l.side y l.bound
covering label l a =
    let w = any_which blank_line (λ m. Covers m l) label a in
    let m = w.0 in
    (m.bound, subst (HasLine label) (λ i. record { concept = w.2.concept i; side = w.2.side i; bound = m.bound }) w.1, w.2.strong)
