-- The label that says of each concept its degree: which lines it has, and that they rise.
use Rattle.std.proofs.Common.{◌≡◌, ℕ, zero, suc, ◌*◌, ◌<◌, Bool, true, false, cond, ltb, List, [], ◌∷◌, ◌++◌, length, ℤ, pos, sym, refl, subst, inl, inr, add-one, arith}
use native.Mathlib.Decide.{dec_lt}
use Rattle.std.specs.List.{ContainsAt as Has, AllByRecursion}
use Rattle.std.proofs.ByRecursion.{All-get_or, All-append, All-weaker, has_append_left, has_append_right}
use Rattle.std.proofs.lemmas.Bool.{ltb-true, ltb-false}
use Rattle.terms.specs.declared.line.Side.{Side}
use Rattle.terms.specs.declared.line.Side.TheVariants.{AtLeast, AtMost}
use Rattle.terms.specs.declared.line.Line.{Line}
use Rattle.logic.specs.Lines.{line, blank_line, line_at, EachLine, HasLine}
use Rattle.logic.specs.Entries.{Before, Rises}
use Rattle.logic.specs.Drawing.{told, told_below}
use Rattle.logic.proofs.Members.{has_head, has_tail, has_at_place}

-- ---- labels that rise, element by element
abbrev Sorted : List Line → Type 0
Sorted [] = Unit {0}
Sorted (l ∷ ls) = AllByRecursion (Before l) ls × Sorted ls

sorted_append : (xs ys : List Line) → Sorted xs → Sorted ys → AllByRecursion (λ x. AllByRecursion (Before x) ys) xs → Sorted (xs ++ ys)
sorted_append [] ys p q r = q
sorted_append (x ∷ xs) ys p q r = (All-append (Before x) xs ys p.0 r.0, sorted_append xs ys p.1 q r.1)

next : (label : List Line) → Sorted label → (k : ℕ) → suc k < length label → Before (line_at label k) (line_at label (suc k))
next [] p k h = absurd (omega arith)
next (l ∷ ls) p zero h = All-get_or (Before l) ls 0 blank_line (omega arith) p.0
next (l ∷ ls) p (suc k) h = next ls p.1 k (omega arith)

rises : (label : List Line) → Sorted label → Rises label
rises label p k h = rw add-one (next label p k (omega arith))

-- ---- which lines are told
-- Of a concept of the degree v a line with the side and bound given is told.
abbrev pub Told : ℕ → ℕ → Side → ℤ → Type 0
Told n v AtLeast z = (z ≡ pos v) × (0 < v)
Told n v AtMost z = (z ≡ pos v) × (v < 2 * n)

module _ (n c v : ℕ) where
  abbrev low : Line
  low = line c AtLeast (pos v)

  abbrev high : Line
  high = line c AtMost (pos v)

  abbrev pair : Bool → Bool → List Line
  pair p q = cond p (low ∷ []) [] ++ cond q (high ∷ []) []

  told_sorted : Sorted (told n c v)
  told_sorted = go (ltb 0 v) (ltb v (2 * n))
    where
      go : (p q : Bool) → Sorted (pair p q)
      go true true = ((inr (refl, inl tt), tt), (tt, tt))
      go true false = (tt, tt)
      go false true = (tt, tt)
      go false false = tt

  told_has : (s : Side) (z : ℤ) → Told n v s z → Has (told n c v) (line c s z)
  told_has AtLeast z t = go (ltb 0 v) (ltb v (2 * n)) refl
    where
      go : (p q : Bool) → ltb 0 v ≡ p → Has (pair p q) (line c AtLeast z)
      go true q e = subst (λ y. Has (pair true q) (line c AtLeast y)) (sym t.0) (has_head low (cond q (high ∷ []) []))
      go false q e = absurd (omega (arith, ltb-false 0 v e, t.1))
  told_has AtMost z t = go (ltb 0 v) (ltb v (2 * n)) refl
    where
      go : (p q : Bool) → ltb v (2 * n) ≡ q → Has (pair p q) (line c AtMost z)
      go true true e = subst (λ y. Has (pair true true) (line c AtMost y)) (sym t.0) (has_tail low high (high ∷ []) (has_head high []))
      go false true e = subst (λ y. Has (pair false true) (line c AtMost y)) (sym t.0) (has_head high [])
      go true false e = absurd (omega (arith, ltb-false v (2 * n) e, t.1))
      go false false e = absurd (omega (arith, ltb-false v (2 * n) e, t.1))

  abbrev IsTold : Line → Type 0
  IsTold l = (l.concept ≡ c) × Told n v l.side l.bound

  told_all : AllByRecursion IsTold (told n c v)
  told_all = go (ltb 0 v) (ltb v (2 * n)) refl refl
    where
      go : (p q : Bool) → ltb 0 v ≡ p → ltb v (2 * n) ≡ q → AllByRecursion IsTold (pair p q)
      go true true e f = ((refl, (refl, ltb-true 0 v e)), ((refl, (refl, ltb-true v (2 * n) f)), tt))
      go true false e f = ((refl, (refl, ltb-true 0 v e)), tt)
      go false true e f = ((refl, (refl, ltb-true v (2 * n) f)), tt)
      go false false e f = tt

-- ---- all concepts below m, of the degrees v
module _ (n : ℕ) (v : ℕ → ℕ) where
  -- the line is told of a concept below m
  abbrev pub IsBelow : ℕ → Line → Type 0
  IsBelow m l = (l.concept < m) × Told n (v l.concept) l.side l.bound

  below_all : (m : ℕ) → AllByRecursion (IsBelow m) (told_below n v m)
  below_all zero = tt
  below_all (suc m) =
      All-append (IsBelow (suc m)) (told_below n v m) (told n m (v m))
      (All-weaker (IsBelow m) (IsBelow (suc m)) (λ l h. (omega (arith, h.0), h.1)) (told_below n v m) (below_all m))
      (All-weaker (IsTold n m (v m)) (IsBelow (suc m)) (λ l h. (omega (arith, h.0), subst (λ c. Told n (v c) l.side l.bound) (sym h.0) h.1)) (told n m (v m)) (told_all n m (v m)))

  below_has : (m c : ℕ) → c < m → (s : Side) (z : ℤ) → Told n (v c) s z → Has (told_below n v m) (line c s z)
  below_has zero c h s z t = absurd (omega arith)
  below_has (suc m) c h s z t =
      elim (dec_lt c m) [
        | yes l ↦ has_append_left (told_below n v m) (told n m (v m)) (line c s z) (below_has m c l s z t)
        | no l ↦ (
            let e : c ≡ m = omega arith in
            has_append_right (told_below n v m) (told n m (v m)) (line c s z)
            (subst (λ d. Has (told n m (v m)) (line d s z)) (sym e) (told_has n m (v m) s z (subst (λ d. Told n (v d) s z) e t))))
      ]

  below_sorted : (m : ℕ) → Sorted (told_below n v m)
  below_sorted zero = tt
  below_sorted (suc m) =
      sorted_append (told_below n v m) (told n m (v m)) (below_sorted m) (told_sorted n m (v m))
      (All-weaker (IsBelow m) (λ l. AllByRecursion (Before l) (told n m (v m)))
      (λ l h. All-weaker (IsTold n m (v m)) (Before l) (λ k t. inl (omega (arith, h.0, t.0))) (told n m (v m)) (told_all n m (v m)))
      (told_below n v m) (below_all m))

  pub below_rises : (m : ℕ) → Rises (told_below n v m)
  below_rises m = rises (told_below n v m) (below_sorted m)

  -- the same by places: each line is told, and each that is told is a line
  pub told_each : (m : ℕ) → EachLine (IsBelow m) (told_below n v m)
  told_each m k h = All-get_or (IsBelow m) (told_below n v m) k blank_line h (below_all m)

  pub told_line : (m c : ℕ) → c < m → (s : Side) (z : ℤ) → Told n (v c) s z → HasLine (told_below n v m) (line c s z)
  told_line m c h s z t = has_at_place blank_line (told_below n v m) (line c s z) (below_has m c h s z t)
