-- What the library's searches answer, where each call of the closure decides a relation of the element.
use Rattle.std.proofs.Common.{◌≡◌, ℕ, ◌<◌, Bool, true, false, List, length, Option, Decides, MatchBool, MatchOption, get_or, subst, refl, sym, ◌∙◌, true≢false, arith}
use Rattle.std.proofs.lemmas.Iterator.{YieldsList, YieldsList-from_range, cases_from_all, cases_from_any}
use Rattle.std.proofs.lemmas.List.FromFn.{length-range_with_len, get_or-range_with_len}
use Rattle.std.proofs.iter.Yields.{nat_range_steps}
use Rattle.std.specs.declared.ops.Range.{Range}
use Rattle.std.specs.Fn.{Called}
use Rattle.std.specs.Iterator.{YieldsThen}
use Rattle.std.specs.List.{range_with_len, FoldsTo, AllWithin, HoldsAt}
use denote.Param.Members.{Mut}
use Rattle.logic.specs.Places.{Each, Any}
use Rattle.logic.proofs.LinesAgree.{reword}

-- what is true of no true answer is false
no : {P : Type 0} {b : Bool} → Decides b P → b ≡ false → ¬ P
no d e p = true≢false (sym (d.1 p) ∙ e)

module _ {X : Type 0} (d : X) (P : X → Type 0) (xs : List X) where
  every : (r : Bool) → MatchBool r (AllWithin P xs 0 (length xs)) ((k : ℕ) × (k < length xs) × HoldsAt (λ x. ¬ P x) xs k) → Decides r (Each d P xs)
  every true h = (λ e k w. h k d (omega arith) w, λ all. refl)
  every false h = (λ e. absurd (true≢false (sym e)), λ all. absurd (h.2 d (all h.0 h.1)))

  some : (r : Bool) → MatchBool r ((k : ℕ) × (k < length xs) × HoldsAt P xs k) (AllWithin (λ x. ¬ P x) xs 0 (length xs)) → Decides r (Any d P xs)
  some true h = (λ e. (h.0, h.1, h.2 d), λ any. refl)
  some false h = (λ e. absurd (true≢false (sym e)), λ any. absurd (h any.0 d (omega arith) any.1 any.2))

module _ {S A B F : Type 0} {steps : S → Option A → S → Type 0} {v : A → B} {g : Mut F (A × Unit {0}) Bool} {s : S} {all : List B} (d : B) (P : B → Type 0) (u : S) (f : F) (r : Bool) where
  -- `all` over a chain that gives the list
  pub each_from_all : (xs : List A) × (o : Option A) × (j : F) × YieldsThen steps s xs o u × FoldsTo (λ p x q. Called g p (x, tt) true q) f xs j × MatchOption o (r ≡ true) (λ x. (r ≡ false) × ((h : F) × Called g j (x, tt) false h)) → YieldsList steps v s all → ((x : A) (b : Bool) (q : F) → Called g f (x, tt) b q → (q ≡ f) × Decides b (P (v x))) → Decides r (Each d P all)
  each_from_all ran ys calls =
      every d P all r (cases_from_all u f r P (λ x. ¬ P x) ran ys
      (λ x q k. ((calls x true q k).0, (calls x true q k).1.0 refl))
      (λ x q k. no (calls x false q k).1 refl))

  -- `any` over such a chain
  pub any_from_any : (xs : List A) × (o : Option A) × (j : F) × YieldsThen steps s xs o u × FoldsTo (λ p x q. Called g p (x, tt) false q) f xs j × MatchOption o (r ≡ false) (λ x. (r ≡ true) × ((h : F) × Called g j (x, tt) true h)) → YieldsList steps v s all → ((x : A) (b : Bool) (q : F) → Called g f (x, tt) b q → (q ≡ f) × Decides b (P (v x))) → Decides r (Any d P all)
  any_from_any ran ys calls =
      some d P all r (cases_from_any u f r P (λ x. ¬ P x) ran ys
      (λ x q k. (calls x true q k).1.0 refl)
      (λ x q k. ((calls x false q k).0, no (calls x false q k).1 refl)))

-- `any` over the numbers below n
pub some_below : {F : Type 0} {g : Mut F (ℕ × Unit {0}) Bool} {s : Range ℕ} (P : ℕ → Type 0) (n : ℕ) (u : Range ℕ) (f : F) (r : Bool) → s ≡ record { start = 0; end = n } → (xs : List ℕ) × (o : Option ℕ) × (j : F) × YieldsThen nat_range_steps s xs o u × FoldsTo (λ p x q. Called g p (x, tt) false q) f xs j × MatchOption o (r ≡ false) (λ x. (r ≡ true) × ((h : F) × Called g j (x, tt) true h)) → ((x : ℕ) (b : Bool) (q : F) → Called g f (x, tt) b q → (q ≡ f) × Decides b (P x)) → Decides r ((k : ℕ) × (k < n) × P k)
some_below P n u f r e ran calls =
    let m = length-range_with_len 0 n in
    let at : (k : ℕ) → k < n → get_or (range_with_len 0 n) k 0 ≡ k = λ k h. omega (arith, get_or-range_with_len 0 n k 0 h) in
    reword (any_from_any 0 P u f r ran (YieldsList-from_range 0 n n e (omega arith)) calls)
    (λ h. let w : h.0 < n = omega (arith, h.1, m) in (h.0, w, subst P (at h.0 w) h.2))
    (λ h. (h.0, omega (arith, h.1, m), subst P (sym (at h.0 h.1)) h.2))
