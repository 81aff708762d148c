-- Half steps: how they rise, and what they make of the forms.
use Rattle.std.proofs.Common.{◌≡◌, ℕ, zero, suc, ◌+◌, ◌-◌, ◌*◌, ◌/◌, ◌%◌, ◌<◌, ◌≤◌, min, max, ◌↔◌, refl, ap, ◌∙◌, subst, mod-lt, mod-eq_of_lt, div-lt_iff_lt-mul, div-add-mod', le-div_iff_mul-le, arith}
use native.Mathlib.Decide.{dec_lt, dec_le}
use native.Mathlib.Nat.{mul-add-div_right, mul-add-mod_self_right, div-eq_of_lt, div-le_of_le-mul}
use Rattle.logic.specs.Holdings.{most}
use Rattle.logic.specs.Rounding.{halves}

pub halves_of : (K q r : ℕ) → r < K → halves K (q * K + r) ≡ 2 * q + min 1 r
halves_of K q r h =
    let p : 0 < K = omega arith in
    rw (mul-add-div_right p q r, mul-add-mod_self_right q K r, div-eq_of_lt h, mod-eq_of_lt h) (omega arith)

pub halves_at : (K k : ℕ) → 0 < K → halves K (k * K) ≡ 2 * k
halves_at K k p = let e : k * K ≡ k * K + 0 = omega arith in rw e (halves_of K k 0 p ∙ omega arith)

pub ge_even : (K k x : ℕ) → 0 < K → (2 * k ≤ halves K x) ↔ (k * K ≤ x)
ge_even K k x p = (λ h. (le-div_iff_mul-le p).0 (omega arith), λ h. let i : k ≤ x / K = (le-div_iff_mul-le p).1 h in omega arith)

pub ge_odd : (K k x : ℕ) → 0 < K → (2 * k + 1 ≤ halves K x) ↔ (k * K < x)
ge_odd K k x p = (to, from)
  where
    d : x / K * K + x % K ≡ x
    d = div-add-mod' x K

    to : 2 * k + 1 ≤ halves K x → k * K < x
    to h = elim (dec_lt k (x / K)) [ yes l ↦ over l | no l ↦ level (omega arith) h ]
      where
        over : k < x / K → k * K < x
        over l = let i : suc k * K ≤ x = (le-div_iff_mul-le p).0 l in omega arith

        level : k ≡ x / K → 2 * k + 1 ≤ halves K x → k * K < x
        level e g = let i : k * K ≡ x / K * K = ap (λ q. q * K) e in omega arith

    from : k * K < x → 2 * k + 1 ≤ halves K x
    from h =
        let i : k ≤ x / K = (le-div_iff_mul-le p).1 (omega arith) in
        elim (dec_lt k (x / K)) [ yes l ↦ omega arith | no l ↦ level (omega arith) ]
      where
        level : k ≡ x / K → 2 * k + 1 ≤ halves K x
        level e = let i : k * K ≡ x / K * K = ap (λ q. q * K) e in omega arith

pub halves_mono : (K x y : ℕ) → 0 < K → x ≤ y → halves K x ≤ halves K y
halves_mono K x y p h = go (x % K) refl
  where
    go : (r : ℕ) → x % K ≡ r → halves K x ≤ halves K y
    go zero e = let i = (ge_even K (x / K) y p).1 (omega (arith, div-add-mod' x K)) in omega arith
    go (suc r) e = let i = (ge_odd K (x / K) y p).1 (omega (arith, div-add-mod' x K)) in omega arith

from_top : (K q m r : ℕ) → r < K → q * K + r ≤ (q + m) * K → halves K ((q + m) * K - (q * K + r)) ≡ 2 * (q + m) - (2 * q + min 1 r)
from_top K q m zero h l =
    let e : (q + m) * K - (q * K + 0) ≡ m * K + 0 = omega arith in
    rw e (halves_of K m 0 h ∙ omega arith)
from_top K q zero (suc s) h l = absurd (omega arith)
from_top K q (suc m) (suc s) h l =
    let e : (q + suc m) * K - (q * K + suc s) ≡ m * K + (K - suc s) = omega arith in
    rw e (halves_of K m (K - suc s) (omega arith) ∙ omega arith)

pub halves_contrary : (K N x : ℕ) → 0 < K → x ≤ N * K → halves K (N * K - x) ≡ 2 * N - halves K x
halves_contrary K N x p h =
    let q : x / K ≤ N = div-le_of_le-mul K (omega arith) in
    go (N - x / K) (omega arith)
  where
    go : (m : ℕ) → x / K + m ≡ N → halves K (N * K - x) ≡ 2 * N - halves K x
    go m e =
        subst
        (λ n. x ≤ n * K → halves K (n * K - x) ≡ 2 * n - halves K x)
        e
        (λ l.
        subst
        (λ y. halves K ((x / K + m) * K - y) ≡ 2 * (x / K + m) - halves K x)
        (div-add-mod' x K)
        (from_top K (x / K) m (x % K) (mod-lt x p) (omega (arith, div-add-mod' x K))))
        h

pub halves_less : (K k x : ℕ) → 0 < K → halves K (x - k * K) ≡ halves K x - 2 * k
halves_less K k x p = elim (dec_le k (x / K)) [ yes l ↦ over (x / K - k) (omega arith) | no l ↦ under (omega arith) ]
  where
    over : (m : ℕ) → x / K ≡ k + m → halves K (x - k * K) ≡ halves K x - 2 * k
    over m e =
        let d : x / K * K + x % K ≡ x = div-add-mod' x K in
        let f : x / K * K ≡ (k + m) * K = ap (λ q. q * K) e in
        let g : x - k * K ≡ m * K + x % K = omega arith in
        rw g (halves_of K m (x % K) (mod-lt x p) ∙ omega arith)

    under : x / K < k → halves K (x - k * K) ≡ halves K x - 2 * k
    under l =
        let d : x < k * K = (div-lt_iff_lt-mul p).0 l in
        let g : x - k * K ≡ 0 * K = omega arith in
        rw g (halves_at K 0 p ∙ omega arith)

pub halves_top : (K N x : ℕ) → 0 < K → x ≤ N * K → halves K x ≤ 2 * N
halves_top K N x p h = let i = halves_mono K x (N * K) p h in omega (arith, halves_at K N p)

-- A rise that begins at 0 commutes with the lesser, the greater and the greatest.
module _ (f : ℕ → ℕ) (up : (x y : ℕ) → x ≤ y → f x ≤ f y) (start : f 0 ≡ 0) where
  pub rise_min : (x y : ℕ) → f (min x y) ≡ min (f x) (f y)
  rise_min x y = elim (dec_le x y) [ yes l ↦ (let e : min x y ≡ x = omega arith in rw e (omega (arith, up x y l))) | no l ↦ (let e : min x y ≡ y = omega arith in rw e (omega (arith, up y x (omega arith)))) ]

  pub rise_max : (x y : ℕ) → f (max x y) ≡ max (f x) (f y)
  rise_max x y = elim (dec_le x y) [ yes l ↦ (let e : max x y ≡ y = omega arith in rw e (omega (arith, up x y l))) | no l ↦ (let e : max x y ≡ x = omega arith in rw e (omega (arith, up y x (omega arith)))) ]

  pub rise_most : (n : ℕ) (g : ℕ → ℕ) → f (most n g) ≡ most n (λ y. f (g y))
  rise_most zero g = start
  rise_most (suc n) g = rise_max (most n g) (g n) ∙ ap (λ m. max m (f (g n))) (rise_most n g)
