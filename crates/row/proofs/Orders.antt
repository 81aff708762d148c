-- What the laws of an order give of lists. Assumes nothing.
use Rattle.std.proofs.Common.{◌≡◌, ℕ, zero, suc, ◌+◌, ◌-◌, ◌<◌, ◌≤◌, ◌⊎◌, List, [], ◌∷◌, ◌++◌, length, get_or, Ordering, Less, Equal, Greater, sym, refl, ap, ◌∙◌, subst, inl, inr, true≢false, arith}
use Rattle.std.specs.Ordering.{ordering_reverse, is_lt, is_gt}
use Rattle.std.specs.List.{insert, AllWithin, HoldsAt}
use Rattle.std.specs.List.Sorted.{IsStrictlySortedBy}
use Rattle.std.specs.Cmp.{IsTotalOrder, alike_right}
use Rattle.std.proofs.lemmas.List.Edits.{length-insert, get_or-insert_below, get_or-insert_at, get_or-insert_above}
use Rattle.std.proofs.ByRecursion.{All-from_get_or}
use Rattle.std.proofs.lemmas.Map.Keys.{Less-from_sorted}
use Rattle.std.proofs.lemmas.List.{take_all, drop_all}
use Rattle.std.proofs.lemmas.Bool.{cases_lt, cases_order}
use Rattle.row.specs.Order.{Ascending, Climbing, Found, Missing, Absent, LastBelow, pick, put}

-- ---- Ascending in the form of a ghost field

pub ascending_from_climbing : {X : Type 0} (cmp : X → X → Ordering) (xs : List X) → Climbing cmp xs → Ascending cmp xs
ascending_from_climbing cmp xs h i j d l m = Less-from_sorted cmp xs i j d h l m

pub climbing_from_ascending : {X : Type 0} (cmp : X → X → Ordering) (xs : List X) → Ascending cmp xs → Climbing cmp xs
unfolding IsStrictlySortedBy
climbing_from_ascending cmp [] up = tt
climbing_from_ascending cmp (x ∷ xs) up = (
  All-from_get_or (λ y. cmp x y ≡ Less) xs x (λ i h. up 0 (suc i) x (omega arith) (omega arith)),
  climbing_from_ascending cmp xs (λ i j d l m. up (suc i) (suc j) d (omega arith) (omega arith)),
)

-- ---- the laws

less≢equal : {X : Type 0} {a : Ordering} → a ≡ Less → a ≡ Equal → X
less≢equal p q = absurd (true≢false (ap is_lt (sym p ∙ q)))

greater≢equal : {X : Type 0} {a : Ordering} → a ≡ Greater → a ≡ Equal → X
greater≢equal p q = absurd (true≢false (ap is_gt (sym p ∙ q)))

module _ {X K : Type 0} (cmp : X → X → Ordering) (key : X → K)
    (total : (x y : X) → cmp x y ≡ ordering_reverse (cmp y x))
    (transitive : (x y z : X) → cmp x y ≡ Less → cmp y z ≡ Less → cmp x z ≡ Less)
    (agrees : (x y : X) → (cmp x y ≡ Equal → key x ≡ key y) × (key x ≡ key y → cmp x y ≡ Equal)) where
  alike_from : (x y z : X) → cmp x y ≡ Equal → cmp x z ≡ cmp y z
  alike_from x y z e = go (cmp x z) (cmp y z) refl refl
    where
      keys : key x ≡ key y
      keys = (agrees x y).0 e

      first : cmp y z ≡ Equal → cmp x z ≡ Equal
      first q = (agrees x z).1 (keys ∙ (agrees y z).0 q)

      second : cmp x z ≡ Equal → cmp y z ≡ Equal
      second p = (agrees y z).1 (sym keys ∙ (agrees x z).0 p)

      go : (a b : Ordering) → cmp x z ≡ a → cmp y z ≡ b → a ≡ b
      go Less Less p q = refl
      go Less Equal p q = less≢equal p (first q)
      go Less Greater p q = less≢equal (transitive x z y p (total z y ∙ ap ordering_reverse q)) e
      go Equal Less p q = less≢equal q (second p)
      go Equal Equal p q = refl
      go Equal Greater p q = greater≢equal q (second p)
      go Greater Less p q = greater≢equal (total x y ∙ ap ordering_reverse (transitive y z x q (total z x ∙ ap ordering_reverse p))) e
      go Greater Equal p q = greater≢equal p (first q)
      go Greater Greater p q = refl

  pub order_from_laws : IsTotalOrder cmp
  order_from_laws = record { antisymm = total; trans = transitive; congr = alike_from }

module _ {X : Type 0} (cmp : X → X → Ordering) (o : IsTotalOrder cmp) where
  turned : (x y : X) (a : Ordering) → cmp x y ≡ a → cmp y x ≡ ordering_reverse a
  turned x y a e = o.antisymm y x ∙ ap ordering_reverse e

  -- ---- what one comparison tells of an ascending list

  -- where the element at mid is below x, so is each before it
  pub below_through : (x : X) (xs : List X) (mid : ℕ) → mid < length xs → HoldsAt (λ y. cmp y x ≡ Less) xs mid → Ascending cmp xs → AllWithin (λ y. cmp y x ≡ Less) xs 0 (mid + 1)
  below_through x xs mid in' at up k d _ h = go (cases_lt k mid)
    where
      go : (k < mid) ⊎ (mid ≤ k) → cmp (get_or xs k d) x ≡ Less
      go (inl l) = o.trans (get_or xs k d) (get_or xs mid d) x (up k mid d l in') (at d)
      go (inr g) = let e : mid ≡ k = omega arith in subst (λ (n : ℕ). cmp (get_or xs n d) x ≡ Less) e (at d)

  -- where the element at mid is above x, so is each after it
  pub above_from : (x : X) (xs : List X) (mid : ℕ) → HoldsAt (λ y. cmp y x ≡ Greater) xs mid → Ascending cmp xs → AllWithin (λ y. cmp y x ≡ Greater) xs mid (length xs)
  above_from x xs mid at up k d h in' = go (cases_lt mid k)
    where
      go : (mid < k) ⊎ (k ≤ mid) → cmp (get_or xs k d) x ≡ Greater
      go (inl l) = turned x (get_or xs k d) Less (o.trans x (get_or xs mid d) (get_or xs k d) (turned (get_or xs mid d) x Greater (at d)) (up mid k d l in'))
      go (inr g) = let e : mid ≡ k = omega arith in subst (λ (n : ℕ). cmp (get_or xs n d) x ≡ Greater) e (at d)

  pub found_from_equal : (x : X) (xs : List X) (mid : ℕ) → mid < length xs → HoldsAt (λ y. cmp y x ≡ Equal) xs mid → Ascending cmp xs → Found cmp x xs mid
  found_from_equal x xs mid in' at up = record {
    within = in';
    below = λ k d a b. sym (alike_right o (get_or xs mid d) x (get_or xs k d) (at d)) ∙ up k mid d b in';
    equal = at;
    above = λ k d a b. turned x (get_or xs k d) Less (sym (o.congr (get_or xs mid d) x (get_or xs k d) (at d)) ∙ up mid k d (omega arith) b);
  }

  -- ---- insertion at the place of x

  pub absent_from_missing : (x : X) (xs : List X) (i : ℕ) → Missing cmp x xs i → Absent cmp x xs
  absent_from_missing x xs i m k d a b f = go (cases_lt k i)
    where
      go : (k < i) ⊎ (i ≤ k) → ⊥
      go (inl l) = less≢equal (m.below k d a l) f
      go (inr g) = greater≢equal (m.above k d g b) f

  later : (x y : X) (ys : List X) (i : ℕ) → Missing cmp x (y ∷ ys) (suc i) → Missing cmp x ys i
  later x y ys i m = record {
    within = omega (arith, m.within);
    below = λ k d a b. m.below (suc k) d (omega arith) (omega arith);
    above = λ k d a b. m.above (suc k) d (omega arith) (omega arith);
  }

  pub put_missing : (x : X) (xs : List X) (i : ℕ) → Missing cmp x xs i → put cmp x xs ≡ insert xs i x
  put_missing x [] zero m = refl
  put_missing x [] (suc i) m = absurd (omega (arith, m.within))
  put_missing x (y ∷ ys) zero m = ap (λ a. pick a (x ∷ y ∷ ys) (y ∷ ys) (y ∷ put cmp x ys)) (turned y x Greater (m.above 0 y (omega arith) (omega arith)))
  put_missing x (y ∷ ys) (suc i) m =
      ap (λ a. pick a (x ∷ y ∷ ys) (y ∷ ys) (y ∷ put cmp x ys)) (turned y x Less (m.below 0 y (omega arith) (omega arith)))
      ∙ ap (λ l. y ∷ l) (put_missing x ys i (later x y ys i m))

  pub put_found : (x : X) (xs : List X) (i : ℕ) → Found cmp x xs i → put cmp x xs ≡ xs
  put_found x [] i f = absurd (omega (arith, f.within))
  put_found x (y ∷ ys) zero f = ap (λ a. pick a (x ∷ y ∷ ys) (y ∷ ys) (y ∷ put cmp x ys)) (turned y x Equal (f.equal y))
  put_found x (y ∷ ys) (suc i) f =
      ap (λ a. pick a (x ∷ y ∷ ys) (y ∷ ys) (y ∷ put cmp x ys)) (turned y x Less (f.below 0 y (omega arith) (omega arith)))
      ∙ ap (λ l. y ∷ l)
      (put_found x ys i
      record {
        within = omega (arith, f.within);
        below = λ k d a b. f.below (suc k) d (omega arith) (omega arith);
        equal = λ d. f.equal d;
        above = λ k d a b. f.above (suc k) d (omega arith) (omega arith);
      })

  pub ascending_inserted : (x : X) (xs : List X) (i : ℕ) → Missing cmp x xs i → Ascending cmp xs → Ascending cmp (insert xs i x)
  ascending_inserted x xs i m up a b d l in' = go (cases_order a i) (cases_order b i)
    where
      h : i ≤ length xs
      h = m.within

      n : b < length xs + 1
      n = omega (arith, length-insert xs i x h)

      below : (k : ℕ) → k < i → get_or (insert xs i x) k d ≡ get_or xs k d
      below k t = get_or-insert_below xs i x d k t h

      at : (k : ℕ) → k ≡ i → get_or (insert xs i x) k d ≡ x
      at k t = ap (λ (v : ℕ). get_or (insert xs i x) v d) t ∙ get_or-insert_at xs i x d h

      above : (k : ℕ) → i < k → get_or (insert xs i x) k d ≡ get_or xs (k - 1) d
      above k t = let e : k ≡ k - 1 + 1 = omega arith in ap (λ (v : ℕ). get_or (insert xs i x) v d) e ∙ get_or-insert_above xs i x d (k - 1) (omega arith) h

      both : {u v w z : X} → u ≡ w → v ≡ z → cmp w z ≡ Less → cmp u v ≡ Less
      both p q r = (λ t. cmp (p t) (q t)) ∙ r

      go : (a ≡ i) ⊎ ((a < i) ⊎ (i < a)) → (b ≡ i) ⊎ ((b < i) ⊎ (i < b)) → cmp (get_or (insert xs i x) a d) (get_or (insert xs i x) b d) ≡ Less
      go (inl e) (inl f) = absurd (omega arith)
      go (inl e) (inr (inl f)) = absurd (omega arith)
      go (inl e) (inr (inr f)) = both (at a e) (above b f) (turned (get_or xs (b - 1) d) x Greater (m.above (b - 1) d (omega arith) (omega (arith, n))))
      go (inr (inl e)) (inl f) = both (below a e) (at b f) (m.below a d (omega arith) e)
      go (inr (inl e)) (inr (inl f)) = both (below a e) (below b f) (up a b d l (omega (arith, h)))
      go (inr (inl e)) (inr (inr f)) = both (below a e) (above b f) (up a (b - 1) d (omega arith) (omega (arith, n)))
      go (inr (inr e)) (inl f) = absurd (omega arith)
      go (inr (inr e)) (inr (inl f)) = absurd (omega arith)
      go (inr (inr e)) (inr (inr f)) = both (above a e) (above b f) (up (a - 1) (b - 1) d (omega arith) (omega (arith, n)))

  -- ---- one more at the end

  last_missing : (x : X) (xs : List X) → LastBelow cmp x xs → Ascending cmp xs → Missing cmp x xs (length xs)
  last_missing x xs low up = record {
    within = omega arith;
    below = λ k d a b. below_through x xs (length xs - 1) (omega arith) (low (omega arith)) up k d a (omega arith);
    above = λ k d a b. absurd (omega arith);
  }

  pub ascending_appended : (x : X) (xs : List X) → LastBelow cmp x xs → Ascending cmp xs → Ascending cmp (xs ++ x ∷ [])
  ascending_appended x xs low up = subst (λ (l : List X). Ascending cmp l) end (ascending_inserted x xs (length xs) (last_missing x xs low up) up)
    where
      end : insert xs (length xs) x ≡ xs ++ x ∷ []
      end = λ t. take_all (length xs) xs (omega arith) t ++ x ∷ drop_all (length xs) xs (omega arith) t
