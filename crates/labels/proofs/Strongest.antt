-- The strongest line of a list, as filtering and reducing find it.
use Rattle.std.proofs.Common.{◌≡◌, ℕ, zero, suc, ◌<◌, Bool, true, false, cond, filter, ◌⊎◌, List, [], ◌∷◌, length, Option, Some, None, ℤ, ◌≤ℤ◌, Decides, sym, refl, ◌∙◌, subst, inl, inr, true≢false, arith}
use Rattle.std.specs.List.{reduce, fold}
use Rattle.std.proofs.lemmas.Int.{ints}
use Rattle.std.proofs.lemmas.Bool.Decides.{Decides-eqb}
use Rattle.terms.specs.declared.line.Side.{Side}
use Rattle.terms.specs.declared.line.Side.TheVariants.{AtLeast, AtMost}
use Rattle.terms.specs.declared.line.Line.{Line}
use Rattle.logic.specs.Lines.{line_at, AsStrong}
use Rattle.logic.specs.LineTests.{strong_test}
use Rattle.logic.proofs.LinesAgree.{reword, both, side_agrees, strong_agrees}
use Rattle.labels.specs.Lookup.{On, StrongestLine, on_test, stronger_of}

-- ---- strength
strong_self : (s : Side) (z : ℤ) → AsStrong s z z
strong_self AtLeast z = omega (arith, ints)
strong_self AtMost z = omega (arith, ints)

strong_chain : (s : Side) (x y z : ℤ) → AsStrong s x y → AsStrong s y z → AsStrong s x z
strong_chain AtLeast x y z h k = omega (arith, ints, h, k)
strong_chain AtMost x y z h k = omega (arith, ints, h, k)

not_le : (y z : ℤ) → (y ≤ℤ z → ⊥) → z ≤ℤ y
not_le y z h = grind (arith, ints)

strong_other : (s : Side) (y z : ℤ) → ¬ AsStrong s y z → AsStrong s z y
strong_other AtLeast y z h = not_le z y h
strong_other AtMost y z h = not_le y z h

-- what the first has, and each of the others
each_cons : (P : Line → Type 0) (x : Line) (xs : List Line) → P x → ((k : ℕ) → k < length xs → P (line_at xs k)) → (k : ℕ) → k < suc (length xs) → P (line_at (x ∷ xs) k)
each_cons P x xs h rest zero w = h
each_cons P x xs h rest (suc k) w = rest k (omega arith)

module _ (c : ℕ) (s : Side) where
  on_agrees : (m : Line) → Decides (on_test c s m) (On c s m)
  on_agrees m = reword (both (Decides-eqb m.concept c) (side_agrees m.side s)) (λ p. record { concept = p.0; side = p.1 }) (λ o. (o.concept, o.side))

  -- r is one of n and m, and as strong as both
  record Better (n m r : Line) : Type 0 where
    on : On c s r
    first : AsStrong s r.bound n.bound
    second : AsStrong s r.bound m.bound
    one : (r ≡ n) ⊎ (r ≡ m)

  better : (n m : Line) → On c s n → On c s m → Better n m (stronger_of n m)
  better n m o p = go (strong_test m.side n.bound m.bound) (strong_agrees m.side n.bound m.bound)
    where
      go : (b : Bool) → Decides b (AsStrong m.side n.bound m.bound) → Better n m (cond b n m)
      go true d = record { on = o; first = strong_self s n.bound; second = subst (λ t. AsStrong t n.bound m.bound) p.side (d.0 refl); one = inl refl }
      go false d = record { on = p; first = subst (λ t. AsStrong t m.bound n.bound) p.side (strong_other m.side n.bound m.bound (λ h. true≢false (sym (d.1 h)))); second = strong_self s m.bound; one = inr refl }

  -- r is m or a line of the list, and as strong as m and as each line of the list
  record Best (m : Line) (lines : List Line) (r : Line) : Type 0 where
    on : On c s r
    first : AsStrong s r.bound m.bound
    one : (r ≡ m) ⊎ ((k : ℕ) × (k < length lines) × (line_at lines k ≡ r))
    strong : (k : ℕ) → k < length lines → On c s (line_at lines k) → AsStrong s r.bound (line_at lines k).bound

  best : (m : Line) → On c s m → (lines : List Line) → Best m lines (fold stronger_of m (filter (on_test c s) lines))
  best m o [] = record { on = o; first = strong_self s m.bound; one = inl refl; strong = λ k w p. absurd (omega arith) }
  best m o (x ∷ xs) = go (on_test c s x) (on_agrees x) (λ n p. best n p xs)
    where
      go : (b : Bool) → Decides b (On c s x) → ((n : Line) → On c s n → Best n xs (fold stronger_of n (filter (on_test c s) xs))) → Best m (x ∷ xs) (fold stronger_of m (cond b (x ∷ filter (on_test c s) xs) (filter (on_test c s) xs)))
      go true d from =
          let n = stronger_of m x in
          let a = better m x o (d.0 refl) in
          let r = fold stronger_of n (filter (on_test c s) xs) in
          let h = from n a.on in
          record {
            on = h.on;
            first = strong_chain s r.bound n.bound m.bound h.first a.first;
            one = elim h.one [ inl e ↦ elim a.one [ inl f ↦ inl (e ∙ f) | inr f ↦ inr (0, omega arith, sym (e ∙ f)) ] | inr p ↦ inr (suc p.0, omega (arith, p.1), p.2) ];
            strong = each_cons (λ l. On c s l → AsStrong s r.bound l.bound) x xs (λ p. strong_chain s r.bound n.bound x.bound h.first a.second) h.strong;
          }
      go false d from =
          let r = fold stronger_of m (filter (on_test c s) xs) in
          let h = from m o in
          record {
            on = h.on;
            first = h.first;
            one = elim h.one [ inl e ↦ inl e | inr p ↦ inr (suc p.0, omega (arith, p.1), p.2) ];
            strong = each_cons (λ l. On c s l → AsStrong s r.bound l.bound) x xs (λ p. absurd (true≢false (sym (d.1 p)))) h.strong;
          }

  later : (x : Line) (xs : List Line) (o : Option Line) → ¬ On c s x → StrongestLine xs (length xs) c s o → StrongestLine (x ∷ xs) (suc (length xs)) c s o
  later x xs None n h = each_cons (λ l. ¬ On c s l) x xs n h
  later x xs (Some m) n h = record {
    on = h.on;
    stands = (suc h.stands.0, omega (arith, h.stands.1), h.stands.2);
    strong = each_cons (λ l. On c s l → AsStrong s m.bound l.bound) x xs (λ p. absurd (n p)) h.strong;
  }

  pub scanned : (lines : List Line) → StrongestLine lines (length lines) c s (reduce stronger_of (filter (on_test c s) lines))
  scanned [] = λ k w p. absurd (omega arith)
  scanned (x ∷ xs) = go (on_test c s x) (on_agrees x) (scanned xs)
    where
      go : (b : Bool) → Decides b (On c s x) → StrongestLine xs (length xs) c s (reduce stronger_of (filter (on_test c s) xs)) → StrongestLine (x ∷ xs) (suc (length xs)) c s (reduce stronger_of (cond b (x ∷ filter (on_test c s) xs) (filter (on_test c s) xs)))
      go true d rest =
          let r = fold stronger_of x (filter (on_test c s) xs) in
          let h = best x (d.0 refl) xs in
          record {
            on = h.on;
            stands = elim h.one [ inl e ↦ (0, omega arith, sym e) | inr p ↦ (suc p.0, omega (arith, p.1), p.2) ];
            strong = each_cons (λ l. On c s l → AsStrong s r.bound l.bound) x xs (λ p. h.first) h.strong;
          }
      go false d rest = later x xs (reduce stronger_of (filter (on_test c s) xs)) (λ p. true≢false (sym (d.1 p))) rest
