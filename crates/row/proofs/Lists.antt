-- A list with an element put in at a place, as an array holds it once what stood from there on is copied one place on. Assumes nothing.
use Rattle.std.proofs.Common.{◌≡◌, ℕ, ◌+◌, ◌-◌, ◌<◌, ◌≤◌, ◌≢◌, ◌⊎◌, List, length, get_or, take, drop, set, sym, ap, ◌∙◌, inl, inr, arith, length-take-le, get_or-drop, get_or-set_other, get_or-take, get_or-set_same}
use Rattle.std.specs.List.{insert}
use Rattle.std.proofs.lemmas.List.{same_lists, length-set, length-drop}
use Rattle.std.proofs.lemmas.List.Edits.{length-insert, get_or-insert_below, get_or-insert_at, get_or-insert_above}
use Rattle.std.proofs.lemmas.Bool.{cases_order}

-- ys is xs, but that what lay from i up to len lies one place on
module _ {X : Type 0} (xs ys : List X) (len i : ℕ) (x : X) (place : i ≤ len) (room : len < length xs) (same : length ys ≡ length xs) where
  pub put_rest : ((k : ℕ) (d : X) → len + 1 ≤ k → get_or ys k d ≡ get_or xs k d) → drop (len + 1) (set ys i x) ≡ drop (len + 1) xs
  put_rest hi = same_lists _ _ (simp (length-drop, length-set) (omega arith)) (λ k d h.
      let ne : len + 1 + k ≢ i = omega arith in
      get_or-drop (len + 1) (set ys i x) k d ∙ get_or-set_other ys i (len + 1 + k) x d ne ∙ hi (len + 1 + k) d (omega arith) ∙ sym (get_or-drop (len + 1) xs k d))

  pub put_items : ((k : ℕ) (d : X) → k < i + 1 → get_or ys k d ≡ get_or xs k d) → ((k : ℕ) (d : X) → i + 1 ≤ k → k < len + 1 → get_or ys k d ≡ get_or xs (k - 1) d)
      → take (len + 1) (set ys i x) ≡ insert (take len xs) i x
  put_items lo hi = same_lists _ _ (longs ∙ sym longi) (λ k d h. at k d (omega (arith, longs)))
    where
      front : length (take len xs) ≡ len
      front = length-take-le len xs (omega arith)

      longs : length (take (len + 1) (set ys i x)) ≡ len + 1
      longs = length-take-le (len + 1) (set ys i x) (simp length-set (omega arith))

      longi : length (insert (take len xs) i x) ≡ len + 1
      longi = length-insert (take len xs) i x (omega (arith, front)) ∙ ap (λ n. n + 1) front

      at : (k : ℕ) (d : X) → k < len + 1 → get_or (take (len + 1) (set ys i x)) k d ≡ get_or (insert (take len xs) i x) k d
      at k d h = get_or-take (len + 1) (set ys i x) k d h ∙ go (cases_order k i)
        where
          go : (k ≡ i) ⊎ ((k < i) ⊎ (i < k)) → get_or (set ys i x) k d ≡ get_or (insert (take len xs) i x) k d
          go (inl e) = ap (λ n. get_or (set ys i x) n d) e ∙ get_or-set_same ys i x d (omega arith) ∙ sym (ap (λ n. get_or (insert (take len xs) i x) n d) e ∙ get_or-insert_at (take len xs) i x d (omega (arith, front)))
          go (inr (inl l)) = get_or-set_other ys i k x d (omega arith) ∙ lo k d (omega arith) ∙ sym (get_or-insert_below (take len xs) i x d k l (omega (arith, front)) ∙ get_or-take len xs k d (omega arith))
          go (inr (inr g)) =
              let e : k ≡ k - 1 + 1 = omega arith in
              get_or-set_other ys i k x d (omega arith) ∙ hi k d (omega arith) h ∙ sym (ap (λ n. get_or (insert (take len xs) i x) n d) e ∙ get_or-insert_above (take len xs) i x d (k - 1) (omega arith) (omega (arith, front)) ∙ get_or-take len xs (k - 1) d (omega arith))
