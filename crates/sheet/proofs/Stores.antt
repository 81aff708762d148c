-- What calls leave of a store's slots.
use Rattle.std.proofs.Common.{◌≡◌, ℕ, ◌+◌, ◌-◌, ◌<◌, ◌≤◌, min, List, [], ◌∷◌, ◌++◌, map, length, take, drop, set, replicate, sym, ap, ◌∙◌, arith}
use Rattle.std.proofs.lemmas.List.{length-map, length-take, length-set, length-drop, length-append, length-replicate, length-take-le, take_at, drop_at, drop-drop, drop-replicate, drop-set-lt, take_more_set, map_push, append_assoc, replicate-append-replicate}
use Rattle.terms.specs.declared.line.Line.{Line}
use Rattle.sheet.specs.declared.EntrySlot.{EntrySlot}
use Rattle.sheet.specs.Entries.{entry_of, entries_in, wiped}

pub entries_length : (es : List EntrySlot) (ls : List Line) (n : ℕ) → length (entries_in es ls n) ≡ min n (length es)
entries_length es ls n = length-map (take n es) (entry_of ls) ∙ length-take n es

-- ---- wiping

module _ {X : Type 0} (y : X) (xs : List X) (k n : ℕ) (fits : k + n ≤ length xs) where
  wiped_is : wiped y xs k n ≡ take k xs ++ replicate n y ++ drop (k + n) xs
  wiped_is =
      let m : min n (length xs - k) ≡ n = omega arith in
      ap (λ (i : ℕ). take k xs ++ replicate i y ++ drop (k + i) xs) m

  pub wiped_length : length (wiped y xs k n) ≡ length xs
  wiped_length =
      ap length wiped_is
      ∙ omega (arith, length-append (take k xs ++ replicate n y) (drop (k + n) xs), length-append (take k xs) (replicate n y), length-take-le k xs (omega arith), length-replicate n y, length-drop (k + n) xs)

  pub wiped_below : take k (wiped y xs k n) ≡ take k xs
  wiped_below =
      ap (take k) (wiped_is ∙ append_assoc (take k xs) (replicate n y) (drop (k + n) xs))
      ∙ take_at (take k xs) (replicate n y ++ drop (k + n) xs) k (length-take-le k xs (omega arith))

  -- wiping what lies before blank slots leaves all of them blank
  pub wiped_blank : drop (k + n) xs ≡ replicate (length xs - (k + n)) y → drop k (wiped y xs k n) ≡ replicate (length xs - k) y
  wiped_blank blank =
      let s : n + (length xs - (k + n)) ≡ length xs - k = omega arith in
      ap (drop k) (wiped_is ∙ append_assoc (take k xs) (replicate n y) (drop (k + n) xs))
      ∙ drop_at (take k xs) (replicate n y ++ drop (k + n) xs) k (length-take-le k xs (omega arith))
      ∙ ap (λ zs. replicate n y ++ zs) blank
      ∙ replicate-append-replicate n (length xs - (k + n)) y
      ∙ ap (λ (i : ℕ). replicate i y) s

-- ---- one more slot in use

pub blank_more : {X : Type 0} (y : X) (xs : List X) (n : ℕ) (x : X) → n < length xs → drop n xs ≡ replicate (length xs - n) y → drop (n + 1) (set xs n x) ≡ replicate (length (set xs n x) - (n + 1)) y
blank_more y xs n x lt e =
    let k : length (set xs n x) - (n + 1) ≡ (length xs - n) - 1 = omega (arith, length-set xs n x) in
    drop-set-lt (n + 1) xs n x (omega arith)
    ∙ sym (drop-drop 1 n xs) ∙ ap (drop 1) e ∙ drop-replicate 1 (length xs - n) y ∙ ap (λ (m : ℕ). replicate m y) (sym k)

pub entries_more : (es : List EntrySlot) (ls : List Line) (n : ℕ) (e : EntrySlot) → n < length es → entries_in (set es n e) ls (n + 1) ≡ entries_in es ls n ++ entry_of ls e ∷ []
entries_more es ls n e lt = ap (map (entry_of ls)) (take_more_set es n e lt) ∙ map_push (entry_of ls) (take n es) e
