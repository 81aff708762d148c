-- The theory's sheet, entry by entry.
use Rattle.std.proofs.Common.{◌≡◌, ℕ, ◌+◌, ◌-◌, ◌<◌, ◌≤◌, min, Bool, true, leb, ◌⊎◌, List, [], map, length, get_or, take, replicate, Decides, sym, ap, ◌∙◌, subst, inl, inr, arith}
use Rattle.std.proofs.lemmas.List.{length-append, length-map, length-take, length-replicate, get_or_append_left, get_or-append_right, get_or-replicate, get_or_past, get_or-take, get_or-map}
use Rattle.std.proofs.lemmas.Bool.{cases_lt}
use Rattle.std.proofs.lemmas.Bool.Decides.{same_from_decides, Decides-like}
use Rattle.terms.specs.declared.line.Line.{Line}
use Rattle.logic.specs.Entries.{Entry, blank_entry, entry_at, label_at}
use Rattle.logic.proofs.LinesAgree.{le_agrees}
use Rattle.sheet.specs.declared.EntrySlot.{EntrySlot}
use Rattle.sheet.specs.declared.Finished.{Finished}
use Rattle.sheet.specs.Entries.{entry_of, zero_slot, no_entry}
use Rattle.sheet.specs.Sheets.{filed_finished, Lies}
use Rattle.judge.specs.Views.{seen, absent, sheet_of}

module _ (f : Finished) where
  abbrev slots : List EntrySlot
  slots = f.entries.now

  abbrev lines : List Line
  lines = f.lines.now

  abbrev stored : List EntrySlot
  stored = take f.used slots

  stored_length : length stored ≡ min f.used (length slots)
  stored_length = length-take f.used slots

  front_length : length (map (seen lines) stored) ≡ length stored
  front_length = length-map stored (seen lines)

  -- an entry for each that is counted
  pub counted : length (sheet_of f) ≡ f.used
  unfolding sheet_of
  counted = omega (arith, length-append (map (seen lines) stored) (replicate (f.used - length slots) absent), front_length, stored_length, length-replicate (f.used - length slots) absent)

  pub entry_stored : (k : ℕ) → k < length stored → entry_at (sheet_of f) k ≡ seen lines (get_or stored k zero_slot)
  unfolding sheet_of
  entry_stored k h =
      let l : k < length (map (seen lines) stored) = omega (arith, front_length) in
      get_or_append_left (map (seen lines) stored) (replicate (f.used - length slots) absent) blank_entry k l ∙ get_or-map (seen lines) stored k zero_slot blank_entry h

  pub entry_absent : (k : ℕ) → length stored ≤ k → k < f.used → entry_at (sheet_of f) k ≡ absent
  unfolding sheet_of
  entry_absent k h u =
      let l : k - length stored < f.used - length slots = omega (arith, stored_length) in
      get_or-append_right (map (seen lines) stored) (replicate (f.used - length slots) absent) (length stored) k blank_entry front_length h
      ∙ get_or-replicate (f.used - length slots) (k - length stored) absent blank_entry l

  pub entry_past : (k : ℕ) → f.used ≤ k → entry_at (sheet_of f) k ≡ blank_entry
  entry_past k h = get_or_past (sheet_of f) k blank_entry (omega (arith, counted))

  -- past the store an entry has no label, and the head of a blank one
  pub bare_past : (k : ℕ) → length stored ≤ k → ((entry_at (sheet_of f) k).label ≡ []) × ((entry_at (sheet_of f) k).head ≡ blank_entry.head)
  bare_past k h = go (cases_lt k f.used)
    where
      go : (k < f.used) ⊎ (f.used ≤ k) → ((entry_at (sheet_of f) k).label ≡ []) × ((entry_at (sheet_of f) k).head ≡ blank_entry.head)
      go (inl l) = (ap (λ e. e.label) (entry_absent k h l), ap (λ e. e.head) (entry_absent k h l))
      go (inr l) = (ap (λ e. e.label) (entry_past k l), ap (λ e. e.head) (entry_past k l))

  -- its label is the lines that lie in the store
  pub label_is : (k : ℕ) → (get_or (filed_finished f) k no_entry).label ≡ label_at (sheet_of f) k
  label_is k = go (cases_lt k (length stored))
    where
      go : (k < length stored) ⊎ (length stored ≤ k) → (get_or (filed_finished f) k no_entry).label ≡ label_at (sheet_of f) k
      go (inl h) = ap (λ e. e.label) (get_or-map (entry_of lines) stored k zero_slot no_entry h) ∙ sym (ap (λ e. e.label) (entry_stored k h))
      go (inr h) = ap (λ e. e.label) (get_or_past (filed_finished f) k no_entry (omega (arith, length-map stored (entry_of lines)))) ∙ sym (bare_past k h).0

  -- it lies in the store with all its lines, or is not counted
  lies_by : (k : ℕ) → k < f.used → Decides (entry_at (sheet_of f) k).lies (Lies f k)
  lies_by k u = go (cases_lt k (length stored))
    where
      go : (k < length stored) ⊎ (length stored ≤ k) → Decides (entry_at (sheet_of f) k).lies (Lies f k)
      go (inl h) =
          let s = get_or slots k zero_slot in
          let e : entry_at (sheet_of f) k ≡ seen lines s = entry_stored k h ∙ ap (seen lines) (get_or-take f.used slots k zero_slot u) in
          subst (λ (x : Entry). Decides x.lies (Lies f k)) (sym e)
          (Decides-like (leb (s.start + s.count) (length lines)) (λ l. (u, omega (arith, stored_length), l)) (λ l. l.2) (le_agrees (s.start + s.count) (length lines)))
      go (inr h) = subst (λ (x : Entry). Decides x.lies (Lies f k)) (sym (entry_absent k h u)) (λ t. absurd (let z : ◌≡◌ {A = ℕ} 0 1 = cc in omega arith), λ l. absurd (omega (arith, stored_length, l.1)))

  pub lies_is : (k : ℕ) (r : Bool) → k < f.used → Decides r (Lies f k) → r ≡ (entry_at (sheet_of f) k).lies
  lies_is k r u d = same_from_decides r (entry_at (sheet_of f) k).lies d (lies_by k u)

  pub head_is : (k : ℕ) → (get_or stored k zero_slot).head ≡ (entry_at (sheet_of f) k).head
  head_is k = go (cases_lt k (length stored))
    where
      go : (k < length stored) ⊎ (length stored ≤ k) → (get_or stored k zero_slot).head ≡ (entry_at (sheet_of f) k).head
      go (inl h) = sym (ap (λ e. e.head) (entry_stored k h))
      go (inr h) = ap (λ e. e.head) (get_or_past stored k zero_slot h) ∙ sym (bare_past k h).1

  pub lies_past : (k : ℕ) → f.used ≤ k → (entry_at (sheet_of f) k).lies ≡ true
  lies_past k h = ap (λ e. e.lies) (entry_past k h)
