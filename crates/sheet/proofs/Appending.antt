-- A line appended to the row that part of a store is.
use Rattle.std.specs.Result.{result_ok}
use Rattle.std.proofs.Common.{◌≡◌, ℕ, ◌+◌, ◌-◌, ◌<◌, ◌≤◌, min, Bool, true, false, cond, List, [], ◌∷◌, ◌++◌, length, take, drop, set, is_ok, Ok, Err, Result, Option, sym, refl, ap, ◌∙◌, subst, ap₂, zero-add, inl, ⊎_elim, arith}
use borrow.Rule.Slice.PartMut.{put_mid}
use Rattle.std.proofs.lemmas.List.{take-append-drop, take_more_set, drop-set-lt, drop-set-add, take-set-le, length-take-le, length-drop, drop_all, drop_at, append-nil, take_rest}
use Rattle.row.specs.declared.Row.{Row}
use Rattle.row.specs.declared.Unplaced.{Unplaced}
use Rattle.row.specs.declared.Unplaced.TheVariants.{There, Full, NotAbove}
use Rattle.row.specs.Order.{Ascending, LastBelow, LastNotBelow}
use Rattle.row.specs.Placing.{AppendOutcome}
use Rattle.row.specs.Rows.{items, room, Kept}
use Rattle.terms.specs.declared.line.Line.{Line}
use Rattle.terms.specs.Lines.{line_order, zero_line, BoundOutside}
use Rattle.sheet.specs.Entries.{part}
use Rattle.sheet.specs.Labels.{Appended, LineEnteredIn}

-- what a row was over tells what its slots become
module _ (x : Line) (n : ℕ) (slots after : List Line) (r r' : Row Line) (fits : n ≤ length slots)
    (len_is : r.len ≡ min n (length slots)) (slots-is : r.slots.now ≡ slots) (back : after ≡ r'.slots.now) where
  row_len : r.len ≡ n
  row_len = omega arith

  row_items : items r ≡ part 0 n slots
  row_items = ap₂ take row_len slots-is

  row_after : (res : Result ℕ Unplaced) → Kept r r' (is_ok res) → items r' ≡ part 0 (cond (is_ok res) (n + 1) n) after
  row_after res k = ap₂ take (k.len ∙ ap (λ (m : ℕ). cond (is_ok res) (m + 1) m) row_len) (sym back)

  row_slots : (res : Result ℕ Unplaced) → AppendOutcome line_order x (items r) (room r) (items r') res → Kept r r' (is_ok res) → after ≡ cond (is_ok res) (set slots (0 + n) x) slots
  row_slots (Ok i) o k =
      let short : length (items r) ≡ n = length-take-le _ _ r.within ∙ row_len in
      let lt : n < length slots = omega (arith, o.0, ap length slots-is) in
      let S = set slots n x in
      let first : take (n + 1) after ≡ take (n + 1) S =
      sym (row_after (Ok i) k) ∙ o.3 ∙ ap (λ xs. xs ++ x ∷ []) row_items ∙ sym (take_more_set slots n x lt) in
      let end : r'.len ≡ n + 1 = omega (arith, k.len, row_len) in
      let rest : drop (n + 1) after ≡ drop (n + 1) S =
      ap₂ drop (sym end) back ∙ k.rest ∙ ap₂ drop end slots-is ∙ sym (drop-set-lt (n + 1) slots n x (omega arith)) in
      sym (take-append-drop (n + 1) after) ∙ ap₂ ◌++◌ first rest ∙ take-append-drop (n + 1) S ∙ ap (λ (m : ℕ). set slots m x) (sym (zero-add n))
  row_slots (Err e) o k = back ∙ k.refused refl ∙ slots-is

  pub appended_row : (res : Result ℕ Unplaced) → AppendOutcome line_order x (items r) (room r) (items r') res → (Ascending line_order (items r) → Ascending line_order (items r')) → Kept r r' (is_ok res) → Appended x 0 n slots after res
  appended_row res o up k =
      let size : room r ≡ length slots - 0 = omega (arith, ap length slots-is) in
      record {
        outcome =
            subst (λ (xs : List Line). AppendOutcome line_order x xs (length slots - 0) (part 0 (cond (is_ok res) (n + 1) n) after) res) row_items
            (subst (λ (m : ℕ). AppendOutcome line_order x (items r) m (part 0 (cond (is_ok res) (n + 1) n) after) res) size
            (subst (λ (ys : List Line). AppendOutcome line_order x (items r) (room r) ys res) (row_after res k) o));
        up = λ h. subst (λ (ys : List Line). Ascending line_order ys) (row_after res k) (up (subst (λ (xs : List Line). Ascending line_order xs) (sym row_items) h));
        slots_are = row_slots res o k;
      }

-- what the rest of a store becomes tells what the store becomes
module _ (x : Line) (k n : ℕ) (ls ms : List Line) (fits : k + n ≤ length ls) where
  whole : put_mid k (length ls - k) ls ms ≡ take k ls ++ ms
  whole =
      ap (λ (zs : List Line). take k ls ++ (ms ++ zs)) (drop_all (length ls - k) (drop k ls) (omega (arith, length-drop k ls)))
      ∙ ap (λ (zs : List Line). take k ls ++ zs) (append-nil ms)

  rest_is : drop k (put_mid k (length ls - k) ls ms) ≡ ms
  rest_is = ap (drop k) whole ∙ drop_at (take k ls) ms k (length-take-le k ls (omega arith))

  whole_is : (b : Bool) → ms ≡ cond b (set (drop k ls) (0 + n) x) (drop k ls) → take k ls ++ ms ≡ cond b (set ls (k + n) x) ls
  whole_is true e =
      let S = set ls (k + n) x in
      ap₂ ◌++◌ (sym (take-set-le k ls (k + n) x (omega arith))) (e ∙ ap (λ (m : ℕ). set (drop k ls) m x) (zero-add n) ∙ sym (drop-set-add k ls n x))
      ∙ take-append-drop k S
  whole_is false e = ap (λ (zs : List Line). take k ls ++ zs) e ∙ take-append-drop k ls

  pub appended_rest : (res : Result ℕ Unplaced) → Appended x 0 n (take (length ls - k) (drop k ls)) ms res → Appended x k n ls (put_mid k (length ls - k) ls ms) res
  appended_rest res given =
      let a = subst (λ (zs : List Line). Appended x 0 n zs ms res) (take_rest ls k) given in
      let size : length (drop k ls) - 0 ≡ length ls - k = omega (arith, length-drop k ls) in
      let after : part 0 (cond (is_ok res) (n + 1) n) ms ≡ part k (cond (is_ok res) (n + 1) n) (put_mid k (length ls - k) ls ms) = ap (take (cond (is_ok res) (n + 1) n)) (sym rest_is) in
      record {
        outcome =
            subst (λ (ys : List Line). AppendOutcome line_order x (part k n ls) (length ls - k) ys res) after
            (subst (λ (m : ℕ). AppendOutcome line_order x (part k n ls) m (part 0 (cond (is_ok res) (n + 1) n) ms) res) size a.outcome);
        up = λ h. subst (λ (ys : List Line). Ascending line_order ys) after (a.up h);
        slots_are = whole ∙ whole_is (is_ok res) a.slots_are;
      }

-- a row with room refuses a line only if it is not above the last
refused_above : (x : Line) (xs ys : List Line) (m : ℕ) (e : Unplaced) → length xs < m → AppendOutcome line_order x xs m ys (Err e) → LastNotBelow line_order x xs
refused_above x xs ys m (There i) h o = absurd o
refused_above x xs ys m Full h o = absurd (let e = o.0 in omega arith)
refused_above x xs ys m NotAbove h o = o.1

accepted_above : (x : Line) (xs : List Line) → LastBelow line_order x xs → ¬ LastNotBelow line_order x xs
accepted_above x xs last h = h.1 zero_line (last h.0 zero_line)

-- a line that fits its bound is entered where it could be appended
entered_from : (x : Line) (k n : ℕ) (ls after : List Line) (res : Result ℕ Unplaced) → k + n < length ls → ¬ BoundOutside x → Appended x k n ls after res → LineEnteredIn x k n ls after (result_ok res)
entered_from x k n ls after (Ok i) lt within a = (λ h. ⊎_elim (accepted_above x (part k n ls) a.outcome.1) within h, a)
entered_from x k n ls after (Err e) lt within a =
    let short : length (part k n ls) < length ls - k = omega (arith, length-take-le n (drop k ls) (omega (arith, length-drop k ls))) in (
      inl (refused_above x (part k n ls) _ (length ls - k) e short a.outcome),
      a.slots_are,
    )

pub entered_in : (x : Line) (k n : ℕ) (ls after : List Line) (res : Result ℕ Unplaced) (o : Option ℕ) → o ≡ result_ok res → k + n < length ls → ¬ BoundOutside x → Appended x k n ls after res → LineEnteredIn x k n ls after o
entered_in x k n ls after res o is lt within a =
    subst (λ (p : Option ℕ). LineEnteredIn x k n ls after p) (sym is) (entered_from x k n ls after res lt within a)
