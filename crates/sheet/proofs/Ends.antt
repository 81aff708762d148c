-- Where the lines of entries end, and that what lies past them does not change an entry.
use Rattle.std.proofs.Common.{◌≡◌, ℕ, ◌+◌, ◌<◌, ◌≤◌, min, max, List, [], ◌∷◌, ◌++◌, map, length, take, drop, sym, refl, ap, ◌∙◌, ⊎_elim, arith}
use Rattle.std.specs.Prelude.{fold}
use Rattle.std.proofs.lemmas.List.{take_all, drop-take, take-take}
use Rattle.std.proofs.lemmas.Bool.{cases_lt}
use Rattle.terms.specs.declared.line.Line.{Line}
use Rattle.sheet.specs.declared.EntrySlot.{EntrySlot}
use Rattle.sheet.specs.Entries.{part, entry_of, end_in, last_end}

pub last_end_le : (n : ℕ) (es : List EntrySlot) → last_end n es ≤ n
last_end_le n [] = omega arith
last_end_le n (e ∷ es) = let h = last_end_le n es in omega arith

pub last_end_push : (n : ℕ) (es : List EntrySlot) (e : EntrySlot) → last_end n (es ++ e ∷ []) ≡ max (last_end n es) (end_in n e)
last_end_push n [] e = omega arith
last_end_push n (x ∷ es) e = let h = last_end_push n es e in omega arith

-- the furthest end, reckoned from the front
pub last_end_fold : (n a : ℕ) (es : List EntrySlot) → fold (λ (m : ℕ) (e : EntrySlot). max (end_in n e) m) a es ≡ max a (last_end n es)
last_end_fold n a [] = omega arith
last_end_fold n a (e ∷ es) = last_end_fold n (max (end_in n e) a) es ∙ omega arith

-- lines that agree up to where a part ends have the same part
part_same : (k n w : ℕ) (ls ms : List Line) → length ls ≡ length ms → min (k + n) (length ls) ≤ w → take w ls ≡ take w ms → part k n ls ≡ part k n ms
part_same k n w ls ms long h e =
    ⊎_elim
    (λ (lt : length ls < k + n). ap (part k n) (sym (take_all w ls (omega arith)) ∙ e ∙ take_all w ms (omega arith)))
    (λ (le : k + n ≤ length ls).
    sym (drop-take k n ls) ∙ ap (drop k) (sym (take-take (k + n) w ls (omega arith)) ∙ ap (take (k + n)) e ∙ take-take (k + n) w ms (omega arith)) ∙ drop-take k n ms)
    (cases_lt (length ls) (k + n))

-- lines that agree up to where all entries end make the same entries
pub entries_same : (w : ℕ) (es : List EntrySlot) (ls ms : List Line) → length ls ≡ length ms → last_end (length ls) es ≤ w → take w ls ≡ take w ms → map (entry_of ls) es ≡ map (entry_of ms) es
entries_same w [] ls ms long h e = refl
entries_same w (x ∷ es) ls ms long h e =
    let a : entry_of ls x ≡ entry_of ms x = ap (λ (l : List Line). record { head = x.head; label = l }) (part_same x.start x.count w ls ms long (omega arith) e) in
    let b = entries_same w es ls ms long (omega arith) e in
    ap (λ y. y ∷ map (entry_of ls) es) a ∙ ap (λ ys. entry_of ms x ∷ ys) b
