-- The sheet that is drawn up from a holding.
use Rattle.std.specs.Prelude.{ℕ, zero, suc, ◌*◌, true, cond, List, [], ◌∷◌, ◌++◌, map, length, pos, nat_lt}
use Rattle.std.specs.List.{range_with_len}
use Rattle.terms.specs.declared.line.Side.TheVariants.{AtLeast, AtMost}
use Rattle.terms.specs.declared.line.Line.{Line}
use Rattle.terms.specs.declared.entry.Letter.TheVariants.{L}
use Rattle.terms.specs.declared.entry.Head.{Head}
use Rattle.logic.specs.Books.{Book}
use Rattle.logic.specs.Holdings.{Holding, degree}
use Rattle.logic.specs.Rounding.{rounded_holding}
use Rattle.logic.specs.Lines.{line}
use Rattle.logic.specs.Entries.{Entry}

-- What is said of the concept c of the degree v: at least v, if v is more than 0, and at most v, if v is less than twice the fineness.
abbrev pub told : ℕ → ℕ → ℕ → List Line
told fineness c v = cond (nat_lt 0 v) (line c AtLeast (pos v) ∷ []) [] ++ cond (nat_lt v (2 * fineness)) (line c AtMost (pos v) ∷ []) []

-- What is said of the concepts below n, with the degrees v.
abbrev pub told_below : ℕ → (ℕ → ℕ) → ℕ → List Line
told_below fineness v zero = []
told_below fineness v (suc n) = told_below fineness v n ++ told fineness n (v n)

-- The head of every entry of a standing sheet.
abbrev pub standing_head : Head
standing_head = record { letter = L; place = 0; first = 0; second = 0; inclusion = 0; step = 0 }

-- The entry of the individual x says of every concept of the book the degree that it has at x in the rounded holding.
abbrev pub drawn_entry : Book → Holding → ℕ → Entry
drawn_entry b H x =
    record {
      head = standing_head;
      lies = true;
      label = told_below b.fineness (λ c. degree b (rounded_holding b.fineness H) c x) (length b.concepts);
    }

-- The sheet has an entry for each individual.
abbrev pub drawn_up : Book → Holding → List Entry
drawn_up b H = map (drawn_entry b H) (range_with_len 0 H.size)
