-- Rounding to half steps of a book: what lies strictly between two degrees of the book becomes the half step between them.
use Rattle.std.specs.Prelude.{ℕ, ◌+◌, ◌*◌, ◌/◌, ◌%◌, min}
use Rattle.logic.specs.Holdings.{Holding, unit}

-- x in half steps of u: twice its whole units, and 1 more if something is left over.
abbrev pub halves : ℕ → ℕ → ℕ
halves u x = 2 * (x / u) + min 1 (x % u)

-- A degree of a scale, rounded for a fineness: in half steps, and at most twice the fineness.
abbrev pub rounded : ℕ → ℕ → ℕ → ℕ
rounded fineness top x = min (2 * fineness) (halves (unit fineness top) x)

-- The holding with each degree rounded; its top is twice the fineness.
abbrev pub rounded_holding : ℕ → Holding → Holding
rounded_holding fineness H =
    record {
      size = H.size;
      top = 2 * fineness;
      heading = λ p x. rounded fineness H.top (H.heading p x);
      role = λ r x y. rounded fineness H.top (H.role r x y);
    }
