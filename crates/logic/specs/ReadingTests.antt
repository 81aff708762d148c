-- The holding read out of a sheet, computed.
use Rattle.std.specs.Prelude.{ℕ, ◌*◌, Bool, false, cond, ◌&&◌, List, [], ◌∷◌, length, ℤ, pos, fold, ◌==◌, nat_lt}
use Rattle.std.specs.Int.{int_max}
use Rattle.terms.specs.declared.concept.Concept.{Concept}
use Rattle.terms.specs.declared.concept.Concept.TheVariants.{Heading, Constant, Not, Less, Lesser, Exists}
use Rattle.terms.specs.declared.line.Side.TheVariants.{AtLeast}
use Rattle.terms.specs.declared.line.Line.{Line}
use Rattle.logic.specs.Books.{Book, concept_at}
use Rattle.logic.specs.Holdings.{Holding}
use Rattle.logic.specs.Entries.{Entry, label_at}
use Rattle.logic.specs.ReadOut.{clamped}
use Rattle.logic.specs.LineTests.{same_side}
use Rattle.logic.specs.StandingTests.{serves_test}

-- The line says 'at least' of the heading p.
abbrev pub heading_test : ℕ → Concept → Bool
heading_test p (Heading q) = q == p
heading_test p (Constant k) = false
heading_test p (Not c) = false
heading_test p (Less c k) = false
heading_test p (Lesser c d) = false
heading_test p (Exists r c) = false

abbrev pub says_test : Book → ℕ → Line → Bool
says_test b p l = same_side l.side AtLeast && heading_test p (concept_at b l.concept)

-- The line is on 'some r that is c' and says at least; the label `to` serves it.
abbrev pub leads_form_test : Book → List Line → List Line → ℕ → Concept → ℤ → Bool
leads_form_test b from to r (Heading p) z = false
leads_form_test b from to r (Constant k) z = false
leads_form_test b from to r (Not c) z = false
leads_form_test b from to r (Less c k) z = false
leads_form_test b from to r (Lesser c d) z = false
leads_form_test b from to r (Exists q c) z = q == r && serves_test b from r c z to

abbrev pub leads_test : Book → List Line → List Line → ℕ → Line → Bool
leads_test b from to r l = same_side l.side AtLeast && leads_form_test b from to r (concept_at b l.concept) l.bound

-- The bounds of the lines that pass.
abbrev pub bounds_by : (Line → Bool) → List Line → List ℤ
bounds_by p [] = []
bounds_by p (l ∷ ls) = cond (p l) (l.bound ∷ bounds_by p ls) (bounds_by p ls)

-- The greatest bound of the lines that pass, as a degree.
abbrev pub greatest_by : ℕ → (Line → Bool) → List Line → ℕ
greatest_by fineness p label = clamped fineness (fold int_max (pos 0) (bounds_by p label))

abbrev pub read_out : Book → List Entry → Holding
read_out b sheet =
    record {
      size = length sheet;
      top = 2 * b.fineness;
      heading = λ p x. cond (nat_lt x (length sheet)) (greatest_by b.fineness (says_test b p) (label_at sheet x)) 0;
      role = λ r x y. cond (nat_lt x (length sheet) && nat_lt y (length sheet)) (greatest_by b.fineness (leads_test b (label_at sheet x) (label_at sheet y) r) (label_at sheet x)) 0;
    }
