-- Every sheet can be read out: the computed holding is the one that is read out.
use Rattle.std.proofs.Common.{◌≡◌, ℕ, Bool, true, false, cond, ◌&&◌, ltb, List, length, ℤ, pos, Decides, fold, sym, refl, ap, subst, arith}
use Rattle.std.specs.Int.{int_max}
use Rattle.std.proofs.lemmas.Bool.Decides.{Decides-eqb, Decides-ltb, nat_tests}
use Rattle.terms.specs.declared.concept.Concept.{Concept}
use Rattle.terms.specs.declared.concept.Concept.TheVariants.{Heading, Constant, Not, Less, Lesser, Exists}
use Rattle.terms.specs.declared.line.Side.TheVariants.{AtLeast}
use Rattle.terms.specs.declared.line.Line.{Line}
use Rattle.logic.specs.Books.{Book, concept_at}
use Rattle.logic.specs.Lines.{line, HasLine}
use Rattle.logic.specs.Entries.{Entry, label_at}
use Rattle.logic.specs.Standing.{Serves}
use Rattle.logic.specs.ReadOut.{DegreeOf, Says, Leads, ReadOut}
use Rattle.logic.specs.ReadingTests.{bounds_by, heading_test, says_test, leads_form_test, leads_test, greatest_by, read_out}
use Rattle.logic.specs.Theorems.{EverySheetReadsOut}
use Rattle.logic.proofs.LinesAgree.{reword, both, never, side_agrees}
use Rattle.logic.proofs.StandingAgrees.{serves_agrees}
use Rattle.logic.proofs.Bounds.{greatest_of}

heading_agrees : (p : ℕ) (form : Concept) → Decides (heading_test p form) (form ≡ Heading p)
heading_agrees p (Heading q) = reword (Decides-eqb q p) (λ e. ap Heading e) (λ e. cc)
heading_agrees p (Constant k) = never (λ e. (let z : ◌≡◌ {A = ℕ} 0 1 = cc in omega arith))
heading_agrees p (Not c) = never (λ e. (let z : ◌≡◌ {A = ℕ} 0 1 = cc in omega arith))
heading_agrees p (Less c k) = never (λ e. (let z : ◌≡◌ {A = ℕ} 0 1 = cc in omega arith))
heading_agrees p (Lesser c d) = never (λ e. (let z : ◌≡◌ {A = ℕ} 0 1 = cc in omega arith))
heading_agrees p (Exists r c) = never (λ e. (let z : ◌≡◌ {A = ℕ} 0 1 = cc in omega arith))

-- a concept of the form 'some r that is c', for some c, whose line with the bound z is served
abbrev Way : Book → List Line → List Line → ℕ → Concept → ℤ → Type 0
Way b from to r form z = (c : ℕ) × (form ≡ Exists r c) × Serves b from r c z to

way_agrees : (b : Book) (from to : List Line) (r : ℕ) (form : Concept) (z : ℤ) → Decides (leads_form_test b from to r form z) (Way b from to r form z)
way_agrees b from to r (Heading p) z = never (λ w. (let e = w.1 in let z : ◌≡◌ {A = ℕ} 0 1 = cc in omega arith))
way_agrees b from to r (Constant k) z = never (λ w. (let e = w.1 in let z : ◌≡◌ {A = ℕ} 0 1 = cc in omega arith))
way_agrees b from to r (Not c) z = never (λ w. (let e = w.1 in let z : ◌≡◌ {A = ℕ} 0 1 = cc in omega arith))
way_agrees b from to r (Less c k) z = never (λ w. (let e = w.1 in let z : ◌≡◌ {A = ℕ} 0 1 = cc in omega arith))
way_agrees b from to r (Lesser c d) z = never (λ w. (let e = w.1 in let z : ◌≡◌ {A = ℕ} 0 1 = cc in omega arith))
way_agrees b from to r (Exists q c) z =
    reword (both (Decides-eqb q r) (serves_agrees b from r c z to))
    (λ p. (c, ap (λ q. Exists q c) p.0, p.1))
    (λ w. let e = w.1 in let g : w.0 ≡ c = cc in ((cc), subst (λ d. Serves b from r d z to) g w.2))

-- a line that says at least, by its bound
at_least : (label : List Line) (l : Line) → HasLine label l → l.side ≡ AtLeast → HasLine label (line l.concept AtLeast l.bound)
at_least label l h e = subst (λ s. HasLine label (line l.concept s l.bound)) e h

module _ (b : Book) (sheet : List Entry) where
  says_agrees : (p : ℕ) (l : Line) → Decides (says_test b p l) ((l.side ≡ AtLeast) × (concept_at b l.concept ≡ Heading p))
  says_agrees p l = both (side_agrees l.side AtLeast) (heading_agrees p (concept_at b l.concept))

  heading_of : (label : List Line) (p : ℕ) → DegreeOf b.fineness (Says b label p) (greatest_by b.fineness (says_test b p) label)
  heading_of label p =
      record {
        bound = fold int_max (pos 0) (bounds_by (says_test b p) label);
        greatest = greatest_of (says_test b p) (Says b label p) label
            (λ z s. (line s.concept AtLeast z, s.stands, (says_agrees p (line s.concept AtLeast z)).1 (refl, s.form), refl))
            (λ l h t. let d = (says_agrees p l).0 t in record { concept = l.concept; form = d.1; stands = at_least label l h d.0 })
            (pos 0);
        is = refl;
      }

  leads_agrees : (from to : List Line) (r : ℕ) (l : Line) →
      Decides (leads_test b from to r l) ((l.side ≡ AtLeast) × Way b from to r (concept_at b l.concept) l.bound)
  leads_agrees from to r l = both (side_agrees l.side AtLeast) (way_agrees b from to r (concept_at b l.concept) l.bound)

  role_of : (from to : List Line) (r : ℕ) → DegreeOf b.fineness (Leads b from to r) (greatest_by b.fineness (leads_test b from to r) from)
  role_of from to r =
      record {
        bound = fold int_max (pos 0) (bounds_by (leads_test b from to r) from);
        greatest = greatest_of (leads_test b from to r) (Leads b from to r) from
            (λ z s. (line s.concept AtLeast z, s.stands, (leads_agrees from to r (line s.concept AtLeast z)).1 (refl, (s.part, s.form, s.serves)), refl))
            (λ l h t. let d = (leads_agrees from to r l).0 t in record { concept = l.concept; part = d.1.0; form = d.1.1; stands = at_least from l h d.0; serves = d.1.2 })
            (pos 0);
        is = refl;
      }

  -- inside the sheet the degree is as computed, outside it is 0
  inside : (r : Bool) (P : ℤ → Type 0) (v : ℕ) → r ≡ true → DegreeOf b.fineness P v → DegreeOf b.fineness P (cond r v 0)
  inside r P v e d = subst (λ t. DegreeOf b.fineness P (cond t v 0)) (sym e) d

  outside : (r : Bool) (v : ℕ) → r ≡ false → cond r v 0 ≡ 0
  outside r v e = ap (λ t. cond t v 0) e

  pub reads_out : ReadOut b sheet (read_out b sheet)
  reads_out =
      record {
        size = refl;
        top = refl;
        headings = λ p x lx. inside (ltb x (length sheet)) (Says b (label_at sheet x) p) _ (grind (arith, nat_tests)) (heading_of (label_at sheet x) p);
        roles = λ r x y lx ly. inside (ltb x (length sheet) && ltb y (length sheet)) (Leads b (label_at sheet x) (label_at sheet y) r) _
            ((both (Decides-ltb x (length sheet)) (Decides-ltb y (length sheet))).1 (lx, ly)) (role_of (label_at sheet x) (label_at sheet y) r);
        no_heading = λ p x h. outside (ltb x (length sheet)) _ (grind (arith, nat_tests));
        no_from = λ r x y h. outside (ltb x (length sheet) && ltb y (length sheet)) _ (grind (arith, nat_tests));
        no_to = λ r x y h. outside (ltb x (length sheet) && ltb y (length sheet)) _ (grind (arith, nat_tests));
      }

pub every_sheet_reads_out : EverySheetReadsOut
every_sheet_reads_out b sheet = (read_out b sheet, reads_out b sheet)
