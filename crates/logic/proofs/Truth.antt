-- In the holding read out of a standing sheet each line of each label is true; so it meets book and question at the root.
use Rattle.std.proofs.Common.{◌≡◌, ℕ, ◌*◌, ◌<◌, ◌≤◌, min, Bool, true, false, cond, List, [], ◌∷◌, length, ℤ, pos, negsuc, ◌+ℤ◌, ◌-ℤ◌, ◌≤ℤ◌, ◌<ℤ◌, sym, refl, ap, ◌∙◌, subst, inl, inr, arith}
use Prim.Native.Nat.{◌∣◌}
use lib.Signed.{lt_z}
use native.Mathlib.Decide.{dec_lt}
use native.Mathlib.Nat.{dvd-mul_left}
use Rattle.std.specs.List.{AllByRecursion}
use Rattle.std.proofs.lemmas.List.{get_or_past}
use Rattle.std.proofs.lemmas.Int.{ints, by_lt_z}
use Rattle.terms.specs.declared.concept.Concept.{Concept}
use Rattle.terms.specs.declared.concept.Concept.TheVariants.{Heading, Constant, Not, Less, Lesser, Exists}
use Rattle.terms.specs.declared.line.Side.{Side}
use Rattle.terms.specs.declared.line.Side.TheVariants.{AtLeast, AtMost}
use Rattle.terms.specs.declared.line.Line.{Line}
use Rattle.logic.specs.Books.{Book, StandsIn, concept_at, blank_inclusion, BuildsOn, Proper}
use Rattle.logic.specs.Holdings.{Holding, Within, form_degree, degree}
use Rattle.logic.specs.Meeting.{blank_question_line, Includes, Obeys, Answers}
use Rattle.logic.specs.Rounding.{halves}
use Rattle.logic.specs.Lines.{line, blank_line, HasLine, other, Keeps, Idle, AsStrong, Carries, half_line}
use Rattle.logic.specs.Clashes.{Clashing, Crosses, Broken}
use Rattle.logic.specs.Conclusions.{conclusions, Denies, Passes}
use Rattle.logic.specs.Entries.{Entry, label_at}
use Rattle.logic.specs.Standing.{Chooses, CarriesConclusions, LiesUnder, KeepsInclusion, Serves, Served, Settled}
use Rattle.logic.specs.ReadOut.{clamped, DegreeOf, Leads, ReadOut}
use Rattle.logic.specs.Theorems.{StandingIsMet}
use Rattle.logic.proofs.Members.{covering, each_has, each_from_has, each_weaker, any_from}
use Rattle.logic.proofs.Degrees.{below_ind, builds_at, most_bounds, most_under}
use Rattle.logic.proofs.Rounds.{unit_in, half_unit, half_at, half_fits, asked_rounds}

idle_kept : (n : ℕ) (s : Side) (z : ℤ) (v : ℕ) → v ≤ 2 * n → Idle n s z → Keeps s z v
idle_kept n AtLeast z v h i = omega (arith, ints)
idle_kept n AtMost z v h i = omega (arith, ints)

strong_kept : (s : Side) (y z : ℤ) (v : ℕ) → Keeps s y v → AsStrong s y z → Keeps s z v
strong_kept AtLeast y z v h i = omega (arith, ints)
strong_kept AtMost y z v h i = omega (arith, ints)

pub clamped_fits : (n : ℕ) (z : ℤ) → clamped n z ≤ 2 * n
clamped_fits n (pos v) = omega arith
clamped_fits n (negsuc v) = omega arith

clamped_over : (n : ℕ) (y z : ℤ) → z ≤ℤ y → z ≤ℤ pos (2 * n) → z ≤ℤ pos (clamped n y)
clamped_over n (pos v) z h l = omega (arith, ints)
clamped_over n (negsuc v) z h l = omega (arith, ints)

clamped_under : (n : ℕ) (y z : ℤ) → y ≤ℤ z → pos 0 ≤ℤ z → pos (clamped n y) ≤ℤ z
clamped_under n (pos v) z h l = omega (arith, ints)
clamped_under n (negsuc v) z h l = omega (arith, ints)

natural_from : (z : ℤ) → pos 0 ≤ℤ z → (t : ℕ) × (z ≡ pos t)
natural_from (pos t) h = (t, refl)
natural_from (negsuc t) h = absurd (omega (arith, ints))

-- a form other than the degree 0 stands
pub form_stands : (b : Book) (c : ℕ) → ¬ (concept_at b c ≡ Constant 0) → StandsIn b c
form_stands b c h = elim (dec_lt c (length b.concepts)) [ yes l ↦ l | no l ↦ absurd (h (get_or_past b.concepts c (Constant 0) (omega arith))) ]

heading_stands : (b : Book) (c p : ℕ) → concept_at b c ≡ Heading p → StandsIn b c
heading_stands b c p e = form_stands b c (λ f. (let z : ◌≡◌ {A = ℕ} 0 1 = cc in omega arith))

-- each heading is one concept
heading_once : (b : Book) → Proper b → (c d p : ℕ) → concept_at b c ≡ Heading p → concept_at b d ≡ Heading p → c ≡ d
heading_once b ok c d p e f = ok.different c d (heading_stands b c p e) (heading_stands b d p f) (e ∙ sym f)

pub read_within : (b : Book) (sheet : List Entry) (R : Holding) → ReadOut b sheet R → Within R
read_within b sheet R out = record { headings = headings; roles = roles }
  where
    fits : (P : ℤ → Type 0) (v : ℕ) → DegreeOf b.fineness P v → v ≤ R.top
    fits P v d = omega (arith, d.is, clamped_fits b.fineness d.bound, out.top)

    headings : (p x : ℕ) → R.heading p x ≤ R.top
    headings p x = elim (dec_lt x (length sheet)) [ yes l ↦ fits _ (R.heading p x) (out.headings p x l) | no l ↦ omega (arith, out.no_heading p x (omega arith)) ]

    roles : (r x y : ℕ) → R.role r x y ≤ R.top
    roles r x y =
        elim (dec_lt x (length sheet)) [
          | yes l ↦ elim (dec_lt y (length sheet)) [ yes m ↦ fits _ (R.role r x y) (out.roles r x y l m) | no m ↦ omega (arith, out.no_to r x y (omega arith)) ]
          | no l ↦ omega (arith, out.no_from r x y (omega arith))
        ]

module _ (b : Book) (ok : Proper b) (sheet : List Entry) (settled : (x : ℕ) → x < length sheet → Settled b sheet (label_at sheet x)) (R : Holding) (out : ReadOut b sheet R) where
  within : Within R
  within = read_within b sheet R out

  is_at : (c x : ℕ) (form : Concept) → concept_at b c ≡ form → degree b R c x ≡ form_degree R 2 form (degree b R) x
  is_at = half_at b ok R out.top

  fits_at : (c x : ℕ) → degree b R c x ≤ 2 * b.fineness
  fits_at = half_fits b ok R out.top within

  abbrev TrueOf : ℕ → Type 0
  TrueOf c = (x : ℕ) → x < length sheet → (s : Side) (z : ℤ) → HasLine (label_at sheet x) (line c s z) → Keeps s z (degree b R c x)

  carried : (l : Line) → TrueOf l.concept → (x : ℕ) → x < length sheet → Carries b.fineness (label_at sheet x) l →
      Keeps l.side l.bound (degree b R l.concept x)
  carried l t x lx (inl i) = idle_kept b.fineness l.side l.bound (degree b R l.concept x) (fits_at l.concept x) i
  carried l t x lx (inr a) =
      let h = covering (label_at sheet x) l a in
      strong_kept l.side h.0 l.bound (degree b R l.concept x) (t x lx l.side h.0 h.1) h.2

  module _ (x : ℕ) (lx : x < length sheet) where
    abbrev label : List Line
    label = label_at sheet x

    clear : (l : Line) → HasLine label l → ¬ Clashing b label l
    clear l h i = (settled x lx).clear (any_from blank_line (Clashing b label) label l h i)

    not_high : (c : ℕ) (z : ℤ) → HasLine label (line c AtLeast z) → z ≤ℤ pos (2 * b.fineness)
    not_high c z h = by_lt_z (pos (2 * b.fineness)) z (λ l. absurd (clear (line c AtLeast z) h (inl l))) (λ l. l)

    not_low : (c : ℕ) (z : ℤ) → HasLine label (line c AtMost z) → pos 0 ≤ℤ z
    not_low c z h = by_lt_z z (pos 0) (λ l. absurd (clear (line c AtMost z) h (inl l))) (λ l. l)

    not_crossed : (c : ℕ) (y z : ℤ) → HasLine label (line c AtLeast y) → HasLine label (line c AtMost z) → y ≤ℤ z
    not_crossed c y z h k =
        by_lt_z z y
        (λ l. absurd (clear (line c AtLeast y) h (inr (inr (any_from blank_line (Crosses (line c AtLeast y)) label (line c AtMost z) k (record { concept = refl; low = refl; high = refl; under = l }))))))
        (λ l. l)

    not_broken : (c k : ℕ) (s : Side) (z : ℤ) → HasLine label (line c s z) → concept_at b c ≡ Constant k → Keeps s z (2 * k)
    not_broken c k s z h e = by_side s (λ n. clear (line c s z) h (inr (inl (subst (λ f. Broken f s z) (sym e) n))))
      where
        by_side : (t : Side) → ¬ ¬ Keeps t z (2 * k) → Keeps t z (2 * k)
        by_side AtLeast n = by_lt_z (pos (2 * k)) z (λ l. absurd (n (λ m. omega (arith, ints)))) (λ l. l)
        by_side AtMost n = by_lt_z z (pos (2 * k)) (λ l. absurd (n (λ m. omega (arith, ints)))) (λ l. l)

    carries_conclusions : (l : Line) → HasLine label l → CarriesConclusions b label l
    carries_conclusions l h = each_has blank_line (CarriesConclusions b label) label l (settled x lx).conclusions h

    concludes : (c : ℕ) (s : Side) (z : ℤ) (form : Concept) → HasLine label (line c s z) → concept_at b c ≡ form →
        AllByRecursion (Carries b.fineness label) (conclusions b.fineness form s z)
    concludes c s z form h e = subst (λ f. AllByRecursion (Carries b.fineness label) (conclusions b.fineness f s z)) e (carries_conclusions (line c s z) h).all

    chooses : (c : ℕ) (s : Side) (z : ℤ) (form : Concept) → HasLine label (line c s z) → concept_at b c ≡ form → Chooses b.fineness label form s z
    chooses c s z form h e = subst (λ f. Chooses b.fineness label f s z) e (carries_conclusions (line c s z) h).one

    module _ (c : ℕ) (ih : (d : ℕ) → d < c → TrueOf d) where
      on_heading : (p : ℕ) → concept_at b c ≡ Heading p → (s : Side) (z : ℤ) → HasLine label (line c s z) → Keeps s z (degree b R c x)
      on_heading p e AtLeast z h =
          let d = out.headings p x lx in
          let g = clamped_over b.fineness d.bound z (d.greatest.bounds z (record { concept = c; form = e; stands = h })) (not_high c z h) in
          subst (λ v. z ≤ℤ pos v) (sym (is_at c x (Heading p) e ∙ d.is)) g
      on_heading p e AtMost z h =
          let low = not_low c z h in
          let d = out.headings p x lx in
          let under : d.bound ≤ℤ z = elim d.greatest.reached [
            | inl none ↦ subst (λ y. y ≤ℤ z) (sym none) low
            | inr some ↦ not_crossed c d.bound z (subst (λ a. HasLine label (line a AtLeast d.bound)) (heading_once b ok some.concept c p some.form e) some.stands) h
          ] in
          subst (λ v. pos v ≤ℤ z) (sym (is_at c x (Heading p) e ∙ d.is)) (clamped_under b.fineness d.bound z under low)

      on_not : (d : ℕ) → concept_at b c ≡ Not d → d < c → (s : Side) (z : ℤ) → HasLine label (line c s z) → Keeps s z (degree b R c x)
      on_not d e lt s z h = go s (carried (line d (other s) (pos (2 * b.fineness) -ℤ z)) (ih d lt) x lx (concludes c s z (Not d) h e).0) h
        where
          go : (s : Side) → Keeps (other s) (pos (2 * b.fineness) -ℤ z) (degree b R d x) → HasLine label (line c s z) → Keeps s z (degree b R c x)
          go AtLeast k h = omega (arith, ints, is_at c x (Not d) e, out.top)
          go AtMost k h = omega (arith, ints, is_at c x (Not d) e, out.top, not_low c z h)

      on_less : (d k : ℕ) → concept_at b c ≡ Less d k → d < c → (s : Side) (z : ℤ) → HasLine label (line c s z) → Keeps s z (degree b R c x)
      on_less d k e lt AtLeast z h = go (lt_z z (pos 1)) refl (concludes c AtLeast z (Less d k) h e)
        where
          go : (t : Bool) → lt_z z (pos 1) ≡ t → AllByRecursion (Carries b.fineness label) (cond t [] (line d AtLeast (z +ℤ pos (2 * k)) ∷ [])) → Keeps AtLeast z (degree b R c x)
          go true i a = omega (arith, ints)
          go false i a =
              let m = carried (line d AtLeast (z +ℤ pos (2 * k))) (ih d lt) x lx a.0 in
              omega (arith, ints, is_at c x (Less d k) e)
      on_less d k e lt AtMost z h =
          let m = carried (line d AtMost (z +ℤ pos (2 * k))) (ih d lt) x lx (concludes c AtMost z (Less d k) h e).0 in
          omega (arith, ints, is_at c x (Less d k) e, not_low c z h)

      on_lesser : (d f : ℕ) → concept_at b c ≡ Lesser d f → d < c → f < c → (s : Side) (z : ℤ) → HasLine label (line c s z) → Keeps s z (degree b R c x)
      on_lesser d f e ld lf AtLeast z h =
          let all = concludes c AtLeast z (Lesser d f) h e in
          let k = carried (line d AtLeast z) (ih d ld) x lx all.0 in
          let m = carried (line f AtLeast z) (ih f lf) x lx all.1.0 in
          omega (arith, ints, is_at c x (Lesser d f) e)
      on_lesser d f e ld lf AtMost z h =
          elim (chooses c AtMost z (Lesser d f) h e) [
            | inl k ↦ omega (arith, ints, is_at c x (Lesser d f) e, carried (line d AtMost z) (ih d ld) x lx k)
            | inr k ↦ omega (arith, ints, is_at c x (Lesser d f) e, carried (line f AtMost z) (ih f lf) x lx k)
          ]

      on_exists : (r d : ℕ) → concept_at b c ≡ Exists r d → d < c → (s : Side) (z : ℤ) → HasLine label (line c s z) → Keeps s z (degree b R c x)
      on_exists r d e lt AtLeast z h = by_lt_z z (pos 1) (λ l. omega (arith, ints)) to
        where
          to : pos 1 ≤ℤ z → Keeps AtLeast z (degree b R c x)
          to one =
              let some = each_has blank_line (Served b sheet label) label (line c AtLeast z) (settled x lx).served h r d e refl one in
              let y = some.0 in
              let serves : Serves b label r d z (label_at sheet y) = some.2 in
              let part : z ≤ℤ pos (degree b R d y) = carried (line d AtLeast z) (ih d lt) y some.1 (serves (line d AtLeast z) (inl refl)) in
              let role = out.roles r x y lx some.1 in
              let led : z ≤ℤ pos (R.role r x y) = subst (λ v. z ≤ℤ pos v) (sym role.is)
              (clamped_over b.fineness role.bound z (role.greatest.bounds z (record { concept = c; part = d; form = e; stands = h; serves = serves })) (not_high c z h)) in
              let most = most_bounds R.size (λ y. min (R.role r x y) (degree b R d y)) y (omega (arith, out.size, some.1)) in
              omega (arith, ints, is_at c x (Exists r d) e)
      on_exists r d e lt AtMost z h =
          let n = natural_from z (not_low c z h) in
          let most = most_under R.size (λ y. min (R.role r x y) (degree b R d y)) n.0 (λ y ly. one n.0 n.1 y (omega (arith, out.size))) in
          omega (arith, ints, n.1, is_at c x (Exists r d) e)
        where
          one : (t : ℕ) → z ≡ pos t → (y : ℕ) → y < length sheet → min (R.role r x y) (degree b R d y) ≤ t
          one t is y ly = by_lt_z z role.bound under over
            where
              role : DegreeOf b.fineness (Leads b label (label_at sheet y) r) (R.role r x y)
              role = out.roles r x y lx ly

              -- the bound that leads to y is above z: then y carries what the line denies
              under : z <ℤ role.bound → min (R.role r x y) (degree b R d y) ≤ t
              under l =
                  elim role.greatest.reached [
                    | inl none ↦ absurd (let low = not_low c z h in let at : z <ℤ pos 0 = subst (λ y. z <ℤ y) none l in omega (arith, ints))
                    | inr some ↦ (
                        let denied : Passes b label r some.part role.bound (line d AtMost z) =
                        inr (any_from blank_line (λ m. Denies b r role.bound m (line d AtMost z)) label (line c AtMost z) h (record { form = e; high = refl; under = l; side = refl; bound = refl })) in
                        let low : pos (degree b R d y) ≤ℤ z = carried (line d AtMost z) (ih d lt) y ly (some.serves (line d AtMost z) denied) in
                        omega (arith, ints))
                  ]

              over : role.bound ≤ℤ z → min (R.role r x y) (degree b R d y) ≤ t
              over l =
                  let low = clamped_under b.fineness role.bound z l (not_low c z h) in
                  omega (arith, ints, role.is)

      by_form : (form : Concept) → concept_at b c ≡ form → BuildsOn b.fineness c form → (s : Side) (z : ℤ) → HasLine label (line c s z) → Keeps s z (degree b R c x)
      by_form (Heading p) e l s z h = on_heading p e s z h
      by_form (Constant k) e l s z h = subst (Keeps s z) (let i : 2 * k ≡ k * 2 = omega arith in i ∙ sym (is_at c x (Constant k) e)) (not_broken c k s z h e)
      by_form (Not d) e l s z h = on_not d e l s z h
      by_form (Less d k) e l s z h = on_less d k e l.0 s z h
      by_form (Lesser d f) e l s z h = on_lesser d f e l.0 l.1 s z h
      by_form (Exists r d) e l s z h = on_exists r d e l s z h

  -- each line of a label is true of its entry
  pub true_of : (c : ℕ) → TrueOf c
  true_of = below_ind TrueOf (λ c ih x lx s z h. by_form x lx c ih (concept_at b c) refl (builds_at b ok c) s z h)

  carried_true : (x : ℕ) → x < length sheet → (l : Line) → Carries b.fineness (label_at sheet x) l → Keeps l.side l.bound (degree b R l.concept x)
  carried_true x lx l h = carried l (true_of l.concept) x lx h

  -- a lower concept's degree is at most its smallest at-most bound, and an upper's at least its greatest at-least bound
  read_obeys : Obeys b R
  read_obeys =
      each_from_has blank_inclusion (Includes b R) b.inclusions
      (λ i has un x lx.
      let at : x < length sheet = omega (arith, out.size) in
      let u : LiesUnder b.fineness (label_at sheet x) i = each_has blank_inclusion (KeepsInclusion b.fineness (label_at sheet x)) b.inclusions i (settled x at).inclusions has un in
      let low : pos (degree b R i.lower x) ≤ℤ u.high = elim u.smallest.reached [
        | inl e ↦ subst (λ z. pos (degree b R i.lower x) ≤ℤ z) (sym e) (let f = fits_at i.lower x in omega (arith, ints))
        | inr h ↦ true_of i.lower x at AtMost u.high h
      ] in
      let high : u.low ≤ℤ pos (degree b R i.upper x) = elim u.greatest.reached [
        | inl e ↦ subst (λ z. z ≤ℤ pos (degree b R i.upper x)) (sym e) (omega (arith, ints))
        | inr h ↦ true_of i.upper x at AtLeast u.low h
      ] in
      omega (arith, ints, u.under))

halves_two : (v : ℕ) → halves 2 v ≡ v
halves_two v = omega arith

pub standing_is_met : StandingIsMet
standing_is_met b question sheet root ok standing fits R out =
    let two : unit_in b R ≡ 2 = half_unit b ok R out.top in
    let settled = λ (x : ℕ) (lx : x < length sheet). (standing x lx).settled in
    record {
      within = read_within b sheet R out;
      meets = record {
        here = omega (arith, out.size, fits.stands);
        scale = record { some = omega (arith, out.top, ok.fine); divides = subst (λ t. b.fineness ∣ t) (sym out.top) (dvd-mul_left b.fineness 2) };
        obeys = read_obeys b ok sheet settled R out;
        answers =
            each_weaker blank_question_line (λ q. Carries b.fineness (label_at sheet root) (half_line q)) (Answers b R root)
            (λ q h.
            let v = degree b R q.concept root in
            let k = carried_true b ok sheet settled R out root fits.stands (half_line q) h in
            let law = asked_rounds (unit_in b R) (omega arith) q.comparison q.degree v in
            law.1 (subst (Keeps (half_line q).side (half_line q).bound) (sym (ap (λ u. halves u v) two ∙ halves_two v)) k))
            question fits.carries;
      };
    }
