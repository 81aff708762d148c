-- The sheet drawn up from a holding obeys the standing rules and fits, and its read-out has the rounded degrees.
use Rattle.std.proofs.Common.{◌≡◌, ℕ, ◌*◌, ◌<◌, ◌≤◌, Bool, true, false, cond, List, [], ◌∷◌, length, ℤ, pos, ◌+ℤ◌, ◌≤ℤ◌, sym, refl, ap, ◌∙◌, subst, inl, inr, arith}
use lib.Signed.{lt_z}
use native.Mathlib.Decide.{dec_lt, dec_le}
use Rattle.std.specs.List.{AllByRecursion}
use Rattle.std.proofs.lemmas.List.FromFn.{length-map-range_with_len, get_or-map-range_with_len}
use Rattle.std.proofs.lemmas.Int.{ints, by_lt_z}
use Rattle.terms.specs.declared.concept.Concept.{Concept}
use Rattle.terms.specs.declared.concept.Concept.TheVariants.{Heading, Constant, Not, Less, Lesser, Exists}
use Rattle.terms.specs.declared.concept.Inclusion.{Inclusion}
use Rattle.terms.specs.declared.line.Side.{Side}
use Rattle.terms.specs.declared.line.Side.TheVariants.{AtLeast, AtMost}
use Rattle.terms.specs.declared.line.Line.{Line}
use Rattle.logic.specs.Places.{Any}
use Rattle.logic.specs.Books.{Book, StandsIn, concept_at, blank_inclusion, BuildsOn, Proper}
use Rattle.logic.specs.Holdings.{Holding, Within, degree}
use Rattle.logic.specs.Meeting.{blank_question_line, Includes, Obeys, Answers}
use Rattle.logic.specs.Lines.{line, blank_line, EachLine, HasLine, Keeps, AsStrong, Covers, Carries, half_line}
use Rattle.logic.specs.Conclusions.{conclusions, conclusions_of, Denies, Passes}
use Rattle.logic.specs.Entries.{Entry, blank_entry, entry_at, label_at, InRange, Faultless, Bare}
use Rattle.logic.specs.Standing.{Chooses, CarriesConclusions, Smallest, Greatest, KeepsInclusion, Serves, Served, Settled, Standing}
use Rattle.logic.specs.ReadOut.{ReadOut}
use Rattle.logic.specs.Drawing.{drawn_entry, drawn_up}
use Rattle.logic.specs.Theorems.{DrawnUpIsAccepted}
use Rattle.logic.proofs.Members.{each_has, each_from_has, any_from, any_which, all_among, all_from_among}
use Rattle.logic.proofs.Degrees.{builds_at}
use Rattle.logic.proofs.Rounds.{halved, halved_within, half_at, half_fits, unit_divides, degree_rounds}
use Rattle.logic.proofs.Keeping.{Kept, concluded_kept, no_clash, passed_kept}
use Rattle.logic.proofs.Unmet.{halved_obeys, halved_answers}
use Rattle.logic.proofs.Truth.{read_within, true_of}
use Rattle.logic.proofs.Told.{Told, IsBelow, told_each, told_line, below_rises}

-- conclusions are on parts
conclusions_lower : (n c : ℕ) (form : Concept) (s : Side) (z : ℤ) → BuildsOn n c form → AllByRecursion (λ l. l.concept < c) (conclusions n form s z)
conclusions_lower n c (Heading p) s z l = tt
conclusions_lower n c (Constant k) s z l = tt
conclusions_lower n c (Not d) s z l = (l, tt)
conclusions_lower n c (Less d k) AtLeast z l = go (lt_z z (pos 1))
  where
    go : (t : Bool) → AllByRecursion (λ l. l.concept < c) (cond t [] (line d AtLeast (z +ℤ pos (2 * k)) ∷ []))
    go true = tt
    go false = (l.0, tt)
conclusions_lower n c (Less d k) AtMost z l = (l.0, tt)
conclusions_lower n c (Lesser d e) AtLeast z l = (l.0, (l.1, tt))
conclusions_lower n c (Lesser d e) AtMost z l = tt
conclusions_lower n c (Exists r d) s z l = tt

told_keeps : (n v : ℕ) (s : Side) (z : ℤ) → Told n v s z → Keeps s z v
told_keeps n v AtLeast z t = omega (arith, ints, t.0)
told_keeps n v AtMost z t = omega (arith, ints, t.0)

told_range : (n v : ℕ) (s : Side) (z : ℤ) → n ≤ 1000 → v ≤ 2 * n → Told n v s z → InRange z
told_range n v AtLeast z h k t = record { low = omega (arith, ints, t.0); high = omega (arith, ints, t.0) }
told_range n v AtMost z h k t = record { low = omega (arith, ints, t.0); high = omega (arith, ints, t.0) }

module _ (b : Book) (ok : Proper b) (H : Holding) where
  abbrev G : Holding
  G = halved b H

  abbrev sheet : List Entry
  sheet = drawn_up b H

  -- the label of y
  abbrev label : ℕ → List Line
  label y = (drawn_entry b H y).label

  within : Within G
  within = halved_within b H

  halfs : G.top ≡ 2 * b.fineness
  halfs = refl

  many : length sheet ≡ H.size
  many = length-map-range_with_len (drawn_entry b H) 0 H.size

  entry_is : (y : ℕ) → y < H.size → entry_at sheet y ≡ drawn_entry b H y
  entry_is y ly = get_or-map-range_with_len (drawn_entry b H) 0 H.size y y blank_entry ly (omega arith)

  told_at : (y : ℕ) (l : Line) → HasLine (label y) l → (l.concept < length b.concepts) × Told b.fineness (degree b G l.concept y) l.side l.bound
  told_at y l h = each_has blank_line (IsBelow b.fineness (λ c. degree b G c y) (length b.concepts)) (label y) l (told_each b.fineness (λ c. degree b G c y) (length b.concepts)) h

  has_told : (y c : ℕ) → StandsIn b c → (s : Side) (z : ℤ) → Told b.fineness (degree b G c y) s z → HasLine (label y) (line c s z)
  has_told y c h s z t = told_line b.fineness (λ c. degree b G c y) (length b.concepts) c h s z t

  kept : (y : ℕ) (l : Line) → HasLine (label y) l → Kept b G y l
  kept y l h = told_keeps b.fineness (degree b G l.concept y) l.side l.bound (told_at y l h).1

  all_kept : (y : ℕ) → EachLine (Kept b G y) (label y)
  all_kept y = each_from_has blank_line (Kept b G y) (label y) (kept y)

  stands_at : (y : ℕ) (l : Line) → HasLine (label y) l → StandsIn b l.concept
  stands_at y l h = (told_at y l h).0

  covered : (y c : ℕ) (s : Side) (z : ℤ) → StandsIn b c → AsStrong s (pos (degree b G c y)) z → Told b.fineness (degree b G c y) s (pos (degree b G c y)) →
      Carries b.fineness (label y) (line c s z)
  covered y c s z lc strong told =
      let v = pos (degree b G c y) in
      inr (any_from blank_line (λ m. Covers m (line c s z)) (label y) (line c s v) (has_told y c lc s v told) (record { concept = refl; side = refl; strong = strong }))

  -- the label of y carries what y keeps
  carry : (y c : ℕ) (s : Side) (z : ℤ) → StandsIn b c → Keeps s z (degree b G c y) → Carries b.fineness (label y) (line c s z)
  carry y c AtLeast z lc k = by_lt_z (pos 0) z (λ l. covered y c AtLeast z lc k (refl, omega (arith, ints))) (λ l. inl l)
  carry y c AtMost z lc k = by_lt_z z (pos (2 * b.fineness)) (λ l. covered y c AtMost z lc k (refl, omega (arith, ints))) (λ l. inl l)

  carry_line : (y : ℕ) (l : Line) → StandsIn b l.concept → Kept b G y l → Carries b.fineness (label y) l
  carry_line y l = carry y l.concept l.side l.bound

  module _ (y : ℕ) where
    concludes : (l : Line) → HasLine (label y) l → AllByRecursion (Carries b.fineness (label y)) (conclusions_of b l)
    concludes l has =
        let new = conclusions_of b l in
        let keep = concluded_kept b ok G within halfs y l (kept y l has) in
        let low = conclusions_lower b.fineness l.concept (concept_at b l.concept) l.side l.bound (builds_at b ok l.concept) in
        all_from_among (Carries b.fineness (label y)) new
        (λ m h. carry_line y m (omega (arith, stands_at y l has, all_among (λ m. m.concept < l.concept) new m low h)) (all_among (Kept b G y) new m keep h))

    chooses : (m : ℕ) (s : Side) (z : ℤ) (form : Concept) → concept_at b m ≡ form → HasLine (label y) (line m s z) → Chooses b.fineness (label y) form s z
    chooses m s z (Heading p) e h = tt
    chooses m s z (Constant k) e h = tt
    chooses m s z (Not c) e h = tt
    chooses m s z (Less c k) e h = tt
    chooses m AtLeast z (Lesser c d) e h = tt
    chooses m AtMost z (Lesser c d) e h =
        let k : pos (degree b G m y) ≤ℤ z = kept y (line m AtMost z) h in
        let lm = stands_at y (line m AtMost z) h in
        let is = half_at b ok G halfs m y (Lesser c d) e in
        let low : BuildsOn b.fineness m (Lesser c d) = subst (BuildsOn b.fineness m) e (builds_at b ok m) in
        elim (dec_le (degree b G c y) (degree b G d y)) [
          | yes l ↦ inl (carry y c AtMost z (omega (arith, low.0)) (omega (arith, ints)))
          | no l ↦ inr (carry y d AtMost z (omega (arith, low.1)) (omega (arith, ints)))
        ]
    chooses m s z (Exists r c) e h = tt

    carries_conclusions : (l : Line) → HasLine (label y) l → CarriesConclusions b (label y) l
    carries_conclusions l h = record { all = concludes l h; one = chooses l.concept l.side l.bound (concept_at b l.concept) refl h }

    -- the degree of a concept is its smallest at-most bound and its greatest at-least bound
    smallest : (c : ℕ) → StandsIn b c → Smallest (λ z. HasLine (label y) (line c AtMost z)) (pos (2 * b.fineness)) (pos (degree b G c y))
    smallest c lc =
        record {
          bounds = λ z h. kept y (line c AtMost z) h;
          limit = let f = half_fits b ok G halfs within c y in omega (arith, ints);
          reached = elim (dec_lt (degree b G c y) (2 * b.fineness)) [ yes l ↦ inr (has_told y c lc AtMost (pos (degree b G c y)) (refl, l)) | no l ↦ inl (ap pos (let f = half_fits b ok G halfs within c y in omega arith)) ];
        }

    greatest : (c : ℕ) → StandsIn b c → Greatest (λ z. HasLine (label y) (line c AtLeast z)) (pos 0) (pos (degree b G c y))
    greatest c lc =
        record {
          bounds = λ z h. kept y (line c AtLeast z) h;
          limit = omega (arith, ints);
          reached = elim (dec_lt 0 (degree b G c y)) [ yes l ↦ inr (has_told y c lc AtLeast (pos (degree b G c y)) (refl, l)) | no l ↦ inl (ap pos (omega arith)) ];
        }

    keeps_inclusion : Obeys b G → y < H.size → (i : Inclusion) → Any blank_inclusion (λ j. j ≡ i) b.inclusions → KeepsInclusion b.fineness (label y) i
    keeps_inclusion obeys ly i has un =
        let le : degree b G i.lower y ≤ degree b G i.upper y = each_has blank_inclusion (Includes b G) b.inclusions i obeys has un y (omega (arith)) in
        let ins = each_has blank_inclusion (λ i. StandsIn b i.lower × StandsIn b i.upper) b.inclusions i ok.within has in
        record {
          high = pos (degree b G i.lower y);
          low = pos (degree b G i.upper y);
          smallest = smallest i.lower ins.0;
          greatest = greatest i.upper ins.1;
          under = omega (arith, ints);
        }

    served : (l : Line) → HasLine (label y) l → Served b sheet (label y) l
    served l has r c e side one =
        let m = l.concept in
        let z = l.bound in
        let at : HasLine (label y) (line m AtLeast z) = subst (λ s. HasLine (label y) (line m s z)) side has in
        let found = passed_kept b ok G within halfs (label y) y (all_kept y) m r c z at e one in
        let w = found.0 in
        let lw : w < H.size = omega (arith, found.1) in
        let lower : BuildsOn b.fineness m (Exists r c) = subst (BuildsOn b.fineness m) e (builds_at b ok m) in
        let stands : (k : Line) → Passes b (label y) r c z k → StandsIn b k.concept = λ k p. elim p [
          | inl q ↦ omega (arith, lower, stands_at y l has, ap (λ n. n.concept) q)
          | inr d ↦ (
              let v = any_which blank_line (λ n. Denies b r z n k) (label y) d in
              let part : BuildsOn b.fineness v.0.concept (Exists r k.concept) = subst (BuildsOn b.fineness v.0.concept) v.2.form (builds_at b ok v.0.concept) in
              omega (arith, part, stands_at y v.0 v.1))
        ] in
        let serves : Serves b (label y) r c z (entry_at sheet w).label = λ k p. subst (λ e. Carries b.fineness e.label k) (sym (entry_is w lw)) (carry_line w k (stands k p) (found.2 k p)) in
        (w, omega (arith, many), serves)

    faultless : Faultless b (drawn_entry b H y)
    faultless =
        record {
          lies = refl;
          rises = below_rises b.fineness (λ c. degree b G c y) (length b.concepts);
          ranges = each_from_has blank_line (λ l. InRange l.bound) (label y)
              (λ l h. told_range b.fineness (degree b G l.concept y) l.side l.bound ok.coarse (half_fits b ok G halfs within l.concept y) (told_at y l h).1);
          stands = each_from_has blank_line (λ l. StandsIn b l.concept) (label y) (stands_at y);
        }

    settled : Obeys b G → y < H.size → Settled b sheet (label y)
    settled obeys ly =
        record {
          clear = no_clash b ok G within halfs (label y) y (all_kept y);
          conclusions = each_from_has blank_line (CarriesConclusions b (label y)) (label y) carries_conclusions;
          inclusions = each_from_has blank_inclusion (KeepsInclusion b.fineness (label y)) b.inclusions (keeps_inclusion obeys ly);
          served = each_from_has blank_line (Served b sheet (label y)) (label y) served;
        }

  standing : Obeys b G → Standing b sheet
  standing obeys y ly =
      let in_size : y < H.size = omega (arith, many) in
      let is = entry_is y in_size in
      record {
        faultless = subst (Faultless b) (sym is) (faultless y);
        letter = ap (λ e. e.head.letter) is;
        unused = subst (λ e. Bare e.head) (sym is) (record { place = refl; first = refl; second = refl; inclusion = refl; step = refl });
        settled = subst (λ e. Settled b sheet e.label) (sym is) (settled y obeys in_size);
      }

  -- two degrees of at most twice the fineness that keep the same lines are the same
  read_back : Standing b sheet → (R : Holding) → ReadOut b sheet R → (c y : ℕ) → StandsIn b c → y < H.size → degree b R c y ≡ degree b G c y
  read_back stands R out c y lc ly =
      let v = degree b G c y in
      let truth : (s : Side) → Told b.fineness v s (pos v) → Keeps s (pos v) (degree b R c y) = λ s t.
      true_of b ok sheet (λ x lx. (stands x lx).settled) R out c y (omega (arith, many)) s (pos v)
      (subst (λ e. HasLine e.label (line c s (pos v))) (sym (entry_is y ly)) (has_told y c lc s (pos v) t)) in
      let low : v ≤ degree b R c y = elim (dec_lt 0 v) [ yes p ↦ (let k : pos v ≤ℤ pos (degree b R c y) = truth AtLeast (refl, p) in omega (arith, ints)) | no p ↦ omega arith ] in
      let high : degree b R c y ≤ v = elim (dec_lt v (2 * b.fineness)) [
        | yes p ↦ (let k : pos (degree b R c y) ≤ℤ pos v = truth AtMost (refl, p) in omega (arith, ints))
        | no p ↦ omega (arith, half_fits b ok R out.top (read_within b sheet R out) c y)
      ] in
      omega arith

pub drawn_up_is_accepted : DrawnUpIsAccepted
drawn_up_is_accepted b question ok asks H within x meets =
    let scale = unit_divides b.fineness H.top ok.fine meets.scale in
    let obeyed = standing b ok H (halved_obeys b ok H within scale meets.obeys) in
    record {
      standing = obeyed;
      fits = record {
        stands = omega (arith, many b ok H, meets.here);
        carries =
            each_from_has blank_question_line (λ q. Carries b.fineness (label_at (drawn_up b H) x) (half_line q)) question
            (λ q has.
            subst (λ e. Carries b.fineness e.label (half_line q)) (sym (entry_is b ok H x meets.here))
            (carry_line b ok H x (half_line q) (each_has blank_question_line (λ q. StandsIn b q.concept) question q asks has)
            (halved_answers b question H x ok within meets q (each_has blank_question_line (Answers b H x) question q meets.answers has))));
      };
      degrees = λ R out c y lc ly. read_back b ok H obeyed R out c y lc ly ∙ degree_rounds b H scale ok within c y;
    }
