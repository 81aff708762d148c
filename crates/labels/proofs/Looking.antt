-- Looking up in a rising label.
use Rattle.std.proofs.Common.{◌≡◌, ℕ, ◌+◌, ◌-◌, ◌<◌, ◌≤◌, Bool, true, false, nat_lt, ◌==◌, ◌&&◌, ◌||◌, ◌⊎◌, List, length, Bor, Option, Some, None, Result, Ok, Err, is_ok, Decides, sym, refl, ◌∙◌, subst, inl, inr, true≢false, slice_index_or, arith}
use Rattle.std.proofs.lemmas.Int.{ints}
use Rattle.std.proofs.lemmas.Bool.{cases_lt}
use Rattle.std.proofs.lemmas.Bool.Decides.{Decides-eqb, Decides-ltb}
use Rattle.std.proofs.lemmas.List.{get_or_default}
use Rattle.std.proofs.lemmas.Fn.{always_returns_same}
use Rattle.std.proofs.lemmas.List.Sorted.{IsPartitionPoint-from_clause}
use Rattle.std.specs.Fn.{Called, ComputesKey, ComputesOnPairs}
use Rattle.std.specs.List.{IsAllAdjacentAnswer}
use Rattle.std.specs.List.Sorted.{IsPartitionedBy, IsPartitionPoint}
use Rattle.std.specs.declared.cmp.Ordering.{Ordering}
use Rattle.std.specs.declared.cmp.Ordering.TheVariants.{Equal}
use denote.Param.Members.{Mut}
use Rattle.row.specs.Order.{Ascending, Missing}
use Rattle.row.specs.Search.{SearchSorted}
use Rattle.terms.specs.Lines.{line_order}
use Rattle.terms.specs.LineOrderLaws.{line_order_agrees}
use Rattle.terms.specs.declared.line.Side.{Side}
use Rattle.terms.specs.declared.line.Side.TheVariants.{AtLeast, AtMost}
use Rattle.terms.specs.declared.line.Line.{Line}
use Rattle.logic.specs.Lines.{line_at, blank_line, HasLine, AsStrong}
use Rattle.logic.specs.Entries.{BeforeSide, Before, Rises}
use Rattle.logic.specs.LineTests.{before_test, same_side}
use Rattle.logic.proofs.LinesAgree.{before_agrees, side_agrees, both, either}
use Rattle.labels.specs.Lookup.{On, LineOn, StrongestLine, Lower, Parted}
use Rattle.labels.proofs.Orders.{before_later, rising_ascends}

-- two answers that decide one thing are the same
same_answer : {P : Type 0} (b t : Bool) → Decides b P → Decides t P → b ≡ t
same_answer true t d h = sym (h.1 (d.0 refl))
same_answer false true d h = d.1 (h.0 refl)
same_answer false false d h = refl

-- ---- `is_sorted_by` with the order of lines
rising_answer : (lines : List Line) (r : Bool) → IsAllAdjacentAnswer (λ x y b. b ≡ before_test x y) lines r → Decides r (Rises lines)
rising_answer lines true h = (λ e k w. (before_agrees (line_at lines k) (line_at lines (k + 1))).0 (sym (h k blank_line w)), λ up. refl)
rising_answer lines false h = (
  λ e. absurd (true≢false (sym e)),
  λ up. absurd (true≢false (sym ((before_agrees (line_at lines h.0) (line_at lines (h.0 + 1))).1 (up h.0 h.1)) ∙ sym (h.2 blank_line))),
)

pub rising_by : {F : Type 0} {g : Mut F (Bor Line × (Bor Line × Unit {0})) Bool} {f : F} (lines : List Line) (r : Bool) → ((e : Line → Line → Bool) → ComputesOnPairs g e f → IsAllAdjacentAnswer (λ x y b. b ≡ e x y) lines r) → ((a : Bor Line × (Bor Line × Unit {0})) (b : Bool) (f' : F) → Called g f a b f' → Decides b (Before a.0.now a.1.0.now) × (f' ≡ f)) → Decides r (Rises lines)
rising_by lines r clause calls = rising_answer lines r (clause before_test (always_returns_same _ _ _ (λ a b q k. (same_answer b (before_test a.0.now a.1.0.now) (calls a b q k).0 (before_agrees a.0.now a.1.0.now), (calls a b q k).1))))

-- ---- `partition_point` with a test that passes to the lines before
module _ (P : Line → Type 0) (p : Line → Bool) (says : (m : Line) → Decides (p m) (P m)) (down : (l m : Line) → Before l m → P m → P l) (lines : List Line) (up : Rises lines) where
  divided : IsPartitionedBy p lines
  divided i j d le w h = subst (λ m. p m ≡ true) (sym (same i (omega arith))) (go (cases_lt i j))
    where
      same : (k : ℕ) → k < length lines → slice_index_or lines k d ≡ line_at lines k
      same k q = get_or_default lines k d blank_line q

      here : p (line_at lines j) ≡ true
      here = subst (λ m. p m ≡ true) (same j w) h

      go : (i < j) ⊎ (j ≤ i) → p (line_at lines i) ≡ true
      go (inl a) = (says (line_at lines i)).1 (down (line_at lines i) (line_at lines j) (before_later lines up i j a w) ((says (line_at lines j)).0 here))
      go (inr a) = let e : j ≡ i = omega arith in subst (λ k. p (line_at lines k) ≡ true) e here

  pub parted : {F : Type 0} {g : Mut F (Bor Line × Unit {0}) Bool} {f : F} (r : ℕ) → r ≤ length lines → ((q : Line → Bool) → ComputesKey g q f → IsPartitionedBy q lines → IsPartitionPoint (λ y. q y ≡ true) (λ y. q y ≡ false) lines r) → ((a : Bor Line × Unit {0}) (b : Bool) (f' : F) → Called g f a b f' → Decides b (P a.0.now) × (f' ≡ f)) → Parted P lines r
  parted r within clause calls =
      let point = IsPartitionPoint-from_clause p lines r clause divided (λ a b q k. (same_answer b (p a.0.now) (calls a b q k).0 (says a.0.now), (calls a b q k).1)) in
      record {
        within = within;
        front = λ k h. (says (line_at lines k)).0 (point.0 k blank_line (omega arith) h);
        back = λ k h w q. true≢false (sym ((says (line_at lines k)).1 q) ∙ point.1 k blank_line h w);
      }

-- what stands before a lower line is lower
side_low : (s t : Side) → BeforeSide s t → s ≡ AtLeast
side_low AtLeast t h = refl
side_low AtMost t h = absurd h

pub lower_before : (c : ℕ) (l m : Line) → Before l m → Lower c m → Lower c l
lower_before c l m (inl h) (inl k) = inl (omega arith)
lower_before c l m (inl h) (inr (e, k)) = inl (omega arith)
lower_before c l m (inr (e, h)) (inl k) = inl (omega arith)
lower_before c l m (inr (e, inl h)) (inr (f, k)) = inr (e ∙ f, side_low l.side m.side h)
lower_before c l m (inr (e, inr (s, h))) (inr (f, k)) = inr (e ∙ f, s ∙ k)

-- whether the line is lower
abbrev pub lower_test : ℕ → Line → Bool
lower_test c m = nat_lt m.concept c || (m.concept == c && same_side m.side AtLeast)

pub lower_agrees : (c : ℕ) (m : Line) → Decides (lower_test c m) (Lower c m)
lower_agrees c m = either (Decides-ltb m.concept c) (both (Decides-eqb m.concept c) (side_agrees m.side AtLeast))

-- ---- one line
-- `search` by an order that comes to that of lines
module _ (cmp : Line → Line → Ordering) (same : (l m : Line) → cmp l m ≡ line_order l m) (lines : List Line) (l : Line) where
  ascends : Rises lines → Ascending cmp lines
  ascends up i j d h w = same (slice_index_or lines i d) (slice_index_or lines j d) ∙ rising_ascends lines up i j d h w

  found : (r : Result ℕ ℕ) → SearchSorted cmp l lines r → Decides (is_ok r) (HasLine lines l)
  found (Ok i) f = (λ e. (i, f.within, (line_order_agrees (line_at lines i) l).0 (sym (same (line_at lines i) l) ∙ f.equal blank_line)), λ h. refl)
  found (Err i) m = (λ e. absurd (true≢false (sym e)), λ h. absurd (missed i m h.0 h.1 (same (line_at lines h.0) l ∙ (line_order_agrees (line_at lines h.0) l).1 h.2) (cases_lt h.0 i)))
    where
      missed : (i : ℕ) → Missing cmp l lines i → (k : ℕ) → k < length lines → cmp (line_at lines k) l ≡ Equal → (k < i) ⊎ (i ≤ k) → ⊥
      missed i m k w e (inl a) = let f = m.below k blank_line (omega arith) a in let z : ◌≡◌ {A = ℕ} 0 1 = cc in omega arith
      missed i m k w e (inr a) = let f = m.above k blank_line a w in let z : ◌≡◌ {A = ℕ} 0 1 = cc in omega arith

  pub searched_line : (r : Result ℕ ℕ) → Rises lines → (Ascending cmp lines → SearchSorted cmp l lines r) → Decides (is_ok r) (HasLine lines l)
  searched_line r up s = found r (s (ascends up))

-- ---- on the two sides of the turn
low_lower : (c : ℕ) (m : Line) → On c AtLeast m → Lower c m
low_lower c m o = inr (o.concept, o.side)

high_upper : (c : ℕ) (m : Line) → On c AtMost m → ¬ Lower c m
high_upper c m o (inl h) = omega (arith, o.concept)
high_upper c m o (inr (e, s)) = let f = o.side in let z : ◌≡◌ {A = ℕ} 0 1 = cc in omega arith

-- of two lines on one concept and side, the first is the lower bound
bound_before : (c : ℕ) (l m : Line) → l.concept ≡ c → m.concept ≡ c → l.side ≡ m.side → Before l m → AsStrong AtMost l.bound m.bound
bound_before c l m e f s (inl h) = absurd (omega (arith, e, f))
bound_before c l m e f s (inr (g, inl h)) = absurd (low_same l.side m.side s h)
  where
    low_same : (s t : Side) → s ≡ t → BeforeSide s t → ⊥
    low_same AtLeast AtLeast e h = h
    low_same AtLeast AtMost e h = let z : ◌≡◌ {A = ℕ} 0 1 = cc in omega arith
    low_same AtMost t e h = h
bound_before c l m e f s (inr (g, inr (t, h))) = omega (arith, ints, h)

-- a line before another is on no higher concept
concept_before : (l m : Line) → Before l m → l.concept ≤ m.concept
concept_before l m (inl h) = omega arith
concept_before l m (inr (e, h)) = omega arith

side_of : (s : Side) → (s ≡ AtLeast) ⊎ (s ≡ AtMost)
side_of AtLeast = inl refl
side_of AtMost = inr refl

module _ (lines : List Line) (c r : ℕ) (up : Rises lines) (t : Parted (Lower c) lines r) where
  place_low : (k : ℕ) → k < length lines → On c AtLeast (line_at lines k) → k < r
  place_low k w o = go (cases_lt k r)
    where
      go : (k < r) ⊎ (r ≤ k) → k < r
      go (inl a) = a
      go (inr a) = absurd (t.back k a w (low_lower c (line_at lines k) o))

  place_high : (k : ℕ) → On c AtMost (line_at lines k) → r ≤ k
  place_high k o = go (cases_lt k r)
    where
      go : (k < r) ⊎ (r ≤ k) → r ≤ k
      go (inl a) = absurd (high_upper c (line_at lines k) o (t.front k a))
      go (inr a) = a

  low_some : 0 < r → On c AtLeast (line_at lines (r - 1)) → StrongestLine lines (length lines) c AtLeast (Some (line_at lines (r - 1)))
  low_some p o = record { on = o; stands = (r - 1, omega (arith, t.within), refl); strong = λ k w q. go k w q (cases_lt k (r - 1)) }
    where
      go : (k : ℕ) → k < length lines → On c AtLeast (line_at lines k) → (k < r - 1) ⊎ (r - 1 ≤ k) → AsStrong AtLeast (line_at lines (r - 1)).bound (line_at lines k).bound
      go k w q (inl a) = bound_before c (line_at lines k) (line_at lines (r - 1)) q.concept o.concept (q.side ∙ sym o.side) (before_later lines up k (r - 1) a (omega (arith, t.within)))
      go k w q (inr a) = let h = place_low k w q in let e : r - 1 ≡ k = omega arith in subst (λ n. AsStrong AtLeast (line_at lines (r - 1)).bound (line_at lines n).bound) e (omega (arith, ints))

  low_none : 0 < r → ¬ On c AtLeast (line_at lines (r - 1)) → StrongestLine lines (length lines) c AtLeast None
  low_none p n k w q = go (cases_lt k (r - 1))
    where
      at : Lower c (line_at lines (r - 1)) → c ≤ (line_at lines (r - 1)).concept → ⊥
      at (inl h) g = omega arith
      at (inr (e, s)) g = n (record { concept = e; side = s })

      go : (k < r - 1) ⊎ (r - 1 ≤ k) → ⊥
      go (inl a) = at (t.front (r - 1) (omega arith)) (let h = concept_before (line_at lines k) (line_at lines (r - 1)) (before_later lines up k (r - 1) a (omega (arith, t.within))) in omega (arith, q.concept))
      go (inr a) = let h = place_low k w q in let e : k ≡ r - 1 = omega arith in n (subst (λ n. On c AtLeast (line_at lines n)) e q)

  pub low_line : (o : Option Line) → 0 < r → LineOn lines (r - 1) c AtLeast o → StrongestLine lines (length lines) c AtLeast o
  low_line None p h = low_none p (h (omega (arith, t.within)))
  low_line (Some m) p h = subst (λ x. StrongestLine lines (length lines) c AtLeast (Some x)) (sym h.1) (low_some p (subst (On c AtLeast) h.1 h.2))

  high_end : length lines ≤ r → StrongestLine lines (length lines) c AtMost None
  high_end e k w o = let h = place_high k o in omega arith

  high_some : r < length lines → On c AtMost (line_at lines r) → StrongestLine lines (length lines) c AtMost (Some (line_at lines r))
  high_some p o = record { on = o; stands = (r, p, refl); strong = λ k w q. go k w q (cases_lt r k) }
    where
      go : (k : ℕ) → k < length lines → On c AtMost (line_at lines k) → (r < k) ⊎ (k ≤ r) → AsStrong AtMost (line_at lines r).bound (line_at lines k).bound
      go k w q (inl a) = bound_before c (line_at lines r) (line_at lines k) o.concept q.concept (o.side ∙ sym q.side) (before_later lines up r k a w)
      go k w q (inr a) = let h = place_high k q in let e : r ≡ k = omega arith in subst (λ n. AsStrong AtMost (line_at lines r).bound (line_at lines n).bound) e (omega (arith, ints))

  high_none : r < length lines → ¬ On c AtMost (line_at lines r) → StrongestLine lines (length lines) c AtMost None
  high_none p n k w q = go (cases_lt r k)
    where
      at : ¬ Lower c (line_at lines r) → (line_at lines r).concept ≤ c → ⊥
      at h g =
          let e : (line_at lines r).concept ≡ c = (let f : (line_at lines r).concept < c → ⊥ = λ x. h (inl x) in omega arith) in
          elim (side_of (line_at lines r).side) [ inl s ↦ h (inr (e, s)) | inr s ↦ n (record { concept = e; side = s }) ]

      go : (r < k) ⊎ (k ≤ r) → ⊥
      go (inl a) = at (t.back r (omega arith) p) (let h = concept_before (line_at lines r) (line_at lines k) (before_later lines up r k a w) in omega (arith, q.concept))
      go (inr a) = let h = place_high k q in let e : k ≡ r = omega arith in n (subst (λ n. On c AtMost (line_at lines n)) e q)

  pub high_line : (o : Option Line) → LineOn lines r c AtMost o → StrongestLine lines (length lines) c AtMost o
  high_line None h = go (cases_lt r (length lines))
    where
      go : (r < length lines) ⊎ (length lines ≤ r) → StrongestLine lines (length lines) c AtMost None
      go (inl a) = high_none a (h a)
      go (inr a) = high_end a
  high_line (Some m) h = subst (λ x. StrongestLine lines (length lines) c AtMost (Some x)) (sym h.1) (high_some h.0 (subst (On c AtMost) h.1 h.2))
