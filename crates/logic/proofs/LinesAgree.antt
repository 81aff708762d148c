-- The computing forms of the relations on lists, lines and entries agree with them.
use Rattle.std.proofs.Common.{◌≡◌, ℕ, ◌+◌, ◌-◌, ◌*◌, ◌<◌, ◌≤◌, Bool, true, false, not, ◌&&◌, ◌||◌, T, leb, ◌⊎◌, List, [], ◌∷◌, length, ℤ, pos, negsuc, ◌≤ℤ◌, ◌<ℤ◌, Decides, sym, refl, ap, subst, arith}
use lib.Signed.{lt_z, le_z}
use Rattle.std.specs.List.{AllByRecursion}
use Rattle.std.proofs.ByRecursion.{All-get_or, All-from_get_or, Decides-by_and}
use Rattle.std.proofs.lemmas.List.{get_or_default}
use Rattle.std.proofs.lemmas.Int.{ints}
use Rattle.std.proofs.lemmas.Bool.{leb-true}
use Rattle.std.proofs.lemmas.Bool.Decides.{Decides-eqb, Decides-ltb, Decides-not, Decides-and, Decides-or, Decides-by_or, Decides-below_and, nat_tests}
use Rattle.terms.specs.declared.concept.Concept.{Concept}
use Rattle.terms.specs.declared.concept.Concept.TheVariants.{Heading, Constant, Not, Less, Lesser, Exists}
use Rattle.terms.specs.declared.line.Side.{Side}
use Rattle.terms.specs.declared.line.Side.TheVariants.{AtLeast, AtMost}
use Rattle.terms.specs.declared.line.Line.{Line}
use Rattle.terms.specs.declared.entry.Head.{Head}
use Rattle.logic.specs.Books.{Book, concept_at}
use Rattle.logic.specs.Places.{Each, Any}
use Rattle.logic.specs.Lines.{line, blank_line, line_at, HasLine, Keeps, Idle, AsStrong, Covers, Carries}
use Rattle.logic.specs.Clashes.{Beyond, Broken, Crosses, Clashes}
use Rattle.logic.specs.Conclusions.{Among, Denies, Passes}
use Rattle.logic.specs.Entries.{Entry, BeforeSide, Before, Rises, InRange, Faultless, Bare}
use Rattle.logic.specs.LineTests.{
  all_test,
  any_test,
  below_test,
  same_side,
  same_bound,
  same_line,
  has_test,
  among_test,
  keeps_test,
  idle_test,
  strong_test,
  covers_test,
  carries_test,
  beyond_test,
  broken_test,
  crosses_test,
  clashes_test,
  exists_test,
  denies_test,
  passes_test,
  before_side_test,
  before_test,
  rises_test,
  range_test,
  faultless_test,
  bare_test,
}

-- ---- how agreement is put together
-- what is decided may be said in other words
pub reword : {P Q : Type 0} {r : Bool} → Decides r P → (P → Q) → (Q → P) → Decides r Q
reword d f g = (λ e. f (d.0 e), λ q. d.1 (g q))

pub both : {P Q : Type 0} {x y : Bool} → Decides x P → Decides y Q → Decides (x && y) (P × Q)
both {x = x} {y = y} d e = Decides-and x y d e

pub either : {P Q : Type 0} {x y : Bool} → Decides x P → Decides y Q → Decides (x || y) (P ⊎ Q)
either {x = x} {y = y} d e = Decides-or x y d e

pub always : {P : Type 0} → P → Decides true P
always p = (λ _. p, λ _. refl)

pub never : {P : Type 0} → ¬ P → Decides false P
never n = (λ e. absurd (let z : ◌≡◌ {A = ℕ} 0 1 = cc in omega arith), λ p. absurd (n p))

pub is_true : (r : Bool) → Decides r (r ≡ true)
is_true r = (λ e. e, λ e. e)

pub is_false : (r : Bool) → Decides (not r) (r ≡ false)
is_false true = never (λ e. (let z : ◌≡◌ {A = ℕ} 0 1 = cc in omega arith))
is_false false = always refl

-- if the test fails or the conclusion is decided, the implication is
pub implies : {P Q : Type 0} {x y : Bool} → Decides x P → Decides y Q → Decides (not x || y) (P → Q)
implies {x = true} {y} d e = (λ t p. e.0 t, λ f. e.1 (f (d.0 refl)))
implies {x = false} {y} d e = (λ t p. absurd (let f = d.1 p in let z : ◌≡◌ {A = ℕ} 0 1 = cc in omega arith), λ f. refl)

-- the same of a mark that lets off
pub unless : {Q : Type 0} (x : Bool) {y : Bool} → Decides y Q → Decides (x || y) (x ≡ false → Q)
unless true d = always (λ e. absurd (let z : ◌≡◌ {A = ℕ} 0 1 = cc in omega arith))
unless false d = (λ t e. d.0 t, λ f. d.1 (f refl))

pub all_agrees : {X : Type 0} {p : X → Bool} {P : X → Type 0} → ((x : X) → Decides (p x) (P x)) → (xs : List X) → Decides (all_test p xs) (AllByRecursion P xs)
all_agrees {p = p} {P = P} each xs = Decides-by_and p P (all_test p) each refl (λ _ _. refl) xs

-- by places, whatever is read past the end
pub each_agrees : {X : Type 0} (d : X) {p : X → Bool} {P : X → Type 0} → ((x : X) → Decides (p x) (P x)) → (xs : List X) → Decides (all_test p xs) (Each d P xs)
each_agrees d {p = p} {P = P} each xs = reword (all_agrees {p = p} {P = P} each xs) (λ all k h. All-get_or P xs k d h all) (λ f. All-from_get_or P xs d f)

pub any_agrees : {X : Type 0} (d : X) {p : X → Bool} {P : X → Type 0} → ((x : X) → Decides (p x) (P x)) → (xs : List X) → Decides (any_test p xs) (Any d P xs)
any_agrees d {p = p} {P = P} each xs =
    reword (Decides-by_or p P (any_test p) each refl (λ _ _. refl) xs)
    (λ a. (a.0, a.1, a.2 d))
    (λ a. (a.0, a.1, λ e. subst P (get_or_default xs a.0 d e a.1) a.2))

pub below_agrees : {p : ℕ → Bool} {P : ℕ → Type 0} → ((k : ℕ) → Decides (p k) (P k)) → (n : ℕ) → Decides (below_test p n) ((k : ℕ) → k < n → P k)
below_agrees {p = p} {P = P} each n = Decides-below_and p P (below_test p) each refl (λ _. refl) n

-- ---- numbers and lines
pub le_agrees : (a b : ℕ) → Decides (leb a b) (a ≤ b)
le_agrees a b = (λ e. leb-true a b e, λ h. grind (arith, nat_tests))

pub leZ_agrees : (y z : ℤ) → Decides (le_z y z) (y ≤ℤ z)
leZ_agrees y z = (λ e. record { le = subst T (sym e) tt }, λ h. grind (arith, ints))

pub ltZ_agrees : (y z : ℤ) → Decides (lt_z y z) (y <ℤ z)
ltZ_agrees y z = (λ e. record { lt = subst T (sym e) tt }, λ h. grind (arith, ints))

pub side_agrees : (s t : Side) → Decides (same_side s t) (s ≡ t)
side_agrees AtLeast AtLeast = always refl
side_agrees AtLeast AtMost = never (λ e. (let z : ◌≡◌ {A = ℕ} 0 1 = cc in omega arith))
side_agrees AtMost AtLeast = never (λ e. (let z : ◌≡◌ {A = ℕ} 0 1 = cc in omega arith))
side_agrees AtMost AtMost = always refl

pub bound_agrees : (y z : ℤ) → Decides (same_bound y z) (y ≡ z)
bound_agrees y z = reword (both (leZ_agrees y z) (leZ_agrees z y)) (λ p. omega (arith, ints, p.0, p.1)) (λ e. (omega (arith, ints), omega (arith, ints)))

pub line_agrees : (l m : Line) → Decides (same_line l m) (l ≡ m)
line_agrees l m =
    reword (both (Decides-eqb l.concept m.concept) (both (side_agrees l.side m.side) (bound_agrees l.bound m.bound)))
    (λ p i. record { concept = p.0 i; side = p.1.0 i; bound = p.1.1 i })
    (λ e. (ap (λ n. n.concept) e, (ap (λ n. n.side) e, ap (λ n. n.bound) e)))

pub has_agrees : (label : List Line) (l : Line) → Decides (has_test label l) (HasLine label l)
has_agrees label l = any_agrees blank_line (λ m. line_agrees m l) label

pub among_agrees : (ls : List Line) (l : Line) → Decides (among_test ls l) (Among ls l)
among_agrees [] l = never (λ e. e)
among_agrees (m ∷ ms) l = either (line_agrees l m) (among_agrees ms l)

pub keeps_agrees : (s : Side) (z : ℤ) (v : ℕ) → Decides (keeps_test s z v) (Keeps s z v)
keeps_agrees AtLeast z v = leZ_agrees z (pos v)
keeps_agrees AtMost z v = leZ_agrees (pos v) z

pub idle_agrees : (n : ℕ) (s : Side) (z : ℤ) → Decides (idle_test n s z) (Idle n s z)
idle_agrees n AtLeast z = leZ_agrees z (pos 0)
idle_agrees n AtMost z = leZ_agrees (pos (2 * n)) z

pub strong_agrees : (s : Side) (y z : ℤ) → Decides (strong_test s y z) (AsStrong s y z)
strong_agrees AtLeast y z = leZ_agrees z y
strong_agrees AtMost y z = leZ_agrees y z

covers_agrees : (m l : Line) → Decides (covers_test m l) (Covers m l)
covers_agrees m l =
    reword (both (Decides-eqb m.concept l.concept) (both (side_agrees m.side l.side) (strong_agrees l.side m.bound l.bound)))
    (λ p. record { concept = p.0; side = p.1.0; strong = p.1.1 })
    (λ c. (c.concept, (c.side, c.strong)))

pub carries_agrees : (n : ℕ) (label : List Line) (l : Line) → Decides (carries_test n label l) (Carries n label l)
carries_agrees n label l = either (idle_agrees n l.side l.bound) (any_agrees blank_line (λ m. covers_agrees m l) label)

-- ---- clashes
pub beyond_agrees : (n : ℕ) (s : Side) (z : ℤ) → Decides (beyond_test n s z) (Beyond n s z)
beyond_agrees n AtLeast z = ltZ_agrees (pos (2 * n)) z
beyond_agrees n AtMost z = ltZ_agrees z (pos 0)

broken_agrees : (form : Concept) (s : Side) (z : ℤ) → Decides (broken_test form s z) (Broken form s z)
broken_agrees (Heading p) s z = never (λ e. e)
broken_agrees (Constant k) s z = Decides-not (keeps_test s z (2 * k)) (keeps_agrees s z (2 * k))
broken_agrees (Not c) s z = never (λ e. e)
broken_agrees (Less c k) s z = never (λ e. e)
broken_agrees (Lesser c d) s z = never (λ e. e)
broken_agrees (Exists r c) s z = never (λ e. e)

crosses_agrees : (l m : Line) → Decides (crosses_test l m) (Crosses l m)
crosses_agrees l m =
    reword (both (Decides-eqb l.concept m.concept) (both (side_agrees l.side AtLeast) (both (side_agrees m.side AtMost) (ltZ_agrees m.bound l.bound))))
    (λ p. record { concept = p.0; low = p.1.0; high = p.1.1.0; under = p.1.1.1 })
    (λ c. (c.concept, (c.low, (c.high, c.under))))

pub clashes_agrees : (b : Book) (label : List Line) → Decides (clashes_test b label) (Clashes b label)
clashes_agrees b label =
    any_agrees blank_line
    (λ l. either (beyond_agrees b.fineness l.side l.bound) (either (broken_agrees (concept_at b l.concept) l.side l.bound) (any_agrees blank_line (crosses_agrees l) label)))
    label

-- ---- what is passed on
exists_agrees : (form : Concept) (r c : ℕ) → Decides (exists_test form r c) (form ≡ Exists r c)
exists_agrees (Heading p) r c = never (λ e. (let z : ◌≡◌ {A = ℕ} 0 1 = cc in omega arith))
exists_agrees (Constant k) r c = never (λ e. (let z : ◌≡◌ {A = ℕ} 0 1 = cc in omega arith))
exists_agrees (Not d) r c = never (λ e. (let z : ◌≡◌ {A = ℕ} 0 1 = cc in omega arith))
exists_agrees (Less d k) r c = never (λ e. (let z : ◌≡◌ {A = ℕ} 0 1 = cc in omega arith))
exists_agrees (Lesser d f) r c = never (λ e. (let z : ◌≡◌ {A = ℕ} 0 1 = cc in omega arith))
exists_agrees (Exists q d) r c = reword (both (Decides-eqb q r) (Decides-eqb d c)) (λ p. (let e = p.0 in let f = p.1 in cc)) (λ e. ((cc), (cc)))

denies_agrees : (b : Book) (r : ℕ) (z : ℤ) (m l : Line) → Decides (denies_test b r z m l) (Denies b r z m l)
denies_agrees b r z m l =
    reword (both (exists_agrees (concept_at b m.concept) r l.concept) (both (side_agrees m.side AtMost) (both (ltZ_agrees m.bound z) (both (side_agrees l.side AtMost) (bound_agrees l.bound m.bound)))))
    (λ p. record { form = p.0; high = p.1.0; under = p.1.1.0; side = p.1.1.1.0; bound = p.1.1.1.1 })
    (λ d. (d.form, (d.high, (d.under, (d.side, d.bound)))))

pub passes_agrees : (b : Book) (label : List Line) (r c : ℕ) (z : ℤ) (l : Line) → Decides (passes_test b label r c z l) (Passes b label r c z l)
passes_agrees b label r c z l = either (line_agrees l (line c AtLeast z)) (any_agrees blank_line (λ m. denies_agrees b r z m l) label)

-- ---- faults
before_side_agrees : (s t : Side) → Decides (before_side_test s t) (BeforeSide s t)
before_side_agrees AtLeast AtLeast = never (λ e. e)
before_side_agrees AtLeast AtMost = always tt
before_side_agrees AtMost t = never (λ e. e)

pub before_agrees : (l m : Line) → Decides (before_test l m) (Before l m)
before_agrees l m =
    either (Decides-ltb l.concept m.concept)
    (both (Decides-eqb l.concept m.concept) (either (before_side_agrees l.side m.side) (both (side_agrees l.side m.side) (ltZ_agrees l.bound m.bound))))

pub rises_agrees : (label : List Line) → Decides (rises_test label) (Rises label)
rises_agrees label =
    reword (below_agrees (λ k. before_agrees (line_at label k) (line_at label (k + 1))) (length label - 1))
    (λ f k h. f k (omega arith))
    (λ f k h. f k (omega arith))

pub range_agrees : (z : ℤ) → Decides (range_test z) (InRange z)
range_agrees z = reword (both (leZ_agrees (negsuc 0) z) (leZ_agrees z (pos 4_000))) (λ p. record { low = p.0; high = p.1 }) (λ r. (r.low, r.high))

pub faultless_agrees : (b : Book) (e : Entry) → Decides (faultless_test b e) (Faultless b e)
faultless_agrees b e =
    reword
    (both (is_true e.lies) (both (rises_agrees e.label)
    (both (each_agrees blank_line (λ (l : Line). range_agrees l.bound) e.label) (each_agrees blank_line (λ (l : Line). Decides-ltb l.concept (length b.concepts)) e.label))))
    (λ p. record { lies = p.0; rises = p.1.0; ranges = p.1.1.0; stands = p.1.1.1 })
    (λ f. (f.lies, (f.rises, (f.ranges, f.stands))))

pub bare_agrees : (h : Head) → Decides (bare_test h) (Bare h)
bare_agrees h =
    reword (both (Decides-eqb h.place 0) (both (Decides-eqb h.first 0) (both (Decides-eqb h.second 0) (both (Decides-eqb h.inclusion 0) (Decides-eqb h.step 0)))))
    (λ p. record { place = p.0; first = p.1.0; second = p.1.1.0; inclusion = p.1.1.1.0; step = p.1.1.1.1 })
    (λ f. (f.place, (f.first, (f.second, (f.inclusion, f.step)))))
