-- The theorems.
use Rattle.std.specs.Prelude.{◌≡◌, ℕ, ◌<◌, ◌≤◌, ◌↔◌, List}
use Rattle.terms.specs.declared.concept.Concept.{Concept}
use Rattle.terms.specs.declared.question.QuestionLine.{QuestionLine}
use Rattle.logic.specs.Books.{Book, StandsIn, concept_at, BuildsOn, Proper}
use Rattle.logic.specs.Holdings.{Holding, Within, OnScale, unit, form_degree, degree}
use Rattle.logic.specs.Meeting.{EachAsked, Answers, Meets}
use Rattle.logic.specs.Rounding.{rounded, rounded_holding}
use Rattle.logic.specs.Lines.{Keeps, half_line}
use Rattle.logic.specs.Entries.{Entry}
use Rattle.logic.specs.Closing.{Closing, ClosingFits}
use Rattle.logic.specs.Standing.{Standing, StandingFits}
use Rattle.logic.specs.ReadOut.{ReadOut}
use Rattle.logic.specs.Drawing.{drawn_up}

-- The degree of a concept is what its form makes of the degrees of its parts, in any holding.
abbrev pub DegreeByForm : Type 0
DegreeByForm =
    (b : Book) → Proper b → (H : Holding) (c x : ℕ) →
    degree b H c x ≡ form_degree H (unit b.fineness H.top) (concept_at b c) (degree b H) x

-- Rounding commutes with every form, whatever degrees its parts have; and so with the degree of every concept.
pub record Commutes (b : Book) (H : Holding) : Type 0 where
  pub forms : (n : ℕ) (form : Concept) → BuildsOn b.fineness n form → (part : ℕ → ℕ → ℕ) → ((c x : ℕ) → part c x ≤ H.top) → (x : ℕ) →
      form_degree (rounded_holding b.fineness H) 2 form (λ c y. rounded b.fineness H.top (part c y)) x ≡ rounded b.fineness H.top (form_degree H (unit b.fineness H.top) form part x)
  pub concepts : (c x : ℕ) → degree b (rounded_holding b.fineness H) c x ≡ rounded b.fineness H.top (degree b H c x)

abbrev pub RoundingCommutes : Type 0
RoundingCommutes = (b : Book) → Proper b → (H : Holding) → Within H → OnScale b.fineness H.top → Commutes b H

-- A question line holds on the exact scale exactly if its half-step line holds of the rounded degree.
abbrev pub QuestionLineByHalves : Type 0
QuestionLineByHalves =
    (b : Book) → Proper b → (H : Holding) → Within H → OnScale b.fineness H.top → (q : QuestionLine) (x : ℕ) →
    Answers b H x q ↔ Keeps (half_line q).side (half_line q).bound (rounded b.fineness H.top (degree b H q.concept x))

-- Where an obeyed closing sheet fits the question, no holding, of any size and on any scale that the fineness divides, meets book and question at any individual.
abbrev pub ClosedMeansUnmet : Type 0
ClosedMeansUnmet =
    (b : Book) (question : List QuestionLine) (sheet : List Entry) (root : ℕ) →
    Proper b → Closing b sheet → ClosingFits question sheet root →
    (H : Holding) → Within H → (x : ℕ) → ¬ Meets b question H x

-- The holding read out of an obeyed standing sheet that fits the question is within its scale, and meets book and question at the root.
pub record MetAt (b : Book) (question : List QuestionLine) (R : Holding) (x : ℕ) : Type 0 where
  pub within : Within R
  pub meets : Meets b question R x

abbrev pub StandingIsMet : Type 0
StandingIsMet =
    (b : Book) (question : List QuestionLine) (sheet : List Entry) (root : ℕ) →
    Proper b → Standing b sheet → StandingFits b question sheet root →
    (R : Holding) → ReadOut b sheet R → MetAt b question R root

-- Every sheet can be read out.
abbrev pub EverySheetReadsOut : Type 0
EverySheetReadsOut = (b : Book) (sheet : List Entry) → (R : Holding) × ReadOut b sheet R

-- The question is about concepts of the book.
abbrev pub AsksOf : Book → List QuestionLine → Type 0
AsksOf b question = EachAsked (λ q. StandsIn b q.concept) question

-- The sheet drawn up from a holding that meets book and question at x obeys the standing rules, and fits with the root x; the holding read out of it gives each concept, at each individual, the rounded degree.
pub record Accepted (b : Book) (question : List QuestionLine) (H : Holding) (x : ℕ) : Type 0 where
  pub standing : Standing b (drawn_up b H)
  pub fits : StandingFits b question (drawn_up b H) x
  pub degrees : (R : Holding) → ReadOut b (drawn_up b H) R → (c y : ℕ) → StandsIn b c → y < H.size →
      degree b R c y ≡ rounded b.fineness H.top (degree b H c y)

abbrev pub DrawnUpIsAccepted : Type 0
DrawnUpIsAccepted =
    (b : Book) (question : List QuestionLine) → Proper b → AsksOf b question →
    (H : Holding) → Within H → (x : ℕ) → Meets b question H x → Accepted b question H x
