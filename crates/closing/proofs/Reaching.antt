-- A line that reaches nothing keeps no entry by the rule of E.
use Rattle.std.proofs.Common.{◌≡◌, ℕ, List, pos, ◌≤ℤ◌, None, Option, refl, subst}
use Rattle.terms.specs.declared.concept.Concept.{Concept}
use Rattle.terms.specs.declared.concept.Concept.TheVariants.{Heading, Constant, Not, Less, Lesser, Exists}
use Rattle.terms.specs.declared.line.Side.TheVariants.{AtLeast}
use Rattle.terms.specs.declared.line.Line.{Line}
use Rattle.terms.specs.declared.entry.Head.{Head}
use Rattle.logic.specs.Books.{Book, concept_at}
use Rattle.logic.specs.Closing.{placed, Reaches, ExistsRule}
use Rattle.labels.specs.declared.passing.Reach.{Reach}
use Rattle.labels.specs.Passing.{ReachesBy, Reaching}

module _ (b : Book) (label child : List Line) where
  by_form : (l : Line) → ((x : Reach) → ¬ ReachesBy b l x) → (form : Concept) → concept_at b l.concept ≡ form → l.side ≡ AtLeast → pos 1 ≤ℤ l.bound → Reaches b form l.bound label child → ⊥
  by_form l none (Heading p) e side some r = r
  by_form l none (Constant k) e side some r = r
  by_form l none (Not c) e side some r = r
  by_form l none (Less c k) e side some r = r
  by_form l none (Lesser c d) e side some r = r
  by_form l none (Exists r c) e side some h = none (record { role = r; part = c; bound = l.bound }) (record { form = e; side = side; positive = some; bound = refl })

  pub reaches_nothing : (k : ℕ) (head : Head) (l : Line) (r : Option Reach) → ExistsRule b k head label child → Reaching b l r → r ≡ None → l ≡ placed head label → ⊥
  reaches_nothing k head l r x h n e =
      let none : (y : Reach) → ¬ ReachesBy b (placed head label) y = subst (λ m. (y : Reach) → ¬ ReachesBy b m y) e (subst (Reaching b l) n h) in
      by_form (placed head label) none (concept_at b (placed head label).concept) refl x.side x.positive x.reaches
