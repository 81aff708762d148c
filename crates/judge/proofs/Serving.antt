-- A line is served, as its reach tells it.
use Rattle.std.proofs.Common.{◌≡◌, ℕ, Bool, List, ℤ, Decides, sym, refl, ◌∙◌, subst}
use Rattle.std.proofs.lemmas.Bool.Decides.{Decides-like}
use Rattle.terms.specs.declared.concept.Concept.TheVariants.{Exists}
use Rattle.terms.specs.declared.line.Line.{Line}
use Rattle.logic.specs.Books.{Book}
use Rattle.logic.specs.Entries.{Entry, AnyEntry}
use Rattle.logic.specs.Standing.{Serves, Served}
use Rattle.labels.specs.declared.passing.Reach.{Reach}
use Rattle.labels.specs.Passing.{ReachesBy}

module _ (b : Book) (sheet : List Entry) (label : List Line) (l : Line) where
  abbrev By : ℕ → ℕ → ℤ → Type 0
  By r c z = AnyEntry (λ e. Serves b label r c z e.label) sheet

  to : (x : Reach) → ReachesBy b l x → By x.role x.part x.bound → Served b sheet label l
  to x h a r c form side some =
      let g : Exists x.role x.part ≡ Exists r c = sym h.form ∙ form in
      let p : x.role ≡ r = cc in
      let q : x.part ≡ c = cc in
      subst (λ r. By r c l.bound) p (subst (λ c. By x.role c l.bound) q (subst (λ z. By x.role x.part z) h.bound a))

  from : (x : Reach) → ReachesBy b l x → Served b sheet label l → By x.role x.part x.bound
  from x h s = subst (λ z. By x.role x.part z) (sym h.bound) (s x.role x.part h.form h.side h.positive)

  pub served_by_reach : (x : Reach) (t : Bool) → ReachesBy b l x → Decides t (By x.role x.part x.bound) → Decides t (Served b sheet label l)
  served_by_reach x t h d = Decides-like t (to x h) (from x h) d

  pub served_idly : ((x : Reach) → ¬ ReachesBy b l x) → Served b sheet label l
  served_idly none r c form side some = absurd (none (record { role = r; part = c; bound = l.bound }) (record { form = form; side = side; positive = some; bound = refl }))
