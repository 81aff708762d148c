use Rattle.std.proofs.Common.{Decides, subst, rules}
use Rattle.std.proofs.lemmas.List.Elements.{contains_decides}
use Rattle.terms.specs.Among.{Among}
use Rattle.terms.specs.contracts.concept.ConceptPartialEq.TheImpl.{ghosts}
use Rattle.book.proofs.Book.has_concept.Goals as goal

pub returns : goal.returns
unfolding Among
returns c =
    subst (λ xs. Decides c.contains.result (Among xs c.args.concept)) c.deref.ensures.value
    (contains_decides ghosts.eq (λ a b. search rules) c.deref.result.now c.args.concept c.contains.result c.contains.ensures.cases)
