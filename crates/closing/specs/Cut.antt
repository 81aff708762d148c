-- The inclusion and the step that an entry names.
use Rattle.std.specs.Prelude.{◌≡◌, ◌*◌, ◌<◌, ◌≤◌, false, length}
use Rattle.terms.specs.declared.entry.Head.{Head}
use Rattle.logic.specs.Books.{Book, inclusion_at}

-- The inclusion stands in the book and is not struck, and the step is 1 to twice the fineness.
pub record Cuts (b : Book) (head : Head) : Type 0 where
  pub stands : head.inclusion < length b.inclusions
  pub unstruck : (inclusion_at b head.inclusion).struck ≡ false
  pub low : 1 ≤ head.step
  pub high : head.step ≤ 2 * b.fineness
