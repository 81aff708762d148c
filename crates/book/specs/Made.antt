-- A book that is made.
use Rattle.std.specs.Prelude.{◌≡◌, ℕ, ◌⊎◌, Ok, Err, Result}
use Rattle.terms.specs.declared.refusal.Refusal.TheVariants.{NoMemory}
use Rattle.terms.specs.declared.refusal.Refused.{Refused}
use Rattle.terms.specs.Answers.{Answered}
use Rattle.book.specs.declared.Book.{Book}
use Rattle.book.specs.States.{blank, blank_book, begin}
use Rattle.book.specs.Grounds.{Ground}
use Rattle.book.specs.Models.{model}

-- Making a book is refused as beginning one is; it is blank; and where the fineness will do, memory may be wanting.
abbrev pub Made : ℕ → Result Book Refused → Type 0
Made n (Ok b) = Answered {X = Unit {0}} (Ground (blank n) (begin n)) (Ok tt) × (model b ≡ blank_book n)
Made n (Err x) = (Answered {X = Unit {0}} (Ground (blank n) (begin n)) (Err x.refusal) ⊎ (Answered {X = Unit {0}} (Ground (blank n) (begin n)) (Ok tt) × (x.refusal ≡ NoMemory))) × (x.place ≡ 0)
