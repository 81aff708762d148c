-- Every kept book is a proper one.
use Rattle.std.proofs.Common.{◌≡◌, ℕ, ◌<◌, ◌≤◌, ◌⊎◌, List, length, get_or, sym, ◌∙◌, subst, inl, inr, arith}
use Rattle.std.proofs.lemmas.List.{get_or_default}
use Rattle.std.proofs.lemmas.Bool.{cases_lt}
use Rattle.terms.specs.declared.concept.Concept.{Concept}
use Rattle.terms.specs.declared.concept.Concept.TheVariants.{Heading, Constant, Not, Less, Lesser, Exists}
use Rattle.logic.specs.Books.{BuildsOn, Proper}
use Rattle.book.specs.declared.Book.{Book}
use Rattle.book.specs.Citing.{CitesMissing, CitesAbove, no_concept, Apart}
use Rattle.book.specs.Models.{model}
use Rattle.judge.specs.Views.{rules_of}

not_above : (n k : ℕ) → ¬ (n < k) → k ≤ n
not_above n k h = elim (cases_lt n k) [ inl l ↦ absurd (h l) | inr l ↦ l ]

not_from : (n k : ℕ) → ¬ (n ≤ k) → k < n
not_from n k h = elim (cases_lt k n) [ inl l ↦ l | inr l ↦ absurd (h l) ]

builds_by : (n h r c : ℕ) (form : Concept) → ¬ CitesMissing h r c form → ¬ CitesAbove n form → BuildsOn n c form
builds_by n h r c (Heading p) m a = tt
builds_by n h r c (Constant k) m a = not_above n k a
builds_by n h r c (Not d) m a = not_from c d m
builds_by n h r c (Less d k) m a = (not_from c d m, not_above n k a)
builds_by n h r c (Lesser d e) m a = (not_from c d (λ g. m (inl g)), not_from c e (λ g. m (inr g)))
builds_by n h r c (Exists p d) m a = not_from c d (λ g. m (inr g))

module _ (cs : List Concept) (apart : Apart cs) where
  -- a concept stands under one number
  read : (c : ℕ) → c < length cs → get_or cs c (Constant 0) ≡ get_or cs c no_concept
  read c h = get_or_default cs c (Constant 0) no_concept h

  under : (c d : ℕ) → c < d → d < length cs → ¬ (get_or cs c (Constant 0) ≡ get_or cs d (Constant 0))
  under c d l h e = let g : c < length cs = omega arith in apart c d l h (sym (read c g) ∙ e ∙ read d h)

  one_number : (c d : ℕ) → c < length cs → d < length cs → get_or cs c (Constant 0) ≡ get_or cs d (Constant 0) → c ≡ d
  one_number c d g h e = go (cases_lt c d) (cases_lt d c)
    where
      go : (c < d) ⊎ (d ≤ c) → (d < c) ⊎ (c ≤ d) → c ≡ d
      go (inl l) o = absurd (under c d l h e)
      go (inr l) (inl m) = absurd (under d c m g (sym e))
      go (inr l) (inr m) = omega arith

pub every_book_is_proper : (b : Book) → Proper (rules_of (model b))
every_book_is_proper b = record {
  fine = b.fineness.some;
  coarse = b.fineness.fine;
  builds = λ c h.
      let cs = (model b).concepts in
      subst (BuildsOn (model b).fineness c) (sym (get_or_default cs c (Constant 0) no_concept h)) (builds_by (model b).fineness (length (model b).headings) (length (model b).roles) c (get_or cs c no_concept) (b.founded c h) (b.graded c h));
  different = one_number (model b).concepts b.apart;
  within = b.joined;
}
