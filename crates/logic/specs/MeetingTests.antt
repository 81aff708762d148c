-- Computing forms of scales, and of what it is to meet a book and a question.
use Rattle.std.specs.Prelude.{ℕ, ◌*◌, ◌%◌, Bool, ◌&&◌, ◌||◌, leb, List, ◌==◌, nat_le, nat_lt}
use Rattle.terms.specs.declared.concept.Inclusion.{Inclusion}
use Rattle.terms.specs.declared.question.Comparison.{Comparison}
use Rattle.terms.specs.declared.question.Comparison.TheVariants.{NotBelow, Above, NotAbove, Under}
use Rattle.terms.specs.declared.question.QuestionLine.{QuestionLine}
use Rattle.logic.specs.Books.{Book}
use Rattle.logic.specs.Holdings.{Holding, unit, degree}
use Rattle.logic.specs.LineTests.{all_test, below_test}

abbrev pub scale_test : ℕ → ℕ → Bool
scale_test fineness top = nat_le 1 top && top % fineness == 0

abbrev pub fit_test : ℕ → ℕ → ℕ → Bool
fit_test fineness size top = scale_test fineness top && (nat_le 1 size && (nat_le size 64 && nat_le top 900_000))

abbrev pub compares_test : Comparison → ℕ → ℕ → Bool
compares_test NotBelow k v = nat_le k v
compares_test Above k v = nat_lt k v
compares_test NotAbove k v = nat_le v k
compares_test Under k v = nat_lt v k

abbrev pub includes_test : Book → Holding → Inclusion → Bool
includes_test b H i = i.struck || below_test (λ x. leb (degree b H i.lower x) (degree b H i.upper x)) H.size

abbrev pub obeys_test : Book → Holding → Bool
obeys_test b H = all_test (includes_test b H) b.inclusions

abbrev pub answers_test : Book → Holding → ℕ → QuestionLine → Bool
answers_test b H x q = compares_test q.comparison (q.degree * unit b.fineness H.top) (degree b H q.concept x)

abbrev pub meets_test : Book → List QuestionLine → Holding → ℕ → Bool
meets_test b question H x = nat_lt x H.size && (scale_test b.fineness H.top && (obeys_test b H && all_test (answers_test b H x) question))
