-- The computing forms of scales, and of what it is to meet a book and a question, agree with the relations.
use Rattle.std.proofs.Common.{ℕ, ◌*◌, ◌%◌, List, Decides}
use Rattle.std.proofs.lemmas.Bool.Decides.{Decides-eqb, Decides-ltb}
use native.Mathlib.Nat.{dvd_of_mod-eq-zero, mod-eq-zero_of_dvd}
use Rattle.terms.specs.declared.concept.Inclusion.{Inclusion}
use Rattle.terms.specs.declared.question.Comparison.{Comparison}
use Rattle.terms.specs.declared.question.Comparison.TheVariants.{NotBelow, Above, NotAbove, Under}
use Rattle.terms.specs.declared.question.QuestionLine.{QuestionLine}
use Rattle.logic.specs.Books.{Book, blank_inclusion}
use Rattle.logic.specs.Holdings.{Holding, OnScale, Fit, unit, degree}
use Rattle.logic.specs.Meeting.{blank_question_line, Compares, Includes, Obeys, Answers, Meets}
use Rattle.logic.specs.MeetingTests.{scale_test, fit_test, compares_test, includes_test, obeys_test, answers_test, meets_test}
use Rattle.logic.proofs.LinesAgree.{reword, both, unless, each_agrees, below_agrees, le_agrees}

pub scale_agrees : (fineness top : ℕ) → Decides (scale_test fineness top) (OnScale fineness top)
scale_agrees n t =
    reword (both (le_agrees 1 t) (Decides-eqb (t % n) 0))
    (λ p. record { some = p.0; divides = dvd_of_mod-eq-zero n p.1 })
    (λ s. (s.some, mod-eq-zero_of_dvd n s.divides))

pub fit_agrees : (fineness size top : ℕ) → Decides (fit_test fineness size top) (Fit fineness size top)
fit_agrees n size t =
    reword (both (scale_agrees n t) (both (le_agrees 1 size) (both (le_agrees size 64) (le_agrees t 900_000))))
    (λ p. record { scale = p.0; some = p.1.0; few = p.1.1.0; low = p.1.1.1 })
    (λ f. (f.scale, (f.some, (f.few, f.low))))

compares_agrees : (q : Comparison) (k v : ℕ) → Decides (compares_test q k v) (Compares q k v)
compares_agrees NotBelow k v = le_agrees k v
compares_agrees Above k v = Decides-ltb k v
compares_agrees NotAbove k v = le_agrees v k
compares_agrees Under k v = Decides-ltb v k

includes_agrees : (b : Book) (H : Holding) (i : Inclusion) → Decides (includes_test b H i) (Includes b H i)
includes_agrees b H i = unless i.struck (below_agrees (λ x. le_agrees (degree b H i.lower x) (degree b H i.upper x)) H.size)

pub obeys_agrees : (b : Book) (H : Holding) → Decides (obeys_test b H) (Obeys b H)
obeys_agrees b H = each_agrees blank_inclusion (includes_agrees b H) b.inclusions

answers_agrees : (b : Book) (H : Holding) (x : ℕ) (q : QuestionLine) → Decides (answers_test b H x q) (Answers b H x q)
answers_agrees b H x q = compares_agrees q.comparison (q.degree * unit b.fineness H.top) (degree b H q.concept x)

pub meets_agrees : (b : Book) (question : List QuestionLine) (H : Holding) (x : ℕ) → Decides (meets_test b question H x) (Meets b question H x)
meets_agrees b question H x =
    reword (both (Decides-ltb x H.size) (both (scale_agrees b.fineness H.top) (both (obeys_agrees b H) (each_agrees blank_question_line (answers_agrees b H x) question))))
    (λ p. record { here = p.0; scale = p.1.0; obeys = p.1.1.0; answers = p.1.1.1 })
    (λ m. (m.here, (m.scale, (m.obeys, m.answers))))
