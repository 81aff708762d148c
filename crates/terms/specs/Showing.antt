-- Concepts, inclusions, question lines and refusals as they are shown to a person: the bytes of their texts.
use Rattle.std.specs.Prelude.{ℕ, List, ◌++◌, codes, decimal, if◌then◌else◌}
use Rattle.terms.specs.declared.concept.Concept.{Concept}
use Rattle.terms.specs.declared.concept.Concept.TheVariants.{Heading, Constant, Not, Less, Lesser, Exists}
use Rattle.terms.specs.declared.concept.Inclusion.{Inclusion}
use Rattle.terms.specs.declared.question.Comparison.{Comparison}
use Rattle.terms.specs.declared.question.Comparison.TheVariants.{NotBelow, Above, NotAbove, Under}
use Rattle.terms.specs.declared.question.QuestionLine.{QuestionLine}
use Rattle.terms.specs.declared.refusal.Refused.{Refused}
use Rattle.terms.specs.Refusals.{number}
use Rattle.terms.specs.Words.{words}

abbrev pub concept_text : Concept → List ℕ
concept_text (Heading p) = codes "heading " ++ decimal p
concept_text (Constant k) = codes "the degree " ++ decimal k
concept_text (Not c) = codes "not " ++ decimal c
concept_text (Less c k) = decimal c ++ (codes " less " ++ decimal k)
concept_text (Lesser c d) = codes "the lesser of " ++ (decimal c ++ (codes " and " ++ decimal d))
concept_text (Exists r c) = codes "some " ++ (decimal r ++ (codes " that is " ++ decimal c))

abbrev pub inclusion_text : Inclusion → List ℕ
inclusion_text i = codes "concept " ++ (decimal i.lower ++ (codes " in concept " ++ (decimal i.upper ++ (if i.struck then codes ", struck" else codes ""))))

abbrev pub comparison_text : Comparison → List ℕ
comparison_text NotBelow = codes ">="
comparison_text Above = codes ">"
comparison_text NotAbove = codes "<="
comparison_text Under = codes "<"

abbrev pub question_line_text : QuestionLine → List ℕ
question_line_text q = codes "concept " ++ (decimal q.concept ++ (codes " " ++ (comparison_text q.comparison ++ (codes " " ++ decimal q.degree))))

abbrev pub refused_text : Refused → List ℕ
refused_text x = codes "refused with " ++ (decimal (number x.refusal) ++ (codes " at " ++ (decimal x.place ++ (codes ": " ++ words x.refusal))))
