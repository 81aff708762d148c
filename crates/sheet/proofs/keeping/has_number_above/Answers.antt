use Rattle.std.proofs.Common.{◌≡◌, [], ◌∷◌, Decides, nat_lt, arith, rules}
use Rattle.std.proofs.lemmas.Bool.Decides.{Decides-at, Decides-or, Decides-ltb, nat_tests}
use Rattle.std.specs.List.{list_any}
use Rattle.std.proofs.iter.runs.Made.{chains}
use Rattle.terms.specs.declared.entry.Head.{Head}
use Rattle.sheet.specs.Grounds.{NumberAbove}
use Rattle.sheet.proofs.keeping.has_number_above.Goals as goal

number_above : (h : Head) → Decides (list_any (λ n. nat_lt 2000 n) (h.place ∷ h.first ∷ h.second ∷ h.inclusion ∷ h.step ∷ [])) (NumberAbove h)
number_above h =
    Decides-or _ _ (Decides-ltb 2000 h.place)
    (Decides-or _ _ (Decides-ltb 2000 h.first)
    (Decides-or _ _ (Decides-ltb 2000 h.second)
    (Decides-or _ _ (Decides-ltb 2000 h.inclusion)
    (grind (arith, nat_tests)))))

pub returns : goal.returns
returns c =
    let h = c.args.head in
    let e : c.any.result ≡ list_any (λ n. nat_lt 2000 n) (h.place ∷ h.first ∷ h.second ∷ h.inclusion ∷ h.step ∷ []) = search (rules, chains) in
    Decides-at c.any.result _ e (number_above h)
