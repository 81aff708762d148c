use Rattle.std.proofs.Common.{◌≡◌, ℕ, [], ◌∷◌, ◌++◌, get_or, sym, ap, ◌∙◌, subst, inl, inr, arith}
use Rattle.names.specs.Spelling.{HasOdd, NoName}
use Rattle.names.proofs.name.Name.filler.Goals as goal

-- a hyphen alone is a name
hyphen : ¬ NoName (45 ∷ [])
unfolding HasOdd
hyphen (inl e) = omega (arith, e)
hyphen (inr (inl h)) = omega (arith, h)
hyphen (inr (inr h)) = let first : h.0 ≡ 0 = omega (arith, h.1) in h.2.no_hyphen (ap (λ (k : ℕ). get_or (45 ∷ []) k 0) first)

pub invariant_of-result : goal.invariant_of-result
invariant_of-result c = record { proper = subst (λ m. ¬ NoName m) (sym (c.push.ensures.ascii (omega arith) ∙ ap (λ m. m ++ 45 ∷ []) c.new-text.ensures)) hyphen }
