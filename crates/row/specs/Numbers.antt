-- The order of numbers: two are equal in it exactly if they are the same.
use Rattle.std.specs.Prelude.{◌≡◌, ℕ, ◌<◌}
use Rattle.std.proofs.Common.{subst}
use Rattle.std.specs.declared.cmp.Ordering.{Ordering}
use Rattle.std.specs.declared.cmp.Ordering.TheVariants.{Equal}
use Rattle.std.specs.Ordering.{MatchOrdering, nat_cmp}
use Rattle.std.specs.Cmp.{nat_cmp_total, ranks, tied_itself}

pub nat_cmp_agrees : (a b : ℕ) → (nat_cmp a b ≡ Equal → a ≡ b) × (a ≡ b → nat_cmp a b ≡ Equal)
nat_cmp_agrees a b = (
  λ e. subst (λ (o : Ordering). MatchOrdering o (a < b) (a ≡ b) (b < a)) e (ranks a b),
  λ e. subst (λ (n : ℕ). nat_cmp a n ≡ Equal) e (tied_itself nat_cmp_total a),
)
