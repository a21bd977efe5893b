-- The starts, or the finishes, of totals that passed the check.
use Rattle.std.proofs.Common.{◌≡◌, ℕ, suc, ◌+◌, ◌-◌, ◌*◌, ◌≤◌, false, subst, arith}
use Rattle.algebra.specs.Matrices.{finishes_of}
use Rattle.algebra.specs.Theorems.{Full}
use Rattle.schedules.specs.Plans.{Totals}
use Rattle.plan.specs.Checks.{Given, totals_missed}
use Rattle.schedules.specs.Tables.{start, finish}
use Rattle.plan.proofs.Passed.{all_given}
use Rattle.plan.proofs.Fits.{given_near}
use Rattle.schedules.specs.Folds.{StartsInside}

module _ (n : ℕ) (x : Totals) where
  starts_given : totals_missed x 1 2 n ≡ false → (k : ℕ) → 1 ≤ k → k ≤ n → Given (x (start k))
  starts_given h k low high =
      let at : 1 + 2 * (k - 1) ≡ start k = omega arith in
      subst (λ (v : ℕ). Given (x v)) at (all_given x 1 2 n h (k - 1) (omega arith))

  pub finishes_given : totals_missed x 2 2 n ≡ false → (k : ℕ) → 1 ≤ k → k ≤ n → Given (x (finish k))
  finishes_given h k low high =
      let at : 2 + 2 * (k - 1) ≡ finish k = omega arith in
      subst (λ (v : ℕ). Given (x v)) at (all_given x 2 2 n h (k - 1) (omega arith))

  pub finishes_full : totals_missed x 2 2 n ≡ false → Full n (finishes_of x)
  finishes_full h i i_in = let g = finishes_given h (suc i) (omega arith) i_in in (g.0, g.1)

  pub starts_inside : totals_missed x 1 2 n ≡ false → StartsInside n x
  starts_inside h k low high r e = given_near (x (start k)) (starts_given h k low high) r e
