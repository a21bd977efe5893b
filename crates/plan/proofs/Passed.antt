-- Totals that passed the check of given totals, event by event.
use Rattle.std.proofs.Common.{◌≡◌, ℕ, zero, suc, ◌+◌, ◌*◌, ◌<◌, ◌≤◌, Bool, true, false, ◌⊎◌, Some, None, Option, refl, subst, inl, inr, arith}
use Rattle.std.proofs.lemmas.Bool.{cases_lt, or_parts, not-false}
use Rattle.rows.specs.Limits.{given_limit}
use Rattle.rows.specs.Rows.{Row, inside}
use Rattle.rows.proofs.Sums.{inside_true}
use Rattle.schedules.specs.Plans.{Totals}
use Rattle.plan.specs.Checks.{total_missed, totals_missed, Given, AllGiven}

pub Given-from : (x : Option Row) → total_missed x ≡ false → Given x
Given-from None h = absurd (let z : ◌≡◌ {A = Bool} true false = h in let y : ◌≡◌ {A = ℕ} 0 1 = cc in omega arith)
Given-from (Some r) h = (r, refl, inside_true given_limit r (not-false (inside given_limit r) h))

pub all_given : (x : Totals) (first step count : ℕ) → totals_missed x first step count ≡ false → AllGiven x first step count
all_given x first step zero h k l = absurd (omega arith)
all_given x first step (suc count) h k l =
    let p = or_parts (total_missed (x (first + step * count))) (totals_missed x first step count) h in
    go p.0 (λ b. all_given x first step count p.1 k b) (cases_lt k count)
  where
    go : total_missed (x (first + step * count)) ≡ false → (k < count → Given (x (first + step * k))) → (k < count) ⊎ (count ≤ k) → Given (x (first + step * k))
    go last before (inl below) = before below
    go last before (inr above) =
        let same : count ≡ k = omega arith in
        subst (λ (i : ℕ). Given (x (first + step * i))) same (Given-from (x (first + step * count)) last)
