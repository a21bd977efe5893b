-- A number clamped to a limit.
use Rattle.std.proofs.Common.{◌≡◌, ℕ, ℤ, pos, ◌+ℤ◌, ◌-ℤ◌, neg_ℤ, ◌≤ℤ◌, arith, w64, FitsSigned}
use Rattle.std.proofs.lemmas.Int.{ints, clamps}
use Rattle.rows.proofs.Limits.{relations}
use Rattle.rows.specs.Limits.{lag_limit, total_limit}
use Rattle.marks.specs.Meaning.{clamped}

pub clamped_within : (limit : ℕ) (z : ℤ) → neg_ℤ (pos limit) ≤ℤ z → z ≤ℤ pos limit → clamped limit z ≡ z
clamped_within limit z low high = omega (arith, ints, clamps)

-- 64 bits hold what a total and a lag add up to, and what one leaves of the other
pub sum_fits : (total lag : ℤ) → FitsSigned w64 (clamped total_limit total +ℤ clamped lag_limit lag)
sum_fits total lag = omega (arith, ints, clamps, relations.machine, relations.chain_fits)

pub difference_fits : (total lag : ℤ) → FitsSigned w64 (clamped total_limit total -ℤ clamped lag_limit lag)
difference_fits total lag = omega (arith, ints, clamps, relations.machine, relations.chain_fits)
