-- Cycles of a matrix over rows of one part: what the diagonals of its powers say of them.
use Rattle.std.specs.Prelude.{ℕ, ◌*◌, ◌≤◌, Some, Option}
use Rattle.rows.specs.Algebra.{◌⊗◌, ◌≼◌, Matrix, sum, power}
use Rattle.rows.specs.Rows.{Row, zeros, negated}
use Rattle.schedules.specs.Minutes.{minutes}

-- A cycle is a closed walk over entries, which may come by an entry again: from the column of each
-- to the row of the next.

-- tr A, the sum of the diagonal; that of A^k is the latest sum of a cycle of k entries
abbrev pub trace : ℕ → Matrix → Option Row
trace n A = sum n (λ i. A i i)

-- (-f) ⊗ A: every entry f less
abbrev pub lowered : ℕ → Matrix → Matrix
lowered f A i j = Some (negated (minutes f)) ⊗ A i j

-- no cycle has a sum after zero
abbrev pub NoCycleAfterZero : ℕ → Matrix → Type 0
NoCycleAfterZero n A = (k : ℕ) → 1 ≤ k → trace n (power 1 n A k) ≼ Some (zeros 1)

-- no cycle of k entries has a mean after g, that is a sum after k times g
abbrev pub MeanWithin : ℕ → Matrix → ℕ → ℕ → Type 0
MeanWithin n A k g = trace n (power 1 n A k) ≼ Some (minutes (k * g))

-- f is the least, from nought on, for which no cycle of (-f) ⊗ A has a sum after zero: the greatest
-- mean of a cycle of A (where A has but one eigenvalue, it is that), rounded up; nought where that
-- is below nought or where there is no cycle.
pub record RoundedMean (n : ℕ) (A : Matrix) (f : ℕ) : Type 0 where
  pub cycles : NoCycleAfterZero n (lowered f A)
  pub least : (g : ℕ) → NoCycleAfterZero n (lowered g A) → f ≤ g
  -- no mean is after f, and f is the least so: the cycles of no more than n entries tell
  pub means : (k : ℕ) → 1 ≤ k → MeanWithin n A k f
  pub least_mean : (g : ℕ) → ((k : ℕ) → 1 ≤ k → k ≤ n → MeanWithin n A k g) → f ≤ g
