-- What a call's answer is in the words of the algebra: a column of A*, a product, a residual.
use Rattle.std.specs.Prelude.{◌≡◌, ℕ, ◌-◌, ◌<◌, Some}
use Rattle.rows.specs.Rows.{Row}
use Rattle.rows.specs.Algebra.{◌≼◌, Vector, Matrix, matrix_vector, powers, Star, residual}
use Rattle.schedules.specs.Plans.{Wide, columns}
use Rattle.algebra.specs.Theorems.{Solves}

-- I ⊕ A ⊕ .. ⊕ A^(m - 1) is A*, and x is the opening's column of it: of every matrix that is A*.
pub record IsOpeningColumn (w m : ℕ) (A : Matrix) (x : Vector) : Type 0 where
  pub star : Star w m A (powers w m A (m - 1))
  pub column : (S : Matrix) → Star w m A S → (e : ℕ) → e < m → x e ≡ S e 0

-- y = A ⊗ x
abbrev pub IsProduct : ℕ → Matrix → Vector → Vector → Type 0
IsProduct n A x y = (j : ℕ) → j < n → y j ≡ matrix_vector n A x j

-- x = (d⁻ ⊗ A)⁻, and it is the greatest solution of A ⊗ x ≼ d. An entry is absent where its column
-- is: any row would do there.
pub record IsResidual (w n : ℕ) (A : Matrix) (d x : Vector) : Type 0 where
  pub is : (k : ℕ) → k < n → x k ≡ residual n A d k
  pub below : Solves n A d x
  pub greatest : (z : Vector) → Wide w n (columns z) → Solves n A d z
      → (k : ℕ) (r : Row) → k < n → x k ≡ Some r → z k ≼ Some r
