-- The max-plus algebra: optional rows with ⊕, the later of two, and ⊗, the sum. An absent row is
-- neutral for ⊕ and absorbs in ⊗. Vectors have the entries 0, 1, .., n - 1, and matrices so many
-- rows and columns; what stands past them is not looked at.
use Rattle.std.specs.Prelude.{◌≡◌, ℕ, zero, suc, ◌<◌, cond, Some, None, Option, ◌==◌}
use Rattle.std.specs.Option.{option_map}
use Rattle.rows.specs.Extremes.{LatestOf}
use Rattle.rows.specs.MaxPlus.{later, folded, added}
use Rattle.rows.specs.Rows.{Row, zeros, negated}

infixl 6 ◌⊕◌
abbrev pub ◌⊕◌ : Option Row → Option Row → Option Row
a ⊕ b = later a b

infixl 7 ◌⊗◌
abbrev pub ◌⊗◌ : Option Row → Option Row → Option Row
a ⊗ b = added a b

-- the order of the algebra
infix 4 ◌≼◌
abbrev pub ◌≼◌ : Option Row → Option Row → Type 0
a ≼ b = a ⊕ b ≡ b

abbrev pub Vector : Type 0
Vector = ℕ → Option Row

-- the entry in row i and column j
abbrev pub Matrix : Type 0
Matrix = ℕ → ℕ → Option Row

-- f 0 ⊕ f 1 ⊕ .. ⊕ f (n - 1)
abbrev pub sum : ℕ → Vector → Option Row
sum n f = folded later None n f

-- A ⊗ x, x ⊗ A, x ⊗ y and A ⊗ B
abbrev pub matrix_vector : ℕ → Matrix → Vector → Vector
matrix_vector n A x i = sum n (λ k. A i k ⊗ x k)

abbrev pub vector_matrix : ℕ → Vector → Matrix → Vector
vector_matrix n x A j = sum n (λ k. x k ⊗ A k j)

abbrev pub vector_vector : ℕ → Vector → Vector → Option Row
vector_vector n x y = sum n (λ k. x k ⊗ y k)

abbrev pub matrix_matrix : ℕ → Matrix → Matrix → Matrix
matrix_matrix n A B i j = sum n (λ k. A i k ⊗ B k j)

-- zeros on the diagonal
abbrev pub identity : ℕ → Matrix
identity w i j = cond (i == j) (Some (zeros w)) None

abbrev pub power : ℕ → ℕ → Matrix → ℕ → Matrix
power w n A zero = identity w
power w n A (suc k) = matrix_matrix n A (power w n A k)

-- I ⊕ A ⊕ .. ⊕ A^k
abbrev pub powers : ℕ → ℕ → Matrix → ℕ → Matrix
powers w n A zero i j = identity w i j
powers w n A (suc k) i j = powers w n A k i j ⊕ power w n A (suc k) i j

-- S is A*, the sum of all powers: each entry is the latest of that entry of every power, absent
-- where it is absent in every power.
abbrev pub Star : ℕ → ℕ → Matrix → Matrix → Type 0
Star w n A S =
    (i j : ℕ) → i < n → j < n → LatestOf (λ r. (k : ℕ) × (power w n A k i j ≡ Some r)) (S i j)

abbrev pub transpose : Matrix → Matrix
transpose A i j = A j i

-- x⁻: every sign changed
abbrev pub conjugate : Vector → Vector
conjugate x i = option_map negated (x i)

-- (d⁻ ⊗ A)⁻
abbrev pub residual : ℕ → Matrix → Vector → Vector
residual n A d = conjugate (vector_matrix n (conjugate d) A)
