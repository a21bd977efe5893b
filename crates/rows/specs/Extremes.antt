-- The latest and the earliest of the rows that have a property.
use Rattle.std.specs.Prelude.{◌≡◌, ℕ, ◌≤◌, Some, None, Option}
use Rattle.rows.specs.Rows.{Row, NotBefore}

-- the row that has the property and stands in R to every row that has it, absent exactly where none
-- has it
abbrev pub BestOf : (Row → Row → Type 0) → (Row → Type 0) → Option Row → Type 0
BestOf R P None = (q : Row) → P q → ⊥
BestOf R P (Some r) = P r × ((q : Row) → P q → R r q)

abbrev pub LatestOf : (Row → Type 0) → Option Row → Type 0
LatestOf P o = BestOf NotBefore P o

abbrev pub EarliestOf : (Row → Type 0) → Option Row → Type 0
EarliestOf P o = BestOf (λ r q. NotBefore q r) P o

-- q is one of f 1, f 2, .., f n
abbrev pub Among : ℕ → (ℕ → Option Row) → Row → Type 0
Among n f q = (k : ℕ) × (1 ≤ k) × (k ≤ n) × (f k ≡ Some q)
