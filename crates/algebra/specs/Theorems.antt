-- What the calls answer, in the words of the algebra.
use Rattle.std.specs.Prelude.{◌≡◌, ℕ, suc, ◌+◌, ◌/◌, ◌<◌, ◌≤◌, ◌↔◌, Some, Option}
use Rattle.std.specs.Option.{option_map}
use Rattle.rows.specs.Rows.{Row, negated}
use Rattle.schedules.specs.Answers.{LeastTime, GreatestTime}
use Rattle.schedules.specs.Firsts.{LeastFrom}
use Rattle.schedules.specs.Plans.{Lags, Totals, Wide, columns, KeepsLags, Schedulable}
use Rattle.schedules.specs.Tables.{events}
use Rattle.schedules.specs.Rounds.{rounds, opening, Settled}
use Rattle.schedules.specs.Starts.{Finishes, Backward}
use Rattle.schedules.specs.Closest.{Closest}
use Rattle.schedules.specs.Flows.{Flow}
use Rattle.schedules.specs.Minutes.{minutes}
use Rattle.rows.specs.Algebra.{◌⊗◌, ◌≼◌, Vector, Matrix, matrix_vector, vector_vector, powers, Star, transpose, conjugate, residual}
use Rattle.algebra.specs.Cycles.{RoundedMean}
use Rattle.algebra.specs.Matrices.{lag_matrix, starts_of, finishes_of, OnlyStartToFinish}

-- every one of the n entries is there
abbrev pub Full : ℕ → Vector → Type 0
Full n x = (i : ℕ) → i < n → (r : Row) × (x i ≡ Some r)

-- k rounds from any first totals b are (I ⊕ A ⊕ .. ⊕ A^k) ⊗ b, of every plan.
abbrev pub RoundsAreProducts : Type 0
RoundsAreProducts =
    (w m : ℕ) (A : Matrix) (b : Vector) → Wide w m A → Wide w m (columns b) → (k e : ℕ) → e < m
    → rounds m A b k e ≡ matrix_vector m (powers w m A k) b e

-- k rounds from the opening are the opening's column of I ⊕ A ⊕ .. ⊕ A^k, of every plan.
abbrev pub RoundsArePowers : Type 0
RoundsArePowers =
    (w m : ℕ) (A : Matrix) → Wide w m A → 1 ≤ m → (k e : ℕ) → e < m
    → rounds m A (opening w) k e ≡ powers w m A k e 0

-- A* is I ⊕ A ⊕ .. ⊕ A^k from k = m - 1 on, and the least times are its column of the opening,
-- absent where the event is free.
pub record LeastByStar (w m : ℕ) (A : Matrix) : Type 0 where
  pub star : (k : ℕ) → m ≤ suc k → Star w m A (powers w m A k)
  pub earliest : (S : Matrix) → 1 ≤ w → Star w m A S → (e : ℕ) (o : Option Row) → e < m
      → LeastTime w m A e o ↔ (S e 0 ≡ o)

-- so it is of the matrix of the lags of every plan that has a schedule
abbrev pub EarliestIsStar : Type 0
EarliestIsStar =
    (w m : ℕ) (A : Matrix) → Wide w m A → 1 ≤ m → Schedulable w m A → LeastByStar w m A

-- A* is I ⊕ A ⊕ .. ⊕ A^k from k = m - 1 on, rounds from the first totals b settle at A* ⊗ b, and
-- this is the least of all times that keep the lags and are nowhere before b; absent where such
-- times may be before every row.
pub record LeastFromByStar (w m : ℕ) (A : Matrix) (b : Vector) : Type 0 where
  pub star : (k : ℕ) → m ≤ suc k → Star w m A (powers w m A k)
  pub settled : (S : Matrix) → Star w m A S → (k e : ℕ) → e < m → Settled m A b k
      → rounds m A b k e ≡ matrix_vector m S b e
  pub least : (S : Matrix) → 1 ≤ w → Star w m A S → (x : Vector)
      → LeastFrom w m A b x ↔ ((e : ℕ) → e < m → x e ≡ matrix_vector m S b e)

-- so it is in every plan that some times y keep
abbrev pub LeastFromIsStar : Type 0
LeastFromIsStar =
    (w m : ℕ) (A : Matrix) (b : Vector) → Wide w m A → Wide w m (columns b) → 1 ≤ m
    → (y : ℕ → Row) → KeepsLags w m A y → LeastFromByStar w m A b

-- The greatest times are those of the transposed matrix, with every sign changed.
pub record GreatestByStar (w m : ℕ) (A : Matrix) : Type 0 where
  pub star : (k : ℕ) → m ≤ suc k → Star w m (transpose A) (powers w m (transpose A) k)
  pub latest : (S : Matrix) → 1 ≤ w → Star w m (transpose A) S → (e : ℕ) (o : Option Row) → e < m
      → GreatestTime w m A e o ↔ (S e 0 ≡ option_map negated o)

abbrev pub LatestIsStar : Type 0
LatestIsStar =
    (w m : ℕ) (A : Matrix) → Wide w m A → 1 ≤ m → Schedulable w m A → GreatestByStar w m A

-- The finishes are y = A ⊗ x.
abbrev pub FinishIsProduct : Type 0
FinishIsProduct =
    (w n : ℕ) (L : Lags) (x y : Totals) → Wide w (events n) L → Wide w (events n) (columns x)
    → Finishes n L x y → (j : ℕ) → j < n
    → finishes_of y j ≡ matrix_vector n (lag_matrix L) (starts_of x) j

-- A ⊗ x ≼ d
abbrev pub Solves : ℕ → Matrix → Vector → Vector → Type 0
Solves n A d x = (i : ℕ) → i < n → matrix_vector n A x i ≼ d i

-- The starts that backward writes are (d⁻ ⊗ A)⁻, the greatest x with A ⊗ x ≼ d. An entry is absent
-- where its column is: any start will do.
pub record BackwardIsResidual : Type 0 where
  pub starts : (w n : ℕ) (L : Lags) (d y : Totals) → Wide w (events n) L
      → Wide w (events n) (columns d) → Wide w (events n) (columns y) → Full n (finishes_of d)
      → Backward w n L d y → (k : ℕ) → k < n
      → starts_of y k ≡ residual n (lag_matrix L) (finishes_of d) k
  pub below : (w n : ℕ) (A : Matrix) (d : Vector) → Wide w n A → Wide w n (columns d) → Full n d
      → Solves n A d (residual n A d)
  pub greatest : (w n : ℕ) (A : Matrix) (d x : Vector) → Wide w n A → Wide w n (columns d)
      → Wide w n (columns x) → Full n d → Solves n A d x
      → (k : ℕ) (r : Row) → k < n → residual n A d k ≡ Some r → x k ≼ Some r

-- The distance that closest answers is ⌈Δ / 2⌉ with Δ = (A ⊗ (d⁻ ⊗ A)⁻)⁻ ⊗ d, and its starts are
-- that distance ⊗ (d⁻ ⊗ A)⁻.
pub record ClosestIsHalf (n : ℕ) (A : Matrix) (d y : Vector) (e : ℕ) : Type 0 where
  pub delta : ℕ
  pub is : vector_vector n (conjugate (matrix_vector n A (residual n A d))) d
      ≡ Some (minutes delta)
  pub distance : e ≡ (delta + 1) / 2
  pub starts : (k : ℕ) → k < n → y k ≡ Some (minutes e) ⊗ residual n A d k

abbrev pub ClosestIsResidual : Type 0
ClosestIsResidual =
    (n : ℕ) (L : Lags) (d y : Totals) (e : ℕ) → 1 ≤ n → Wide 1 (events n) L
    → Wide 1 (events n) (columns d) → Full n (finishes_of d) → Closest n L d y e
    → ClosestIsHalf n (lag_matrix L) (finishes_of d) (starts_of y) e

-- Where only start-to-finish lags stand, the flow is the greatest mean of a cycle of their matrix,
-- rounded up. (Of plans with other lags this says nothing.)
abbrev pub FlowInAlgebra : ℕ → Lags → ℕ → Type 0
FlowInAlgebra n L f = OnlyStartToFinish n L → RoundedMean n (lag_matrix L) f

abbrev pub FlowIsGreatestMean : Type 0
FlowIsGreatestMean =
    (n : ℕ) (L : Lags) (f : ℕ) (y : Totals) → 1 ≤ n → Wide 1 (events n) L → Flow n L f y
    → FlowInAlgebra n L f
