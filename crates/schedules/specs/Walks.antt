-- Walking back: from an event that the last round changed to the event that its total came from,
-- and so on.
use Rattle.std.specs.Prelude.{◌≡◌, ℕ, zero, suc, ◌+◌, ◌-◌, ◌<◌, List, [], ◌∷◌, Some, Option, ◌≢◌}
use Rattle.rows.specs.Rows.{Row, plus}
use Rattle.schedules.specs.Plans.{Lags, Totals}
use Rattle.schedules.specs.Rounds.{rounds, Changed}

-- the total of u in S and the lag from u to v make the total o of v
pub record Source (m : ℕ) (L : Lags) (S : Totals) (v u : ℕ) (o : Option Row) : Type 0 where
  pub inside : u < m
  pub total : Row
  pub lag : Row
  pub stands : L v u ≡ Some lag
  pub known : S u ≡ Some total
  pub gives : o ≡ Some (plus total lag)

-- Of the first n rounds: where round k + 1 changed v, its total came from the event `from (k + 1)
-- v`.
abbrev pub Traced : ℕ → Lags → Totals → ℕ → (ℕ → ℕ → ℕ) → Type 0
Traced m L S n from =
    (k v : ℕ) → k < n → v < m → Changed m L S k v
    → Source m L (rounds m L S k) v (from (suc k) v) (rounds m L S (suc k) v)

-- the walk from v in round n
abbrev pub walk : (ℕ → ℕ → ℕ) → ℕ → ℕ → ℕ → ℕ
walk from n v zero = v
walk from n v (suc i) = from (n - i) (walk from n v i)

-- i events met after p c, the last one first
abbrev pub backs : (ℕ → ℕ) → ℕ → ℕ → List ℕ
backs p c zero = []
backs p c (suc i) = p (c + suc i) ∷ backs p c i

-- the first d events met are all different
abbrev pub Apart : (ℕ → ℕ) → ℕ → Type 0
Apart p d = (i j : ℕ) → i < j → j < d → p i ≢ p j
