-- Which events wait on another: those that a chain of lags from it reaches.
use Rattle.std.specs.Prelude.{◌≡◌, ℕ, zero, suc, ◌<◌, ◌↔◌, ◌≢◌}
use Rattle.std.specs.Int.{bit_at}
use Rattle.schedules.specs.Plans.{Lags, Reaches}

-- v waits on e: it is another event, and a chain from e reaches it
abbrev pub Waits : ℕ → Lags → ℕ → ℕ → Type 0
Waits m L e v = (v ≢ e) × Reaches m L e v

-- P holds of exactly c of the numbers below n
pub data Counts (P : ℕ → Type 0) : ℕ → ℕ → Type 0 where
  nothing : Counts P zero zero
  counted : {n c : ℕ} → P n → Counts P n c → Counts P (suc n) (suc c)
  passed : {n c : ℕ} → (P n → ⊥) → Counts P n c → Counts P (suc n) c

-- bit v of the mask tells whether v waits on e, and the count is the number of such events
pub record Waiting (m : ℕ) (L : Lags) (e : ℕ) (answer : ℕ × ℕ) : Type 0 where
  pub bits : (v : ℕ) → v < 64 → (bit_at answer.0 v ≡ 1) ↔ Waits m L e v
  pub count : Counts (Waits m L e) m answer.1
