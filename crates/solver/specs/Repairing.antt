-- Times that keep every lag but one, and times repaired so that they keep that one too.
use Rattle.std.specs.Prelude.{◌≡◌, ℕ, ◌<◌, Some}
use Rattle.rows.specs.Rows.{Row, plus, NotBefore}
use Rattle.schedules.specs.Firsts.{LeastFrom}
use Rattle.schedules.specs.Plans.{AllKnown, KeepsLags, Lags, Totals}
use Rattle.schedules.specs.Rounds.{total_of}

-- The times x of m events keep every lag, but for the one to `to` from `from`.
abbrev pub KeepsOthers : ℕ → Lags → (ℕ → Row) → (to from : ℕ) → Type 0
KeepsOthers m L x to from =
    (v u : ℕ) (a : Row) → v < m → u < m → (v ≡ to → u ≡ from → ⊥) → L v u ≡ Some a
    → NotBefore (x v) (plus (x u) a)

-- The totals S became R: times that keep every lag, the least that are nowhere before S.
pub record Repaired (w m : ℕ) (L : Lags) (S R : Totals) : Type 0 where
  pub known : AllKnown m R
  pub keeps : KeepsLags w m L (λ v. total_of w (R v))
  pub least : LeastFrom w m L S R
