-- Whether times keep the lags.
use Rattle.std.specs.Prelude.{◌≡◌, ℕ, ◌<◌, Some, None, Option}
use Rattle.rows.specs.MaxPlus.{added}
use Rattle.rows.specs.Rows.{Row, Before}
use Rattle.schedules.specs.Plans.{Lags, Totals}
use Rattle.schedules.specs.Tables.{place}

-- the times x break the lag to v from u: v comes before u plus the lag
unfoldable pub Breaks : Lags → Totals → ℕ → ℕ → Type 0
Breaks L x v u =
    (t : Row) × (s : Row) × (x v ≡ Some t) × (added (x u) (L v u) ≡ Some s) × Before t s

-- the first broken lag in the order of the table, or none
abbrev pub FirstBroken : ℕ → Lags → Totals → Option (ℕ × ℕ) → Type 0
FirstBroken m L x None = (v u : ℕ) → v < m → u < m → Breaks L x v u → ⊥
FirstBroken m L x (Some p) =
    ((p.0 < m) × (p.1 < m))
    × (Breaks L x p.0 p.1
    × ((v u : ℕ) → v < m → u < m → place m v u < place m p.0 p.1 → Breaks L x v u → ⊥))
