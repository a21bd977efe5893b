-- The steps to an answer row: what is chosen over the stages, and rows written stage by stage.
use Rattle.std.specs.Prelude.{◌≡◌, ℕ, ◌+◌, ◌*◌, ◌<◌, List, ◌∷◌, take, drop, reverse, None, Option, slice_index_or}
use Rattle.std.specs.Option.{option_map}
use Rattle.rows.specs.Rows.{Row}
use Rattle.schedules.specs.Tables.{events}
use Rattle.rows.specs.MaxPlus.{folded}

-- `chosen` is what the choice C makes of the optional totals that G gives for the first k of n
-- stages, one after the other: if C means op, and f says what those totals mean, then `chosen`
-- means what `folded` says.
abbrev pub Chosen :
    {T : Type 0} → (T → Row) → (Option T → Option T → Option T → Type 0) → (ℕ → Option T → Type 0)
    → (n k : ℕ) → Option T → Type 0
Chosen {T} row C G n k chosen =
    (op : Option Row → Option Row → Option Row) (f : ℕ → Option Row)
    → ((a b r : Option T) → C a b r → option_map row r ≡ op (option_map row a) (option_map row b))
    → ((j : ℕ) (time : Option T) → j < n → G j time → option_map row time ≡ f j)
    → option_map row chosen ≡ folded op None k f

-- The row after: no time at the opening, for the start and the finish of each of n stages a pair of
-- which P holds, and behind them what was there.
pub record Staged {T : Type 0}
    (P : ℕ → Option T × Option T → Type 0) (n : ℕ) (former after : List (Option T)) : Type 0 where
  pub opening : slice_index_or after 0 None ≡ None
  pub stages : (k : ℕ) → k < n
      → (r : Option T × Option T) × P k r
      × (slice_index_or after (2 * k + 1) None ≡ r.0)
      × (slice_index_or after (2 * k + 2) None ≡ r.1)
  pub rest : drop (events n) after ≡ drop (events n) former

-- The first places of the row after hold the loop of so many events that was there, read the other
-- way round: the first event stays, and the others follow in the opposite order. The places behind
-- them are as they were.
pub record LoopTurned (len : ℕ) (row after : List ℕ) : Type 0 where
  pub turned : (e : ℕ) (es : List ℕ) → take len row ≡ e ∷ es → take len after ≡ e ∷ reverse es
  pub rest : drop len after ≡ drop len row
