-- Rounds: each event's total is raised to what the lags ask, all events at once, again and again.
use Rattle.std.specs.Prelude.{◌≡◌, ℕ, zero, suc, ◌<◌, Some, None, Option}
use Rattle.rows.specs.MaxPlus.{later, added, folded}
use Rattle.rows.specs.Rows.{Row, zeros, minus}
use Rattle.schedules.specs.Plans.{Lags, Totals}

-- what the totals S and the lags to v from the first n events ask of v
abbrev pub into : Lags → Totals → ℕ → ℕ → Option Row
into L S v n = folded later (S v) n (λ u. added (S u) (L v u))

abbrev pub round : ℕ → Lags → Totals → Totals
round m L S v = into L S v m

abbrev pub rounds : ℕ → Lags → Totals → ℕ → Totals
rounds m L S zero = S
rounds m L S (suc k) = round m L (rounds m L S k)

-- the opening at zero, and no other event known
abbrev pub opening : ℕ → Totals
opening w zero = Some (zeros w)
opening w (suc v) = None

-- every event at zero
abbrev pub everywhere : ℕ → Totals
everywhere w v = Some (zeros w)

-- a total, or zero where none is known
abbrev pub total_of : ℕ → Option Row → Row
total_of w None = zeros w
total_of w (Some r) = r

-- how far the totals S are after the opening's
abbrev pub since_opening : ℕ → Totals → ℕ → Row
since_opening w S v = minus (total_of w (S v)) (total_of w (S 0))

-- a round more changes nothing
abbrev pub Settled : ℕ → Lags → Totals → ℕ → Type 0
Settled m L S k = (v : ℕ) → v < m → rounds m L S (suc k) v ≡ rounds m L S k v

-- round k + 1 changes v
abbrev pub Changed : ℕ → Lags → Totals → ℕ → ℕ → Type 0
Changed m L S k v = rounds m L S (suc k) v ≡ rounds m L S k v → ⊥
