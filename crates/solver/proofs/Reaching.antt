-- Rounds settled from the opening alone know it and the events that a chain of lags from it reaches,
-- and no others.
use Rattle.std.proofs.Common.{◌≡◌, ℕ, zero, suc, ◌<◌, ◌≢◌, ◌⊎◌, ◌↔◌, None, sym, refl, subst, inl, inr}
use Rattle.schedules.specs.Plans.{Lags, Wide, Reaches}
use Rattle.schedules.specs.Firsts.{ReachedFrom}
use Rattle.schedules.specs.Rounds.{rounds, opening, Settled}
use Rattle.schedules.proofs.Optional.{some_none}
use Rattle.schedules.proofs.Reached.{from_reached, reached_from}
use Rattle.schedules.proofs.Rounds.{opening_sized}

-- the opening, or reached by a chain from it
abbrev FromOpening : ℕ → Lags → ℕ → Type 0
FromOpening m L v = (v ≡ 0) ⊎ Reaches m L 0 v

reached_first : (w m : ℕ) (L : Lags) (v : ℕ) → FromOpening m L v → ReachedFrom m L (opening w) v
reached_first w m L v (inl e) = inl (subst (λ (i : ℕ). opening w i ≢ None) (sym e) some_none)
reached_first w m L v (inr c) = inr (0, some_none, c)

first_reached : (w m : ℕ) (L : Lags) (v : ℕ) → ReachedFrom m L (opening w) v → FromOpening m L v
first_reached w m L zero n = inl refl
first_reached w m L (suc v) (inl n) = absurd (n refl)
first_reached w m L (suc v) (inr (zero, n, c)) = inr c
first_reached w m L (suc v) (inr (suc u, n, c)) = absurd (n refl)

module _ (w m : ℕ) (L : Lags) (wide : Wide w m L) (k : ℕ) (f : Settled m L (opening w) k) where
  pub known_from_opening : (v : ℕ) → v < m → (rounds m L (opening w) k v ≢ None) ↔ FromOpening m L v
  known_from_opening v v_in =
      (λ n. first_reached w m L v (reached_from m L (opening w) k v v_in n), λ c. from_reached w m L wide (opening w) (opening_sized w m) k f v v_in (reached_first w m L v c))
