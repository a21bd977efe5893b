-- Sums and differences of totals that are not far out and lags fit into a total.
use Rattle.std.proofs.Common.{◌≡◌, ◌+◌, ◌≤◌, Some, None, Option, sym, refl, ◌∙◌, subst, arith}
use Rattle.std.specs.Option.{option_map}
use Rattle.rows.specs.Limits.{lag_limit, total_limit, given_limit}
use Rattle.rows.specs.MaxPlus.{added, taken}
use Rattle.rows.specs.Rows.{Row, Within, plus, minus}
use Rattle.rows.proofs.Limits.{relations}
use Rattle.rows.proofs.Options.{same_some}
use Rattle.rows.proofs.Sums.{Within-plus, Within-minus, Within-wider}
use Rattle.marks.specs.Fits.{FitsTotal}
use Rattle.plan.specs.Checks.{Given}

near_fits : (given_limit + lag_limit) + lag_limit ≤ total_limit
near_fits = omega (arith, relations.twice_fits)

-- a given total is no further out than a given total and a lag
pub given_near : (x : Option Row) → Given x → (r : Row) → x ≡ Some r → Within (given_limit + lag_limit) r
given_near x h r e =
    subst (Within (given_limit + lag_limit)) (same_some h.0 r (sym h.1 ∙ e)) (Within-wider given_limit (given_limit + lag_limit) h.0 (omega arith) h.2)

module _ {A : Type 0} (amount : A → Row) (limit : (a : A) → Within lag_limit (amount a)) where
  -- a total so far out and a lag more
  pub fits_added : (x : Option Row) (l : Option A) → ((r : Row) → x ≡ Some r → Within (given_limit + lag_limit) r) → FitsTotal (added x (option_map amount l))
  fits_added None l h = tt
  fits_added (Some r) None h = tt
  fits_added (Some r) (Some a) h =
      Within-wider ((given_limit + lag_limit) + lag_limit) total_limit (plus r (amount a)) near_fits (Within-plus (given_limit + lag_limit) lag_limit r (amount a) (h r refl) (limit a))

  difference_fits : (r : Row) (l : Option A) → Within given_limit r → FitsTotal (taken (Some r) (option_map amount l))
  difference_fits r None h = tt
  difference_fits r (Some a) h = Within-wider (given_limit + lag_limit) total_limit (minus r (amount a)) relations.given_fits (Within-minus given_limit lag_limit r (amount a) h (limit a))

  pub fits_taken : (x : Option Row) (l : Option A) → Given x → FitsTotal (taken x (option_map amount l))
  fits_taken x l h = subst (λ (y : Option Row). FitsTotal (taken y (option_map amount l))) (sym h.1) (difference_fits h.0 l h.2)
