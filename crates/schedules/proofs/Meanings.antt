-- What holds of everything that a lag or a total can mean holds of what stands in a table and in a
-- row.
use Rattle.std.proofs.Common.{◌≡◌, ℕ, List, length, get_or, Some, None, Option, sym, subst}
use Rattle.std.specs.Option.{option_map}
use Rattle.rows.specs.Rows.{Row}
use Rattle.schedules.proofs.Optional.{some_inj, some_none}
use Rattle.schedules.specs.Tables.{lags, place, times}
use Rattle.schedules.specs.Plans.{Wide, columns}

module _ {A : Type 0} (P : Row → Type 0) (f : A → Row) (all : (a : A) → P (f a)) where
  mapped_holds : (o : Option A) (r : Row) → option_map f o ≡ Some r → P r
  mapped_holds None r e = absurd (some_none (sym e))
  mapped_holds (Some a) r e = subst P (some_inj e) (all a)

  pub table_holds : (m : ℕ) (table : List (Option A)) (v u : ℕ) (r : Row) → lags f m table v u ≡ Some r → P r
  table_holds m table v u r e = mapped_holds (get_or table (place m v u) None) r e

  pub row_holds : (totals : List (Option A)) (v : ℕ) (r : Row) → times f totals v ≡ Some r → P r
  row_holds totals v r e = mapped_holds (get_or totals v None) r e

-- so every row has the width of the kind
module _ {A : Type 0} (w : ℕ) (f : A → Row) (wide : (a : A) → length (f a) ≡ w) (n : ℕ) where
  pub lags_wide : (m : ℕ) (table : List (Option A)) → Wide w n (lags f m table)
  lags_wide m table v u r v_in u_in e = table_holds (λ q. length q ≡ w) f wide m table v u r e

  pub times_wide : (totals : List (Option A)) → Wide w n (columns (times f totals))
  times_wide totals v u r v_in u_in e = row_holds (λ q. length q ≡ w) f wide totals v r e
