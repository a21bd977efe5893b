-- Whether a lag is broken, and the search for the first that is, in the order of the table.
use Rattle.std.proofs.Common.{◌≡◌, ℕ, suc, ◌+◌, ◌*◌, ◌<◌, ◌≤◌, false, ◌⊎◌, List, get_or, Some, None, Option, Ordering, Less, Equal, Greater, Decides, refl, sym, ap, ◌∙◌, subst, subst₂, ap₂, inl, inr, mul-le-mul_right, suc-mul, arith}
use Rattle.std.proofs.lemmas.Bool.{cases_lt, false≢true}
use Rattle.std.specs.Option.{option_map}
use Rattle.std.specs.Ordering.{MatchOrdering, is_lt}
use Rattle.rows.specs.Limits.{lag_limit}
use Rattle.rows.specs.MaxPlus.{added}
use Rattle.rows.specs.Rows.{Row, Before, Within}
use Rattle.rows.proofs.Options.{none_or_some, same_some}
use Rattle.rows.proofs.Order.{before_asym, NotBefore-same}
use Rattle.schedules.specs.Plans.{Lags, Totals}
use Rattle.marks.specs.Fits.{FitsTotal}
use Rattle.plan.specs.Checks.{Given, totals_missed}
use Rattle.schedules.specs.Tables.{lags, times, place}
use Rattle.plan.proofs.Passed.{all_given}
use Rattle.plan.proofs.Fits.{fits_added, given_near}
use Rattle.plan.specs.Keeping.{Breaks}

-- the sum that the code makes is the one that the lag asks for
pub arrived : {A T : Type 0} (amount : A → Row) (row : T → Row) → ((a : A) → Within lag_limit (amount a)) → (m n : ℕ) (table : List (Option A)) (totals : List (Option T)) (v u : ℕ) (t : T) (lag : Option A) (sum : Option T) → totals_missed (times row totals) 0 1 n ≡ false → u < n → times row totals (0 + 1 * u) ≡ Some (row t) → lag ≡ get_or table (place m v u) None → (FitsTotal (added (Some (row t)) (option_map amount lag)) → option_map row sum ≡ added (Some (row t)) (option_map amount lag)) → option_map row sum ≡ added (times row totals u) (lags amount m table v u)
arrived amount row limit m n table totals v u t lag sum all h at stands fits =
    let given : Given (Some (row t)) = subst Given at (all_given (times row totals) 0 1 n all u h) in
    let same : 0 + 1 * u ≡ u = omega arith in
    fits (fits_added amount limit (Some (row t)) lag (given_near (Some (row t)) given)) ∙ ap₂ added (sym at ∙ ap (times row totals) same) (ap (option_map amount) stands)

module _ (L : Lags) (x : Totals) (v u : ℕ) where
  pub breaks_none : added (x u) (L v u) ≡ None → Decides false (Breaks L x v u)
  unfolding Breaks
  breaks_none e = (λ f. absurd (false≢true f), λ b. absurd (none_or_some b.1 (sym e ∙ b.3)))

  pub breaks_less : (o : Ordering) (t s : Row) → x v ≡ Some t → added (x u) (L v u) ≡ Some s → MatchOrdering o (Before t s) (t ≡ s) (Before s t) → Decides (is_lt o) (Breaks L x v u)
  unfolding Breaks
  breaks_less o t s at least order = go o order
    where
      before : Breaks L x v u → Before t s
      before b = subst₂ Before (same_some b.0 t (sym b.2 ∙ at)) (same_some b.1 s (sym b.3 ∙ least)) b.4

      go : (o : Ordering) → MatchOrdering o (Before t s) (t ≡ s) (Before s t) → Decides (is_lt o) (Breaks L x v u)
      go Less h = (λ e. (t, s, at, least, h), λ b. refl)
      go Equal h = (λ f. absurd (false≢true f), λ b. absurd (NotBefore-same t s h (before b)))
      go Greater h = (λ f. absurd (false≢true f), λ b. absurd (before_asym s t h (before b)))

-- an earlier place lies in an earlier row, or further left in the same
pub earlier_place : (m v u t s : ℕ) → u < m → s < m → place m v u < place m t s → (v < t) ⊎ ((v ≡ t) × (u < s))
earlier_place m v u t s h k l = go (cases_lt v t) (cases_lt t v)
  where
    go : (v < t) ⊎ (t ≤ v) → (t < v) ⊎ (v ≤ t) → (v < t) ⊎ ((v ≡ t) × (u < s))
    go (inl p) q = inl p
    go (inr p) (inl q) = let above : suc t ≤ v = omega arith in absurd (omega (arith, suc-mul t m, mul-le-mul_right m above))
    go (inr p) (inr q) = let same : v ≡ t = omega arith in inr (same, omega (arith, ap (λ (i : ℕ). i * m) same))

pub none_earlier : (B : ℕ → ℕ → Type 0) (m to from : ℕ) → ((v u : ℕ) → v < to → u < m → B v u → ⊥) → ((u : ℕ) → u < from → B to u → ⊥) → from < m → (v u : ℕ) → v < m → u < m → place m v u < place m to from → B v u → ⊥
none_earlier B m to from h k f v u i j l b = go (earlier_place m v u to from j f l)
  where
    go : (v < to) ⊎ ((v ≡ to) × (u < from)) → ⊥
    go (inl p) = h v u p j b
    go (inr p) = k u p.1 (subst (λ (t : ℕ). B t u) p.0 b)
