-- The least times from first totals are A* times these.
use Rattle.std.proofs.Common.{◌≡◌, ℕ, ◌-◌, ◌<◌, ◌≤◌, ◌↔◌, length, Some, None, Option, sym, refl, ap, ◌∙◌, subst, arith}
use Rattle.rows.specs.Algebra.{Vector, Matrix, matrix_vector, Star}
use Rattle.rows.specs.Rows.{Row, NotBefore}
use Rattle.schedules.specs.Firsts.{LeastFrom}
use Rattle.schedules.specs.Plans.{Lags, Totals, Wide, KeepsLags, AtLeast}
use Rattle.schedules.specs.Rounds.{rounds, Settled}
use Rattle.schedules.proofs.Changes.{kept_settles}
use Rattle.schedules.proofs.Least.{settled_least, settled_least_alike}
use Rattle.schedules.proofs.Optional.{WideRow-from}
use Rattle.schedules.proofs.Rounds.{WideTotals}
use Rattle.algebra.proofs.Order.{antisym}
use Rattle.algebra.proofs.Stars.{settled_product}

-- there is one least from b

module _ (w m : ℕ) (A : Lags) (b : Totals) (some : 1 ≤ w) where
  least_wide : (R : Totals) → LeastFrom w m A b R → (e : ℕ) (r : Row) → e < m → R e ≡ Some r → length r ≡ w
  least_wide R h e r e_in q = sym (ap length (h.met.2 e r e_in q)) ∙ h.met.1.0.wide e e_in

  least_covers : (R T : Totals) → LeastFrom w m A b R → LeastFrom w m A b T → (e : ℕ) → e < m → AtLeast (R e) (T e)
  least_covers R T h k e e_in = go (R e) (T e) refl refl
    where
      go : (o p : Option Row) → R e ≡ o → T e ≡ p → AtLeast o p
      go o None d q = tt
      go None (Some t) d q =
          let x = h.free some e e_in d t (least_wide T k e t e_in q) in
          subst (AtLeast (Some (x.0 e))) q (k.under x.0 x.1 e e_in) x.3
      go (Some r) (Some t) d q =
          let x = h.met in
          subst (λ (z : Row). NotBefore z t) (x.2 e r e_in d) (subst (AtLeast (Some (x.0 e))) q (k.under x.0 x.1 e e_in))

  one_least : (R T : Totals) → LeastFrom w m A b R → LeastFrom w m A b T → (e : ℕ) → e < m → R e ≡ T e
  one_least R T h k e e_in =
      antisym w (R e) (T e) (WideRow-from w (R e) (λ r. least_wide R h e r e_in)) (WideRow-from w (T e) (λ r. least_wide T k e r e_in)) (least_covers R T h k e e_in) (least_covers T R k h e e_in)

pub least_product : (w m : ℕ) (A : Matrix) → Wide w m A → 1 ≤ m → (b : Vector) → WideTotals w m b → (x : ℕ → Row) → KeepsLags w m A x
    → (S : Matrix) → 1 ≤ w → Star w m A S → (R : Vector) → LeastFrom w m A b R ↔ ((e : ℕ) → e < m → R e ≡ matrix_vector m S b e)
least_product w m A wide first b sized x t S some is R = (to, λ h. settled_least_alike w m A wide b sized (m - 1) f x t R (λ e e_in. h e e_in ∙ sym (product e e_in)))
  where
    f : Settled m A b (m - 1)
    f = kept_settles w m A wide first b sized x t (m - 1) (omega arith)

    product : (e : ℕ) → e < m → rounds m A b (m - 1) e ≡ matrix_vector m S b e
    product e e_in = settled_product w m A wide b sized S is (m - 1) e e_in f

    to : LeastFrom w m A b R → (e : ℕ) → e < m → R e ≡ matrix_vector m S b e
    to h e e_in = one_least w m A b some R (rounds m A b (m - 1)) h (settled_least w m A wide b sized (m - 1) f x t) e e_in ∙ product e e_in
