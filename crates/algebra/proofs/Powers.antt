-- Rounds from b are I ⊕ A ⊕ .. ⊕ A^k times b, and from a unit vector a column of it.
use Rattle.std.proofs.Common.{◌≡◌, ℕ, zero, suc, ◌<◌, ◌≤◌, Bool, true, false, cond, eqb, ◌⊎◌, length, Some, None, Option, sym, refl, ap, ◌∙◌, subst, subst₂, inl, inr, arith}
use Rattle.std.proofs.lemmas.Bool.{cases_lt, cases_eq, cond-true, cond-false, eq-eqb, ne_eqb}
use Rattle.rows.specs.Algebra.{Vector, Matrix, sum, matrix_vector, identity, power, powers}
use Rattle.rows.specs.Extremes.{LatestOf}
use Rattle.rows.specs.MaxPlus.{added}
use Rattle.rows.specs.Rows.{Row, zeros}
use Rattle.rows.proofs.Extremes.{latest_either, latest_one}
use Rattle.rows.proofs.Sums.{length-zeros, plus_comm, plus-zeros}
use Rattle.schedules.specs.Plans.{Totals, Wide, AtLeast}
use Rattle.schedules.specs.Rounds.{round, rounds}
use Rattle.schedules.specs.Walks.{Source}
use Rattle.schedules.proofs.Optional.{WideRow, WideRow-to, AtLeast-refl, AtLeast-trans, after_rowed, after_is}
use Rattle.schedules.proofs.Rounds.{lag_rowed, WideTotals, rounds_sized, round_covers, rounds_mono, round_source}
use Rattle.algebra.proofs.Order.{antisym, added_mono, added_comm, added_assoc, sum_least, product_least, sum_rowed, sum_covers, latest_rowed, latest_product}

-- column j of I
abbrev pub unit : ℕ → ℕ → Totals
unit w j v = identity w v j

identity_rowed : (w i j : ℕ) → WideRow w (identity w i j)
identity_rowed w i j = go (eqb i j)
  where
    go : (b : Bool) → WideRow w (cond b (Some (zeros w)) None)
    go true = length-zeros w
    go false = tt

pub unit_sized : (w m j : ℕ) → WideTotals w m (unit w j)
unit_sized w m j v h = identity_rowed w v j

-- I is neutral

pub identity_at : (w i : ℕ) → identity w i i ≡ Some (zeros w)
identity_at w i = cond-true (eqb i i) (Some (zeros w)) None (eq-eqb i i refl)

pub identity_other : (w i j : ℕ) → (i ≡ j → ⊥) → identity w i j ≡ None
identity_other w i j d = cond-false (eqb i j) (Some (zeros w)) None (ne_eqb i j d)

zeros_added : (w : ℕ) (o : Option Row) → WideRow w o → added (Some (zeros w)) o ≡ o
zeros_added w None h = refl
zeros_added w (Some x) h = ap (λ (z : Row). Some z) (plus_comm (zeros w) x ∙ plus-zeros w x h)

identity_same : (w i : ℕ) (o : Option Row) → WideRow w o → added (identity w i i) o ≡ o
identity_same w i o h = ap (λ (z : Option Row). added z o) (identity_at w i) ∙ zeros_added w o h

-- the product of a row and column j of I is the row's entry
module _ (w n : ℕ) (f : Vector) (rowed : (k : ℕ) → k < n → WideRow w (f k)) (j : ℕ) (j_in : j < n) where
  abbrev entry : Vector
  entry k = added (f k) (unit w j k)

  entry_rowed : (k : ℕ) → k < n → WideRow w (entry k)
  entry_rowed k k_in = after_rowed w (f k) (unit w j k) (rowed k k_in) (identity_rowed w k j)

  entry_same : entry j ≡ f j
  entry_same = added_comm (f j) (unit w j j) ∙ identity_same w j (f j) (rowed j j_in)

  entry_under : (k : ℕ) → k < n → AtLeast (f j) (entry k)
  entry_under k k_in = go (cases_eq k j)
    where
      go : (k ≡ j) ⊎ (k ≡ j → ⊥) → AtLeast (f j) (entry k)
      go (inl e) = subst (λ (i : ℕ). AtLeast (f j) (entry i)) (sym e) (subst (AtLeast (f j)) (sym entry_same) (AtLeast-refl (f j)))
      go (inr d) = subst (AtLeast (f j)) (sym (ap (added (f k)) (identity_other w k j d) ∙ added_comm (f k) None)) tt

  product_unit : sum n (λ k. added (f k) (unit w j k)) ≡ f j
  product_unit =
      antisym w (sum n entry) (f j) (sum_rowed w n entry entry_rowed) (rowed j j_in) (subst (AtLeast (sum n entry)) entry_same (sum_covers w n entry entry_rowed j j_in)) (sum_least n entry (f j) entry_under)

-- a product's factors in another order
moved : (a p o : Option Row) → added (added p o) a ≡ added (added a p) o
moved a p o = added_comm (added p o) a ∙ sym (added_assoc a p o)

-- at least a row, so the factor is there
factor : (p o : Option Row) (r : Row) → AtLeast (added p o) (Some r) → (q : Row) × (p ≡ Some q)
factor None o r h = absurd h
factor (Some q) o r h = (q, refl)

-- q is the entry (v, j) of one of A^0, A^1, .., A^k
abbrev pub Upto : ℕ → ℕ → Matrix → ℕ → ℕ → ℕ → Row → Type 0
Upto w m A v j k q = (i : ℕ) × (i ≤ k) × (power w m A i v j ≡ Some q)

module _ (w m : ℕ) (A : Matrix) (wide : Wide w m A) where
  pub power_rowed : (k v j : ℕ) → v < m → WideRow w (power w m A k v j)
  power_rowed zero v j v_in = identity_rowed w v j
  power_rowed (suc k) v j v_in =
      sum_rowed w m (λ u. added (A v u) (power w m A k u j)) (λ u u_in. after_rowed w (A v u) (power w m A k u j) (lag_rowed w m A wide v u v_in u_in) (power_rowed k u j u_in))

  pub step_rowed : (k v j u : ℕ) → v < m → u < m → WideRow w (added (A v u) (power w m A k u j))
  step_rowed k v j u v_in u_in = after_rowed w (A v u) (power w m A k u j) (lag_rowed w m A wide v u v_in u_in) (power_rowed k u j u_in)

  pub power_wide : (k v j : ℕ) (q : Row) → v < m → power w m A k v j ≡ Some q → length q ≡ w
  power_wide k v j q v_in e = WideRow-to w (power w m A k v j) q e (power_rowed k v j v_in)

  upto_wide : (v j k : ℕ) → v < m → (q : Row) → Upto w m A v j k q → length q ≡ w
  upto_wide v j k v_in q t = power_wide t.0 v j q v_in t.2

  pub powers_latest : (k v j : ℕ) → v < m → LatestOf (Upto w m A v j k) (powers w m A k v j)
  powers_latest zero v j v_in = go (identity w v j) (latest_one (identity w v j)) refl
    where
      only : (q : Row) → Upto w m A v j 0 q → identity w v j ≡ Some q
      only q t = let z : t.0 ≡ 0 = omega (arith, t.1) in subst (λ (i : ℕ). power w m A i v j ≡ Some q) z t.2

      go : (o : Option Row) → LatestOf (λ q. o ≡ Some q) o → identity w v j ≡ o → LatestOf (Upto w m A v j 0) o
      go None h e = λ q t. h q (sym e ∙ only q t)
      go (Some r) h e = ((0, omega arith, e), λ q t. h.1 q (sym e ∙ only q t))
  powers_latest (suc k) v j v_in =
      latest_either w (Upto w m A v j k) (λ q. power w m A (suc k) v j ≡ Some q) (Upto w m A v j (suc k)) split (λ q t. (t.0, omega (arith, t.1), t.2)) (λ q e. (suc k, omega arith, e)) (upto_wide v j k v_in) (λ q e. power_wide (suc k) v j q v_in e) (powers w m A k v j) (power w m A (suc k) v j) (powers_latest k v j v_in) (latest_one (power w m A (suc k) v j))
    where
      split : (q : Row) → Upto w m A v j (suc k) q → Upto w m A v j k q ⊎ (power w m A (suc k) v j ≡ Some q)
      split q t = at (cases_lt k t.0)
        where
          at : (k < t.0) ⊎ (t.0 ≤ k) → Upto w m A v j k q ⊎ (power w m A (suc k) v j ≡ Some q)
          at (inl l) = let e : t.0 ≡ suc k = omega (arith, t.1) in inr (subst (λ (i : ℕ). power w m A i v j ≡ Some q) e t.2)
          at (inr l) = inl (t.0, l, t.2)

  -- k rounds from b have at least each entry of a power up to k times what b has there
  module _ (b : Vector) (sized : WideTotals w m b) where
    abbrev part : ℕ → ℕ → ℕ → Option Row
    part i v j = added (power w m A i v j) (b j)

    total_rowed : (k v : ℕ) → v < m → WideRow w (rounds m A b k v)
    total_rowed k v v_in = rounds_sized w m A wide b sized k v v_in

    pub product_under : (i k v j : ℕ) → i ≤ k → v < m → j < m → AtLeast (rounds m A b k v) (part i v j)
    product_under zero k v j le v_in j_in = go (cases_eq v j)
      where
        go : (v ≡ j) ⊎ (v ≡ j → ⊥) → AtLeast (rounds m A b k v) (part 0 v j)
        go (inl e) =
            subst (λ (i : ℕ). AtLeast (rounds m A b k v) (part 0 v i)) e (subst (AtLeast (rounds m A b k v)) (sym (identity_same w v (b v) (sized v v_in))) (rounds_mono w m A wide b sized 0 k v v_in (omega arith)))
        go (inr d) = subst (λ (o : Option Row). AtLeast (rounds m A b k v) (added o (b j))) (sym (identity_other w v j d)) tt
    product_under (suc i) zero v j le v_in j_in = absurd (omega arith)
    product_under (suc i) (suc k) v j le v_in j_in =
        product_least m (λ u. added (A v u) (power w m A i u j)) (b j) (rounds m A b (suc k) v) (λ u u_in. step u u_in (product_under i k u j (omega arith) u_in j_in))
      where
        step : (u : ℕ) → u < m → AtLeast (rounds m A b k u) (part i u j) → AtLeast (rounds m A b (suc k) v) (added (added (A v u) (power w m A i u j)) (b j))
        step u u_in h =
            subst (AtLeast (rounds m A b (suc k) v)) (moved (A v u) (power w m A i u j) (b j))
            (AtLeast-trans w (rounds m A b (suc k) v) (added (rounds m A b k u) (A v u)) (added (part i u j) (A v u))
            (total_rowed (suc k) v v_in) (after_rowed w (rounds m A b k u) (A v u) (total_rowed k u u_in) (lag_rowed w m A wide v u v_in u_in))
            (round_covers w m A wide (rounds m A b k) (rounds_sized w m A wide b sized k) v u v_in u_in)
            (added_mono (rounds m A b k u) (part i u j) (A v u) h))

    -- and no more than one of these
    Over : ℕ → ℕ → Row → Type 0
    Over k v r = (i : ℕ) × (j : ℕ) × (i ≤ k) × (j < m) × AtLeast (part i v j) (Some r)

    product_over : (k v : ℕ) (r : Row) → v < m → rounds m A b k v ≡ Some r → Over k v r
    unfolding Over
    product_over zero v r v_in e =
        (0, v, omega arith, v_in, subst (λ (o : Option Row). AtLeast o (Some r)) (sym (identity_same w v (b v) (sized v v_in) ∙ e)) (AtLeast-refl (Some r)))
    product_over (suc k) v r v_in e = go (λ u t u_in q. product_over k u t u_in q) (round_source m A (rounds m A b k) v)
      where
        go : ((u : ℕ) (t : Row) → u < m → rounds m A b k u ≡ Some t → Over k u t) → (round m A (rounds m A b k) v ≡ rounds m A b k v) ⊎ ((u : ℕ) × Source m A (rounds m A b k) v u (round m A (rounds m A b k) v)) → Over (suc k) v r
        go rest (inl h) = let t = rest v r v_in (sym h ∙ e) in (t.0, t.1, omega (arith, t.2), t.3, t.4)
        go rest (inr s) =
            let u = s.0 in
            let from = s.1 in
            let t = rest u from.total from.inside from.known in
            let i = t.0 in
            let j = t.1 in
            let came : added (Some from.total) (A v u) ≡ Some r = after_is (Some from.total) (A v u) from.total from.lag refl from.stands ∙ sym from.gives ∙ e in
            let more : AtLeast (added (added (A v u) (power w m A i u j)) (b j)) (Some r) = subst₂ AtLeast (moved (A v u) (power w m A i u j) (b j)) came (added_mono (part i u j) (Some from.total) (A v u) t.4) in
            let over : AtLeast (part (suc i) v j) (added (added (A v u) (power w m A i u j)) (b j)) = added_mono (power w m A (suc i) v j) (added (A v u) (power w m A i u j)) (b j) (sum_covers w m (λ u. added (A v u) (power w m A i u j)) (λ u u_in. step_rowed i v j u v_in u_in) u from.inside) in
            (suc i, j, omega (arith, t.2), t.3, AtLeast-trans w (part (suc i) v j) (added (added (A v u) (power w m A i u j)) (b j)) (Some r) (after_rowed w (power w m A (suc i) v j) (b j) (power_rowed (suc i) v j v_in) (sized j t.3)) (after_rowed w (added (A v u) (power w m A i u j)) (b j) (step_rowed i v j u v_in from.inside) (sized j t.3)) over more)

    pub product_reached : (k v : ℕ) (r : Row) → v < m → rounds m A b k v ≡ Some r → (j : ℕ) × (q : Row) × (j < m) × Upto w m A v j k q × AtLeast (added (Some q) (b j)) (Some r)
    unfolding Over
    product_reached k v r v_in e =
        let t = product_over k v r v_in e in
        let p = factor (power w m A t.0 v t.1) (b t.1) r t.4 in
        (t.1, p.0, t.3, (t.0, t.2, p.1), subst (λ (o : Option Row). AtLeast (added o (b t.1)) (Some r)) p.1 t.4)

    pub rounds_product : (k v : ℕ) → v < m → rounds m A b k v ≡ matrix_vector m (powers w m A k) b v
    rounds_product k v v_in =
        latest_product w m b sized (λ j. Upto w m A v j k) (λ j j_in. upto_wide v j k v_in) (powers w m A k v) (λ j j_in. powers_latest k v j v_in) (rounds m A b k v) (total_rowed k v v_in)
        (λ j q j_in t. subst (λ (o : Option Row). AtLeast (rounds m A b k v) (added o (b j))) t.2 (product_under t.0 k v j t.1 v_in j_in)) (λ r e. product_reached k v r v_in e)

  -- from a unit vector they are a column
  pub rounds_powers : (k v j : ℕ) → v < m → j < m → rounds m A (unit w j) k v ≡ powers w m A k v j
  rounds_powers k v j v_in j_in =
      rounds_product (unit w j) (unit_sized w m j) k v v_in
      ∙ product_unit w m (powers w m A k v) (λ u u_in. latest_rowed w (Upto w m A v u k) (upto_wide v u k v_in) (powers w m A k v u) (powers_latest k v u v_in)) j j_in
