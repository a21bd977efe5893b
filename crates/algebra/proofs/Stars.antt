-- Settled totals are A* times the first ones, and its column of the opening has the least times.
use Rattle.std.proofs.Common.{◌≡◌, ℕ, zero, suc, ◌+◌, ◌-◌, ◌<◌, ◌≤◌, ◌↔◌, length, Some, None, Option, sym, refl, ap, ◌∙◌, subst, subst₂, suc-add, zero-add, arith}
use mathlib.Core.Path.{fun_ext}
use Rattle.std.specs.Option.{option_map}
use Rattle.rows.specs.Extremes.{LatestOf}
use Rattle.rows.specs.MaxPlus.{added}
use Rattle.rows.specs.Rows.{Row, negated, NotBefore}
use Rattle.rows.proofs.Order.{NotBefore-antisym}
use Rattle.schedules.specs.Answers.{LeastTime, GreatestTime}
use Rattle.schedules.specs.Plans.{Totals, Wide, KeepsLags, Schedulable, Earliest, FreeBelow, AtLeast}
use Rattle.schedules.specs.Rounds.{rounds, opening, Settled}
use Rattle.schedules.proofs.Changes.{kept_settles, opening_settles}
use Rattle.schedules.proofs.Earliest.{settled_earliest, settled_free}
use Rattle.schedules.proofs.Mirrored.{Wide-reversed, mirrored_schedulable, mirrored_latest, mirrored_free}
use Rattle.schedules.proofs.Rounds.{WideTotals, rounds_sized, Settled-later}
use Rattle.rows.specs.Algebra.{Vector, Matrix, matrix_vector, power, powers, Star, transpose}
use Rattle.algebra.proofs.Order.{latest_unique, latest_covers, latest_product}
use Rattle.algebra.proofs.Powers.{unit, unit_sized, identity_at, identity_other, Upto, power_wide, powers_latest, product_under, product_reached, rounds_powers}

-- the unit vector of the opening
unit_opening : (w v : ℕ) → unit w 0 v ≡ opening w v
unit_opening w zero = identity_at w 0
unit_opening w (suc v) = identity_other w (suc v) 0 (λ e. omega arith)

pub opening_powers : (w m : ℕ) (A : Matrix) → Wide w m A → 1 ≤ m → (k e : ℕ) → e < m → rounds m A (opening w) k e ≡ powers w m A k e 0
opening_powers w m A wide first k e e_in =
    ap (λ (s : Totals). rounds m A s k e) (sym (fun_ext (unit_opening w))) ∙ rounds_powers w m A wide k e 0 e_in first

-- what is settled stays
Settled-stays : (m : ℕ) (A : Matrix) (s : Totals) (k i v : ℕ) → v < m → Settled m A s k → rounds m A s (i + k) v ≡ rounds m A s k v
Settled-stays m A s k zero v v_in f = ap (λ (i : ℕ). rounds m A s i v) (zero-add k)
Settled-stays m A s k (suc i) v v_in f =
    ap (λ (j : ℕ). rounds m A s j v) (suc-add i k) ∙ Settled-later m A s k i f v v_in ∙ Settled-stays m A s k i v v_in f

-- q is the entry (v, j) of some power
abbrev SomePower : ℕ → ℕ → Matrix → ℕ → ℕ → Row → Type 0
SomePower w m A v j q = (k : ℕ) × (power w m A k v j ≡ Some q)

power_some_wide : (w m : ℕ) (A : Matrix) → Wide w m A → (v j : ℕ) → v < m → (q : Row) → SomePower w m A v j q → length q ≡ w
power_some_wide w m A wide v j v_in q t = power_wide w m A wide t.0 v j q v_in t.1

-- settled totals are A* times the first ones
pub settled_product : (w m : ℕ) (A : Matrix) (wide : Wide w m A) (b : Vector) → WideTotals w m b → (S : Matrix) → Star w m A S → (k v : ℕ) → v < m → Settled m A b k → rounds m A b k v ≡ matrix_vector m S b v
settled_product w m A wide b sized S is k v v_in f =
    latest_product w m b sized (SomePower w m A v) (λ j j_in. power_some_wide w m A wide v j v_in) (S v) (λ j j_in. is v j v_in j_in) (rounds m A b k v) (rounds_sized w m A wide b sized k v v_in) above reached
  where
    above : (j : ℕ) (q : Row) → j < m → SomePower w m A v j q → AtLeast (rounds m A b k v) (added (Some q) (b j))
    above j q j_in t =
        subst₂ (λ (o p : Option Row). AtLeast o (added p (b j))) (Settled-stays m A b k t.0 v v_in f) t.1 (product_under w m A wide b sized t.0 (t.0 + k) v j (omega arith) v_in j_in)

    reached : (r : Row) → rounds m A b k v ≡ Some r → (j : ℕ) × (q : Row) × (j < m) × SomePower w m A v j q × AtLeast (added (Some q) (b j)) (Some r)
    reached r e =
        let t = product_reached w m A wide b sized k v r v_in e in
        (t.0, t.1, t.2, (t.3.0, t.3.2), t.4)

module _ (w m : ℕ) (A : Matrix) (wide : Wide w m A) (first : 1 ≤ m) where
  -- the latest of the powers up to k, where it is at least every power
  widened : (k v j : ℕ) (o : Option Row) → LatestOf (Upto w m A v j k) o → ((i : ℕ) → AtLeast o (power w m A i v j)) → LatestOf (SomePower w m A v j) o
  widened k v j None h above = λ q t. subst (AtLeast None) t.1 (above t.0)
  widened k v j (Some r) h above = ((h.0.0, h.0.2), λ q t. subst (AtLeast (Some r)) t.1 (above t.0))

  -- A* is the sum of powers from m - 1 on where some times keep the lags
  pub kept_star : (x : ℕ → Row) → KeepsLags w m A x → (k : ℕ) → m ≤ suc k → Star w m A (powers w m A k)
  kept_star x t k le v j v_in j_in = widened k v j (powers w m A k v j) (powers_latest w m A wide k v j v_in) above
    where
      f : Settled m A (unit w j) k
      f = kept_settles w m A wide first (unit w j) (unit_sized w m j) x t k le

      same : (i : ℕ) → powers w m A (i + k) v j ≡ powers w m A k v j
      same i =
          sym (rounds_powers w m A wide (i + k) v j v_in j_in) ∙ Settled-stays m A (unit w j) k i v v_in f ∙ rounds_powers w m A wide k v j v_in j_in

      above : (i : ℕ) → AtLeast (powers w m A k v j) (power w m A i v j)
      above i =
          subst (λ (o : Option Row). AtLeast o (power w m A i v j)) (same i)
          (latest_covers (Upto w m A v j (i + k)) (powers w m A (i + k) v j) (power w m A i v j) (powers_latest w m A wide (i + k) v j v_in) (λ q e. (i, omega arith, e)))

  pub star : Schedulable w m A → (k : ℕ) → m ≤ suc k → Star w m A (powers w m A k)
  star p = kept_star p.0 p.1.keeping

  module _ (S : Matrix) (some : 1 ≤ w) (p : Schedulable w m A) (is : Star w m A S) where
    -- the opening's column
    column : (e : ℕ) → e < m → S e 0 ≡ rounds m A (opening w) (m - 1) e
    column e e_in =
        latest_unique w (SomePower w m A e 0) (power_some_wide w m A wide e 0 e_in) (S e 0) (powers w m A (m - 1) e 0) (is e 0 e_in first) (star p (m - 1) (omega arith) e 0 e_in first)
        ∙ sym (opening_powers w m A wide first (m - 1) e e_in)

    settled : Settled m A (opening w) (m - 1)
    settled = opening_settles w m A wide first p (m - 1) (omega arith)

    same_earliest : (e : ℕ) (r s : Row) → e < m → Earliest w m A e r → Earliest w m A e s → r ≡ s
    same_earliest e r s e_in h k =
        let x = h.attained in
        let y = k.attained in
        let wr : length r ≡ w = sym (ap length x.1.1) ∙ x.1.0.keeping.wide e e_in in
        let ws : length s ≡ w = sym (ap length y.1.1) ∙ y.1.0.keeping.wide e e_in in
        NotBefore-antisym r s (wr ∙ sym ws) (subst (λ (z : Row). NotBefore z s) x.1.1 (k.least x.0 x.1.0)) (subst (λ (z : Row). NotBefore z r) y.1.1 (h.least y.0 y.1.0))

    not_both : (e : ℕ) (r : Row) → e < m → Earliest w m A e r → FreeBelow w m A e → ⊥
    not_both e r e_in h f =
        let x = h.attained in
        let t = f r (sym (ap length x.1.1) ∙ x.1.0.keeping.wide e e_in) in
        h.least t.0 t.1.0 t.1.1

    from_column : (e : ℕ) (r : Row) → e < m → S e 0 ≡ Some r → Earliest w m A e r
    from_column e r e_in q = settled_earliest w m A wide first (m - 1) settled p e r e_in (sym (column e e_in) ∙ q)

    from_none : (e : ℕ) → e < m → S e 0 ≡ None → FreeBelow w m A e
    from_none e e_in q = settled_free w m A wide first (m - 1) settled some p e e_in (sym (column e e_in) ∙ q)

    earliest_entry : (e : ℕ) (r : Row) → e < m → Earliest w m A e r ↔ (S e 0 ≡ Some r)
    earliest_entry e r e_in = (λ h. go h (S e 0) refl, from_column e r e_in)
      where
        go : Earliest w m A e r → (o : Option Row) → S e 0 ≡ o → S e 0 ≡ Some r
        go h None q = absurd (not_both e r e_in h (from_none e e_in q))
        go h (Some s) q = q ∙ ap (λ (z : Row). Some z) (same_earliest e s r e_in (from_column e s e_in q) h)

    free_entry : (e : ℕ) → e < m → FreeBelow w m A e ↔ (S e 0 ≡ None)
    free_entry e e_in = (λ h. go h (S e 0) refl, from_none e e_in)
      where
        go : FreeBelow w m A e → (o : Option Row) → S e 0 ≡ o → S e 0 ≡ None
        go h None q = q
        go h (Some s) q = absurd (not_both e s e_in (from_column e s e_in q) h)

    pub least_entry : (e : ℕ) (o : Option Row) → e < m → LeastTime w m A e o ↔ (S e 0 ≡ o)
    least_entry e None e_in = free_entry e e_in
    least_entry e (Some r) e_in = earliest_entry e r e_in

-- the same of the transposed matrix, for the greatest times
pub transposed_star : (w m : ℕ) (A : Matrix) → Wide w m A → 1 ≤ m → Schedulable w m A → (k : ℕ) → m ≤ suc k → Star w m (transpose A) (powers w m (transpose A) k)
transposed_star w m A wide first p =
    star w m (transpose A) (Wide-reversed w m A wide) first ((mirrored_schedulable w m A wide).0 p)

module _ (w m : ℕ) (A S : Matrix) (wide : Wide w m A) (some : 1 ≤ w) (first : 1 ≤ m) (p : Schedulable w m A) (is : Star w m (transpose A) S) where
  pub greatest_entry : (e : ℕ) (o : Option Row) → e < m → GreatestTime w m A e o ↔ (S e 0 ≡ option_map negated o)
  greatest_entry e o e_in = go o
    where
      entry : (q : Option Row) → LeastTime w m (transpose A) e q ↔ (S e 0 ≡ q)
      entry q = least_entry w m (transpose A) (Wide-reversed w m A wide) first S some ((mirrored_schedulable w m A wide).0 p) is e q e_in

      go : (o : Option Row) → GreatestTime w m A e o ↔ (S e 0 ≡ option_map negated o)
      go None =
          let mirror = mirrored_free w m A wide e in
          (λ h. (entry None).0 (mirror.0 h), λ q. mirror.1 ((entry None).1 q))
      go (Some r) =
          let mirror = mirrored_latest w m A wide e r in
          (λ h. (entry (Some (negated r))).0 (mirror.0 h), λ q. mirror.1 ((entry (Some (negated r))).1 q))
