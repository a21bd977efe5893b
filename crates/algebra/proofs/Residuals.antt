-- Finishes are a product and the greatest starts in time a residual.
use Rattle.std.proofs.Common.{◌≡◌, ℕ, suc, ◌-◌, ◌*◌, ◌/◌, ◌%◌, ◌<◌, ◌≤◌, cond, eqb, ◌⊎◌, length, Some, None, Option, sym, refl, ap, ◌∙◌, subst, ap₂, subst₂, inl, inr, arith}
use mathlib.Core.Path.{fun_ext}
use Rattle.std.proofs.lemmas.Bool.{cases_eq, cond-true, cond-false, eq-eqb, ne_eqb}
use Rattle.std.specs.Option.{option_map}
use Rattle.rows.specs.Extremes.{LatestOf, EarliestOf, Among}
use Rattle.rows.specs.MaxPlus.{added, taken}
use Rattle.rows.specs.Rows.{Row, plus, minus, negated, NotBefore}
use Rattle.rows.proofs.Extremes.{latest_folded}
use Rattle.rows.proofs.Order.{NotBefore-antisym, NotBefore-negated}
use Rattle.rows.proofs.Sums.{length-negated, negated-negated, negated-plus, plus_comm}
use Rattle.schedules.specs.Plans.{Lags, Totals, Wide, columns, AtLeast}
use Rattle.schedules.proofs.Optional.{WideRow, WideRow-from, WideRow-to, after_rowed, AtLeast-trans}
use Rattle.schedules.specs.Tables.{start, finish, events}
use Rattle.schedules.specs.Starts.{Finishes, Backward}
use Rattle.schedules.proofs.Backwards.{not_after_sum, not_after_difference, backward}
use Rattle.schedules.proofs.Widths.{added_wide, lag_wide, start_wide, finish_wide}
use Rattle.schedules.specs.Folds.{finish_of}
use Rattle.schedules.proofs.Folds.{finish_is}
use Rattle.rows.proofs.Options.{none_or_some, same_some, both_some}
use Rattle.rows.specs.Algebra.{Vector, Matrix, sum, ◌⊗◌, ◌≼◌, matrix_vector, conjugate, residual}
use Rattle.algebra.specs.Matrices.{lag_matrix, starts_of, finishes_of}
use Rattle.algebra.specs.Theorems.{Full}
use Rattle.algebra.proofs.Order.{added_comm, below_from, below_to, sum_same, sum_least, sum_rowed, sum_covers, sum_reached, latest_unique}

-- finishes

module _ (w n : ℕ) (L : Lags) (x : Totals) (wide_L : Wide w (events n) L) (wide_x : Wide w (events n) (columns x)) where
  end_wide : (j : ℕ) → j ≤ n → (q : Row) → Among n (λ k. added (x (start k)) (L (finish j) (start k))) q → length q ≡ w
  end_wide j j_in q t =
      added_wide w (x (start t.0)) (L (finish j) (start t.0)) (start_wide w n x wide_x t.0 t.2) (lag_wide w n L wide_L j t.0 j_in t.2) q t.3

  pub product_ends : (j : ℕ) → finish_of n L x (finish (suc j)) ≡ matrix_vector n (lag_matrix L) (starts_of x) j
  product_ends j =
      sum_same n (λ k. added (x (start (suc k))) (L (finish (suc j)) (start (suc k)))) (λ k. L (finish (suc j)) (start (suc k)) ⊗ x (start (suc k))) (λ k k_in. added_comm (x (start (suc k))) (L (finish (suc j)) (start (suc k))))

  pub finish_product : (y : Totals) → Finishes n L x y → (j : ℕ) → j < n → finishes_of y j ≡ matrix_vector n (lag_matrix L) (starts_of x) j
  finish_product y h j j_in =
      latest_unique w (Among n (λ k. added (x (start k)) (L (finish (suc j)) (start k)))) (end_wide (suc j) j_in) (finishes_of y j) (finish_of n L x (finish (suc j))) (h.finishes (suc j) (omega arith) j_in) (finish_is w n L x wide_x (finish (suc j)) (λ k r k_in. lag_wide w n L wide_L (suc j) k j_in k_in r))
      ∙ product_ends j

-- opposite signs

mapped_back : (o : Option Row) (q : Row) → option_map negated o ≡ Some q → o ≡ Some (negated q)
mapped_back None q e = none_or_some q e
mapped_back (Some x) q e = ap (λ (z : Row). Some z) (sym (negated-negated x) ∙ ap negated (same_some (negated x) q e))

opposite_wide : (w : ℕ) (o : Option Row) (q : Row) → ((r : Row) → o ≡ Some r → length r ≡ w) → option_map negated o ≡ Some q → length q ≡ w
opposite_wide w o q wide e = sym (length-negated q) ∙ wide (negated q) (mapped_back o q e)

opposite_rowed : (w : ℕ) (o : Option Row) → WideRow w o → WideRow w (option_map negated o)
opposite_rowed w None h = tt
opposite_rowed w (Some x) h = length-negated x ∙ h

opposite_added : (o p : Option Row) → option_map negated (added (option_map negated o) p) ≡ taken o p
opposite_added None p = refl
opposite_added (Some x) None = refl
opposite_added (Some x) (Some a) =
    ap (λ (z : Row). Some z) (negated-plus (negated x) a ∙ ap (λ (z : Row). plus z (negated a)) (negated-negated x))

-- the latest becomes the earliest
earliest_opposite : (n : ℕ) (f : Vector) (o : Option Row) → LatestOf (Among n f) o → EarliestOf (Among n (λ j. option_map negated (f j))) (option_map negated o)
earliest_opposite n f None h = λ q t. h (negated q) (t.0, t.1, t.2, mapped_back (f t.0) q t.3)
earliest_opposite n f (Some r) h =
    ((h.0.0, h.0.1, h.0.2, ap (option_map negated) h.0.3), λ q t. subst (λ (z : Row). NotBefore z (negated r)) (negated-negated q) (NotBefore-negated r (negated q) (h.1 (negated q) (t.0, t.1, t.2, mapped_back (f t.0) q t.3))))

-- the residual, at the starts of a plan

module _ (w n : ℕ) (L : Lags) (d : Totals) (wide_L : Wide w (events n) L) (wide_d : Wide w (events n) (columns d)) (due : Full n (finishes_of d)) where
  abbrev back : Vector
  back = residual n (lag_matrix L) (finishes_of d)

  abbrev turned : ℕ → ℕ → Option Row
  turned u j = added (option_map negated (d (finish j))) (L (finish j) u)

  turned_wide : (k j : ℕ) → k ≤ n → j ≤ n → (q : Row) → turned (start k) j ≡ Some q → length q ≡ w
  turned_wide k j k_in j_in q e =
      added_wide w (option_map negated (d (finish j))) (L (finish j) (start k)) (λ r p. opposite_wide w (d (finish j)) r (finish_wide w n d wide_d j j_in) p) (lag_wide w n L wide_L j k j_in k_in) q e

  back_earliest : (k : ℕ) → k < n → EarliestOf (Among n (λ j. taken (d (finish j)) (L (finish j) (start (suc k))))) (back k)
  back_earliest k k_in =
      subst (λ (f : Vector). EarliestOf (Among n f) (back k)) (fun_ext (λ j. opposite_added (d (finish j)) (L (finish j) (start (suc k)))))
      (earliest_opposite n (turned (start (suc k))) (sum n (λ j. turned (start (suc k)) (suc j))) (latest_folded w (turned (start (suc k))) n (λ j q low high. turned_wide (suc k) j k_in high q)))

  back_wide : (k : ℕ) → k < n → (r : Row) → back k ≡ Some r → length r ≡ w
  back_wide k k_in r e =
      opposite_wide w (sum n (λ j. turned (start (suc k)) (suc j))) r (λ q p. WideRow-to w (sum n (λ j. turned (start (suc k)) (suc j))) q p (sum_rowed w n (λ j. turned (start (suc k)) (suc j)) (λ j j_in. WideRow-from w (turned (start (suc k)) (suc j)) (turned_wide (suc k) (suc j) k_in j_in)))) e

  -- as a row of starts
  pub back_starts : Totals
  back_starts v = cond (eqb (v % 2) 1) (back (v / 2)) None

  pub at_start : (k : ℕ) → back_starts (start (suc k)) ≡ back k
  unfolding back_starts
  at_start k =
      let odd : start (suc k) % 2 ≡ 1 = omega arith in
      let half : start (suc k) / 2 ≡ k = omega arith in
      cond-true (eqb (start (suc k) % 2) 1) (back (start (suc k) / 2)) None (eq-eqb (start (suc k) % 2) 1 odd) ∙ ap back half

  at_even : (v k : ℕ) → v ≡ 2 * k → back_starts v ≡ None
  unfolding back_starts
  at_even v k e = cond-false (eqb (v % 2) 1) (back (v / 2)) None (ne_eqb (v % 2) 1 (λ odd. omega arith))

  pub back_starts_wide : Wide w (events n) (columns back_starts)
  unfolding back_starts
  back_starts_wide v u r v_in u_in e = go (cases_eq (v % 2) 1)
    where
      go : (v % 2 ≡ 1) ⊎ (v % 2 ≡ 1 → ⊥) → length r ≡ w
      go (inl odd) =
          let half : v / 2 < n = omega arith in
          back_wide (v / 2) half r (sym (cond-true (eqb (v % 2) 1) (back (v / 2)) None (eq-eqb (v % 2) 1 odd)) ∙ e)
      go (inr even) = none_or_some r (sym (cond-false (eqb (v % 2) 1) (back (v / 2)) None (ne_eqb (v % 2) 1 even)) ∙ e)

  starts_earliest : (k : ℕ) → 1 ≤ k → k ≤ n → EarliestOf (Among n (λ j. taken (d (finish j)) (L (finish j) (start k)))) (back_starts (start k))
  starts_earliest k low high =
      let same : suc (k - 1) ≡ k = omega arith in
      subst (λ (i : ℕ). EarliestOf (Among n (λ j. taken (d (finish j)) (L (finish j) (start i)))) (back_starts (start i))) same
      (subst (EarliestOf (Among n (λ j. taken (d (finish j)) (L (finish j) (start (suc (k - 1))))))) (sym (at_start (k - 1))) (back_earliest (k - 1) (omega arith)))

  due_at : (j : ℕ) → 1 ≤ j → j ≤ n → (r : Row) × (d (finish j) ≡ Some r)
  due_at j low high =
      let same : suc (j - 1) ≡ j = omega arith in
      subst (λ (i : ℕ). (r : Row) × (d (finish i) ≡ Some r)) same (due (j - 1) (omega arith))

  -- it is what backward writes
  pub back_backward : Backward w n L d back_starts
  back_backward = backward w n L d back_starts wide_d wide_L due_at starts_earliest (at_even 0 0 (omega arith)) (λ k low high. at_even (finish k) k refl)

  pub residual_starts : (y : Totals) → Wide w (events n) (columns y) → Backward w n L d y → (k : ℕ) → k < n → starts_of y k ≡ back k
  residual_starts y wide_y best k k_in = go (y (start (suc k))) (back_starts (start (suc k))) refl refl ∙ at_start k
    where
      go : (o p : Option Row) → y (start (suc k)) ≡ o → back_starts (start (suc k)) ≡ p → y (start (suc k)) ≡ back_starts (start (suc k))
      go None p e q = e ∙ sym ((back_backward.free (suc k) (omega arith) k_in).1 ((best.free (suc k) (omega arith) k_in).0 e))
      go (Some r) None e q = (best.free (suc k) (omega arith) k_in).1 ((back_backward.free (suc k) (omega arith) k_in).0 q) ∙ sym q
      go (Some r) (Some s) e q =
          e
          ∙ ap (λ (z : Row). Some z) (NotBefore-antisym r s (start_wide w n y wide_y (suc k) k_in r e ∙ sym (start_wide w n back_starts back_starts_wide (suc k) k_in s q)) (best.greatest back_starts back_starts_wide back_backward.in_time (suc k) r s (omega arith) k_in e q) (back_backward.greatest y wide_y best.in_time (suc k) s r (omega arith) k_in q e))
          ∙ sym q

-- the residual is the greatest x with A ⊗ x ≼ d

module _ (w n : ℕ) (A : Matrix) (d : Vector) (wide_A : Wide w n A) (wide_d : Wide w n (columns d)) (due : Full n d) where
  abbrev part : ℕ → ℕ → Option Row
  part k j = conjugate d j ⊗ A j k

  due_rowed : (j : ℕ) → j < n → WideRow w (d j)
  due_rowed j j_in = WideRow-from w (d j) (λ r e. wide_d j j r j_in j_in e)

  entry_rowed : (j k : ℕ) → j < n → k < n → WideRow w (A j k)
  entry_rowed j k j_in k_in = WideRow-from w (A j k) (λ r e. wide_A j k r j_in k_in e)

  part_rowed : (k j : ℕ) → k < n → j < n → WideRow w (part k j)
  part_rowed k j k_in j_in = after_rowed w (conjugate d j) (A j k) (opposite_rowed w (d j) (due_rowed j j_in)) (entry_rowed j k j_in k_in)

  column_rowed : (k : ℕ) → k < n → WideRow w (sum n (part k))
  column_rowed k k_in = sum_rowed w n (part k) (λ j j_in. part_rowed k j k_in j_in)

  residual_rowed : (k : ℕ) → k < n → WideRow w (residual n A d k)
  residual_rowed k k_in = opposite_rowed w (sum n (part k)) (column_rowed k k_in)

  -- one entry of A ⊗ (d⁻ ⊗ A)⁻
  under : (t : Row) (a s : Option Row) → length t ≡ w → WideRow w a → WideRow w s → AtLeast s (added (Some (negated t)) a) → AtLeast (Some t) (added a (option_map negated s))
  under t None s wt wa ws h = tt
  under t (Some a) None wt wa ws h = tt
  under t (Some a) (Some s) wt wa ws h =
      let turn : negated (plus (negated t) a) ≡ minus t a = negated-plus (negated t) a ∙ ap (λ (z : Row). plus z (negated a)) (negated-negated t) in
      let back : NotBefore (minus t a) (negated s) = subst (λ (z : Row). NotBefore z (negated s)) turn (NotBefore-negated s (plus (negated t) a) h) in
      subst (NotBefore t) (plus_comm (negated s) a) (not_after_sum w t (negated s) a wt (length-negated s ∙ ws) wa back)

  pub residual_below : (i : ℕ) → i < n → matrix_vector n A (residual n A d) i ≼ d i
  residual_below i i_in =
      below_from w (matrix_vector n A (residual n A d) i) (d i)
      (sum_rowed w n (λ k. A i k ⊗ residual n A d k) (λ k k_in. after_rowed w (A i k) (residual n A d k) (entry_rowed i k i_in k_in) (residual_rowed k k_in)))
      (due_rowed i i_in)
      (sum_least n (λ k. A i k ⊗ residual n A d k) (d i) (λ k k_in. each k k_in))
    where
      each : (k : ℕ) → k < n → AtLeast (d i) (A i k ⊗ residual n A d k)
      each k k_in =
          let t = due i i_in in
          let covers : AtLeast (sum n (part k)) (added (option_map negated (d i)) (A i k)) = sum_covers w n (part k) (λ j j_in. part_rowed k j k_in j_in) i i_in in
          let at : AtLeast (sum n (part k)) (added (Some (negated t.0)) (A i k)) = subst (λ (o : Option Row). AtLeast (sum n (part k)) (added (option_map negated o) (A i k))) t.1 covers in
          subst (λ (o : Option Row). AtLeast o (A i k ⊗ residual n A d k)) (sym t.1) (under t.0 (A i k) (sum n (part k)) (wide_d i i t.0 i_in i_in t.1) (entry_rowed i k i_in k_in) (column_rowed k k_in) at)

  -- where a column is there, one of its parts is its sum
  attained : (k : ℕ) (q : Row) → sum n (part k) ≡ Some q → (j : ℕ) × (j < n) × (part k j ≡ Some q)
  attained k q e = sum_reached n (part k) q e

  pub residual_greatest : (x : Vector) → Wide w n (columns x) → ((i : ℕ) → i < n → matrix_vector n A x i ≼ d i) → (k : ℕ) (r : Row) → k < n → residual n A d k ≡ Some r → x k ≼ Some r
  residual_greatest x wide_x below k r k_in e = go (x k) refl
    where
      wide_r : length r ≡ w
      wide_r = WideRow-to w (residual n A d k) r e (residual_rowed k k_in)

      go : (o : Option Row) → x k ≡ o → x k ≼ Some r
      go None q = subst (λ (o : Option Row). o ≼ Some r) (sym q) refl
      go (Some p) q =
          let t = attained k (negated r) (mapped_back (sum n (part k)) r e) in
          let j = t.0 in
          let s = both_some plus (conjugate d j) (A j k) (negated r) t.2 in
          let u = due j t.1 in
          let a = s.1 in
          let first : s.0 ≡ negated u.0 = same_some s.0 (negated u.0) (sym s.2 ∙ ap (option_map negated) u.1) in
          let is : minus u.0 a ≡ r = sym (negated-plus (negated u.0) a ∙ ap (λ (z : Row). plus z (negated a)) (negated-negated u.0)) ∙ ap negated (ap (λ (z : Row). plus z a) (sym first) ∙ s.4) ∙ negated-negated r in
          let row : AtLeast (d j) (matrix_vector n A x j) = below_to (matrix_vector n A x j) (d j) (below j t.1) in
          let wa = wide_A j k a t.1 k_in s.3 in
          let wu = wide_d j j u.0 t.1 t.1 u.1 in
          let wp = wide_x k k p k_in k_in q in
          let one : AtLeast (d j) (A j k ⊗ x k) = AtLeast-trans w (d j) (matrix_vector n A x j) (A j k ⊗ x k) (due_rowed j t.1) (product_rowed j t.1) row (sum_covers w n (λ i. A j i ⊗ x i) (λ i i_in. moved_rowed j i t.1 i_in) k k_in) in
          let late : NotBefore u.0 (plus p a) = subst (NotBefore u.0) (plus_comm a p) (subst₂ AtLeast u.1 (ap₂ added s.3 q) one) in
          subst (λ (o : Option Row). o ≼ Some r) (sym q) (below_from w (Some p) (Some r) wp wide_r (subst (λ (z : Row). NotBefore z p) is (not_after_difference w u.0 p a wu wp wa late)))
        where
          moved_rowed : (j i : ℕ) → j < n → i < n → WideRow w (A j i ⊗ x i)
          moved_rowed j i j_in i_in = after_rowed w (A j i) (x i) (entry_rowed j i j_in i_in) (WideRow-from w (x i) (λ r e. wide_x i i r i_in i_in e))

          product_rowed : (j : ℕ) → j < n → WideRow w (matrix_vector n A x j)
          product_rowed j j_in = sum_rowed w n (λ i. A j i ⊗ x i) (λ i i_in. moved_rowed j i j_in i_in)
