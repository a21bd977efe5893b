-- The closest starts are the residual moved by half of Δ.
use Rattle.std.proofs.Common.{◌≡◌, ℕ, zero, suc, ◌+◌, ◌-◌, ◌*◌, ◌/◌, ◌%◌, ◌<◌, ◌≤◌, max, cond, eqb, ◌⊎◌, [], ◌∷◌, ℤ, pos, ◌+ℤ◌, neg_ℤ, ◌<ℤ◌, Some, None, sym, refl, ap, ◌∙◌, subst, ap₂, inl, inr, arith}
use Rattle.std.proofs.lemmas.Int.{ints}
use Rattle.std.proofs.lemmas.Bool.{cases_lt, cond-true, cond-false, eq-eqb, ne_eqb}
use Rattle.std.specs.Option.{option_map}
use Rattle.rows.specs.MaxPlus.{later, added}
use Rattle.rows.specs.Rows.{Row, negated}
use Rattle.rows.proofs.Extremes.{later_first, later_second}
use Rattle.rows.proofs.Order.{NotBefore-antisym}
use Rattle.schedules.specs.Plans.{Lags, Totals, Wide, columns}
use Rattle.schedules.specs.Tables.{start, finish, events}
use Rattle.schedules.proofs.Widths.{finish_wide}
use Rattle.schedules.specs.Starts.{Backward}
use Rattle.schedules.specs.Closest.{AllNear, Closest}
use Rattle.schedules.specs.Minutes.{minutes, minute}
use Rattle.schedules.specs.Served.{AllServed}
use Rattle.schedules.specs.Nearing.{miss, largest, Moved}
use Rattle.schedules.specs.Folds.{finish_of}
use Rattle.schedules.proofs.Nearest.{begin_there, end_there, miss_is, closest}
use Rattle.schedules.proofs.One.{there, to_not_before}
use Rattle.rows.specs.Algebra.{Vector, sum, ◌⊗◌, matrix_vector, vector_vector, conjugate, residual}
use Rattle.algebra.specs.Matrices.{lag_matrix, starts_of, finishes_of}
use Rattle.algebra.specs.Theorems.{Full, ClosestIsHalf}
use Rattle.algebra.proofs.Order.{sum_same}
use Rattle.algebra.proofs.Residuals.{product_ends, back_starts, at_start, back_starts_wide, back_backward}

-- sums of minutes

later_minutes : (a b : ℕ) → later (Some (minutes a)) (Some (minutes b)) ≡ Some (minutes (max a b))
later_minutes a b = go (cases_lt a b)
  where
    go : (a < b) ⊎ (b ≤ a) → later (Some (minutes a)) (Some (minutes b)) ≡ Some (minutes (max a b))
    go (inl h) =
        let lt : pos a <ℤ pos b = omega (arith, ints) in
        let e : b ≡ max a b = omega arith in
        sym (later_second (minutes a) (minutes b) (inl lt)) ∙ ap (λ (i : ℕ). Some (minutes i)) e
    go (inr h) =
        let e : a ≡ max a b = omega arith in
        sym (later_first (minutes a) (minutes b) (to_not_before (pos a) (pos b) (omega (arith, ints)))) ∙ ap (λ (i : ℕ). Some (minutes i)) e

sum_minutes : (n : ℕ) (f : Vector) (g : ℕ → ℕ) → ((k : ℕ) → k < suc n → f k ≡ Some (minutes (g (suc k)))) → sum (suc n) f ≡ Some (minutes (largest (suc n) g))
sum_minutes zero f g h = let e : g 1 ≡ max 0 (g 1) = omega arith in h 0 (omega arith) ∙ ap (λ (i : ℕ). Some (minutes i)) e
sum_minutes (suc n) f g h =
    ap₂ later (sum_minutes n f g (λ k l. h k (omega arith))) (h (suc n) (omega arith)) ∙ later_minutes (largest (suc n) g) (g (suc (suc n)))

sum_minutes_from : (n : ℕ) (f : Vector) (g : ℕ → ℕ) → 1 ≤ n → ((k : ℕ) → k < n → f k ≡ Some (minutes (g (suc k)))) → sum n f ≡ Some (minutes (largest n g))
sum_minutes_from zero f g first h = absurd (omega arith)
sum_minutes_from (suc n) f g first h = sum_minutes n f g h

module _ (n : ℕ) (L : Lags) (d : Totals) (first : 1 ≤ n) (wide_L : Wide 1 (events n) L) (wide_d : Wide 1 (events n) (columns d)) (due : Full n (finishes_of d)) (served : AllServed n L) where
  -- the residual, as a vector and as a row of starts
  abbrev back : Vector
  back = residual n (lag_matrix L) (finishes_of d)

  abbrev best : Totals
  best = back_starts 1 n L d wide_L wide_d due

  abbrev widest : ℕ
  widest = largest n (miss n L d best)

  abbrev half : ℕ
  half = (widest + 1) / 2

  best_wide : Wide 1 (events n) (columns best)
  best_wide = back_starts_wide 1 n L d wide_L wide_d due

  best_backward : Backward 1 n L d best
  best_backward = back_backward 1 n L d wide_L wide_d due

  best_at : (k : ℕ) → best (start (suc k)) ≡ back k
  best_at = at_start 1 n L d wide_L wide_d due

  due_there : (j : ℕ) → 1 ≤ j → j ≤ n → d (finish j) ≡ Some (minute (d (finish j)) ∷ [])
  due_there j low high =
      let same : suc (j - 1) ≡ j = omega arith in
      let t = due (j - 1) (omega arith) in
      let at : d (finish j) ≡ Some t.0 = subst (λ (i : ℕ). d (finish i) ≡ Some t.0) same t.1 in
      there (d (finish j)) t.0 at (finish_wide 1 n d wide_d j high t.0 at)

  -- Δ
  finish_product : (j : ℕ) → matrix_vector n (lag_matrix L) back j ≡ finish_of n L best (finish (suc j))
  finish_product j =
      sum_same n (λ k. L (finish (suc j)) (start (suc k)) ⊗ back k) (λ k. L (finish (suc j)) (start (suc k)) ⊗ best (start (suc k))) (λ k k_in. ap (added (L (finish (suc j)) (start (suc k)))) (sym (best_at k)))
      ∙ sym (product_ends 1 n L best wide_L best_wide j)

  part_is : (j : ℕ) → j < n → conjugate (matrix_vector n (lag_matrix L) back) j ⊗ finishes_of d j ≡ Some (minutes (miss n L d best (suc j)))
  part_is j j_in =
      let end = end_there n L d best wide_L best_wide due_there served best_backward (suc j) (omega arith) j_in in
      let fall = due_there (suc j) (omega arith) j_in in
      let gap = miss_is n L d best wide_L best_wide due_there served best_backward (suc j) (omega arith) j_in in
      let is : neg_ℤ (minute (finish_of n L best (finish (suc j)))) +ℤ minute (d (finish (suc j))) ≡ pos (miss n L d best (suc j)) = omega (arith, ints) in
      ap₂ added (ap (option_map negated) (finish_product j ∙ end)) fall ∙ ap (λ (z : ℤ). Some (z ∷ [])) is

  delta_is : vector_vector n (conjugate (matrix_vector n (lag_matrix L) back)) (finishes_of d) ≡ Some (minutes widest)
  delta_is = sum_minutes_from n (λ j. conjugate (matrix_vector n (lag_matrix L) back) j ⊗ finishes_of d j) (miss n L d best) first part_is

  -- the residual moved by half of it
  move : Totals
  move v = cond (eqb (v % 2) 1) (Some ((minute (best v) +ℤ pos half) ∷ [])) None

  move_even : (v k : ℕ) → v ≡ 2 * k → move v ≡ None
  unfolding move
  move_even v k e = cond-false (eqb (v % 2) 1) (Some ((minute (best v) +ℤ pos half) ∷ [])) None (ne_eqb (v % 2) 1 (λ odd. omega arith))

  move_start : (k : ℕ) → 1 ≤ k → k ≤ n → move (start k) ≡ Some ((minute (best (start k)) +ℤ pos half) ∷ [])
  unfolding move
  move_start k low high =
      let odd : start k % 2 ≡ 1 = omega arith in
      cond-true (eqb (start k % 2) 1) (Some ((minute (best (start k)) +ℤ pos half) ∷ [])) None (eq-eqb (start k % 2) 1 odd)

  moved : Moved n best half move
  moved = record { opening = move_even 0 0 (omega arith); starts = move_start; finishes = λ k low high. move_even (finish k) k refl }

  move_closest : Closest n L d move half
  move_closest = closest n L d best wide_L best_wide due_there served best_backward half move (omega arith) moved (omega arith)

  -- and no other starts are the closest
  module _ (y : Totals) (e : ℕ) (h : Closest n L d y e) where
    same_distance : e ≡ half
    same_distance =
        let p : e ≤ half = h.smallest move half move_closest.near in
        let q : half ≤ e = move_closest.smallest y e h.near in
        omega arith

    same_start : (k : ℕ) → 1 ≤ k → k ≤ n → y (start k) ≡ move (start k)
    same_start k low high =
        let r = h.near.starts k low high in
        let s = move_closest.near.starts k low high in
        let not_after = h.greatest move (subst (AllNear n L d move) (sym same_distance) move_closest.near) k r.0 s.0 low high r.1 s.1 in
        let not_before = move_closest.greatest y (subst (AllNear n L d y) same_distance h.near) k s.0 r.0 low high s.1 r.1 in
        r.1 ∙ ap (λ (z : Row). Some z) (NotBefore-antisym r.0 s.0 (r.2 ∙ sym s.2) not_after not_before) ∙ sym s.1

    moved_residual : (k : ℕ) → k < n → starts_of y k ≡ Some (minutes e) ⊗ back k
    moved_residual k k_in =
        let begin : back k ≡ Some (minute (best (start (suc k))) ∷ []) = sym (best_at k) ∙ begin_there n L d best wide_L best_wide due_there served best_backward (suc k) (omega arith) k_in in
        let same = same_distance in
        let is : minute (best (start (suc k))) +ℤ pos half ≡ pos e +ℤ minute (best (start (suc k))) = omega (arith, ints) in
        same_start (suc k) (omega arith) k_in ∙ move_start (suc k) (omega arith) k_in ∙ ap (λ (z : ℤ). Some (z ∷ [])) is ∙ sym (ap (added (Some (minutes e))) begin)

    pub closest_half : ClosestIsHalf n (lag_matrix L) (finishes_of d) (starts_of y) e
    closest_half = record { delta = widest; is = delta_is; distance = same_distance; starts = moved_residual }
