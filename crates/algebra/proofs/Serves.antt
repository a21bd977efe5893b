-- Where there are closest starts, every finish and every start has a start-to-finish lag.
use Rattle.std.proofs.Common.{◌≡◌, ℕ, ◌≤◌, true, false, cond, eqb, ◌⊎◌, [], ◌∷◌, length, ℤ, pos, ◌+ℤ◌, ◌≤ℤ◌, is_some, Some, None, Option, sym, refl, ap, ◌∙◌, subst, inl, inr, arith}
use mathlib.Core.Path.{fun_ext}
use Rattle.std.proofs.lemmas.Int.{ints}
use Rattle.std.proofs.lemmas.Bool.{cases_Bool, cases_eq, cond-true, cond-false, eq-eqb, ne_eqb, and_from, true≢false}
use Rattle.rows.specs.Extremes.{LatestOf, Among}
use Rattle.rows.specs.MaxPlus.{added}
use Rattle.rows.specs.Rows.{Row, plus}
use Rattle.schedules.specs.Plans.{Lags, Totals}
use Rattle.schedules.specs.Tables.{start, finish}
use Rattle.rows.proofs.Options.{both_some}
use Rattle.schedules.specs.Closest.{AllNear, Closest}
use Rattle.schedules.specs.Served.{lag_into, lag_from, AllServed}
use Rattle.schedules.specs.Minutes.{minute}
use Rattle.schedules.proofs.Serving.{any_hit, any_none}
use Rattle.schedules.proofs.One.{one_part, from_not_before}

none_is : (o : Option Row) → is_some o ≡ false → o ≡ None
none_is None e = refl
none_is (Some r) e = absurd (true≢false e)

added_none : (o : Option Row) → added o None ≡ None
added_none None = refl
added_none (Some x) = refl

-- starts with another total at u
put : Totals → ℕ → ℤ → Totals
put y u t v = cond (eqb v u) (Some (t ∷ [])) (y v)

put_same : (y : Totals) (u v : ℕ) (t : ℤ) → v ≡ u → put y u t v ≡ Some (t ∷ [])
unfolding put
put_same y u v t e = cond-true (eqb v u) (Some (t ∷ [])) (y v) (eq-eqb v u e)

put_other : (y : Totals) (u v : ℕ) (t : ℤ) → (v ≡ u → ⊥) → put y u t v ≡ y v
unfolding put
put_other y u v t d = cond-false (eqb v u) (Some (t ∷ [])) (y v) (ne_eqb v u d)

module _ (n : ℕ) (L : Lags) (d y : Totals) (e : ℕ) (h : Closest n L d y e) where
  -- a start with no lag could come later
  module _ (u : ℕ) (t : ℤ) (free : (j : ℕ) → 1 ≤ j → j ≤ n → L (finish j) u ≡ None) where
    put_ends : (j i : ℕ) → 1 ≤ j → j ≤ n → added (y (start i)) (L (finish j) (start i)) ≡ added (put y u t (start i)) (L (finish j) (start i))
    put_ends j i low high = go (cases_eq (start i) u)
      where
        go : (start i ≡ u) ⊎ (start i ≡ u → ⊥) → added (y (start i)) (L (finish j) (start i)) ≡ added (put y u t (start i)) (L (finish j) (start i))
        go (inl q) =
            let none : L (finish j) (start i) ≡ None = ap (L (finish j)) q ∙ free j low high in
            ap (added (y (start i))) none ∙ added_none (y (start i)) ∙ sym (ap (added (put y u t (start i))) none ∙ added_none (put y u t (start i)))
        go (inr q) = ap (λ (o : Option Row). added o (L (finish j) (start i))) (sym (put_other y u (start i) t q))

    put_there : (k : ℕ) → 1 ≤ k → k ≤ n → (r : Row) × (put y u t (start k) ≡ Some r) × (length r ≡ 1)
    put_there k low high = go (cases_eq (start k) u)
      where
        go : (start k ≡ u) ⊎ (start k ≡ u → ⊥) → (r : Row) × (put y u t (start k) ≡ Some r) × (length r ≡ 1)
        go (inl q) = (t ∷ [], put_same y u (start k) t q, refl)
        go (inr q) = let s = h.near.starts k low high in (s.0, put_other y u (start k) t q ∙ s.1, s.2)

    put_near : AllNear n L d (put y u t) e
    put_near = record {
      starts = put_there;
      finishes = λ j low high.
          let s = h.near.finishes j low high in
          (s.0, s.1, s.2, subst (λ (f : ℕ → Option Row). LatestOf (Among n f) (Some s.1)) (fun_ext (λ i. put_ends j i low high)) s.3, s.4);
    }

  into_served : (k : ℕ) → 1 ≤ k → k ≤ n → lag_into L (finish k) n ≡ true
  into_served k low high =
      let s = h.near.finishes k low high in
      let a = s.3.0 in
      let p = both_some plus (y (start a.0)) (L (finish k) (start a.0)) s.1 a.3 in
      any_hit (λ i. is_some (L (finish k) (start i))) n a.0 a.1 a.2 (ap is_some p.3)

  from_served : (k : ℕ) → 1 ≤ k → k ≤ n → lag_from L (start k) n ≡ true
  from_served k low high = go (cases_Bool (lag_from L (start k) n))
    where
      go : (lag_from L (start k) n ≡ true) ⊎ (lag_from L (start k) n ≡ false) → lag_from L (start k) n ≡ true
      go (inl q) = q
      go (inr q) =
          let s = h.near.starts k low high in
          let t = minute (Some s.0) +ℤ pos 1 in
          let free : (j : ℕ) → 1 ≤ j → j ≤ n → L (finish j) (start k) ≡ None = λ j j1 jn. none_is (L (finish j) (start k)) (any_none (λ i. is_some (L (finish i) (start k))) n j j1 jn q) in
          let is = s.1 ∙ ap (λ (r : Row). Some r) (one_part s.0 s.2) in
          let le : (minute (Some s.0) +ℤ pos 1) ≤ℤ minute (Some s.0) = from_not_before (minute (Some s.0)) (minute (Some s.0) +ℤ pos 1) (h.greatest (put y (start k) t) (put_near (start k) t free) k (minute (Some s.0) ∷ []) (t ∷ []) low high is (put_same y (start k) (start k) t refl)) in
          absurd (omega (arith, ints))

  pub all_served : AllServed n L
  all_served k low high = and_from (lag_into L (finish k) n) (lag_from L (start k) n) (into_served k low high) (from_served k low high)
