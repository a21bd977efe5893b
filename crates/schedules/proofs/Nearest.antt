-- The greatest starts in time, all moved by half of the largest distance of their finishes, are the
-- closest.
use Rattle.std.proofs.Common.{◌≡◌, ℕ, ◌+◌, ◌*◌, ◌≤◌, ◌⊎◌, [], ◌∷◌, length, ℤ, pos, ◌+ℤ◌, neg_ℤ, ◌≤ℤ◌, true, is_some, Some, None, Option, sym, refl, ap, ◌∙◌, subst, ap₂, subst₂, inl, inr, arith}
use Rattle.std.proofs.lemmas.Int.{ints}
use Rattle.std.proofs.lemmas.Bool.{and_parts}
use Rattle.rows.specs.Extremes.{Among}
use Rattle.rows.specs.Limits.{lag_limit, given_limit}
use Rattle.rows.specs.MaxPlus.{added}
use Rattle.rows.specs.Rows.{Row, NotBefore, Within, plus, minus}
use Rattle.rows.proofs.Limits.{relations}
use Rattle.schedules.specs.Plans.{Lags, Totals, Wide, columns}
use Rattle.schedules.specs.Tables.{start, finish, events}
use Rattle.schedules.specs.Starts.{Backward, Finished, Unbound, InTime}
use Rattle.schedules.specs.Folds.{StartsInside, finish_of}
use Rattle.schedules.proofs.Folds.{finish_is}
use Rattle.schedules.proofs.Widths.{added_wide, lag_wide, start_wide}
use Rattle.rows.proofs.Options.{none_or_some, same_some}
use Rattle.schedules.specs.Closest.{Near, AllNear, Closest}
use Rattle.schedules.specs.Minutes.{minutes, minute}
use Rattle.schedules.specs.Served.{lag_into, lag_from, AllServed}
use Rattle.schedules.specs.Nearing.{miss, largest, Moved, MovedFits}
use Rattle.schedules.proofs.Largest.{largest_bound, largest_attained}
use Rattle.schedules.proofs.One.{one_part, there, from_not_before, to_not_before, same_part, added_one}
use Rattle.schedules.proofs.Serving.{any_found, some_of}

module _ (n : ℕ) (L : Lags) (d x : Totals)
    (wide_L : Wide 1 (events n) L) (wide_x : Wide 1 (events n) (columns x))
    (due : (j : ℕ) → 1 ≤ j → j ≤ n → d (finish j) ≡ Some (minute (d (finish j)) ∷ []))
    (served : AllServed n L) (best : Backward 1 n L d x) where
  -- the lag of stage k to the finish of stage j, its start in x, the due time of j and its finish
  abbrev Lag : ℕ → ℕ → ℤ → Type 0
  Lag j k a = L (finish j) (start k) ≡ Some (a ∷ [])

  abbrev begins : ℕ → ℤ
  begins k = minute (x (start k))

  abbrev falls : ℕ → ℤ
  falls j = minute (d (finish j))

  abbrev ends : ℕ → ℤ
  ends j = minute (finish_of n L x (finish j))

  lag_there : (j k : ℕ) → j ≤ n → k ≤ n → is_some (L (finish j) (start k)) ≡ true → (a : ℤ) × Lag j k a
  lag_there j k j_in k_in h =
      let t = some_of (L (finish j) (start k)) h in
      (minute (Some t.0), t.1 ∙ ap Some (one_part t.0 (lag_wide 1 n L wide_L j k j_in k_in t.0 t.1)))

  lag_into_there : (j : ℕ) → 1 ≤ j → j ≤ n → (k : ℕ) × (1 ≤ k) × (k ≤ n) × ((a : ℤ) × Lag j k a)
  lag_into_there j low high =
      let t = any_found (λ k. is_some (L (finish j) (start k))) n (and_parts (lag_into L (finish j) n) (lag_from L (start j) n) (served j low high)).0 in
      (t.0, t.1, t.2, lag_there j t.0 high t.2 t.3)

  lag_from_there : (k : ℕ) → 1 ≤ k → k ≤ n → (j : ℕ) × (1 ≤ j) × (j ≤ n) × ((a : ℤ) × Lag j k a)
  lag_from_there k low high =
      let t = any_found (λ j. is_some (L (finish j) (start k))) n (and_parts (lag_into L (finish k) n) (lag_from L (start k) n) (served k low high)).1 in
      (t.0, t.1, t.2, lag_there t.0 k t.2 high t.3)

  -- every start is there
  pub begin_there : (k : ℕ) → 1 ≤ k → k ≤ n → x (start k) ≡ Some (begins k ∷ [])
  begin_there k low high = go (x (start k)) refl
    where
      go : (o : Option Row) → x (start k) ≡ o → x (start k) ≡ Some (begins k ∷ [])
      go None e =
          let free : Unbound n L (start k) = (best.free k low high).0 e in
          let t = lag_from_there k low high in
          none_or_some (t.3.0 ∷ []) (sym (free t.0 t.1 t.2) ∙ t.3.1)
      go (Some r) e = there (x (start k)) r e (start_wide 1 n x wide_x k high r e)

  -- they are in time
  in_time : (j k : ℕ) (a : ℤ) → 1 ≤ j → j ≤ n → 1 ≤ k → k ≤ n → Lag j k a → (begins k +ℤ a) ≤ℤ falls j
  in_time j k a j1 jn k1 kn e =
      from_not_before (falls j) (begins k +ℤ a) (best.in_time j k (falls j ∷ []) ((begins k +ℤ a) ∷ []) j1 jn k1 kn (due j j1 jn) (ap₂ added (begin_there k k1 kn) e))

  -- and no starts in time are after them
  greatest : (z : ℕ → ℤ) → ((j k : ℕ) (a : ℤ) → 1 ≤ j → j ≤ n → 1 ≤ k → k ≤ n → Lag j k a → (z (start k) +ℤ a) ≤ℤ falls j) → (k : ℕ) → 1 ≤ k → k ≤ n → z (start k) ≤ℤ begins k
  greatest z timely k k1 kn =
      from_not_before (begins k) (z (start k)) (best.greatest (λ v. Some (z v ∷ [])) (λ v u r v_in u_in e. sym (ap length (same_some (z v ∷ []) r e))) before k (begins k ∷ []) (z (start k) ∷ []) k1 kn (begin_there k k1 kn) refl)
    where
      before : InTime n L d (λ v. Some (z v ∷ []))
      before j i t s j1 jn low high at_due at_end =
          let p = added_one (Some (z (start i) ∷ [])) (L (finish j) (start i)) (z (start i)) s refl (λ b q. lag_wide 1 n L wide_L j i jn high b q) at_end in
          let same : falls j ∷ [] ≡ t = same_some (falls j ∷ []) t (sym (due j j1 jn) ∙ at_due) in
          subst (λ (r : Row). NotBefore r s) same (subst (λ (r : Row). NotBefore (falls j ∷ []) r) (sym p.2) (to_not_before (falls j) (z (start i) +ℤ p.0) (timely j i p.0 j1 jn low high p.1)))

  -- the finishes
  abbrev sum : ℕ → ℕ → Option Row
  sum j k = added (x (start k)) (L (finish j) (start k))

  sum_one : (j k : ℕ) (q : Row) → j ≤ n → 1 ≤ k → k ≤ n → sum j k ≡ Some q → (a : ℤ) × Lag j k a × (q ≡ (begins k +ℤ a) ∷ [])
  sum_one j k q jn k1 kn e = added_one (x (start k)) (L (finish j) (start k)) (begins k) q (begin_there k k1 kn) (λ b h. lag_wide 1 n L wide_L j k jn kn b h) e

  ends_at : (j : ℕ) → j ≤ n → Finished n L x (finish j) (finish_of n L x (finish j))
  ends_at j jn = finish_is 1 n L x wide_x (finish j) (λ k r kn e. lag_wide 1 n L wide_L j k jn kn r e)

  pub end_there : (j : ℕ) → 1 ≤ j → j ≤ n → finish_of n L x (finish j) ≡ Some (ends j ∷ [])
  end_there j low high = go (finish_of n L x (finish j)) refl (ends_at j high)
    where
      go : (o : Option Row) → finish_of n L x (finish j) ≡ o → Finished n L x (finish j) o → finish_of n L x (finish j) ≡ Some (ends j ∷ [])
      go None e h =
          let t = lag_into_there j low high in
          absurd (h ((begins t.0 +ℤ t.3.0) ∷ []) (t.0, t.1, t.2, ap₂ added (begin_there t.0 t.1 t.2) t.3.1))
      go (Some r) e h = there (finish_of n L x (finish j)) r e (added_wide 1 (x (start h.0.0)) (L (finish j) (start h.0.0)) (start_wide 1 n x wide_x h.0.0 h.0.2) (lag_wide 1 n L wide_L j h.0.0 high h.0.2) r h.0.3)

  finished : (j : ℕ) → 1 ≤ j → j ≤ n → Finished n L x (finish j) (Some (ends j ∷ []))
  finished j low high = subst (Finished n L x (finish j)) (end_there j low high) (ends_at j high)

  end_bound : (j k : ℕ) (a : ℤ) → 1 ≤ j → j ≤ n → 1 ≤ k → k ≤ n → Lag j k a → (begins k +ℤ a) ≤ℤ ends j
  end_bound j k a j1 jn k1 kn e =
      from_not_before (ends j) (begins k +ℤ a) ((finished j j1 jn).1 ((begins k +ℤ a) ∷ []) (k, k1, kn, ap₂ added (begin_there k k1 kn) e))

  end_attained : (j : ℕ) → 1 ≤ j → j ≤ n → (k : ℕ) × (1 ≤ k) × (k ≤ n) × ((a : ℤ) × Lag j k a × (ends j ≡ begins k +ℤ a))
  end_attained j j1 jn =
      let t = (finished j j1 jn).0 in
      let s = sum_one j t.0 (ends j ∷ []) jn t.1 t.2 t.3 in
      (t.0, t.1, t.2, (s.0, s.1, same_part (ends j) (begins t.0 +ℤ s.0) (ap Some s.2)))

  end_in_time : (j : ℕ) → 1 ≤ j → j ≤ n → ends j ≤ℤ falls j
  end_in_time j j1 jn =
      let t = end_attained j j1 jn in
      subst (λ (z : ℤ). z ≤ℤ falls j) (sym t.3.2) (in_time j t.0 t.3.0 j1 jn t.1 t.2 t.3.1)

  -- the distances
  pub miss_is : (j : ℕ) → 1 ≤ j → j ≤ n → falls j ≡ ends j +ℤ pos (miss n L d x j)
  miss_is j j1 jn = let h = end_in_time j j1 jn in omega (arith, ints)

  abbrev widest : ℕ
  widest = largest n (miss n L d x)

  -- any starts z whose finishes are near at g
  module _ (z : Totals) (g : ℕ) (h : AllNear n L d z g) where
    abbrev at : ℕ → ℤ
    at k = minute (z (start k))

    other_there : (k : ℕ) → 1 ≤ k → k ≤ n → z (start k) ≡ Some (at k ∷ [])
    other_there k k1 kn = let t = h.starts k k1 kn in there (z (start k)) t.0 t.1 t.2

    -- their finish of stage j
    record Other (j : ℕ) : Type 0 where
      pub end : ℤ
      pub bound : (k : ℕ) (a : ℤ) → 1 ≤ k → k ≤ n → Lag j k a → (at k +ℤ a) ≤ℤ end
      pub from : ℕ
      pub low : 1 ≤ from
      pub high : from ≤ n
      pub lag : ℤ
      pub stands : Lag j from lag
      pub is : end ≡ at from +ℤ lag
      pub not_early : (falls j +ℤ neg_ℤ (pos g)) ≤ℤ end
      pub not_late : end ≤ℤ (falls j +ℤ pos g)

    other : (j : ℕ) → 1 ≤ j → j ≤ n → Other j
    other j j1 jn =
        let t = h.finishes j j1 jn in
        let a = t.3.0 in
        let s = added_one (z (start a.0)) (L (finish j) (start a.0)) (at a.0) t.1 (other_there a.0 a.1 a.2) (λ b q. lag_wide 1 n L wide_L j a.0 jn a.2 b q) a.3 in
        let same : t.0 ≡ falls j ∷ [] = same_some t.0 (falls j ∷ []) (sym t.2 ∙ due j j1 jn) in
        record {
          end = at a.0 +ℤ s.0;
          bound = λ k b k1 kn e. from_not_before (at a.0 +ℤ s.0) (at k +ℤ b) (subst (λ (r : Row). NotBefore r ((at k +ℤ b) ∷ [])) s.2 (t.3.1 ((at k +ℤ b) ∷ []) (k, k1, kn, ap₂ added (other_there k k1 kn) e)));
          from = a.0;
          low = a.1;
          high = a.2;
          lag = s.0;
          stands = s.1;
          is = refl;
          not_early = from_not_before (at a.0 +ℤ s.0) (falls j +ℤ neg_ℤ (pos g)) (subst₂ (λ (r q : Row). NotBefore r (minus q (minutes g))) s.2 same t.4.not_early);
          not_late = from_not_before (falls j +ℤ pos g) (at a.0 +ℤ s.0) (subst₂ (λ (r q : Row). NotBefore (plus q (minutes g)) r) s.2 same t.4.not_late);
        }

    -- they are not after the greatest in time, moved by g
    not_after : (k : ℕ) → 1 ≤ k → k ≤ n → at k ≤ℤ (begins k +ℤ pos g)
    not_after k k1 kn = let h = greatest (λ v. minute (z v) +ℤ neg_ℤ (pos g)) early k k1 kn in omega (arith, ints)
      where
        early : (j i : ℕ) (a : ℤ) → 1 ≤ j → j ≤ n → 1 ≤ i → i ≤ n → Lag j i a → ((at i +ℤ neg_ℤ (pos g)) +ℤ a) ≤ℤ falls j
        early j i a j1 jn i1 i2 e =
            let o = other j j1 jn in
            let p = o.bound i a i1 i2 e in
            let q = o.not_late in
            omega (arith, ints)

    -- and so g is not below half of the largest distance
    far_enough : widest ≤ 2 * g
    far_enough = go (largest_attained (miss n L d x) n)
      where
        go : (widest ≡ 0) ⊎ ((j : ℕ) × (1 ≤ j) × (j ≤ n) × (widest ≡ miss n L d x j)) → widest ≤ 2 * g
        go (inl e) = omega arith
        go (inr t) =
            let o = other t.0 t.1 t.2 in
            let p = not_after o.from o.low o.high in
            let q = end_bound t.0 o.from o.lag t.1 t.2 o.low o.high o.stands in
            let r = miss_is t.0 t.1 t.2 in
            let early = o.not_early in
            let is = o.is in
            let e = t.3 in
            let m : miss n L d x t.0 ≤ 2 * g = omega (arith, ints) in
            omega arith

  module _ (e : ℕ) (y : Totals) (enough : widest ≤ 2 * e) (moved : Moved n x e y) where
    moved_finish : (j : ℕ) → 1 ≤ j → j ≤ n → Finished n L y (finish j) (Some ((ends j +ℤ pos e) ∷ []))
    moved_finish j j1 jn = (attained, above)
      where
        attained : Among n (λ k. added (y (start k)) (L (finish j) (start k))) ((ends j +ℤ pos e) ∷ [])
        attained =
            let t = end_attained j j1 jn in
            let is : (begins t.0 +ℤ pos e) +ℤ t.3.0 ≡ ends j +ℤ pos e = let q = t.3.2 in omega (arith, ints) in
            (t.0, t.1, t.2, ap₂ added (moved.starts t.0 t.1 t.2) t.3.1 ∙ ap (λ (u : ℤ). Some (u ∷ [])) is)

        above : (q : Row) → Among n (λ k. added (y (start k)) (L (finish j) (start k))) q → NotBefore ((ends j +ℤ pos e) ∷ []) q
        above q a =
            let k = a.0 in
            let s = added_one (y (start k)) (L (finish j) (start k)) (begins k +ℤ pos e) q (moved.starts k a.1 a.2) (λ b h. lag_wide 1 n L wide_L j k jn a.2 b h) a.3 in
            let b = end_bound j k s.0 j1 jn a.1 a.2 s.1 in
            subst (λ (r : Row). NotBefore ((ends j +ℤ pos e) ∷ []) r) (sym s.2) (to_not_before (ends j +ℤ pos e) ((begins k +ℤ pos e) +ℤ s.0) (omega (arith, ints)))

    near : (j : ℕ) → 1 ≤ j → j ≤ n → Near e (falls j ∷ []) ((ends j +ℤ pos e) ∷ [])
    near j j1 jn =
        let m = miss_is j j1 jn in
        let b = largest_bound (miss n L d x) n j j1 jn in
        let t = end_in_time j j1 jn in
        record {
          not_early = to_not_before (ends j +ℤ pos e) (falls j +ℤ neg_ℤ (pos e)) (omega (arith, ints));
          not_late = to_not_before (falls j +ℤ pos e) (ends j +ℤ pos e) (omega (arith, ints));
        }

    pub moved_near : AllNear n L d y e
    moved_near = record {
      starts = λ k k1 kn. ((begins k +ℤ pos e) ∷ [], moved.starts k k1 kn, refl);
      finishes = λ j j1 jn. (falls j ∷ [], (ends j +ℤ pos e) ∷ [], due j j1 jn, moved_finish j j1 jn, near j j1 jn);
    }

    pub closest : 2 * e ≤ widest + 1 → Closest n L d y e
    closest tight = record {
      opening = moved.opening;
      finishes = moved.finishes;
      near = moved_near;
      smallest = λ z g h. let f = far_enough z g h in omega arith;
      greatest = λ z h k r s k1 kn at_y at_z.
          let is_y = same_some ((begins k +ℤ pos e) ∷ []) r (sym (moved.starts k k1 kn) ∙ at_y) in
          let is_z = same_some (minute (z (start k)) ∷ []) s (sym (other_there z e h k k1 kn) ∙ at_z) in
          subst₂ NotBefore is_y is_z (to_not_before (begins k +ℤ pos e) (minute (z (start k))) (not_after z e h k k1 kn));
    }

  -- the numbers stay inside the limits
  module _ (limit_L : (v u : ℕ) (r : Row) → L v u ≡ Some r → Within lag_limit r) (limit_d : (j : ℕ) → 1 ≤ j → j ≤ n → Within given_limit (falls j ∷ [])) where
    lag_limited : (j k : ℕ) (a : ℤ) → Lag j k a → (neg_ℤ (pos lag_limit) ≤ℤ a) × (a ≤ℤ pos lag_limit)
    lag_limited j k a e = (limit_L (finish j) (start k) (a ∷ []) e).0

    begin_high : (k : ℕ) → 1 ≤ k → k ≤ n → begins k ≤ℤ pos (given_limit + lag_limit)
    begin_high k k1 kn =
        let t = lag_from_there k k1 kn in
        let h = in_time t.0 k t.3.0 t.1 t.2 k1 kn t.3.1 in
        let a = (lag_limited t.0 k t.3.0 t.3.1).0 in
        let f = (limit_d t.0 t.1 t.2).0.1 in
        omega (arith, ints)

    begin_low : (k : ℕ) → 1 ≤ k → k ≤ n → neg_ℤ (pos (given_limit + lag_limit)) ≤ℤ begins k
    begin_low k k1 kn = greatest (λ v. neg_ℤ (pos (given_limit + lag_limit))) early k k1 kn
      where
        early : (j i : ℕ) (a : ℤ) → 1 ≤ j → j ≤ n → 1 ≤ i → i ≤ n → Lag j i a → (neg_ℤ (pos (given_limit + lag_limit)) +ℤ a) ≤ℤ falls j
        early j i a j1 jn i1 i2 e =
            let p = (lag_limited j i a e).1 in
            let f = (limit_d j j1 jn).0.0 in
            omega (arith, ints)

    pub starts_inside : StartsInside n x
    starts_inside k k1 kn r e =
        let is = same_some (begins k ∷ []) r (sym (begin_there k k1 kn) ∙ e) in
        subst (Within (given_limit + lag_limit)) is ((begin_low k k1 kn, begin_high k k1 kn), tt)

    widest_limit : widest ≤ 2 * given_limit + 2 * lag_limit
    widest_limit = go (largest_attained (miss n L d x) n)
      where
        go : (widest ≡ 0) ⊎ ((j : ℕ) × (1 ≤ j) × (j ≤ n) × (widest ≡ miss n L d x j)) → widest ≤ 2 * given_limit + 2 * lag_limit
        go (inl e) = omega arith
        go (inr t) =
            let m = miss_is t.0 t.1 t.2 in
            let f = (limit_d t.0 t.1 t.2).0.1 in
            let s = end_attained t.0 t.1 t.2 in
            let is = s.3.2 in
            let a = (lag_limited t.0 s.0 s.3.0 s.3.1).0 in
            let b = begin_low s.0 s.1 s.2 in
            let e = t.3 in
            let few : miss n L d x t.0 ≤ 2 * given_limit + 2 * lag_limit = omega (arith, ints) in
            omega arith

    pub moved_fits : (e : ℕ) → 2 * e ≤ widest + 1 → MovedFits n x e
    moved_fits e tight k k1 kn =
        let w = widest_limit in
        let few : e ≤ given_limit + lag_limit = omega arith in
        let low = begin_low k k1 kn in
        let high = begin_high k k1 kn in
        let fits = relations.twice_fits in
        ((omega (arith, ints), omega (arith, ints)), tt)
