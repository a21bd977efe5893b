-- The event that each changed total came from, kept round by round: once rounds have settled, the
-- total is that event's total and the lag from there, and steps back lead to a first total.
use Rattle.std.proofs.Common.{◌≡◌, ℕ, zero, suc, ◌<◌, ◌≤◌, ◌≢◌, ◌⊎◌, length, Some, None, Option, sym, refl, ap, ◌∙◌, subst, subst₂, inl, inr, arith}
use Rattle.std.proofs.lemmas.Bool.{cases_lt}
use Rattle.rows.specs.Rows.{Row, plus}
use Rattle.rows.proofs.Order.{before_plus, NotBefore-antisym}
use Rattle.rows.specs.MaxPlus.{added}
use Rattle.schedules.specs.Plans.{Lags, Totals, AtLeast, Wide}
use Rattle.schedules.specs.Firsts.{CameFrom, Rooted}
use Rattle.schedules.specs.Rounds.{rounds, Settled, Changed}
use Rattle.schedules.specs.Walks.{Source}
use Rattle.schedules.proofs.Optional.{WideRow, WideRow-to, AtLeast-antisym, alike}
use Rattle.schedules.proofs.Rounds.{WideTotals, rounds_sized, rounds_mono, Settled-covers}

-- Of the first k rounds: the last one to change v, after so many others, took its total over the lag
-- from u.
pub record LastRise (m : ℕ) (L : Lags) (b : Totals) (k v u : ℕ) : Type 0 where
  pub others : ℕ
  pub before : others < k
  pub source : Source m L (rounds m L b others) v u (rounds m L b (suc others) v)
  pub changed : Changed m L b others v
  pub last : rounds m L b (suc others) v ≡ rounds m L b k v

-- that event is the one that is kept
abbrev pub CameSoFar : ℕ → Lags → Totals → ℕ → (ℕ → ℕ) → Type 0
CameSoFar m L b k from = (v : ℕ) → v < m → rounds m L b k v ≢ b v → LastRise m L b k v (from v)

pub came_start : (m : ℕ) (L : Lags) (b : Totals) (from : ℕ → ℕ) → CameSoFar m L b 0 from
came_start m L b from v v_in n = absurd (n refl)

module _ (w m : ℕ) (L : Lags) (wide : Wide w m L) (b : Totals) (sized : WideTotals w m b) (k : ℕ) where
  -- a round more: where it changed v, `after` has the event that the total came from, and else what
  -- was kept
  pub came_step : (from after : ℕ → ℕ) → CameSoFar m L b k from → ((v : ℕ) → v < m → Changed m L b k v → Source m L (rounds m L b k) v (after v) (rounds m L b (suc k) v)) → ((v : ℕ) → v < m → rounds m L b (suc k) v ≡ rounds m L b k v → after v ≡ from v) → CameSoFar m L b (suc k) after
  came_step from after so_far source kept v v_in n =
      go (alike w (rounds m L b (suc k) v) (rounds m L b k v) (rounds_sized w m L wide b sized (suc k) v v_in) (rounds_sized w m L wide b sized k v v_in))
    where
      go : (rounds m L b (suc k) v ≡ rounds m L b k v) ⊎ Changed m L b k v → LastRise m L b (suc k) v (after v)
      go (inl e) =
          let t = so_far v v_in (λ q. n (e ∙ q)) in
          subst (LastRise m L b (suc k) v) (sym (kept v v_in e)) (record { others = t.others; before = omega (arith, t.before); source = t.source; changed = t.changed; last = t.last ∙ sym e })
      go (inr c) = record { others = k; before = omega arith; source = source v v_in c; changed = c; last = refl }

-- an earlier total that with a lag is what the later one with it does not exceed is the later one
risen_same : (w : ℕ) (p o : Option Row) (t a : Row) → WideRow w p → o ≡ Some t → length t ≡ w → length a ≡ w → AtLeast p o → AtLeast (Some (plus t a)) (added p (Some a)) → p ≡ Some t
risen_same w None o t a d e f g h k = absurd (subst (AtLeast None) e h)
risen_same w (Some q) o t a d e f g h k =
    ap (λ (z : Row). Some z) (NotBefore-antisym q t (d ∙ sym f) (subst (AtLeast (Some q)) e h) (λ c. k (before_plus t q a (f ∙ sym g) c)))

module _ (w m : ℕ) (L : Lags) (wide : Wide w m L) (b : Totals) (sized : WideTotals w m b) (k : ℕ) (f : Settled m L b k) where
  source_settled : (j v u : ℕ) → j < k → v < m → Source m L (rounds m L b j) v u (rounds m L b (suc j) v) → rounds m L b (suc j) v ≡ rounds m L b k v → Source m L (rounds m L b k) v u (rounds m L b k v)
  source_settled j v u j_in v_in s e = record {
    inside = s.inside;
    total = s.total;
    lag = s.lag;
    stands = s.stands;
    known = risen_same w (rounds m L b k u) (rounds m L b j u) s.total s.lag (rounds_sized w m L wide b sized k u s.inside) s.known (WideRow-to w (rounds m L b j u) s.total s.known (rounds_sized w m L wide b sized j u s.inside)) (wide v u s.lag v_in s.inside s.stands) (rounds_mono w m L wide b sized j k u s.inside (omega arith)) covered;
    gives = gives;
  }
    where
      gives : rounds m L b k v ≡ Some (plus s.total s.lag)
      gives = sym e ∙ s.gives

      covered : AtLeast (Some (plus s.total s.lag)) (added (rounds m L b k u) (Some s.lag))
      covered = subst₂ (λ (p l : Option Row). AtLeast p (added (rounds m L b k u) l)) gives s.stands (Settled-covers w m L wide b sized k f v u v_in s.inside)

  -- of totals R that are those of round k
  pub came_from : (from : ℕ → ℕ) → CameSoFar m L b k from → (R : Totals) → ((v : ℕ) → v < m → R v ≡ rounds m L b k v) → CameFrom m L b R from
  came_from from so_far R same v v_in n =
      let t = so_far v v_in (λ q. n (same v v_in ∙ q)) in
      let s = source_settled t.others v (from v) t.before v_in t.source t.last in
      record {
        inside = s.inside;
        total = s.total;
        lag = s.lag;
        stands = s.stands;
        known = same (from v) s.inside ∙ s.known;
        gives = same v v_in ∙ s.gives;
      }

  -- a total that is the last one stays so
  stays : (i j v : ℕ) → v < m → i ≤ j → j ≤ k → rounds m L b i v ≡ rounds m L b k v → rounds m L b j v ≡ rounds m L b k v
  stays i j v v_in le within e =
      AtLeast-antisym w (rounds m L b j v) (rounds m L b k v) (rounds_sized w m L wide b sized j v v_in) (rounds_sized w m L wide b sized k v v_in) (subst (AtLeast (rounds m L b j v)) e (rounds_mono w m L wide b sized i j v v_in le)) (rounds_mono w m L wide b sized j k v v_in within)

  -- what rose to its last total in round r + 1 came from an event at its own last total before
  came_later : (r v u : ℕ) → suc r ≤ k → v < m → rounds m L b (suc r) v ≡ rounds m L b k v → (rounds m L b r v ≡ rounds m L b k v → ⊥) → LastRise m L b k v u → rounds m L b r u ≡ rounds m L b k u
  unfolding source_settled
  came_later r v u r_in v_in e n t = go (cases_lt t.others r) (cases_lt r t.others)
    where
      go : (t.others < r) ⊎ (r ≤ t.others) → (r < t.others) ⊎ (t.others ≤ r) → rounds m L b r u ≡ rounds m L b k u
      go (inl before) d = absurd (n (stays (suc t.others) r v v_in (omega (arith, before)) (omega arith) t.last))
      go (inr c) (inl after) =
          absurd (t.changed (t.last ∙ sym (stays (suc r) t.others v v_in (omega (arith, after)) (omega (arith, t.before)) e)))
      go (inr c) (inr d) =
          let same : t.others ≡ r = omega (arith, c, d) in
          let s = source_settled t.others v u t.before v_in t.source t.last in
          subst (λ (i : ℕ). rounds m L b i u ≡ rounds m L b k u) same (t.source.known ∙ sym s.known)

  rooted_by : (from : ℕ → ℕ) → CameSoFar m L b k from → (R : Totals) → ((v : ℕ) → v < m → R v ≡ rounds m L b k v) → (r : ℕ) → r ≤ k → (v : ℕ) → v < m → rounds m L b r v ≡ rounds m L b k v → Rooted m b R from r v
  rooted_by from so_far R same zero r_in v v_in e = record { steps = 0; few = omega arith; inside = v_in; first = same v v_in ∙ sym e }
  rooted_by from so_far R same (suc r) r_in v v_in e =
      go (alike w (rounds m L b r v) (rounds m L b k v) (rounds_sized w m L wide b sized r v v_in) (rounds_sized w m L wide b sized k v v_in)) (rooted_by from so_far R same r (omega arith))
    where
      go : (rounds m L b r v ≡ rounds m L b k v) ⊎ (rounds m L b r v ≡ rounds m L b k v → ⊥) → ((u : ℕ) → u < m → rounds m L b r u ≡ rounds m L b k u → Rooted m b R from r u) → Rooted m b R from (suc r) v
      go (inl q) rest =
          let t = rest v v_in q in
          record { steps = t.steps; few = omega (arith, t.few); inside = t.inside; first = t.first }
      go (inr n) rest =
          let c = so_far v v_in (λ q. n (stays 0 r v v_in (omega arith) (omega arith) (sym q))) in
          let t = rest (from v) c.source.inside (came_later r v (from v) r_in v_in e n c) in
          record { steps = suc t.steps; few = omega (arith, t.few); inside = t.inside; first = t.first }

  pub came_rooted : (from : ℕ → ℕ) → CameSoFar m L b k from → (R : Totals) → ((v : ℕ) → v < m → R v ≡ rounds m L b k v) → (v : ℕ) → v < m → Rooted m b R from k v
  came_rooted from so_far R same v v_in = rooted_by from so_far R same k (omega arith) v v_in refl
