-- Rounds settle, or a change in round m shows a loop.
use Rattle.std.proofs.Common.{◌≡◌, ℕ, zero, suc, ◌+◌, ◌-◌, ◌<◌, ◌≤◌, ◌⊎◌, List, ◌∷◌, sym, refl, ap, ◌∙◌, subst, inl, inr, arith}
use Rattle.std.proofs.lemmas.Bool.{cases_eq}
use Rattle.rows.specs.Rows.{Row, zeros, Before}
use Rattle.schedules.specs.Plans.{Lags, Wide, KeepsLags, Schedulable, Chain, Distinct, Loop, Totals}
use Rattle.schedules.specs.Rounds.{round, rounds, opening, everywhere, Settled, Changed}
use Rattle.schedules.specs.Walks.{Source, Traced, walk, backs}
use Rattle.schedules.proofs.Optional.{alike}
use Rattle.schedules.proofs.Rounds.{WideTotals, rounds_sized, opening_sized, everywhere_sized, round_source, Settled-from}
use Rattle.schedules.proofs.Chains.{closed_contradicts}
use Rattle.schedules.proofs.Settled.{settled_schedulable}
use Rattle.schedules.proofs.Repeats.{Repeat, repeats}
use Rattle.schedules.proofs.Walks.{walk_below, closed_walk, walk_distinct}
use Rattle.schedules.proofs.Rotation.{Closed-loop}

-- where a total came from

origin : (m : ℕ) (L : Lags) (S : Totals) (v : ℕ) → (round m L S v ≡ S v) ⊎ ((u : ℕ) × Source m L S v u (round m L S v)) → ℕ
origin m L S v (inl e) = 0
origin m L S v (inr s) = s.0

origin_source : (m : ℕ) (L : Lags) (S : Totals) (v : ℕ) (s : (round m L S v ≡ S v) ⊎ ((u : ℕ) × Source m L S v u (round m L S v))) → (round m L S v ≡ S v → ⊥) → Source m L S v (origin m L S v s) (round m L S v)
unfolding origin
origin_source m L S v (inl e) c = absurd (c e)
origin_source m L S v (inr s) c = s.1

came : ℕ → Lags → Totals → ℕ → ℕ → ℕ
came m L S zero v = 0
came m L S (suc k) v = origin m L (rounds m L S k) v (round_source m L (rounds m L S k) v)

came_traced : (m : ℕ) (L : Lags) (S : Totals) (n : ℕ) → Traced m L S n (came m L S)
unfolding came
came_traced m L S n k v h v_in c =
    origin_source m L (rounds m L S k) v (round_source m L (rounds m L S k) v) c

-- distinct events round which the lags add up to more than zero
pub record Closed (w m : ℕ) (L : Lags) : Type 0 where
  pub event : ℕ
  pub others : List ℕ
  pub distinct : Distinct (event ∷ others)
  pub sum : Row
  pub chain : Chain m L event others event sum
  pub after : Before (zeros w) sum

module _ (w m : ℕ) (L : Lags) (wide : Wide w m L) (first : 1 ≤ m) (S : Totals) (sized : WideTotals w m S) where
  -- a change in round m closes a chain
  pub change_closes : (v : ℕ) → v < m → Changed m L S (m - 1) v → Closed w m L
  change_closes v v_in c = go (repeats m p below)
    where
      p : ℕ → ℕ
      p = walk (came m L S) m v

      below : (i : ℕ) → i ≤ m → p i < m
      below = walk_below w m L wide S sized m (came m L S) (came_traced m L S m) p m (λ i h. refl) (omega arith) v_in first c

      at : (d i : ℕ) → d ≤ m → (r : Repeat p d) → r.back + suc i ≡ d → Closed w m L
      at d i le r e =
          let t = closed_walk w m L wide S sized m (came m L S) (came_traced m L S m) p m (λ i h. refl) (omega arith) v_in first c r.back i (omega arith) (r.alike ∙ ap p (sym e)) in
          record {
            event = p r.back;
            others = backs p r.back i;
            distinct = walk_distinct p d r.back i r.apart (omega arith);
            sum = t.0;
            chain = t.1.0;
            after = t.1.1;
          }

      go : (d : ℕ) × (d ≤ m) × Repeat p d → Closed w m L
      go t =
          let h : t.2.back < t.0 = t.2.earlier in
          at t.0 (t.0 - suc t.2.back) t.1 t.2 (omega arith)

  -- some event of the first n changed, or none
  pub some_changed : (k n : ℕ) → n ≤ m → ((v : ℕ) × (v < m) × Changed m L S k v) ⊎ ((v : ℕ) → v < n → rounds m L S (suc k) v ≡ rounds m L S k v)
  some_changed k zero le = inr (λ v h. absurd (omega arith))
  some_changed k (suc n) le = go (some_changed k n (omega arith)) (alike w (rounds m L S (suc k) n) (rounds m L S k n) (rounds_sized w m L wide S sized (suc k) n le) (rounds_sized w m L wide S sized k n le))
    where
      go : ((v : ℕ) × (v < m) × Changed m L S k v) ⊎ ((v : ℕ) → v < n → rounds m L S (suc k) v ≡ rounds m L S k v) → (rounds m L S (suc k) n ≡ rounds m L S k n) ⊎ Changed m L S k n → ((v : ℕ) × (v < m) × Changed m L S k v) ⊎ ((v : ℕ) → v < suc n → rounds m L S (suc k) v ≡ rounds m L S k v)
      go (inl h) a = inl h
      go (inr h) (inr d) = inl (n, le, d)
      go (inr h) (inl e) = inr (λ v k. at v k (cases_eq v n))
        where
          at : (v : ℕ) → v < suc n → (v ≡ n) ⊎ (v ≡ n → ⊥) → rounds m L S (suc k) v ≡ rounds m L S k v
          at v i (inl f) = subst (λ (j : ℕ). rounds m L S (suc k) j ≡ rounds m L S k j) (sym f) e
          at v i (inr f) = h v (omega arith)

  -- settled before round m, or a closed chain
  pub settled_or_closed : Settled m L S (m - 1) ⊎ Closed w m L
  settled_or_closed = go (some_changed (m - 1) m (omega arith))
    where
      go : ((v : ℕ) × (v < m) × Changed m L S (m - 1) v) ⊎ Settled m L S (m - 1) → Settled m L S (m - 1) ⊎ Closed w m L
      go (inl h) = inr (change_closes h.0 h.1 h.2)
      go (inr h) = inl h

module _ (w m : ℕ) (L : Lags) (wide : Wide w m L) (first : 1 ≤ m) where
  pub schedule_or_loop : Schedulable w m L ⊎ ((es : List ℕ) × Loop w m L es)
  schedule_or_loop = go (settled_or_closed w m L wide first (everywhere w) (everywhere_sized w m))
    where
      go : Settled m L (everywhere w) (m - 1) ⊎ Closed w m L → Schedulable w m L ⊎ ((es : List ℕ) × Loop w m L es)
      go (inl f) = inl (settled_schedulable w m L wide (m - 1) first f)
      go (inr c) = inr (Closed-loop w m L c.event c.others c.sum c.distinct c.chain c.after)

  -- with times that keep the lags, totals from any start settle before round m
  pub kept_settles : (S : Totals) → WideTotals w m S → (x : ℕ → Row) → KeepsLags w m L x → (k : ℕ) → m ≤ suc k → Settled m L S k
  kept_settles S sized x t k le = go (settled_or_closed w m L wide first S sized)
    where
      go : Settled m L S (m - 1) ⊎ Closed w m L → Settled m L S k
      go (inl f) = Settled-from m L S (m - 1) k (omega arith) f
      go (inr c) = absurd (closed_contradicts w m L x t c.others c.event c.sum c.chain c.after)

  pub settles : (S : Totals) → WideTotals w m S → Schedulable w m L → (k : ℕ) → m ≤ suc k → Settled m L S k
  settles S sized p = kept_settles S sized p.0 p.1.keeping

  pub opening_settles : Schedulable w m L → (k : ℕ) → m ≤ suc k → Settled m L (opening w) k
  opening_settles = settles (opening w) (opening_sized w m)
