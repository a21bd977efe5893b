-- Rounds: totals keep their width and only rise, and a round covers what each lag asks.
use Rattle.std.proofs.Common.{◌≡◌, ℕ, zero, suc, ◌+◌, ◌-◌, ◌<◌, ◌≤◌, ◌≢◌, ◌⊎◌, Some, None, Option, sym, ap, ◌∙◌, subst, inl, inr, suc-add, zero-add, arith}
use Rattle.rows.specs.Rows.{Row, plus}
use Rattle.rows.proofs.Options.{both_some}
use Rattle.rows.proofs.Sums.{length-zeros}
use Rattle.schedules.specs.Plans.{Lags, Wide, columns, Totals, AtLeast}
use Rattle.rows.specs.MaxPlus.{later, added}
use Rattle.schedules.specs.Rounds.{into, round, rounds, opening, everywhere, Settled, Changed}
use Rattle.schedules.specs.Walks.{Source}
use Rattle.schedules.proofs.Joined.{folded_rowed, folded_rises, folded_covers, folded_one, folded_same}
use Rattle.schedules.proofs.Optional.{WideRow, Below, WideRow-from, AtLeast-refl, AtLeast-trans, known_under, above, after_rowed}

-- every known total of the first m events has w parts
abbrev pub WideTotals : ℕ → ℕ → Totals → Type 0
WideTotals w m S = (v : ℕ) → v < m → WideRow w (S v)

pub WideTotals-from : (w m : ℕ) (S : Totals) → Wide w m (columns S) → WideTotals w m S
WideTotals-from w m S wide v v_in = WideRow-from w (S v) (λ r e. wide v v r v_in v_in e)

pub opening_sized : (w m : ℕ) → WideTotals w m (opening w)
opening_sized w m zero h = length-zeros w
opening_sized w m (suc v) h = tt

pub everywhere_sized : (w m : ℕ) → WideTotals w m (everywhere w)
everywhere_sized w m v h = length-zeros w

module _ (w m : ℕ) (L : Lags) (wide : Wide w m L) where
  pub lag_rowed : (v u : ℕ) → v < m → u < m → WideRow w (L v u)
  lag_rowed v u v_in u_in = WideRow-from w (L v u) (λ a e. wide v u a v_in u_in e)

  abbrev asks : Totals → ℕ → ℕ → Option Row
  asks S v u = added (S u) (L v u)

  asks_rowed : (S : Totals) → WideTotals w m S → (v n : ℕ) → v < m → n ≤ m → (u : ℕ) → u < n → WideRow w (asks S v u)
  asks_rowed S s v n v_in le u h = after_rowed w (S u) (L v u) (s u (omega arith)) (lag_rowed v u v_in (omega arith))

  pub into_rowed : (S : Totals) → WideTotals w m S → (v n : ℕ) → v < m → n ≤ m → WideRow w (into L S v n)
  into_rowed S s v n v_in le = folded_rowed w (S v) (asks S v) (s v v_in) n (asks_rowed S s v n v_in le)

  pub rounds_sized : (S : Totals) → WideTotals w m S → (k : ℕ) → WideTotals w m (rounds m L S k)
  rounds_sized S s zero = s
  rounds_sized S s (suc k) = λ v v_in. into_rowed (rounds m L S k) (rounds_sized S s k) v m v_in (omega arith)

  -- what a fold has is at least what it began with
  pub into_rises : (S : Totals) → WideTotals w m S → (v n : ℕ) → v < m → n ≤ m → AtLeast (into L S v n) (S v)
  into_rises S s v n v_in le = folded_rises w (S v) (asks S v) (s v v_in) n (asks_rowed S s v n v_in le)

  -- and at least what each lag asks
  pub into_covers : (S : Totals) → WideTotals w m S → (v n u : ℕ) → v < m → n ≤ m → u < n → AtLeast (into L S v n) (added (S u) (L v u))
  into_covers S s v n u v_in le h = folded_covers w (S v) (asks S v) (s v v_in) n (asks_rowed S s v n v_in le) u h

  -- so in a round
  pub round_covers : (S : Totals) → WideTotals w m S → (v u : ℕ) → v < m → u < m → AtLeast (round m L S v) (added (S u) (L v u))
  round_covers S s v u v_in u_in = into_covers S s v m u v_in (omega arith) u_in

  pub round_rises : (S : Totals) → WideTotals w m S → (v : ℕ) → v < m → AtLeast (round m L S v) (S v)
  round_rises S s v v_in = into_rises S s v m v_in (omega arith)

  -- and over many
  pub rounds_rise : (S : Totals) → WideTotals w m S → (k i v : ℕ) → v < m → AtLeast (rounds m L S (i + k) v) (rounds m L S k v)
  rounds_rise S s k zero v v_in = subst (λ (j : ℕ). AtLeast (rounds m L S j v) (rounds m L S k v)) (sym (zero-add k)) (AtLeast-refl (rounds m L S k v))
  rounds_rise S s k (suc i) v v_in =
      subst (λ (j : ℕ). AtLeast (rounds m L S j v) (rounds m L S k v)) (sym (suc-add i k))
      (AtLeast-trans w (rounds m L S (suc (i + k)) v) (rounds m L S (i + k) v) (rounds m L S k v) (rounds_sized S s (suc (i + k)) v v_in) (rounds_sized S s (i + k) v v_in) (round_rises (rounds m L S (i + k)) (rounds_sized S s (i + k)) v v_in) (rounds_rise S s k i v v_in))

  pub rounds_mono : (S : Totals) → WideTotals w m S → (k j v : ℕ) → v < m → k ≤ j → AtLeast (rounds m L S j v) (rounds m L S k v)
  rounds_mono S s k j v v_in le =
      subst (λ (i : ℕ). AtLeast (rounds m L S i v) (rounds m L S k v)) (omega arith) (rounds_rise S s k (j - k) v v_in)

  -- a total that is there stays there
  pub rounds_known : (S : Totals) → WideTotals w m S → (k v : ℕ) → v < m → S v ≢ None → rounds m L S k v ≢ None
  rounds_known S s k v v_in = known_under (rounds m L S k v) (S v) (rounds_mono S s 0 k v v_in (omega arith))

  -- a round that changes an event raises it
  pub changed_rises : (S : Totals) → WideTotals w m S → (k v : ℕ) → v < m → Changed m L S k v → Below (rounds m L S k v) (rounds m L S (suc k) v)
  changed_rises S s k v v_in c =
      above w (rounds m L S (suc k) v) (rounds m L S k v) (rounds_sized S s (suc k) v v_in) (rounds_sized S s k v v_in) (round_rises (rounds m L S k) (rounds_sized S s k) v v_in) c

-- a fold leaves an event as it is, or some lag gave the total
pub into_source : (m : ℕ) (L : Lags) (S : Totals) (v n : ℕ) → n ≤ m → (into L S v n ≡ S v) ⊎ ((u : ℕ) × Source m L S v u (into L S v n))
into_source m L S v n le = go (folded_one (S v) n (λ u. added (S u) (L v u)))
  where
    go : (into L S v n ≡ S v) ⊎ ((u : ℕ) × (u < n) × ((z : Row) × (added (S u) (L v u) ≡ Some z) × (into L S v n ≡ Some z))) → (into L S v n ≡ S v) ⊎ ((u : ℕ) × Source m L S v u (into L S v n))
    go (inl e) = inl e
    go (inr t) =
        let p = both_some plus (S t.0) (L v t.0) t.2.0 t.2.1 in
        let u_in : t.0 < m = omega (arith, t.1) in
        (inr (t.0, record { inside = u_in; total = p.0; lag = p.1; stands = p.3; known = p.2; gives = t.2.2 ∙ ap (λ (r : Row). Some r) (sym p.4) }))

pub round_source : (m : ℕ) (L : Lags) (S : Totals) (v : ℕ) → (round m L S v ≡ S v) ⊎ ((u : ℕ) × Source m L S v u (round m L S v))
round_source m L S v = into_source m L S v m (omega arith)

-- totals alike below m stay alike
pub into_same : (m : ℕ) (L : Lags) (S R : Totals) → ((u : ℕ) → u < m → S u ≡ R u) → (v n : ℕ) → v < m → n ≤ m → into L S v n ≡ into L R v n
into_same m L S R f v n v_in le =
    folded_same later (S v) (R v) n (λ u. added (S u) (L v u)) (λ u. added (R u) (L v u)) (f v v_in) (λ u h. ap (λ (p : Option Row). added p (L v u)) (f u (omega arith)))

-- what is settled stays settled
pub Settled-next : (m : ℕ) (L : Lags) (S : Totals) (k : ℕ) → Settled m L S k → Settled m L S (suc k)
Settled-next m L S k f v v_in = into_same m L (rounds m L S (suc k)) (rounds m L S k) f v m v_in (omega arith)

pub Settled-later : (m : ℕ) (L : Lags) (S : Totals) (k i : ℕ) → Settled m L S k → Settled m L S (i + k)
Settled-later m L S k zero f = subst (Settled m L S) (sym (zero-add k)) f
Settled-later m L S k (suc i) f = subst (Settled m L S) (sym (suc-add i k)) (Settled-next m L S (i + k) (Settled-later m L S k i f))

pub Settled-from : (m : ℕ) (L : Lags) (S : Totals) (k j : ℕ) → k ≤ j → Settled m L S k → Settled m L S j
Settled-from m L S k j le f = subst (Settled m L S) (omega arith) (Settled-later m L S k (j - k) f)

-- a settled total has at least what each lag asks
pub Settled-covers : (w m : ℕ) (L : Lags) → Wide w m L → (S : Totals) → WideTotals w m S → (k : ℕ) → Settled m L S k → (v u : ℕ) → v < m → u < m → AtLeast (rounds m L S k v) (added (rounds m L S k u) (L v u))
Settled-covers w m L wide S s k f v u v_in u_in =
    subst (λ (o : Option Row). AtLeast o (added (rounds m L S k u) (L v u))) (f v v_in) (round_covers w m L wide (rounds m L S k) (rounds_sized w m L wide S s k) v u v_in u_in)
