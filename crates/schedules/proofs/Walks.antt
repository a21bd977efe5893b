-- A walk back that meets an event twice has gone round a closed chain whose sum is after zero.
use Rattle.std.proofs.Common.{◌≡◌, ℕ, zero, suc, ◌+◌, ◌-◌, ◌<◌, ◌≤◌, ◌∷◌, Some, Option, sym, refl, ap, ◌∙◌, subst, subst₂, inl, inr, add-suc, add-one, arith}
use Rattle.rows.specs.Rows.{Row, zeros, plus, Before}
use Rattle.rows.proofs.Sums.{plus_assoc}
use Rattle.rows.proofs.Order.{raised_before}
use Rattle.schedules.specs.Plans.{Lags, Wide, Chain, Has, Distinct, Totals, AtLeast}
use Rattle.rows.specs.MaxPlus.{added}
use Rattle.schedules.specs.Rounds.{rounds, Changed}
use Rattle.schedules.specs.Walks.{Source, Traced, backs, Apart}
use Rattle.schedules.proofs.Optional.{Below, below_under, below_not_at_least, after_is, WideRow-to, some_inj}
use Rattle.schedules.proofs.Rounds.{WideTotals, rounds_sized, rounds_mono, round_covers, changed_rises}

-- p 0, p 1, .., p d are events met walking back, p 0 in round n, p 1 in round n - 1, and so on
abbrev pub Walked : (ℕ → ℕ → ℕ) → ℕ → (ℕ → ℕ) → ℕ → Type 0
Walked from n p d = (i : ℕ) → i < d → p (suc i) ≡ from (n - i) (p i)

-- The chain walked back from p c, over i events, with its sum: what is added between rounds j and
-- g.
record Stretch (m : ℕ) (L : Lags) (S : Totals) (p : ℕ → ℕ) (c g i j : ℕ) : Type 0 where
  first : Row
  sum : Row
  chain : Chain m L (p (c + suc i)) (backs p c i) (p c) sum
  known : rounds m L S j (p (c + suc i)) ≡ Some first
  adds : rounds m L S g (p c) ≡ Some (plus first sum)

-- a sum that goes one lag further back
longer : (o : Option Row) (f t a r : Row) → o ≡ Some (plus f r) → f ≡ plus t a → o ≡ Some (plus t (plus a r))
longer o f t a r e q = e ∙ ap (λ (z : Row). Some z) (ap (λ (z : Row). plus z r) q ∙ plus_assoc t a r)

stretch_last : (m : ℕ) (L : Lags) (S : Totals) (p : ℕ → ℕ) (c g j : ℕ) → suc j ≡ g → p c < m → Source m L (rounds m L S j) (p c) (p (suc c)) (rounds m L S (suc j) (p c)) → Stretch m L S p c g 0 j
stretch_last m L S p c g j e h t =
    let s = subst (λ (u : ℕ). Source m L (rounds m L S j) (p c) (p u) (rounds m L S (suc j) (p c))) (sym (add-one c)) t in
    record {
      first = s.total;
      sum = s.lag;
      chain = (s.inside, h, s.stands);
      known = s.known;
      adds = subst (λ (k : ℕ). rounds m L S k (p c) ≡ Some (plus s.total s.lag)) e s.gives;
    }

stretch_next : (m : ℕ) (L : Lags) (S : Totals) (p : ℕ → ℕ) (c g i j : ℕ) → Stretch m L S p c g i (suc j) → Source m L (rounds m L S j) (p (c + suc i)) (p (suc (c + suc i))) (rounds m L S (suc j) (p (c + suc i))) → Stretch m L S p c g (suc i) j
stretch_next m L S p c g i j rest t =
    let s = subst (λ (u : ℕ). Source m L (rounds m L S j) (p (c + suc i)) (p u) (rounds m L S (suc j) (p (c + suc i)))) (sym (add-suc c (suc i))) t in
    record {
      first = s.total;
      sum = plus s.lag rest.sum;
      chain = (s.lag, rest.sum, s.inside, s.stands, rest.chain, refl);
      known = s.known;
      adds = longer (rounds m L S g (p c)) rest.first s.total s.lag rest.sum rest.adds (some_inj (sym rest.known ∙ s.gives));
    }

module _ (w m : ℕ) (L : Lags) (wide : Wide w m L) (S : Totals) (sized : WideTotals w m S) where
  -- what a changed total came from changed a round earlier
  pub source_changed : (k v u : ℕ) → v < m → Changed m L S (suc k) v → Source m L (rounds m L S (suc k)) v u (rounds m L S (suc (suc k)) v) → Changed m L S k u
  source_changed k v u v_in c s e =
      below_not_at_least (rounds m L S (suc k) v) (rounds m L S (suc (suc k)) v) (changed_rises w m L wide S sized (suc k) v v_in c) kept
    where
      sum : added (rounds m L S k u) (L v u) ≡ rounds m L S (suc (suc k)) v
      sum = after_is (rounds m L S k u) (L v u) s.total s.lag (sym e ∙ s.known) s.stands ∙ sym s.gives

      kept : AtLeast (rounds m L S (suc k) v) (rounds m L S (suc (suc k)) v)
      kept = subst (λ (o : Option Row). AtLeast (rounds m L S (suc k) v) o) sum (round_covers w m L wide (rounds m L S k) (rounds_sized w m L wide S sized k) v u v_in s.inside)

  module _ (n : ℕ) (from : ℕ → ℕ → ℕ) (traced : Traced m L S n from) (p : ℕ → ℕ) (d : ℕ) (walked : Walked from n p d) (short : d ≤ n) (start : p 0 < m) (some : 1 ≤ n) (changed : Changed m L S (n - 1) (p 0)) where
    step_source : (i k : ℕ) → i < d → i + suc k ≡ n → p i < m → Changed m L S k (p i) → Source m L (rounds m L S k) (p i) (p (suc i)) (rounds m L S (suc k) (p i))
    step_source i k h e i_in c =
        subst (λ (u : ℕ). Source m L (rounds m L S k) (p i) u (rounds m L S (suc k) (p i))) here (traced k (p i) (omega arith) i_in c)
      where
        here : from (suc k) (p i) ≡ p (suc i)
        here = ap (λ (j : ℕ). from j (p i)) (omega arith) ∙ sym (walked i h)

    -- each event met was changed, in a round earlier than the one before
    pub walk_changed : (i k : ℕ) → i ≤ d → i + suc k ≡ n → (p i < m) × Changed m L S k (p i)
    walk_changed zero k le e = (start, subst (λ (j : ℕ). Changed m L S j (p 0)) (omega arith) changed)
    walk_changed (suc i) k le e =
        let before : (p i < m) × Changed m L S (suc k) (p i) = walk_changed i (suc k) (omega arith) (omega arith) in
        let s = step_source i (suc k) le (omega arith) before.0 before.1 in
        (s.inside, source_changed k (p i) (p (suc i)) before.0 before.1 s)

    pub walk_source : (i k : ℕ) → i < d → i + suc k ≡ n → Source m L (rounds m L S k) (p i) (p (suc i)) (rounds m L S (suc k) (p i))
    walk_source i k h e =
        let c = walk_changed i k (omega arith) e in
        step_source i k h e c.0 c.1

    pub walk_below : (i : ℕ) → i ≤ d → p i < m
    walk_below zero le = start
    walk_below (suc i) le = (walk_source i (n - suc i) le (omega arith)).inside

    stretch : (c g i j : ℕ) → c + g ≡ n → j + (c + suc i) ≡ n → c + suc i ≤ d → Stretch m L S p c g i j
    stretch c g zero j e f le =
        stretch_last m L S p c g j (omega arith) (walk_below c (omega arith)) (walk_source c j (omega arith) (omega arith))
    stretch c g (suc i) j e f le =
        stretch_next m L S p c g i j (stretch c g i (suc j) e (omega arith) (omega arith)) (walk_source (c + suc i) j (omega arith) (omega arith))

    -- where an event is met twice, the events between close a chain, and its sum is after zero
    pub closed_walk : (c i : ℕ) → c + suc i ≤ d → p c ≡ p (c + suc i) → (r : Row) × (Chain m L (p c) (backs p c i) (p c) r × Before (zeros w) r)
    closed_walk c i le e = (s.sum, (subst (λ (u : ℕ). Chain m L u (backs p c i) (p c) s.sum) (sym e) s.chain, after))
      where
        g : ℕ
        g = n - suc c

        j : ℕ
        j = n - (c + suc i)

        s : Stretch m L S p c (suc g) i j
        s = stretch c (suc g) i j (omega arith) (omega arith) le

        c_in : p c < m
        c_in = walk_below c (omega arith)

        known : rounds m L S j (p c) ≡ Some s.first
        known = ap (rounds m L S j) e ∙ s.known

        raised : Below (rounds m L S j (p c)) (rounds m L S (suc g) (p c))
        raised = below_under w (rounds m L S j (p c)) (rounds m L S g (p c)) (rounds m L S (suc g) (p c)) (rounds_sized w m L wide S sized j (p c) c_in) (rounds_sized w m L wide S sized g (p c) c_in) (rounds_mono w m L wide S sized j g (p c) c_in (omega arith)) (changed_rises w m L wide S sized g (p c) c_in (walk_changed c g (omega arith) (omega arith)).1)

        after : Before (zeros w) s.sum
        after = raised_before w s.first s.sum (WideRow-to w (rounds m L S j (p c)) s.first known (rounds_sized w m L wide S sized j (p c) c_in)) (subst₂ (λ (o q : Option Row). Below o q) known s.adds raised)

-- events met after p c, which are all different, are distinct

Has-backs : (p : ℕ → ℕ) (c x i : ℕ) → Has x (backs p c i) → (j : ℕ) × (0 < j) × (j ≤ i) × (x ≡ p (c + j))
Has-backs p c x zero h = absurd h
Has-backs p c x (suc i) (inl e) = (suc i, omega arith, omega arith, e)
Has-backs p c x (suc i) (inr h) =
    let k = Has-backs p c x i h in
    let le : k.0 ≤ i = k.2 in
    (k.0, k.1, omega arith, k.3)

backs_distinct : (p : ℕ → ℕ) (d c i : ℕ) → Apart p d → c + i < d → Distinct (backs p c i)
backs_distinct p d c zero a h = tt
backs_distinct p d c (suc i) a h = (λ k. here (Has-backs p c (p (c + suc i)) i k), backs_distinct p d c i a (omega arith))
  where
    here : (j : ℕ) × (0 < j) × (j ≤ i) × (p (c + suc i) ≡ p (c + j)) → ⊥
    here k = let le : k.0 ≤ i = k.2 in a (c + k.0) (c + suc i) (omega arith) h (sym k.3)

pub walk_distinct : (p : ℕ → ℕ) (d c i : ℕ) → Apart p d → c + i < d → Distinct (p c ∷ backs p c i)
walk_distinct p d c i a h = (λ k. here (Has-backs p c (p c) i k), backs_distinct p d c i a h)
  where
    here : (j : ℕ) × (0 < j) × (j ≤ i) × (p c ≡ p (c + j)) → ⊥
    here k =
        let lo : 0 < k.0 = k.1 in
        let le : k.0 ≤ i = k.2 in
        a c (c + k.0) (omega arith) (omega arith) k.3
