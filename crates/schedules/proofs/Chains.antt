-- Totals that cover the lags telescope along a chain, and so do times, so a loop leaves no schedule.
use Rattle.std.proofs.Common.{◌≡◌, ℕ, ◌<◌, ◌≤◌, ◌≢◌, List, [], ◌∷◌, length, Some, None, Option, sym, refl, ap, ◌∙◌, subst, subst₂, inl, inr}
use Rattle.rows.specs.Rows.{Row, zeros, plus, Before, NotBefore}
use Rattle.rows.proofs.Sums.{length-plus, length-sum_le, plus_assoc}
use Rattle.rows.proofs.Order.{NotBefore-between, NotBefore-sum, before_raised}
use Rattle.rows.specs.MaxPlus.{added}
use Rattle.schedules.specs.Plans.{Lags, Totals, AtLeast, Wide, KeepsLags, Schedule, Schedulable, Chain, Has, Loop}
use Rattle.schedules.proofs.Optional.{WideRow-to, known_row, row_under, some_inj, some_none}
use Rattle.schedules.proofs.Rounds.{WideTotals}

module _ (m : ℕ) (L : Lags) where
  pub chain_from : (es : List ℕ) (u v : ℕ) (r : Row) → Chain m L u es v r → u < m
  chain_from [] u v r c = c.0
  chain_from (t ∷ es) u v r c = c.2

  pub chain_to : (es : List ℕ) (u v : ℕ) (r : Row) → Chain m L u es v r → v < m
  chain_to [] u v r c = c.1
  chain_to (t ∷ es) u v r c = chain_to es t v c.1 c.4

  -- from any event on the way
  pub chain_after : (es : List ℕ) (u v f : ℕ) (r : Row) → Chain m L u es v r → Has f es → (fs : List ℕ) × (s : Row) × Chain m L f fs v s
  chain_after [] u v f r c h = absurd h
  chain_after (t ∷ es) u v f r c (inl e) = (es, c.1, subst (λ (i : ℕ). Chain m L i es v c.1) (sym e) c.4)
  chain_after (t ∷ es) u v f r c (inr h) = chain_after es t v f c.1 c.4 h

-- a total is at least what each lag asks
abbrev pub Covers : ℕ → Lags → Totals → Type 0
Covers m L S = (v u : ℕ) → v < m → u < m → AtLeast (S v) (added (S u) (L v u))

module _ (w m : ℕ) (L : Lags) (S : Totals) (sized : WideTotals w m S) (covers : Covers m L S) where
  lag_covers : (u v : ℕ) (a x : Row) → u < m → v < m → L v u ≡ Some a → S u ≡ Some x → (y : Row) × (S v ≡ Some y) × NotBefore y (plus x a)
  lag_covers u v a x u_in v_in e d =
      row_under (S v) (plus x a) (subst₂ (λ (o l : Option Row). AtLeast (S v) (added o l)) d e (covers v u v_in u_in))

  -- the end of a chain from an event with a total comes at least its sum after that
  pub chain_covers : (es : List ℕ) (u v : ℕ) (r x : Row) → Chain m L u es v r → S u ≡ Some x → (y : Row) × (S v ≡ Some y) × NotBefore y (plus x r)
  chain_covers [] u v r x c d = lag_covers u v r x c.0 c.1 c.2 d
  chain_covers (t ∷ es) u v r x c d =
      let a = c.0 in
      let b = c.1 in
      let t_in : t < m = chain_from m L es t v b c.4 in
      let s = lag_covers u t a x c.2 t_in c.3 d in
      let rest = chain_covers es t v b s.0 c.4 s.1 in
      let first : NotBefore (plus s.0 b) (plus (plus x a) b) = NotBefore-sum s.0 (plus x a) b s.2 in
      let width : length (plus (plus x a) b) ≤ length (plus s.0 b) = length-sum_le x s.0 a b (WideRow-to w (S u) x d (sized u c.2) ∙ sym (WideRow-to w (S t) s.0 s.1 (sized t t_in))) in
      (rest.0, rest.1, subst (NotBefore rest.0) (plus_assoc x a b ∙ ap (plus x) (sym c.5)) (NotBefore-between rest.0 (plus s.0 b) (plus (plus x a) b) width rest.2 first))

  -- no closed chain whose sum is after zero begins at an event with a total
  pub closed_unknown : (es : List ℕ) (e : ℕ) (r : Row) → Chain m L e es e r → Before (zeros w) r → S e ≢ None → ⊥
  closed_unknown es e r c h n =
      let x = known_row (S e) n in
      let y = chain_covers es e e r x.0 c x.1 in
      let wide : length x.0 ≡ w = WideRow-to w (S e) x.0 x.1 (sized e (chain_from m L es e e r c)) in
      y.2 (subst (λ (z : Row). Before z (plus x.0 r)) (some_inj (sym x.1 ∙ y.1)) (before_raised w x.0 r wide h))

  -- no event of a loop has a total
  pub loop_unknown : (es : List ℕ) (f : ℕ) → Loop w m L es → Has f es → S f ≢ None → ⊥
  loop_unknown [] f l h n = l
  loop_unknown (e ∷ es) f l (inl q) n = closed_unknown es e l.2.0 l.2.1.0 l.2.1.1 (subst (λ (i : ℕ). S i ≢ None) q n)
  loop_unknown (e ∷ es) f l (inr h) n =
      let x = known_row (S f) n in
      let c = chain_after m L es e e f l.2.0 l.2.1.0 h in
      let y = chain_covers c.0 f e c.1 x.0 c.2 x.1 in
      closed_unknown es e l.2.0 l.2.1.0 l.2.1.1 (λ q. some_none (sym y.1 ∙ q))

module _ (w m : ℕ) (L : Lags) where
  pub chain_wide : Wide w m L → (es : List ℕ) (u v : ℕ) (r : Row) → Chain m L u es v r → length r ≡ w
  chain_wide wide [] u v r c = wide v u r c.1 c.0 c.2
  chain_wide wide (t ∷ es) u v r c =
      ap length c.5 ∙ length-plus c.0 c.1 w (wide t u c.0 (chain_from m L es t v c.1 c.4) c.2 c.3) (chain_wide wide es t v c.1 c.4)

  -- times that keep the lags cover them
  times_cover : (x : ℕ → Row) → KeepsLags w m L x → Covers m L (λ v. Some (x v))
  times_cover x s v u v_in u_in = go (L v u) refl
    where
      go : (l : Option Row) → L v u ≡ l → AtLeast (Some (x v)) (added (Some (x u)) l)
      go None e = tt
      go (Some a) e = s.keeps v u a v_in u_in e

  -- no times keep the lags of a closed chain whose sum is after zero
  pub closed_contradicts : (x : ℕ → Row) → KeepsLags w m L x → (es : List ℕ) (e : ℕ) (r : Row) → Chain m L e es e r → Before (zeros w) r → ⊥
  closed_contradicts x s es e r c h =
      closed_unknown w m L (λ v. Some (x v)) s.wide (times_cover x s) es e r c h some_none

  pub loop_contradicts : (x : ℕ → Row) → Schedule w m L x → (es : List ℕ) → Loop w m L es → ⊥
  loop_contradicts x s [] l = l
  loop_contradicts x s (e ∷ es) l = closed_contradicts x s.keeping es e l.2.0 l.2.1.0 l.2.1.1

  pub schedule_not_loop : Schedulable w m L → (es : List ℕ) → Loop w m L es → ⊥
  schedule_not_loop s es l = loop_contradicts s.0 s.1 es l
