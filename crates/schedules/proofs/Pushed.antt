-- Settled totals make times that keep the lags: the events that have a total at it, and the others
-- far enough down.
use Rattle.std.proofs.Common.{◌≡◌, ℕ, ◌<◌, length, Some, None, Option, sym, refl, ap, ◌∙◌, subst, subst₂, arith}
use Rattle.rows.specs.Rows.{Row, plus, minus, negated, Before, NotBefore}
use Rattle.rows.proofs.Sums.{length-minus, plus_assoc, plus_comm, plus_swap, minus_plus}
use Rattle.rows.proofs.Order.{before_plus, NotBefore-sum, NotBefore-trans}
use Rattle.schedules.specs.Plans.{Lags, Totals, AtLeast, Wide, KeepsLags}
use Rattle.rows.specs.MaxPlus.{added}
use Rattle.schedules.specs.Rounds.{rounds, Settled}
use Rattle.schedules.specs.Firsts.{NotEarlier, TimesFrom}
use Rattle.schedules.proofs.Optional.{WideRow}
use Rattle.schedules.proofs.Rounds.{WideTotals, rounds_sized, rounds_mono, Settled-covers}

shifted_gap : (y r d : Row) → length y ≡ length r → plus (minus y r) (minus r d) ≡ minus y d
shifted_gap y r d e = sym (plus_assoc (minus y r) r (negated d)) ∙ ap (λ (z : Row). plus z (negated d)) (minus_plus y r e)

around : (d r : Row) → length r ≡ length d → plus d (minus r d) ≡ r
around d r e = plus_comm d (minus r d) ∙ minus_plus r d e

gap_kept : (y r d : Row) → length y ≡ length r → length r ≡ length d → NotBefore d (minus y r) → NotBefore r (minus y d)
gap_kept y r d e f h =
    subst₂ (λ (p q : Row). NotBefore p q) (around d r f) (shifted_gap y r d e) (NotBefore-sum d (minus y r) (minus r d) h)

pub gap_before : (w : ℕ) (y r d : Row) → length y ≡ w → length r ≡ w → length d ≡ w → Before (minus y r) d → Before (minus y d) r
gap_before w y r d e f g h =
    subst₂ (λ (p q : Row). Before p q) (shifted_gap y r d (e ∙ sym f)) (around d r (f ∙ sym g)) (before_plus (minus y r) d (minus r d) (length-minus y r w e f ∙ sym (length-minus r d w f g)) h)

-- where an event stands: at its total, or its time less D
abbrev pub pushed_row : Row → Row → Option Row → Row
pushed_row y d None = minus y d
pushed_row y d (Some r) = r

pushed_wide : (w : ℕ) (y d : Row) (o : Option Row) → length y ≡ w → length d ≡ w → WideRow w o → length (pushed_row y d o) ≡ w
pushed_wide w y d None e f h = length-minus y d w e f
pushed_wide w y d (Some r) e f h = h

-- at least what its total is
pushed_over : (y d : Row) (p o : Option Row) → AtLeast p o → AtLeast (Some (pushed_row y d p)) o
pushed_over y d p None h = tt
pushed_over y d None (Some x) h = absurd h
pushed_over y d (Some r) (Some x) h = h

shift_keeps : (y x a d : Row) → NotBefore y (plus x a) → NotBefore (minus y d) (plus (minus x d) a)
shift_keeps y x a d h =
    subst (λ (z : Row). NotBefore (minus y d) z) (plus_swap x a (negated d)) (NotBefore-sum y (plus x a) (negated d) h)

pushed_keeps : (w : ℕ) (y x a d : Row) (p o : Option Row) → length y ≡ w → length d ≡ w → WideRow w p → NotBefore y (plus x a) → ((r : Row) → p ≡ Some r → NotBefore d (minus y r)) → AtLeast p (added o (Some a)) → NotBefore (pushed_row y d p) (plus (pushed_row x d o) a)
pushed_keeps w y x a d None None e f g k far c = shift_keeps y x a d k
pushed_keeps w y x a d None (Some t) e f g k far c = absurd c
pushed_keeps w y x a d (Some r) None e f g k far c =
    NotBefore-trans r (minus y d) (plus (minus x d) a) (g ∙ sym (length-minus y d w e f)) (gap_kept y r d (e ∙ sym g) (g ∙ sym f) (far r refl)) (shift_keeps y x a d k)
pushed_keeps w y x a d (Some r) (Some t) e f g k far c = c

-- D is at least as far as each event that has a total in S stands above it
abbrev pub Far : ℕ → Totals → (ℕ → Row) → Row → Type 0
Far m S y d = (v : ℕ) (r : Row) → v < m → S v ≡ Some r → NotBefore d (minus (y v) r)

module _ (w m : ℕ) (L : Lags) (wide : Wide w m L) (b : Totals) (sized : WideTotals w m b) (k : ℕ) (f : Settled m L b k) (y : ℕ → Row) (s : KeepsLags w m L y) where
  pushed_times : (d : Row) → length d ≡ w → Far m (rounds m L b k) y d → KeepsLags w m L (λ v. pushed_row (y v) d (rounds m L b k v))
  pushed_times d e far = record {
    wide = λ v v_in. pushed_wide w (y v) d (rounds m L b k v) (s.wide v v_in) e (rounds_sized w m L wide b sized k v v_in);
    keeps = λ v u a v_in u_in l. pushed_keeps w (y v) (y u) a d (rounds m L b k v) (rounds m L b k u) (s.wide v v_in) e (rounds_sized w m L wide b sized k v v_in) (s.keeps v u a v_in u_in l) (λ r h. far v r v_in h) (subst (λ (q : Option Row). AtLeast (rounds m L b k v) (added (rounds m L b k u) q)) l (Settled-covers w m L wide b sized k f v u v_in u_in));
  }

  pushed_after : (d : Row) → NotEarlier m b (λ v. pushed_row (y v) d (rounds m L b k v))
  pushed_after d v v_in = pushed_over (y v) d (rounds m L b k v) (b v) (rounds_mono w m L wide b sized 0 k v v_in (omega arith))

  pub pushed_from : (d : Row) → length d ≡ w → Far m (rounds m L b k) y d → TimesFrom w m L b (λ v. pushed_row (y v) d (rounds m L b k v))
  pushed_from d e far = (pushed_times d e far, pushed_after d)
