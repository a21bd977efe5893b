-- Totals stay inside the limits: after k rounds no part is beyond the limit of the first totals and
-- k times that of the lags.
use Rattle.std.proofs.Common.{◌≡◌, ℕ, zero, suc, ◌+◌, ◌*◌, ◌<◌, ◌≤◌, Some, None, Option, subst, mul-le-mul_right, suc-mul, zero-add, arith}
use Rattle.rows.specs.Rows.{Row, plus, Within}
use Rattle.rows.proofs.Sums.{Within-zeros, Within-plus, Within-wider}
use Rattle.schedules.specs.Plans.{Lags, Limited, Totals}
use Rattle.rows.specs.MaxPlus.{later, added}
use Rattle.schedules.specs.Rounds.{into, rounds, opening, everywhere}
use Rattle.schedules.specs.Firsts.{FirstsInside, FirstsStayInside}
use Rattle.schedules.specs.Theorems.{InsideFrom}
use Rattle.schedules.proofs.Optional.{Held, held_from, held_to, held_later, held_both, WideRow-to}
use Rattle.schedules.proofs.Rounds.{WideTotals, rounds_sized, opening_sized, everywhere_sized}
use Rattle.schedules.proofs.Joined.{folded_holds}

-- within the limit, where there is a row
abbrev pub Inside : ℕ → Option Row → Type 0
Inside b o = Held (Within b) o

pub inside_from : (b : ℕ) (o : Option Row) → ((r : Row) → o ≡ Some r → Within b r) → Inside b o
inside_from b = held_from (Within b)

pub inside_to : (b : ℕ) (o : Option Row) (r : Row) → o ≡ Some r → Inside b o → Within b r
inside_to b = held_to (Within b)

inside_wider : (a b : ℕ) (o : Option Row) → a ≤ b → Inside a o → Inside b o
inside_wider a b None le h = tt
inside_wider a b (Some r) le h = Within-wider a b r le h

inside_later : (b : ℕ) (o p : Option Row) → Inside b o → Inside b p → Inside b (later o p)
inside_later b = held_later (Within b)

inside_after : (a b : ℕ) (t l : Option Row) → Inside a t → Inside b l → Inside (a + b) (added t l)
inside_after a b = held_both (Within a) (Within b) (Within (a + b)) plus (Within-plus a b)

pub opening_inside : (w m v : ℕ) → v < m → Inside 0 (opening w v)
opening_inside w m zero h = Within-zeros 0 w
opening_inside w m (suc v) h = tt

pub everywhere_inside : (w m v : ℕ) → v < m → Inside 0 (everywhere w v)
everywhere_inside w m v h = Within-zeros 0 w

module _ (a m : ℕ) (L : Lags) (limited : Limited a m L) where
  lag_inside : (v u : ℕ) → v < m → u < m → Inside a (L v u)
  lag_inside v u v_in u_in = inside_from a (L v u) (λ l e. limited v u l v_in u_in e)

  into_inside : (c : ℕ) (S : Totals) → ((v : ℕ) → v < m → Inside c (S v)) → (v n : ℕ) → v < m → n ≤ m → Inside (c + a) (into L S v n)
  into_inside c S s v n v_in le =
      folded_holds (Inside (c + a)) (inside_later (c + a)) (S v) n (λ u. added (S u) (L v u)) (inside_wider c (c + a) (S v) (omega arith) (s v v_in)) (λ u h. inside_after c a (S u) (L v u) (s u (omega arith)) (lag_inside v u v_in (omega arith)))

  -- from first totals within c
  module _ (c : ℕ) (b : Totals) (near : (v : ℕ) → v < m → Inside c (b v)) where
    pub rounds_inside : (k v : ℕ) → v < m → Inside (c + k * a) (rounds m L b k v)
    rounds_inside zero v v_in = inside_wider c (c + 0 * a) (b v) (omega arith) (near v v_in)
    rounds_inside (suc k) v v_in =
        let more : c + k * a + a ≡ c + suc k * a = omega (arith, suc-mul k a) in
        subst (λ (i : ℕ). Inside i (rounds m L b (suc k) v)) more (into_inside (c + k * a) (rounds m L b k) (rounds_inside k) v m v_in (omega arith))

    -- with room for n lags: what a fold has on the way, and each sum
    module _ (n limit k : ℕ) (k_in : k < n) (room : c + n * a ≤ limit) where
      one_more : c + k * a + a ≤ limit
      one_more =
          let p : suc k * a ≤ n * a = mul-le-mul_right a k_in in
          let q : suc k * a ≡ k * a + a = suc-mul k a in
          omega arith

      pub folds_inside : (v i : ℕ) (r : Row) → v < m → i ≤ m → into L (rounds m L b k) v i ≡ Some r → Within limit r
      folds_inside v i r v_in i_in e =
          inside_to limit (into L (rounds m L b k) v i) r e (inside_wider (c + k * a + a) limit (into L (rounds m L b k) v i) one_more (into_inside (c + k * a) (rounds m L b k) (rounds_inside k) v i v_in i_in))

      pub sums_inside : (v u : ℕ) (t l : Row) → v < m → u < m → rounds m L b k u ≡ Some t → L v u ≡ Some l → Within limit (plus t l)
      sums_inside v u t l v_in u_in d e =
          Within-wider (c + k * a + a) limit (plus t l) one_more (Within-plus (c + k * a) a t l (inside_to (c + k * a) (rounds m L b k u) t d (rounds_inside k u u_in)) (limited v u l v_in u_in e))

pub firsts_inside : FirstsStayInside
firsts_inside a c m L b limited near = record {
  totals = λ k v r v_in e. inside_to (c + k * a) (rounds m L b k v) r e (rounds_inside a m L limited c b within k v v_in);
  sums = sums_inside a m L limited c b within;
  folds = folds_inside a m L limited c b within;
}
  where
    within : (v : ℕ) → v < m → Inside c (b v)
    within v v_in = inside_from c (b v) (λ r e. near v v r v_in v_in e)

-- from any start at zero
stays_inside : (start : ℕ → Totals) → ((w m v : ℕ) → v < m → Inside 0 (start w v)) → ((w m : ℕ) → WideTotals w m (start w)) → InsideFrom start
stays_inside start at_zero sized = record {
  totals = λ w a m L limited k v r v_in e. subst (λ (i : ℕ). Within i r) (zero-add (k * a)) ((inside w a m L limited).totals k v r v_in e);
  sums = λ w a m L limited limit k le room. (inside w a m L limited).sums (m + 1) limit k (omega arith) (omega arith);
  folds = λ w a m L limited limit k le room. (inside w a m L limited).folds (m + 1) limit k (omega arith) (omega arith);
  wide = λ w m L wide k v u r v_in u_in e. WideRow-to w (rounds m L (start w) k v) r e (rounds_sized w m L wide (start w) (sized w m) k v v_in);
}
  where
    inside : (w a m : ℕ) (L : Lags) → Limited a m L → FirstsInside a 0 m L (start w)
    inside w a m L limited = firsts_inside a 0 m L (start w) limited (λ v u r v_in u_in e. inside_to 0 (start w v) r e (at_zero w m v v_in))

pub opening_stays_inside : InsideFrom opening
opening_stays_inside = stays_inside opening opening_inside opening_sized

pub everywhere_stays_inside : InsideFrom everywhere
everywhere_stays_inside = stays_inside everywhere everywhere_inside everywhere_sized
