-- The lags among the events that no chain from the opening reaches, and the loops that they close.
use Rattle.std.proofs.Common.{◌≡◌, ℕ, true, [], ◌∷◌, refl, length, slice_index, ◌<◌, ◌≤◌, ◌≢◌, ◌⊎◌, List, Some, None, sym, ap, ◌∙◌, subst, inl, inr, arith}
use Rattle.std.proofs.lemmas.Bool.{cases_eq, eq-eqb, eqb-true}
use Rattle.std.proofs.lemmas.Nat.Bits.{bit_at-zero}
use Rattle.std.specs.Int.{bit_at}
use Rattle.rows.specs.Rows.{Row, zeros}
use Rattle.rows.proofs.Options.{none_or_some}
use Rattle.schedules.specs.Answers.{LeastTimes}
use Rattle.schedules.specs.Plans.{Chain, Lags, Loop, LoopFree, Reaches, Totals, Schedulable, lags_into}
use Rattle.schedules.specs.Firsts.{ReachedFrom}
use Rattle.schedules.specs.Rounds.{rounds, opening, Settled}
use Rattle.schedules.proofs.Chains.{chain_from}
use Rattle.schedules.proofs.Covered.{loop_free_schedulable, settled_loop_free, settled_unknown}
use Rattle.schedules.proofs.Fewer.{into_end, into_limited, into_loop, into_wide}
use Rattle.schedules.proofs.Reached.{from_reached}
use Rattle.schedules.proofs.Rounds.{WideTotals, opening_sized}
use Rattle.solver.specs.Networks.{Net}
use Rattle.solver.specs.Settled.{SettledAt}
use Rattle.solver.specs.Words.{Added, Among, ChainsFrom, EventIn, FirstEvents, FromRoots, NoneStand, RootsOf, Stands, Without, in_word}
use Rattle.solver.proofs.Bits.{set_or_not}
use Rattle.solver.proofs.Opening.{settled_least}
use Rattle.solver.proofs.Reaching.{known_from_opening}
use Rattle.solver.proofs.Rooting.{reaches_on}

-- where no word has an event no lag stands
pub none_stand : (w m : ℕ) → m ≤ 63 → (L : Lags) (words : List ℕ) → m ≤ length words → Stands m L words → NoneStand words → LoopFree w m L
none_stand w m few L words long stands none [] l = l
none_stand w m few L words long stands none (e ∷ es) l = go es l.2.1.0
  where
    led : (t : ℕ) (a : Row) → e < m → t < m → L t e ≡ Some a → ⊥
    led t a e_in t_in q =
        let b : bit_at (slice_index words e) t ≡ 1 = (stands e e_in t (omega arith)).1 (t_in, λ n. none_or_some a (sym n ∙ q)) in
        absurd (omega (arith, b, ap (λ (x : ℕ). bit_at x t) (none e (omega arith)), bit_at-zero t))

    go : (es : List ℕ) → Chain m L e es e l.2.0 → ⊥
    go [] c = led e l.2.0 c.0 c.1 c.2
    go (t ∷ fs) c = led t c.0 c.2 (chain_from m L fs t e c.1 c.4) c.3

-- the lags to the events of a word

module _ (w m : ℕ) (L : Lags) (net : Net w m L) (rest : ℕ) where
  pub into_net : Net w m (lags_into (in_word rest) L)
  into_net = record {
    some = net.some;
    few = net.few;
    wide = into_wide (in_word rest) L w m net.wide;
    limit = net.limit;
    limited = into_limited (in_word rest) L net.limit m net.limited;
    room = net.room;
  }

  -- a loop of them begins in the word
  loop_begins : (e : ℕ) (es : List ℕ) → Loop w m (lags_into (in_word rest) L) (e ∷ es) → (e < m) × (bit_at rest e ≡ 1)
  loop_begins e es l =
      (chain_from m (lags_into (in_word rest) L) es e e l.2.0 l.2.1.0, eqb-true (bit_at rest e) 1 (into_end (in_word rest) L m es e e l.2.0 l.2.1.0))

  -- rounds settled from its roots know all its events
  pub roots_loop_free : Among m rest → (roots : ℕ) → RootsOf m (lags_into (in_word rest) L) rest roots → (b : Totals) → WideTotals w m b → ((v : ℕ) → v < m → bit_at roots v ≡ 1 → b v ≡ Some (zeros w)) → (k : ℕ) → Settled m (lags_into (in_word rest) L) b k → LoopFree w m (lags_into (in_word rest) L)
  roots_loop_free rest_in roots of b sized at_zero k f =
      settled_loop_free w m (lags_into (in_word rest) L) into_net.wide b sized k f (λ e es l. known e (loop_begins e es l))
    where
      first : (r : ℕ) → EventIn roots r → b r ≢ None
      first r i q = none_or_some (zeros w) (sym q ∙ at_zero r (rest_in r i.0 (of.inside r i.0 i.1)) i.1)

      reached : (v : ℕ) → FromRoots m (lags_into (in_word rest) L) roots v → ReachedFrom m (lags_into (in_word rest) L) b v
      reached v (r, i, inl q) = inl (subst (λ (j : ℕ). b j ≢ None) (sym q) (first r i))
      reached v (r, i, inr c) = inr (r, first r i, c)

      known : (e : ℕ) → (e < m) × (bit_at rest e ≡ 1) → rounds m (lags_into (in_word rest) L) b k e ≢ None
      known e h =
          from_reached w m (lags_into (in_word rest) L) into_net.wide b sized k f e h.0 (reached e (of.reached e (omega (arith, h.0, net.few)) h.1))

-- where no loop is among the events that no chain from the opening reaches, rounds settled from
-- it show that there is none
module _ (w m : ℕ) (L : Lags) (net : Net w m L) (some : 1 ≤ w) (found word all rest : ℕ) (chains : ChainsFrom m L 0 found) (with : Added found 0 word) (firsts : FirstEvents m all) (others : Without all word rest) (none : LoopFree w m (lags_into (in_word rest) L)) (S : Totals) (k : ℕ) (h : SettledAt m L (opening w) S k) where
  -- what is in the word is reached, and what is not is in the rest
  in_word_reached : (v : ℕ) → v < m → bit_at word v ≡ 1 → (v ≡ 0) ⊎ Reaches m L 0 v
  in_word_reached v v_in b = go (cases_eq v 0)
    where
      go : (v ≡ 0) ⊎ (v ≡ 0 → ⊥) → (v ≡ 0) ⊎ Reaches m L 0 v
      go (inl q) = inl q
      go (inr d) = inr ((chains v (omega (arith, v_in, net.few))).0 (sym (with.others v d) ∙ b))

  reached_in_word : (v : ℕ) → v < m → Reaches m L 0 v → bit_at word v ≡ 1
  reached_in_word v v_in c = go (cases_eq v 0)
    where
      go : (v ≡ 0) ⊎ (v ≡ 0 → ⊥) → bit_at word v ≡ 1
      go (inl q) = ap (bit_at word) q ∙ with.has
      go (inr d) = with.others v d ∙ (chains v (omega (arith, v_in, net.few))).1 c

  in_rest : (v : ℕ) → v < m → bit_at word v ≡ 0 → in_word rest v ≡ true
  in_rest v v_in b = eq-eqb (bit_at rest v) 1 ((others v (omega (arith, v_in, net.few))).1 (firsts.all v v_in, b))

  lag_reaches : (v u : ℕ) (a : Row) → v < m → u < m → L v u ≡ Some a → (u ≡ 0) ⊎ Reaches m L 0 u → Reaches m L 0 v
  lag_reaches v u a v_in u_in e (inl q) = subst (λ (i : ℕ). Reaches m L i v) q ([], a, (u_in, v_in, e))
  lag_reaches v u a v_in u_in e (inr c) = reaches_on m L 0 u v c ([], a, (u_in, v_in, e))

  -- no lag leads into the rest from a reached event
  closed : (v u : ℕ) (a : Row) → v < m → u < m → L v u ≡ Some a → in_word rest v ≡ true → in_word rest u ≡ true
  closed v u a v_in u_in e b = go (set_or_not word u)
    where
      go : (bit_at word u ≡ 0) ⊎ (bit_at word u ≡ 1) → in_word rest u ≡ true
      go (inl c) = in_rest u u_in c
      go (inr c) =
          let unset : bit_at word v ≡ 0 = ((others v (omega (arith, v_in, net.few))).0 (eqb-true (bit_at rest v) 1 b)).1 in
          let set : bit_at word v ≡ 1 = reached_in_word v v_in (lag_reaches v u a v_in u_in e (in_word_reached u u_in c)) in
          absurd (omega (arith, set, unset))

  loop_free : LoopFree w m L
  loop_free [] l = l
  loop_free (e ∷ es) l = go (set_or_not word e)
    where
      e_in : e < m
      e_in = chain_from m L es e e l.2.0 l.2.1.0

      go : (bit_at word e ≡ 0) ⊎ (bit_at word e ≡ 1) → ⊥
      go (inl b) = none (e ∷ es) (into_loop (in_word rest) L m closed w e es l (in_rest e e_in b))
      go (inr b) =
          settled_unknown w m L net.wide (opening w) (opening_sized w m) k h.settled (e ∷ es) e l (inl refl) ((known_from_opening w m L net.wide k h.settled e e_in).1 (in_word_reached e e_in b))

  rest_schedulable : Schedulable w m L
  rest_schedulable = loop_free_schedulable w m L net.wide net.some loop_free

  pub rest_least : Schedulable w m L × LeastTimes w m L S
  rest_least = (rest_schedulable, settled_least w m L net some rest_schedulable S k h)
