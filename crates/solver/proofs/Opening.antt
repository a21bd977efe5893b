-- Rounds from the opening alone, and from the events of a word at zero.
use Rattle.std.proofs.Common.{◌≡◌, ℕ, zero, suc, ◌<◌, ◌≤◌, ◌⊎◌, List, length, set, slice_index, slice_index_or, Some, None, Option, Ok, Err, Result, sym, ap, ◌∙◌, subst, inl, inr, arith}
use Rattle.std.proofs.lemmas.Bool.{cases_eq}
use Rattle.std.proofs.lemmas.Nat.Bits.{bit_at-zero}
use Rattle.std.specs.Int.{bit_at}
use Rattle.std.specs.Option.{option_map}
use Rattle.std.specs.Result.{result_err}
use Rattle.rows.specs.Limits.{given_limit}
use Rattle.rows.specs.MaxPlus.{added}
use Rattle.rows.specs.Rows.{Row, zeros, Within}
use Rattle.rows.proofs.Limits.{given_few_fit}
use Rattle.rows.proofs.Options.{none_or_some, same_some}
use Rattle.rows.proofs.Sums.{Within-zeros}
use Rattle.marks.specs.declared.kind.Mark.{Ghosts as KindOf}
use Rattle.schedules.specs.Answers.{LeastTime, LeastTimes, Shown}
use Rattle.schedules.specs.Plans.{AtLeast, Lags, LoopFree, Totals, Schedulable, lags_into}
use Rattle.schedules.specs.Rounds.{rounds, opening, Settled}
use Rattle.schedules.specs.Tables.{times}
use Rattle.schedules.proofs.Earliest.{settled_earliest, settled_free}
use Rattle.schedules.proofs.Rounds.{into_same}
use Rattle.solver.specs.declared.network.Network.{Ghosts as NetworkOf}
use Rattle.solver.specs.Networks.{Net}
use Rattle.solver.specs.Raising.{Idle}
use Rattle.solver.specs.Settled.{GivenLeaveRoom, LeavesRoomFor, SettledAt}
use Rattle.solver.specs.Solving.{AreLeast, HasSchedule, LeastOrLoop, EndsIn, OpeningEnds, RestEnds, RoundsEnd}
use Rattle.solver.specs.Words.{Added, Among, in_word}
use Rattle.solver.proofs.Cells.{times_set_same, times_set_other}
use Rattle.solver.proofs.Going.{Alike}
use Rattle.solver.proofs.Bits.{set_or_not}

-- totals alike go alike

module _ (m : ℕ) (L : Lags) (S R : Totals) (same : Alike m S R) where
  pub rounds_alike : (k : ℕ) → Alike m (rounds m L S k) (rounds m L R k)
  rounds_alike zero v v_in = same v v_in
  rounds_alike (suc k) v v_in = into_same m L (rounds m L S k) (rounds m L R k) (rounds_alike k) v m v_in (omega arith)

  pub settled_alike : (k : ℕ) → Settled m L S k → Settled m L R k
  settled_alike k f v v_in = sym (rounds_alike (suc k) v v_in) ∙ f v v_in ∙ rounds_alike k v v_in

-- first totals at zero leave room
pub leaves_zero : (w m : ℕ) (L : Lags) → Net w m L → (b : Totals) → ((v : ℕ) (r : Row) → v < m → b v ≡ Some r → r ≡ zeros w) → LeavesRoomFor m L b
leaves_zero w m L net b at_zero = record {
  limit = net.limit;
  limited = net.limited;
  leaves = record {
    bound = 0;
    within = λ v u r v_in u_in e. subst (Within 0) (sym (at_zero v r v_in e)) (Within-zeros 0 w);
    room = omega (arith, net.room);
  };
}

-- and so do given totals
pub leaves_given : GivenLeaveRoom
leaves_given m b few given = record { bound = given_limit; within = given; room = omega (arith, given_few_fit m few) }

opening_zero : (w v : ℕ) (r : Row) → opening w v ≡ Some r → r ≡ zeros w
opening_zero w zero r e = same_some r (zeros w) (sym e)
opening_zero w (suc v) r e = absurd (none_or_some r e)

pub leaves_opening : (w m : ℕ) (L : Lags) → Net w m L → (b : Totals) → Alike m b (opening w) → LeavesRoomFor m L b
leaves_opening w m L net b same = leaves_zero w m L net b (λ v r v_in e. opening_zero w v r (sym (same v v_in) ∙ e))

-- the row of the opening alone
pub opening_row : {T : Type 0} (row : T → Row) (w m : ℕ) (xs : List (Option T)) (z : T) → row z ≡ zeros w → 0 < length xs → ((v : ℕ) → v < m → slice_index_or xs v None ≡ None) → Alike m (times row (set xs 0 (Some z))) (opening w)
opening_row row w m xs z at_zero room none zero v_in = times_set_same row xs 0 (Some z) room ∙ ap Some at_zero
opening_row row w m xs z at_zero room none (suc v) v_in = times_set_other row xs 0 (Some z) (suc v) (λ e. absurd (omega arith)) ∙ ap (option_map row) (none (suc v) v_in)

-- an event that has no total asks nothing
pub idle_unknown : (m : ℕ) (L : Lags) (b : Totals) (word : ℕ) → ((u : ℕ) → u < m → bit_at word u ≡ 0 → b u ≡ None) → Idle m L b word
idle_unknown m L b word none v u v_in u_in e =
    subst (λ (o : Option Row). AtLeast (b v) (added o (L v u))) (sym (none u u_in e)) tt

-- the word of one event alone

module _ (m event : ℕ) (inside : event < m) (word : ℕ) (one : Added 0 event word) where
  pub alone_among : Among m word
  alone_among e small set = go (cases_eq e event)
    where
      go : (e ≡ event) ⊎ (e ≡ event → ⊥) → e < m
      go (inl q) = omega arith
      go (inr d) = absurd (omega (arith, one.others e d, bit_at-zero e))

  pub alone_other : (u : ℕ) → bit_at word u ≡ 0 → u ≡ event → ⊥
  alone_other u e q = let set : bit_at word u ≡ 1 = ap (bit_at word) q ∙ one.has in omega arith

-- what is shown by rounds that ended, settled or at a loop
pub rounds_end : (w m : ℕ) (L : Lags) (b S : Totals) (came : ℕ → ℕ) (row after : List ℕ) (Q : Option ℕ → Type 0) → ((k : ℕ) → SettledAt m L b S k → after ≡ row → Q None) → ((len : ℕ) → Shown w m L row after len → Q (Some len)) → (r : Result ℕ ℕ) (o : Option ℕ) → o ≡ result_err r → EndsIn w m L b S came row after r → Q o
rounds_end w m L b S came row after Q settled shown (Ok k) o e h = subst Q (sym e) (settled k h.0.at h.1)
rounds_end w m L b S came row after Q settled shown (Err len) o e h = subst Q (sym e) (shown len h)

module _ {S T A : Type 0} (network : NetworkOf S T A) (kind : KindOf T A) (net : S) where
  pub opening_ends : (first totals : List (Option T)) (came row after : List ℕ) (r : Result ℕ ℕ) (o : Option ℕ) → o ≡ result_err r → Alike (network.size net) (times kind.row first) (opening kind.WIDTH) → RoundsEnd network kind net first totals came row after r → OpeningEnds network kind net totals row after o
  opening_ends first totals came row after r o e same h =
      rounds_end kind.WIDTH (network.size net) (network.weight net) (times kind.row first) (times kind.row totals) (slice_index came) row after (OpeningEnds network kind net totals row after) (λ k at kept. ((k, settled_from_opening k at), kept)) (λ len shown. shown) r o e h
    where
      settled_from_opening : (k : ℕ) → SettledAt (network.size net) (network.weight net) (times kind.row first) (times kind.row totals) k → SettledAt (network.size net) (network.weight net) (opening kind.WIDTH) (times kind.row totals) k
      settled_from_opening k at = record {
        totals = λ v v_in. at.totals v v_in ∙ rounds_alike (network.size net) (network.weight net) (times kind.row first) (opening kind.WIDTH) same k v v_in;
        settled = settled_alike (network.size net) (network.weight net) (times kind.row first) (opening kind.WIDTH) same k at.settled;
      }

  -- the events of a word at zero

  module _ (z : T) (at_zero : kind.row z ≡ zeros kind.WIDTH) (word : ℕ) (xs : List (Option T)) (inside : (v : ℕ) → v < network.size net → bit_at word v ≡ 1 → slice_index_or xs v None ≡ Some z) (outside : (v : ℕ) → v < network.size net → bit_at word v ≡ 0 → slice_index_or xs v None ≡ None) where
    pub word_unknown : (v : ℕ) → v < network.size net → bit_at word v ≡ 0 → times kind.row xs v ≡ None
    word_unknown v v_in b = ap (option_map kind.row) (outside v v_in b)

    pub word_at_zero : (v : ℕ) → v < network.size net → bit_at word v ≡ 1 → times kind.row xs v ≡ Some (zeros kind.WIDTH)
    word_at_zero v v_in b = ap (option_map kind.row) (inside v v_in b) ∙ ap Some at_zero

    pub word_leaves : (L : Lags) → Net kind.WIDTH (network.size net) L → LeavesRoomFor (network.size net) L (times kind.row xs)
    word_leaves L has = leaves_zero kind.WIDTH (network.size net) L has (times kind.row xs) (λ v r v_in e. go v r v_in e (set_or_not word v))
      where
        go : (v : ℕ) (r : Row) → v < network.size net → times kind.row xs v ≡ Some r → (bit_at word v ≡ 0) ⊎ (bit_at word v ≡ 1) → r ≡ zeros kind.WIDTH
        go v r v_in e (inl b) = absurd (none_or_some r (sym (word_unknown v v_in b) ∙ e))
        go v r v_in e (inr b) = same_some r (zeros kind.WIDTH) (sym e ∙ word_at_zero v v_in b)

    pub word_idle : Idle (network.size net) (network.weight net) (times kind.row xs) word
    word_idle = idle_unknown (network.size net) (network.weight net) (times kind.row xs) word word_unknown

  pub rest_none : (word : ℕ) (row after : List ℕ) (o : Option ℕ) → o ≡ None → RestEnds network kind net word row after o → LoopFree kind.WIDTH (network.size net) (lags_into (in_word word) (network.weight net)) × (after ≡ row)
  rest_none word row after None e h = h
  rest_none word row after (Some len) e h = absurd (cc)

  pub least_ends : (totals : List (Option T)) (row after : List ℕ) (o : Option ℕ) → ((k : ℕ) → SettledAt (network.size net) (network.weight net) (opening kind.WIDTH) (times kind.row totals) k → HasSchedule network kind net × AreLeast network kind net totals) → OpeningEnds network kind net totals row after o → LeastOrLoop network kind net totals row after o
  least_ends totals row after None least h =
      let both = least h.0.0 h.0.1 in
      (both.0, both.1, h.1)
  least_ends totals row after (Some len) least h = h

-- settled totals are the least times

module _ (w m : ℕ) (L : Lags) (net : Net w m L) (some : 1 ≤ w) where
  settled_time : Schedulable w m L → (k : ℕ) → Settled m L (opening w) k → (e : ℕ) → e < m → (o : Option Row) → rounds m L (opening w) k e ≡ o → LeastTime w m L e o
  settled_time plan k f e e_in None q = settled_free w m L net.wide net.some k f some plan e e_in q
  settled_time plan k f e e_in (Some r) q = settled_earliest w m L net.wide net.some k f plan e r e_in q

  pub settled_least : Schedulable w m L → (S : Totals) (k : ℕ) → SettledAt m L (opening w) S k → LeastTimes w m L S
  settled_least plan S k h e e_in = settled_time plan k h.settled e e_in (S e) (sym (h.totals e e_in))
