-- The events that have a total, settled totals as least times, and times repaired.
use Rattle.std.proofs.Common.{◌≡◌, ℕ, ◌+◌, ◌<◌, ◌≤◌, ◌≢◌, ◌⊎◌, ◌↔◌, IsTrue, Bool, true, false, not, List, length, slice_index, slice_index_or, Some, None, Option, Ok, Err, Result, refl, sym, ap, ◌∙◌, subst, subst₂, inl, inr, arith}
use Rattle.std.specs.Int.{bit_at}
use Rattle.std.specs.Option.{option_map}
use Rattle.std.specs.Result.{OnOk, result_err}
use Rattle.std.proofs.lemmas.Bool.{cases_eq, true≢false}
use Rattle.std.proofs.lemmas.Nat.Bits.{bit_at-zero}
use Rattle.rows.specs.MaxPlus.{added}
use Rattle.rows.specs.Rows.{Row, plus, NotBefore}
use Rattle.marks.specs.declared.kind.Mark.{Ghosts as KindOf}
use Rattle.schedules.specs.Plans.{AllKnown, AtLeast, KeepsLags, Lags, Totals, Wide}
use Rattle.schedules.specs.Rounds.{rounds, Settled, total_of}
use Rattle.schedules.specs.Tables.{times}
use Rattle.schedules.proofs.Chains.{Covers}
use Rattle.schedules.proofs.Least.{settled_least_alike}
use Rattle.schedules.proofs.Optional.{below_not_at_least}
use Rattle.schedules.proofs.Rounds.{WideTotals, rounds_known}
use Rattle.schedules.proofs.Settled.{known_times}
use Rattle.solver.specs.declared.network.Network.{Ghosts as NetworkOf}
use Rattle.solver.specs.Networks.{Net}
use Rattle.solver.specs.Raising.{beats, Idle}
use Rattle.solver.specs.Repairing.{KeepsOthers, Repaired}
use Rattle.solver.specs.Solving.{EachKnown, LeastWhereKept, RepairEnds, RoundsEnd}
use Rattle.solver.specs.Words.{Added, Among, KnownEvents}
use Rattle.solver.proofs.Opening.{alone_other, rounds_end}
use Rattle.solver.proofs.Raising.{beats_below, raised_all, raising_none, unbeaten_at_least}

-- the word of the first events that have a total

module _ {T : Type 0} (xs : List (Option T)) where
  pub known_none : KnownEvents 0 xs 0
  known_none v small = (λ b. absurd (omega (arith, b, bit_at-zero v)), λ h. absurd (omega (arith, h.0)))

  module _ (n word : ℕ) (h : KnownEvents n xs word) where
    -- an event without a total
    pub known_past : slice_index_or xs n None ≡ None → KnownEvents (n + 1) xs word
    known_past none v small = (λ b. (omega (arith, ((h v small).0 b).0), ((h v small).0 b).1), λ k. (h v small).1 (below k (cases_eq v n), k.1))
      where
        below : (v < n + 1) × (slice_index_or xs v None ≢ None) → (v ≡ n) ⊎ (v ≡ n → ⊥) → v < n
        below k (inl e) = absurd (k.1 (ap (λ (i : ℕ). slice_index_or xs i None) e ∙ none))
        below k (inr d) = omega (arith, k.0, d)

    -- an event with one
    pub known_more : (after : ℕ) → slice_index_or xs n None ≢ None → Added word n after → KnownEvents (n + 1) xs after
    known_more after some one v small = (λ b. to b (cases_eq v n), λ k. from k (cases_eq v n))
      where
        to : bit_at after v ≡ 1 → (v ≡ n) ⊎ (v ≡ n → ⊥) → (v < n + 1) × (slice_index_or xs v None ≢ None)
        to b (inl e) = (omega (arith, e), λ q. some (ap (λ (i : ℕ). slice_index_or xs i None) (sym e) ∙ q))
        to b (inr d) =
            let k = (h v small).0 (sym (one.others v d) ∙ b) in
            (omega (arith, k.0), k.1)

        from : (v < n + 1) × (slice_index_or xs v None ≢ None) → (v ≡ n) ⊎ (v ≡ n → ⊥) → bit_at after v ≡ 1
        from k (inl e) = ap (bit_at after) e ∙ one.has
        from k (inr d) = one.others v d ∙ (h v small).1 (omega (arith, k.0, d), k.1)

    pub known_among : Among n word
    known_among v small b = ((h v small).0 b).0

    -- an event outside the word has none
    pub unknown_outside : n ≤ 64 → (row : T → Row) (v : ℕ) → v < n → bit_at word v ≡ 0 → times row xs v ≡ None
    unknown_outside few row v v_in b = go (slice_index_or xs v None) refl
      where
        go : (o : Option T) → slice_index_or xs v None ≡ o → option_map row (slice_index_or xs v None) ≡ None
        go None e = ap (option_map row) e
        go (Some t) e = absurd (let set : bit_at word v ≡ 1 = (h v (omega arith)).1 (v_in, λ q. cc) in omega arith)

-- a total is at least what is asked exactly where that does not beat it
pub unbeaten_keeps : (p q : Option Row) (z : Row) (d : Bool) → q ≡ Some z → d ≡ beats z p → IsTrue (not d) ↔ AtLeast p q
unbeaten_keeps p q z false a e = (λ h. subst (AtLeast p) (sym a) (unbeaten_at_least z p (sym e)), λ k. refl)
unbeaten_keeps p q z true a e = (λ h. absurd (true≢false (sym h)), λ k. absurd (below_not_at_least p (Some z) (beats_below z p (sym e)) (subst (AtLeast p) a k)))

-- totals that are known cover a lag that their times keep
covers_known : (w : ℕ) (p o l : Option Row) → p ≢ None → ((a : Row) → l ≡ Some a → NotBefore (total_of w p) (plus (total_of w o) a)) → AtLeast p (added o l)
covers_known w p None l n k = tt
covers_known w p (Some x) None n k = tt
covers_known w None (Some x) (Some a) n k = absurd (n refl)
covers_known w (Some y) (Some x) (Some a) n k = k a refl

module _ (w m : ℕ) (L : Lags) (S : Totals) (known : AllKnown m S) (to from : ℕ) (others : KeepsOthers m L (λ v. total_of w (S v)) to from) where
  covers_other : (v u : ℕ) → v < m → u < m → (v ≡ to → u ≡ from → ⊥) → AtLeast (S v) (added (S u) (L v u))
  covers_other v u v_in u_in d = covers_known w (S v) (S u) (L v u) (known v v_in) (λ a e. others v u a v_in u_in d e)

  pub covers_unless_from : (v u : ℕ) → v < m → u < m → u ≢ from → AtLeast (S v) (added (S u) (L v u))
  covers_unless_from v u v_in u_in d = covers_other v u v_in u_in (λ p q. d q)

  pub covers_all : AtLeast (S to) (added (S from) (L to from)) → Covers m L S
  covers_all here v u v_in u_in = go (cases_eq v to) (cases_eq u from)
    where
      go : (v ≡ to) ⊎ (v ≡ to → ⊥) → (u ≡ from) ⊎ (u ≡ from → ⊥) → AtLeast (S v) (added (S u) (L v u))
      go (inr d) q = covers_other v u v_in u_in (λ p r. d p)
      go (inl p) (inr d) = covers_unless_from v u v_in u_in d
      go (inl p) (inl q) = rw (p, q) here

-- a word of one event, from which alone the lags are not kept
pub idle_unless_from : (m : ℕ) (L : Lags) (S : Totals) (from word : ℕ) → from < m → Added 0 from word → ((v u : ℕ) → v < m → u < m → u ≢ from → AtLeast (S v) (added (S u) (L v u))) → Idle m L S word
idle_unless_from m L S from word inside one keeps v u v_in u_in b = keeps v u v_in u_in (alone_other m from inside word one u b)

keeps_alike : (w m : ℕ) (L : Lags) (x y : ℕ → Row) → ((v : ℕ) → v < m → y v ≡ x v) → KeepsLags w m L x → KeepsLags w m L y
keeps_alike w m L x y same s = record {
  wide = λ v v_in. ap length (same v v_in) ∙ s.wide v v_in;
  keeps = λ v u a v_in u_in e. subst₂ (λ (p q : Row). NotBefore p (plus q a)) (sym (same v v_in)) (sym (same u u_in)) (s.keeps v u a v_in u_in e);
}

module _ (w m : ℕ) (few : m ≤ 63) (L : Lags) (wide : Wide w m L) (b : Totals) (sized : WideTotals w m b) where
  -- of totals that cover every lag no event asks, and a round changes nothing
  covered_settled : Covers m L b → Settled m L b 0
  covered_settled covers v v_in =
      let round_done = raised_all w m few L wide b sized b (λ u. 0) 0 0 refl sized (raising_none m L b b (λ u. 0) 0 (λ e small set. absurd (omega (arith, set, bit_at-zero e))) (λ v u v_in u_in e. covers v u v_in u_in) (λ v v_in. refl)) in
      sym (round_done.totals v v_in)

  module _ (k : ℕ) (settled : Settled m L b k) (S : Totals) (same : (v : ℕ) → v < m → S v ≡ rounds m L b k v) where
    -- rounds that settled, from totals of which none is missing
    settled_repaired : AllKnown m b → Repaired w m L b S
    settled_repaired all = record {
      known = λ v v_in q. there v v_in (sym (same v v_in) ∙ q);
      keeps = keeps_alike w m L (λ v. total_of w (rounds m L b k v)) (λ v. total_of w (S v)) (λ v v_in. ap (total_of w) (same v v_in)) keeping;
      least = settled_least_alike w m L wide b sized k settled (λ v. total_of w (rounds m L b k v)) keeping S same;
    }
      where
        there : AllKnown m (rounds m L b k)
        there v v_in = rounds_known w m L wide b sized k v v_in (all v v_in)

        keeping : KeepsLags w m L (λ v. total_of w (rounds m L b k v))
        keeping = known_times w m L wide b sized k settled there

  -- totals that cover every lag
  pub covered_repaired : AllKnown m b → Covers m L b → Repaired w m L b b
  covered_repaired all covers = settled_repaired 0 (covered_settled covers) b (λ v v_in. refl) all

module _ {S T A : Type 0} (network : NetworkOf S T A) (kind : KindOf T A) (net : S) (has : Net kind.WIDTH (network.size net) (network.weight net)) (first totals : List (Option T)) (sized : WideTotals kind.WIDTH (network.size net) (times kind.row first)) (came row after : List ℕ) where
  pub ended_least : (r : Result ℕ ℕ) → RoundsEnd network kind net first totals came row after r → OnOk r (LeastWhereKept network kind net first totals)
  ended_least (Ok k) h = λ x s. settled_least_alike kind.WIDTH (network.size net) (network.weight net) has.wide (times kind.row first) sized k h.0.at.settled x s (times kind.row totals) h.0.at.totals
  ended_least (Err len) h = tt

  pub ended_repair : EachKnown network kind net first → (r : Result ℕ ℕ) (o : Option ℕ) → o ≡ result_err r → RoundsEnd network kind net first totals came row after r → RepairEnds network kind net first totals row after o
  ended_repair all r o e h =
      rounds_end kind.WIDTH (network.size net) (network.weight net) (times kind.row first) (times kind.row totals) (slice_index came) row after (RepairEnds network kind net first totals row after) (λ k at kept. (settled_repaired kind.WIDTH (network.size net) has.few (network.weight net) has.wide (times kind.row first) sized k at.settled (times kind.row totals) at.totals all, kept)) (λ len shown. shown) r o e h
