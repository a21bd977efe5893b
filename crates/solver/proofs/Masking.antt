-- The words of a network's lags, masked, are those of its lags to the events of the mask.
use Rattle.std.proofs.Common.{◌≡◌, ℕ, ◌<◌, ◌≤◌, ◌≢◌, List, length, None, slice_index, sym, ◌∙◌, arith}
use Rattle.std.proofs.lemmas.Bool.{cond-true, eq-eqb, eqb-true}
use Rattle.std.proofs.lemmas.Nat.Bits.{bit_at-lt}
use Rattle.std.specs.Int.{bit_at}
use Rattle.schedules.specs.Plans.{Lags, lags_into}
use Rattle.schedules.proofs.Fewer.{into_there}
use Rattle.solver.specs.Words.{Masked, Stands, StandsFrom, in_word}

module _ (m : ℕ) (L : Lags) (word : ℕ) where
  stays : (v u : ℕ) → bit_at word v ≡ 1 → L v u ≢ None → lags_into (in_word word) L v u ≢ None
  stays v u b n q = n (sym (cond-true (in_word word v) (L v u) None (eq-eqb (bit_at word v) 1 b)) ∙ q)

  pub masked_stands : (words after : List ℕ) → m ≤ length words → Stands m L words → Masked words word after → Stands m (lags_into (in_word word) L) after
  masked_stands words after room stands masked u u_in v small =
      (to, λ h. from h.0 (into_there (in_word word v) (L v u) h.1))
    where
      both : Rattle.solver.specs.Words.Shared (slice_index words u) word (slice_index after u)
      both = masked u (omega (arith, room, u_in))

      to : bit_at (slice_index after u) v ≡ 1 → (v < m) × (lags_into (in_word word) L v u ≢ None)
      to b =
          let had : bit_at (slice_index words u) v ≡ 1 = omega (arith, b, both v, bit_at-lt (slice_index words u) v) in
          let set : bit_at word v ≡ 1 = omega (arith, b, both v, bit_at-lt word v) in
          let p = (stands u u_in v small).0 had in
          (p.0, stays v u set p.1)

      from : v < m → (in_word word v ≡ Rattle.std.specs.Prelude.true) × (L v u ≢ None) → bit_at (slice_index after u) v ≡ 1
      from v_in h =
          let had : bit_at (slice_index words u) v ≡ 1 = (stands u u_in v small).1 (v_in, h.1) in
          let set : bit_at word v ≡ 1 = eqb-true (bit_at word v) 1 h.0 in
          omega (arith, had, set, both v)
