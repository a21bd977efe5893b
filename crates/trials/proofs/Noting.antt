-- Words of the lags from an event, noted one by one.
use Rattle.std.proofs.Common.{◌≡◌, ℕ, zero, suc, ◌+◌, ◌<◌, ◌≢◌, true, false, List, length, length-set, is_some, replicate, slice_index, Some, None, Option, sym, ◌∙◌, ap, subst, inl, inr, refl, get_or-set_other, get_or-set_same, arith}
use Rattle.std.proofs.lemmas.Bool.{cases_eq, true≢false}
use Rattle.std.specs.Int.{bit_at}
use Rattle.std.specs.Option.{option_map}
use Rattle.rows.specs.Limits.{most_events}
use Rattle.rows.specs.Rows.{Row}
use Rattle.schedules.proofs.Optional.{some_none}
use Rattle.schedules.specs.Plans.{Lags}
use Rattle.solver.specs.Words.{Added, Noted, StandsFrom}

-- words that no lag is noted in
pub none_noted : (n u : ℕ) → slice_index (replicate n 0) u ≡ 0
none_noted zero u = refl
none_noted (suc n) zero = refl
none_noted (suc n) (suc u) = none_noted n u

-- what stands where something lies
pub stands : {A : Type 0} (amount : A → Row) (o : Option A) → is_some o ≡ true → option_map amount o ≢ None
stands amount None t = absurd (true≢false (sym t))
stands amount (Some a) t = some_none

pub stands_none : {A : Type 0} (amount : A → Row) (o : Option A) → is_some o ≡ false → option_map amount o ≡ None
stands_none amount None t = refl
stands_none amount (Some a) t = absurd (true≢false t)

-- The lags from u to the first so many events are in its word, and the others are as they first were.
pub record FromNoted (L : Lags) (u to : ℕ) (first words : List ℕ) : Type 0 where
  pub noted : StandsFrom to L u (slice_index words u)
  pub others : (e : ℕ) → e ≢ u → slice_index words e ≡ slice_index first e
  pub places : length words ≡ most_events

module _ (L : Lags) (u to : ℕ) where
  last : (v : ℕ) → v < to + 1 → v ≢ to → v < to
  last v l n = omega (arith, l, n)

  stands_more : (word after : ℕ) → StandsFrom to L u word → Added word to after → L to u ≢ None → StandsFrom (to + 1) L u after
  stands_more word after h added there v v_in = elim (cases_eq v to) [
    | inl e ↦ (λ b. (omega (arith, e), subst (λ (x : ℕ). L x u ≢ None) (sym e) there), λ p. subst (λ (x : ℕ). bit_at after x ≡ 1) (sym e) added.has)
    | inr n ↦ (λ b. let old = (h v v_in).0 (sym (added.others v n) ∙ b) in (omega (arith, old.0), old.1), λ p. added.others v n ∙ (h v v_in).1 (last v p.0 n, p.1))
  ]

  stands_same : (word : ℕ) → StandsFrom to L u word → L to u ≡ None → StandsFrom (to + 1) L u word
  stands_same word h none v v_in = elim (cases_eq v to) [
    | inl e ↦ (λ b. let old = (h v v_in).0 b in (omega (arith, old.0), old.1), λ p. absurd (p.1 (subst (λ (x : ℕ). L x u ≡ None) (sym e) none)))
    | inr n ↦ (λ b. let old = (h v v_in).0 b in (omega (arith, old.0), old.1), λ p. (h v v_in).1 (last v p.0 n, p.1))
  ]

  module _ (first words : List ℕ) (h : FromNoted L u to first words) where
    pub from_more : (after : List ℕ) → u < most_events → Noted words to u after → L to u ≢ None → FromNoted L u (to + 1) first after
    from_more after u_in n there =
        let room : u < length words = omega (arith, u_in, h.places) in
        let at : slice_index after u ≡ n.word = ap (λ (ws : List ℕ). slice_index ws u) n.put ∙ get_or-set_same words u n.word 0 room in
        record {
          noted = subst (StandsFrom (to + 1) L u) (sym at) (stands_more (slice_index words u) n.word h.noted n.added there);
          others = λ e d. ap (λ (ws : List ℕ). slice_index ws e) n.put ∙ get_or-set_other words u e n.word 0 d ∙ h.others e d;
          places = ap length n.put ∙ length-set words u n.word ∙ h.places;
        }

    pub from_same : L to u ≡ None → FromNoted L u (to + 1) first words
    from_same none = record {
      noted = stands_same (slice_index words u) h.noted none;
      others = h.others;
      places = h.places;
    }
