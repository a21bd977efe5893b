-- The words of a plan with those of the lags of a flow, in both directions.
use Rattle.std.proofs.Common.{◌≡◌, ℕ, ◌+◌, ◌*◌, ◌/◌, ◌<◌, ◌≤◌, ◌≢◌, ◌⊎◌, ◌↔◌, Bool, true, false, cond, List, length, slice_index, Some, None, Option, refl, sym, ap, ◌∙◌, subst, inl, inr, arith, length-set, get_or-set_other, get_or-set_same}
use Rattle.std.specs.Int.{bit_at}
use Rattle.std.proofs.lemmas.Bool.{cases_eq, cases_lt}
use Rattle.rows.specs.Limits.{most_events}
use Rattle.rows.specs.MaxPlus.{later, later_of}
use Rattle.rows.specs.Rows.{Row, negated}
use Rattle.rows.proofs.Options.{none_or_some}
use Rattle.schedules.specs.Flows.{back_over_stage, flow_lags, with_flow}
use Rattle.schedules.specs.Minutes.{minutes}
use Rattle.schedules.specs.Plans.{Lags, reversed}
use Rattle.schedules.specs.Tables.{start, finish, events}
use Rattle.schedules.proofs.Flows.{added_own, own_events, stage_own}
use Rattle.solver.specs.Words.{Noted, Stands}
use Rattle.plan.specs.FlowSteps.{AtStage, StagesNoted}

-- no stage yet
pub none_noted : (to from : ℕ) (words : List ℕ) → StagesNoted 0 to from words words
none_noted to from words v u few = (inl, back)
  where
    back : (bit_at (slice_index words u) v ≡ 1) ⊎ AtStage 0 to from v u → bit_at (slice_index words u) v ≡ 1
    back (inl b) = b
    back (inr t) = absurd (omega (arith, t.1))

-- one stage more
module _ (to from k : ℕ) (words before after : List ℕ) (noted : Noted before (to + 2 * k) (from + 2 * k) after) (long : from + 2 * k < length after) (h : StagesNoted k to from words before) where
  abbrev Told : (n v u : ℕ) → Type 0
  Told n v u = (bit_at (slice_index words u) v ≡ 1) ⊎ AtStage n to from v u

  widened : (v u : ℕ) → Told k v u → Told (k + 1) v u
  widened v u (inl b) = inl b
  widened v u (inr t) = inr (t.0, omega (arith, t.1), t.2, t.3)

  narrowed : (v u : ℕ) → (v ≡ to + 2 * k → u ≡ from + 2 * k → ⊥) → Told (k + 1) v u → Told k v u
  narrowed v u apart (inl b) = inl b
  narrowed v u apart (inr t) = go (cases_lt t.0 k)
    where
      go : (t.0 < k) ⊎ (k ≤ t.0) → Told k v u
      go (inl l) = inr (t.0, l, t.2, t.3)
      go (inr l) = absurd (apart (omega (arith, l, t.1, t.2)) (omega (arith, l, t.1, t.3)))

  kept : (v u : ℕ) → u < most_events → bit_at (slice_index after u) v ≡ bit_at (slice_index before u) v → (v ≡ to + 2 * k → u ≡ from + 2 * k → ⊥) → (bit_at (slice_index after u) v ≡ 1) ↔ Told (k + 1) v u
  kept v u few same apart = (λ b. widened v u ((h v u few).0 (sym same ∙ b)), λ t. same ∙ (h v u few).1 (narrowed v u apart t))

  other : (u : ℕ) → (u ≡ from + 2 * k → ⊥) → slice_index after u ≡ slice_index before u
  other u d = ap (λ (ws : List ℕ). slice_index ws u) noted.put ∙ get_or-set_other before (from + 2 * k) u noted.word 0 d

  room : from + 2 * k < length before
  room = omega (arith, long, ap length noted.put, length-set before (from + 2 * k) noted.word)

  here : slice_index after (from + 2 * k) ≡ noted.word
  here = ap (λ (ws : List ℕ). slice_index ws (from + 2 * k)) noted.put ∙ get_or-set_same before (from + 2 * k) noted.word 0 room

  pub noted_more : StagesNoted (k + 1) to from words after
  noted_more v u few = go (cases_eq u (from + 2 * k)) (cases_eq v (to + 2 * k))
    where
      go : (u ≡ from + 2 * k) ⊎ (u ≡ from + 2 * k → ⊥) → (v ≡ to + 2 * k) ⊎ (v ≡ to + 2 * k → ⊥) → (bit_at (slice_index after u) v ≡ 1) ↔ Told (k + 1) v u
      go (inr d) q = kept v u few (ap (λ (x : ℕ). bit_at x v) (other u d)) (λ p. d)
      go (inl e) (inr d) =
          let same : slice_index after u ≡ noted.word = ap (slice_index after) e ∙ here in
          let bit : bit_at noted.word v ≡ bit_at (slice_index before (from + 2 * k)) v = noted.added.others v d in
          kept v u few (ap (λ (x : ℕ). bit_at x v) same ∙ (bit ∙ ap (λ (i : ℕ). bit_at (slice_index before i) v) (sym e))) (λ p q. d p)
      go (inl e) (inl p) =
          let same : slice_index after u ≡ noted.word = ap (slice_index after) e ∙ here in
          (λ b. inr (k, omega arith, p, e), λ t. ap (λ (x : ℕ). bit_at x v) same ∙ (ap (bit_at noted.word) p ∙ noted.added.has))

-- from words of the lags A to words of the lags B, which stand where those of A do and at the stages
stands_more : (m n to from : ℕ) (A B : Lags) (words after : List ℕ) → m ≤ most_events → StagesNoted n to from words after
    → ((v u : ℕ) → v < m → u < m → B v u ≢ None → (A v u ≢ None) ⊎ AtStage n to from v u)
    → ((v u : ℕ) → A v u ≢ None → B v u ≢ None)
    → ((v u : ℕ) → AtStage n to from v u → (v < m) × (B v u ≢ None))
    → Stands m A words → Stands m B after
stands_more m n to from A B words after few noted split left right stands u u_in v small = (up, down)
  where
    up : bit_at (slice_index after u) v ≡ 1 → (v < m) × (B v u ≢ None)
    up b = go ((noted v u (omega (arith, few, u_in))).0 b)
      where
        go : (bit_at (slice_index words u) v ≡ 1) ⊎ AtStage n to from v u → (v < m) × (B v u ≢ None)
        go (inl c) = let k = (stands u u_in v small).0 c in (k.0, left v u k.1)
        go (inr t) = right v u t

    down : (v < m) × (B v u ≢ None) → bit_at (slice_index after u) v ≡ 1
    down k = (noted v u (omega (arith, few, u_in))).1 (go (split v u k.0 u_in k.1))
      where
        go : (A v u ≢ None) ⊎ AtStage n to from v u → (bit_at (slice_index words u) v ≡ 1) ⊎ AtStage n to from v u
        go (inl a) = inl ((stands u u_in v small).1 (k.0, a))
        go (inr t) = inr t

-- the later of two optional rows is there where one is

later_left_there : (o p : Option Row) → o ≢ None → later o p ≢ None
later_left_there None p h e = h refl
later_left_there (Some a) None h e = none_or_some a (sym e)
later_left_there (Some a) (Some b) h e = none_or_some (later_of a b) (sym e)

later_right_there : (o p : Option Row) (b : Row) → p ≡ Some b → later o p ≢ None
later_right_there None p b q e = none_or_some b (sym e ∙ q)
later_right_there (Some a) None b q e = none_or_some b q
later_right_there (Some a) (Some c) b q e = none_or_some (later_of a c) (sym e)

one_there : (o p : Option Row) → later o p ≢ None → (o ≢ None) ⊎ (p ≢ None)
one_there None p h = inr h
one_there (Some a) p h = inl (λ e. none_or_some a (sym e))

cond_there : (b : Bool) (r : Row) → cond b (Some r) None ≢ None → b ≡ true
cond_there true r h = refl
cond_there false r h = absurd (h refl)

module _ (n m f : ℕ) (L : Lags) (laid : m ≡ events n) where
  at_stages : (v u : ℕ) → u < m → with_flow f L v u ≢ None → (L v u ≢ None) ⊎ AtStage n 1 2 v u
  at_stages v u u_in h = go (one_there (L v u) (flow_lags f v u) h)
    where
      go : (L v u ≢ None) ⊎ (flow_lags f v u ≢ None) → (L v u ≢ None) ⊎ AtStage n 1 2 v u
      go (inl k) = inl k
      go (inr k) =
          let s = own_events v u (cond_there (back_over_stage v u) (negated (minutes f)) k) in
          inr (v / 2, omega (arith, laid, u_in, s.1), omega (arith, s.0), omega (arith, s.1))

  there : (v u : ℕ) → AtStage n 1 2 v u → (v < m) × ((u < m) × (with_flow f L v u ≢ None))
  there v u t =
      let p : v ≡ start (t.0 + 1) = omega (arith, t.2) in
      let q : u ≡ finish (t.0 + 1) = omega (arith, t.3) in
      let own : back_over_stage v u ≡ true = subst (λ (i : ℕ). back_over_stage i u ≡ true) (sym p) (subst (λ (i : ℕ). back_over_stage (start (t.0 + 1)) i ≡ true) (sym q) (stage_own (t.0 + 1) (omega arith))) in
      (omega (arith, laid, t.1, t.2), (omega (arith, laid, t.1, t.3), later_right_there (L v u) (flow_lags f v u) (negated (minutes f)) (added_own f v u own)))

  module _ (few : m ≤ most_events) (words after : List ℕ) where
    pub flow_stands : StagesNoted n 1 2 words after → Stands m L words → Stands m (with_flow f L) after
    flow_stands noted stands =
        stands_more m n 1 2 L (with_flow f L) words after few noted (λ v u v_in u_in k. at_stages v u u_in k) (λ v u k. later_left_there (L v u) (flow_lags f v u) k) (λ v u t. let k = there v u t in (k.0, k.1.1)) stands

    swapped : (v u : ℕ) → (L u v ≢ None) ⊎ AtStage n 1 2 u v → (L u v ≢ None) ⊎ AtStage n 2 1 v u
    swapped v u (inl k) = inl k
    swapped v u (inr t) = inr (t.0, t.1, t.3, t.2)

    pub reversed_flow_stands : StagesNoted n 2 1 words after → Stands m (reversed L) words → Stands m (reversed (with_flow f L)) after
    reversed_flow_stands noted stands =
        stands_more m n 2 1 (reversed L) (reversed (with_flow f L)) words after few noted (λ v u v_in u_in k. swapped v u (at_stages u v v_in k)) (λ v u k. later_left_there (L u v) (flow_lags f u v) k) (λ v u t. let k = there u v (t.0, t.1, t.3, t.2) in (k.1.0, k.1.1)) stands
