-- The lags between two events of a plan with a flow among them, as numbers.
use Rattle.std.proofs.Common.{◌≡◌, ℕ, ◌^◌, ◌<◌, ◌≤◌, ◌≢◌, Bool, true, false, cond, [], ◌∷◌, length, ℤ, pos, ◌+ℤ◌, neg_ℤ, ◌≤ℤ◌, ◌<ℤ◌, Some, None, Option, IfSome, sym, refl, ap, ◌∙◌, subst, inl, arith}
use Rattle.std.proofs.lemmas.Int.{ints}
use Rattle.std.specs.Option.{option_map}
use Rattle.marks.specs.Meaning.{part_at, TotalOf, TotalMade}
use Rattle.rows.specs.Limits.{flow_limit, lag_limit, total_limit}
use Rattle.rows.specs.MaxPlus.{later}
use Rattle.rows.specs.Rows.{Row, negated, plus, Within}
use Rattle.rows.proofs.Extremes.{later_first, later_second}
use Rattle.rows.proofs.Limits.{flow_totals, lag_flows, relations}
use Rattle.rows.proofs.Options.{same_some}
use Rattle.rows.proofs.Sums.{length-plus, Within-wider}
use Rattle.schedules.specs.Flows.{back_over_stage, with_flow}
use Rattle.schedules.specs.Minutes.{minutes}
use Rattle.schedules.specs.Plans.{Lags}
use Rattle.schedules.proofs.Flows.{added_own, later_either}
use Rattle.schedules.proofs.One.{to_not_before}
use Rattle.plan.specs.FlowSteps.{CountsAt, lasting, less_flow}

-- a row of one part, from its first part

only_part : (r : Row) (o : Option ℤ) → length r ≡ 1 → o ≡ part_at r 0 → option_map lasting o ≡ Some r
only_part [] o e h = absurd (omega arith)
only_part (a ∷ []) o e h = ap (option_map lasting) h
only_part (a ∷ b ∷ r) o e h = absurd (omega arith)

part_within : (b : ℕ) (r : Row) (o : Option ℤ) → length r ≡ 1 → o ≡ part_at r 0 → Within b r → IfSome o (λ z. Within b (lasting z))
part_within b [] o e h w = absurd (omega arith)
part_within b (a ∷ []) o e h w = subst (λ (p : Option ℤ). IfSome p (λ z. Within b (lasting z))) (sym h) w
part_within b (a ∷ c ∷ r) o e h w = absurd (omega arith)

-- of a kind of one part
module _ (w : ℕ) (r : Row) (o : Option ℤ) (wide : length r ≡ w) (one : w ≡ 1) (part : o ≡ part_at r 0) where
  pub lag_is : option_map lasting o ≡ Some r
  lag_is = only_part r o (wide ∙ one) part

  pub lag_inside : (b : ℕ) → Within b r → IfSome o (λ z. Within b (lasting z))
  lag_inside b h = part_within b r o (wide ∙ one) part h

-- the lag of a flow

pub flow_fits : (f : ℕ) → f ≤ flow_limit → f < 2 ^ 62
flow_fits f h = omega (arith, flow_totals, relations.machine)

-- the later of two numbers

later_is_other : (a b : ℤ) → a <ℤ b → Some (lasting b) ≡ later (Some (lasting a)) (Some (lasting b))
later_is_other a b h = later_second (lasting a) (lasting b) (inl h)

later_is_one : (a b : ℤ) → b ≤ℤ a → Some (lasting a) ≡ later (Some (lasting a)) (Some (lasting b))
later_is_one a b h = later_first (lasting a) (lasting b) (to_not_before a b h)

pub later_within : (f : ℕ) (o : Option ℤ) (b c : ℤ) → f ≤ flow_limit → IfSome o (λ z. Within lag_limit (lasting z)) → b ≡ less_flow f → Some (lasting c) ≡ later (option_map lasting o) (Some (lasting b)) → Within flow_limit (lasting c)
later_within f o b c small h is e = later_either (Within flow_limit) (option_map lasting o) (Some (lasting b)) (lasting c) (left o h) (λ r q. subst (Within flow_limit) (same_some (lasting b) r q) ((omega (arith, ints), omega (arith, ints)), tt)) (sym e)
  where
    left : (p : Option ℤ) → IfSome p (λ z. Within lag_limit (lasting z)) → (r : Row) → option_map lasting p ≡ Some r → Within flow_limit r
    left None i r q = absurd (let z : ◌≡◌ {A = ℕ} 0 1 = cc in omega arith)
    left (Some z) i r q = subst (Within flow_limit) (same_some (lasting z) r q) (Within-wider lag_limit flow_limit (lasting z) lag_flows i)

-- what stands between two events

with_none : (o : Option Row) → later o None ≡ o
with_none None = refl
with_none (Some a) = refl

module _ (f : ℕ) (L : Lags) (v u : ℕ) where
  abbrev its : Row
  its = lasting (less_flow f)

  pub flow_other : back_over_stage v u ≡ false → with_flow f L v u ≡ L v u
  flow_other e = ap (later (L v u)) (ap (λ (b : Bool). cond b (Some (negated (minutes f))) None) e) ∙ with_none (L v u)

  pub flow_back : back_over_stage v u ≡ true → with_flow f L v u ≡ later (L v u) (Some its)
  flow_back e = ap (later (L v u)) (added_own f v u e)

  -- what stands where none of the plan's own does is the flow's
  pub counts_flow : L v u ≡ None → with_flow f L v u ≢ None → CountsAt f L v u None
  counts_flow h there = go (back_over_stage v u) refl
    where
      go : (b : Bool) → back_over_stage v u ≡ b → CountsAt f L v u None
      go true e = (e, flow_back e ∙ ap (λ (o : Option Row). later o (Some its)) h)
      go false e = absurd (there (flow_other e ∙ h))

  module _ (a : ℤ) (stands : L v u ≡ Some (lasting a)) where
    beside : back_over_stage v u ≡ true → with_flow f L v u ≡ later (Some (lasting a)) (Some its)
    beside e = flow_back e ∙ ap (λ (o : Option Row). later o (Some its)) stands

    pub counts_less : back_over_stage v u ≡ true → a <ℤ less_flow f → CountsAt f L v u None
    counts_less e k = (e, beside e ∙ sym (later_is_other a (less_flow f) k))

    pub counts_own : back_over_stage v u ≡ true → less_flow f ≤ℤ a → CountsAt f L v u (Some a)
    counts_own e k = (stands, beside e ∙ sym (later_is_one a (less_flow f) k))

    pub counts_other : back_over_stage v u ≡ false → CountsAt f L v u (Some a)
    counts_other e = (stands, flow_other e ∙ stands)

-- a total of one part plus a number

module _ (w : ℕ) (r : Row) (t m : ℤ) (wide : length r ≡ w) (one : w ≡ 1) (part : part_at r 0 ≡ Some t) where
  is_one : (q : Row) → length q ≡ 1 → part_at q 0 ≡ Some t → q ≡ lasting t
  is_one [] e h = absurd (omega arith)
  is_one (a ∷ []) e h = let k : a ≡ t = cc in ap lasting k
  is_one (a ∷ b ∷ q) e h = absurd (omega arith)

  there : r ≡ lasting t
  there = is_one r (wide ∙ one) part

  pub shifted_row : lasting (t +ℤ m) ≡ plus r (lasting m)
  shifted_row = ap (λ (q : Row). plus q (lasting m)) (sym there)

  pub shifted_wide : length (plus r (lasting m)) ≡ w
  shifted_wide = length-plus r (lasting m) w wide (sym one)

  -- the sum stays far from the ends of 64 bits
  pub shifted_fits : Within total_limit r → Within flow_limit (lasting m) → (neg_ℤ (pos (2 ^ 62)) ≤ℤ (t +ℤ m)) × ((t +ℤ m) ≤ℤ pos (2 ^ 62))
  shifted_fits k l =
      let p : Within total_limit (lasting t) = subst (Within total_limit) there k in
      let q : Within total_limit (lasting m) = Within-wider flow_limit total_limit (lasting m) flow_totals l in
      let far = relations.machine in
      let a = p.0.0 in
      let b = p.0.1 in
      let c = q.0.0 in
      let d = q.0.1 in
      (omega (arith, ints), omega (arith, ints))

pub part_missing : {Q : Type 0} (w : ℕ) (r : Row) → length r ≡ w → w ≡ 1 → part_at r 0 ≡ None → Q
part_missing w [] e q h = absurd (omega arith)
part_missing w (a ∷ r) e q h = absurd (let z : ◌≡◌ {A = ℕ} 0 1 = cc in omega arith)

pub made_of : {T : Type 0} (w : ℕ) (row : T → Row) (r s : Row) (o : Option T) → r ≡ s → length s ≡ w → TotalMade w row r o → TotalOf row s o
made_of w row r s (Some t) e q h = (subst (Within total_limit) e h.0.1, h.1 ∙ e)
made_of w row r s None e q h = λ k. h (ap length e ∙ q, subst (Within total_limit) (sym e) k)
