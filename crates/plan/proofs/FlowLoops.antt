-- Counting the lags of a loop: what it says of schedules, of its sum and of its size.
use Rattle.std.proofs.Common.{◌≡◌, ℕ, suc, ◌+◌, ◌-◌, ◌*◌, ◌/◌, ◌^◌, ◌<◌, ◌≤◌, ◌⊎◌, List, [], ◌∷◌, length, get_or, drop, take, ℤ, pos, negsuc, nat_abs, ◌+ℤ◌, neg_ℤ, ◌≤ℤ◌, ◌<ℤ◌, Some, None, sym, refl, ap, ◌∙◌, subst, subst₂, inl, inr, mul_comm, mul-le-mul_left, mul-le-mul_right, arith}
use Rattle.std.proofs.Math.Seq.{drop-cons}
use Rattle.std.proofs.lemmas.Bool.{cases_lt}
use Rattle.std.proofs.lemmas.Grind.{div_ceil_times}
use Rattle.std.proofs.lemmas.Int.{ints}
use Rattle.std.proofs.lemmas.List.{drop_all, length-drop, take_all}
use Rattle.std.specs.Int.{div_ceil}
use Rattle.rows.specs.Limits.{flow_limit, lag_limit, most_events}
use Rattle.rows.specs.Rows.{Row, plus, NotBefore, Within}
use Rattle.rows.proofs.Options.{none_or_some, same_some}
use Rattle.rows.proofs.Sums.{length-plus}
use Rattle.schedules.specs.Flows.{WithinFlow, with_flow}
use Rattle.schedules.specs.Minutes.{minute, minutes}
use Rattle.schedules.specs.Plans.{Lags, Wide, Schedulable, Chain, Loop}
use Rattle.schedules.specs.Tables.{start, finish, events}
use Rattle.schedules.proofs.Chains.{chain_from, chain_wide}
use Rattle.schedules.proofs.Flows.{flow_wide, own_events}
use Rattle.schedules.proofs.One.{minute_after, minute_from, minute-plus}
use Rattle.plan.specs.FlowSteps.{ComesAfter, CountedTo, LoopCounted, NextFlow, OneMore, SumInside, lasting, less_flow}
use Rattle.plan.specs.declared.calls.flow.counting.Tally.{Tally}

-- rows of lasting part as numbers

at_least : (r s : Row) (a : ℤ) → length r ≡ 1 → length s ≡ 1 → NotBefore r (plus s (lasting a)) → (minute (Some s) +ℤ a) ≤ℤ minute (Some r)
at_least r s a e h n =
    let k = minute_from r (plus s (lasting a)) e (length-plus s (lasting a) 1 h refl) n in
    let p = minute-plus s (lasting a) h refl in
    omega (arith, ints)

at_most : (r s : Row) (g : ℕ) → length r ≡ 1 → length s ≡ 1 → NotBefore (plus r (minutes g)) s → minute (Some s) ≤ℤ (minute (Some r) +ℤ pos g)
at_most r s g e h n =
    let k = minute_from (plus r (minutes g)) s (length-plus r (minutes g) 1 e refl) h n in
    let p = minute-plus r (minutes g) e refl in
    omega (arith, ints)

one_more : (a b g : ℕ) → a ≡ b + 1 → a * g ≡ b * g + g
one_more a b g e = subst (λ (k : ℕ). k * g ≡ b * g + g) (sym e) (omega arith)

-- the events of a loop after its first, as they are walked
pub others_whole : (around : List ℕ) → take (length around - 1) (drop 1 around) ≡ drop 1 around
others_whole around = take_all (length around - 1) (drop 1 around) (omega (arith, length-drop 1 around))

flow_inside : (q : ℕ) → q ≤ (most_events - 1) * lag_limit → q ≤ flow_limit
unfolding flow_limit
flow_inside q h = h

module _ (n f : ℕ) (L : Lags) (wide : Wide 1 (events n) L) where
  step_comes : (first v u : ℕ) (old new : Tally) → v < events n → u < events n → OneMore f L v u old new → ComesAfter n L first u old → ComesAfter n L first v new
  step_comes first v u old new v_in u_in (inl t) comes x g s h =
      let o = own_events v u t.0.0 in
      let p : v ≡ start (v / 2 + 1) = o.0 in
      let q : u ≡ finish (v / 2 + 1) = o.1 in
      let count : new.added ≡ old.added + 1 = t.1 in
      let ends = subst₂ (λ (i j : ℕ). NotBefore (plus (x i) (minutes g)) (x j)) (sym p) (sym q) (h (omega arith) (v / 2 + 1) (omega arith) (omega arith)) in
      let most = at_most (x v) (x u) g (s.keeping.wide v v_in) (s.keeping.wide u u_in) ends in
      let before = comes x g s (λ k. h (omega arith)) in
      let more = one_more new.added old.added g count in
      let same : new.sum ≡ old.sum = t.2 in
      omega (arith, ints)
  step_comes first v u old new v_in u_in (inr t) comes x g s h =
      let a : ℤ = t.0 in
      let least = at_least (x v) (x u) t.0 (s.keeping.wide v v_in) (s.keeping.wide u u_in) (s.keeping.keeps v u (lasting t.0) v_in u_in t.1.0) in
      let count : new.added ≡ old.added = t.3 in
      let before = comes x g s (λ k. h (omega arith)) in
      let same : new.sum ≡ old.sum +ℤ t.0 = t.4 in
      let more = ap (λ (k : ℕ). k * g) count in
      omega (arith, ints)

  step_inside : (v u i j : ℕ) (old new : Tally) → j ≡ i + 1 → OneMore f L v u old new → SumInside i old → SumInside j new
  step_inside v u i j old new e (inl t) s =
      let count : new.added ≡ old.added + 1 = t.1 in
      let same : new.sum ≡ old.sum = t.2 in
      let more = one_more new.added old.added lag_limit count in
      let more_i = one_more j i lag_limit e in
      let few = s.few in
      let low = s.low in
      let high = s.high in
      record { few = omega arith; low = omega (arith, ints); high = omega (arith, ints) }
  step_inside v u i j old new e (inr t) s =
      let count : new.added ≡ old.added = t.3 in
      let same : new.sum ≡ old.sum +ℤ t.0 = t.4 in
      let more = ap (λ (k : ℕ). k * lag_limit) count in
      let more_i = one_more j i lag_limit e in
      let few = s.few in
      let low = s.low in
      let high = s.high in
      let a_low = t.2.0.0 in
      let a_high = t.2.0.1 in
      record { few = omega arith; low = omega (arith, ints); high = omega (arith, ints) }

  step_sum : (v u : ℕ) (old new : Tally) (a : Row) (r : ℤ) → with_flow f L v u ≡ Some a → OneMore f L v u old new → pos (old.added * f) <ℤ (old.sum +ℤ (minute (Some a) +ℤ r)) → pos (new.added * f) <ℤ (new.sum +ℤ r)
  step_sum v u old new a r e (inl t) h =
      let is : a ≡ lasting (less_flow f) = same_some a (lasting (less_flow f)) (sym e ∙ t.0.1) in
      let value : minute (Some a) ≡ neg_ℤ (pos f) = ap (λ (q : Row). minute (Some q)) is in
      let count : new.added ≡ old.added + 1 = t.1 in
      let same : new.sum ≡ old.sum = t.2 in
      let more = one_more new.added old.added f count in
      omega (arith, ints)
  step_sum v u old new a r e (inr t) h =
      let is : a ≡ lasting t.0 = same_some a (lasting t.0) (sym e ∙ t.1.1) in
      let value : minute (Some a) ≡ t.0 = ap (λ (q : Row). minute (Some q)) is in
      let count : new.added ≡ old.added = t.3 in
      let same : new.sum ≡ old.sum +ℤ t.0 = t.4 in
      let more = ap (λ (k : ℕ). k * f) count in
      omega (arith, ints)

  flowing_wide : Wide 1 (events n) (with_flow f L)
  flowing_wide = flow_wide n L wide f

  -- the first event of a loop
  pub begun : (e : ℕ) (es : List ℕ) (t : Tally) → t.added ≡ 0 → t.sum ≡ pos 0 → Loop 1 (events n) (with_flow f L) (e ∷ es) → CountedTo n f L e e 0 es t
  begun e es t p q l = record {
    inside = record { few = omega arith; low = omega (arith, ints); high = let k = ap (λ (i : ℕ). i * lag_limit) p in omega (arith, ints) };
    comes = λ x g s h. let k = ap (λ (i : ℕ). i * g) p in omega (arith, ints);
    sum = l.2.0;
    chain = l.2.1.0;
    after =
        let k = ap (λ (i : ℕ). i * f) p in
        let a = minute_after l.2.0 (chain_wide 1 (events n) (with_flow f L) flowing_wide es e e l.2.0 l.2.1.0) l.2.1.1 in
        omega (arith, ints);
  }

  counted_in : (first v u i : ℕ) (rest : List ℕ) (t : Tally) → CountedTo n f L first u i (v ∷ rest) t → (v < events n) × (u < events n) × (with_flow f L v u ≡ None → ⊥)
  counted_in first v u i rest t c = (chain_from (events n) (with_flow f L) rest v first k.1 k.4, k.2, λ e. none_or_some k.0 (sym e ∙ k.3))
    where
      k : Chain (events n) (with_flow f L) u (v ∷ rest) first c.sum
      k = c.chain

  pub counted_end : (first u i : ℕ) (t : Tally) → CountedTo n f L first u i [] t → (first < events n) × (u < events n) × (with_flow f L first u ≡ None → ⊥)
  counted_end first u i t c = (k.1, k.0, λ e. none_or_some c.sum (sym e ∙ k.2))
    where
      k : Chain (events n) (with_flow f L) u [] first c.sum
      k = c.chain

  -- one event more
  moved : (first v u i j : ℕ) (rest : List ℕ) (old new : Tally) → j ≡ i + 1 → CountedTo n f L first u i (v ∷ rest) old → OneMore f L v u old new → CountedTo n f L first v j rest new
  moved first v u i j rest old new e c t = record {
    inside = step_inside v u i j old new e t c.inside;
    comes = step_comes first v u old new v_in k.2 t c.comes;
    sum = k.1;
    chain = k.4;
    after = step_sum v u old new k.0 (minute (Some k.1)) k.3 t (subst (λ (z : ℤ). pos (old.added * f) <ℤ (old.sum +ℤ z)) adds c.after);
  }
    where
      k : Chain (events n) (with_flow f L) u (v ∷ rest) first c.sum
      k = c.chain

      v_in : v < events n
      v_in = chain_from (events n) (with_flow f L) rest v first k.1 k.4

      adds : minute (Some c.sum) ≡ minute (Some k.0) +ℤ minute (Some k.1)
      adds =
          ap (λ (q : Row). minute (Some q)) k.5 ∙ minute-plus k.0 k.1 (flowing_wide v u k.0 v_in k.2 k.3) (chain_wide 1 (events n) (with_flow f L) flowing_wide rest v first k.1 k.4)

  at_place : (first u i : ℕ) (others : List ℕ) (t : Tally) → i < length others → CountedTo n f L first u i (drop i others) t → CountedTo n f L first u i (get_or others i 0 ∷ drop (suc i) others) t
  at_place first u i others t h c = subst (λ (rest : List ℕ). CountedTo n f L first u i rest t) (drop-cons others i 0 h) c

  pub moved_on : (first u i v : ℕ) (others : List ℕ) (old new : Tally) → v ≡ get_or others i 0 → i < length others → CountedTo n f L first u i (drop i others) old → OneMore f L v u old new → CountedTo n f L first v (i + 1) (drop (i + 1) others) new
  moved_on first u i v others old new at h c t =
      let e : suc i ≡ i + 1 = omega arith in
      let here = subst (λ (k : ℕ). CountedTo n f L first u i (k ∷ drop (suc i) others) old) (sym at) (at_place first u i others old h c) in
      subst (λ (k : ℕ). CountedTo n f L first v (i + 1) (drop k others) new) e (moved first v u i (i + 1) (drop (suc i) others) old new refl here t)

  pub at_end : (first u i : ℕ) (others : List ℕ) (t : Tally) → length others ≤ i → CountedTo n f L first u i (drop i others) t → CountedTo n f L first u i [] t
  at_end first u i others t h c = subst (λ (rest : List ℕ). CountedTo n f L first u i rest t) (drop_all i others h) c

  -- and the first again
  pub closed : (first u i : ℕ) (old new : Tally) → i ≤ most_events - 1 → Schedulable 1 (events n) L → CountedTo n f L first u i [] old → OneMore f L first u old new → LoopCounted n f L new
  closed first u i old new le s c t = record {
    some = some;
    after = after;
    high =
        let k = inside.high in
        let few : (i + 1) * lag_limit ≤ most_events * lag_limit = mul-le-mul_right lag_limit (omega arith) in
        let once : 1 * lag_limit ≤ new.added * lag_limit = mul-le-mul_right lag_limit some in
        omega (arith, ints);
    refutes = λ g x h. let k = comes x g h.schedule (λ j. h.ends) in omega (arith, ints);
  }
    where
      k : Chain (events n) (with_flow f L) u [] first c.sum
      k = c.chain

      comes : ComesAfter n L first first new
      comes = step_comes first first u old new k.1 k.0 t c.comes

      inside : SumInside (i + 1) new
      inside = step_inside first u i (i + 1) old new refl t c.inside

      after : pos (new.added * f) <ℤ new.sum
      after =
          let a : pos (old.added * f) <ℤ (old.sum +ℤ (minute (Some c.sum) +ℤ pos 0)) = let b : pos (old.added * f) <ℤ (old.sum +ℤ minute (Some c.sum)) = c.after in omega (arith, ints) in
          let b : pos (new.added * f) <ℤ (new.sum +ℤ pos 0) = step_sum first u old new c.sum (pos 0) k.2 t a in
          omega (arith, ints)

      some : 1 ≤ new.added
      some = go (cases_lt 0 new.added)
        where
          go : (0 < new.added) ⊎ (new.added ≤ 0) → 1 ≤ new.added
          go (inl h) = h
          go (inr h) =
              let none : new.added ≡ 0 = omega arith in
              let p = comes s.0 0 s.1 (λ j. absurd (omega arith)) in
              let q = ap (λ (i : ℕ). i * 0) none in
              let r = ap (λ (i : ℕ). i * f) none in
              let a : pos (new.added * f) <ℤ new.sum = after in
              absurd (omega (arith, ints))

  -- the sum shared out to the lags of the flow, rounded up
  pub next : (t : Tally) (s q : ℕ) → t.sum ≡ pos s → s ≤ q * t.added → q * t.added < s + t.added → LoopCounted n f L t → NextFlow n f L q
  next t s q e over under w = record { rises = rises; tried = record { inside = flow_inside q inside; least = refutes } }
    where
      after : t.added * f < s
      after = let a = w.after in omega (arith, ints)

      high : s ≤ (most_events - 1) * lag_limit
      high = let a = w.high in omega (arith, ints)

      rises : f < q
      rises = go (cases_lt f q)
        where
          go : (f < q) ⊎ (q ≤ f) → f < q
          go (inl h) = h
          go (inr h) = let k : t.added * q ≤ t.added * f = mul-le-mul_left t.added h in let e : t.added * q ≡ q * t.added = mul_comm t.added q in let a : t.added * f < s = after in absurd (omega arith)

      before : (q - 1) * t.added < s
      before = let some = w.some in let r : f < q = rises in let k : (q - 1) * t.added + t.added ≡ q * t.added = sym (one_more q (q - 1) t.added (omega arith)) in omega arith

      inside : q ≤ (most_events - 1) * lag_limit
      inside = let some = w.some in let r : f < q = rises in let k : (q - 1) * 1 ≤ (q - 1) * t.added = mul-le-mul_left (q - 1) some in let b : (q - 1) * t.added < s = before in let c : s ≤ (most_events - 1) * lag_limit = high in omega arith

      refutes : (g : ℕ) (x : ℕ → Row) → WithinFlow n L g x → q ≤ g
      refutes g x h = go (cases_lt g q)
        where
          refuted : s ≤ t.added * g
          refuted = let a = w.refutes g x h in omega (arith, ints)

          go : (g < q) ⊎ (q ≤ g) → q ≤ g
          go (inl l) = let k : t.added * g ≤ t.added * (q - 1) = mul-le-mul_left t.added (omega arith) in let e : t.added * (q - 1) ≡ (q - 1) * t.added = mul_comm t.added (q - 1) in let b : (q - 1) * t.added < s = before in let c : s ≤ t.added * g = refuted in let r : f < q = rises in absurd (omega arith)
          go (inr l) = l

pub inside_wider : (i j : ℕ) (t : Tally) → i ≤ j → SumInside i t → SumInside j t
inside_wider i j t h s =
    let k : i * lag_limit ≤ j * lag_limit = mul-le-mul_right lag_limit h in
    let few = s.few in
    let low = s.low in
    let high = s.high in
    record { few = omega arith; low = omega (arith, ints); high = omega (arith, ints) }

-- a sum of few lags and one lag more stay far from the ends of 64 bits
pub sum_fits : (t : Tally) (a : ℤ) → SumInside most_events t → Within lag_limit (lasting a) → (neg_ℤ (pos (2 ^ 62)) ≤ℤ (t.sum +ℤ a)) × ((t.sum +ℤ a) ≤ℤ pos (2 ^ 62))
unfolding lag_limit
sum_fits t a s h =
    let low = s.low in
    let high = s.high in
    let a_low = h.0.0 in
    let a_high = h.0.1 in
    (omega (arith, ints), omega (arith, ints))

pub loop_some : (w m : ℕ) (L : Lags) (es : List ℕ) → Loop w m L es → 1 ≤ length es
loop_some w m L [] h = absurd h
loop_some w m L (e ∷ es) h = omega arith

pub sum_inside : (n f : ℕ) (L : Lags) (t : Tally) → LoopCounted n f L t → (pos 0 ≤ℤ t.sum) × (t.sum ≤ℤ pos (2 ^ 62))
unfolding lag_limit
sum_inside n f L t w =
    let a = w.after in
    let h = w.high in
    (omega (arith, ints), omega (arith, ints))

pub next_of : (n f : ℕ) (L : Lags) (wide : Wide 1 (events n) L) (t : Tally) (z : ℤ) (q : ℕ) → z ≡ t.sum → q ≡ div_ceil (nat_abs z) t.added → LoopCounted n f L t → NextFlow n f L q
next_of n f L wide t z q e d w =
    let some : 0 < t.added = w.some in
    let k = div_ceil_times (nat_abs z) t.added some in
    next n f L wide t (nat_abs z) q whole (subst (λ (j : ℕ). nat_abs z ≤ j * t.added) (sym d) k.0) (subst (λ (j : ℕ). j * t.added < nat_abs z + t.added) (sym d) k.1) w
  where
    from : (y : ℤ) → pos 0 ≤ℤ y → y ≡ pos (nat_abs y)
    from (pos k) h = refl
    from (negsuc k) h = absurd (omega (arith, ints))

    whole : t.sum ≡ pos (nat_abs z)
    whole = sym e ∙ from z (subst (λ (y : ℤ). pos 0 ≤ℤ y) (sym e) (sum_inside n f L t w).0)
