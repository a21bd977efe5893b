-- What the walk back has written is a loop; over as many rounds as there are events, it finds one.
use Rattle.std.proofs.Common.{◌≡◌, ℕ, suc, ◌+◌, ◌-◌, ◌<◌, ◌≤◌, ◌⊎◌, List, get_or, take, drop, sym, refl, ap, ◌∙◌, subst, inl, inr, arith}
use Rattle.std.proofs.lemmas.Bool.{cases_lt}
use Rattle.schedules.specs.Answers.{Shown}
use Rattle.schedules.specs.Plans.{Lags, Loop, Totals}
use Rattle.schedules.specs.Rounds.{Changed}
use Rattle.schedules.specs.Walks.{Apart, backs, Traced}
use Rattle.schedules.proofs.Found.{get_or-backs, walk_loop}
use Rattle.schedules.proofs.Repeats.{pigeonhole}
use Rattle.schedules.proofs.Rounds.{WideTotals}
use Rattle.schedules.proofs.Walks.{walk_below}
use Rattle.solver.specs.Networks.{Net}
use Rattle.solver.specs.Trails.{back, ClosedPartIn, from_in, Leads, rotated}

-- round n from the totals X changed event v, and what every total came from is kept
module _ (w m : ℕ) (L : Lags) (net : Net w m L) (X : Totals) (x_wide : WideTotals w m X) (n : ℕ) (some : 1 ≤ n) (sources : List (List ℕ)) (v : ℕ) (v_in : v < m) (changed : Changed m L X (n - 1) v) (traced : Traced m L X n (from_in sources)) where
  pub back_leads : Leads m n (back n sources v)
  back_leads =
      walk_below w m L net.wide X x_wide n (from_in sources) traced (back n sources v) n (λ i h. refl) (omega arith) v_in some changed

  -- of m events no more than m are all different
  back_few : (d : ℕ) → d ≤ n + 1 → Apart (back n sources v) d → d ≤ m
  back_few d le apart = go (cases_lt m d)
    where
      go : (m < d) ⊎ (d ≤ m) → d ≤ m
      go (inr few) = few
      go (inl more) = absurd (pigeonhole m (back n sources v) (λ i h. back_leads i (omega arith)) (λ i j lt h. apart i j lt (omega arith)))

  -- after as many rounds as there are events, the walk meets one twice
  pub back_meets : m ≤ n → Apart (back n sources v) (n + 1) → ⊥
  back_meets long apart = let few : n + 1 ≤ m = back_few (n + 1) (omega arith) apart in omega arith

  -- what was written is a loop, its lowest event first
  module _ (row after : List ℕ) (len : ℕ) (wrote : ClosedPartIn n (back n sources v) row after len) where
    -- the event at a place of the loop before it is rotated
    event_at : (i j : ℕ) → suc i ≡ wrote.last - wrote.first → j < suc i → get_or (backs (back n sources v) wrote.first (suc i)) j 0 ≡ back n sources v (wrote.last - j)
    event_at i j e h =
        let order : wrote.first < wrote.last = wrote.met.order in
        get_or-backs (back n sources v) wrote.first (suc i) j h ∙ ap (back n sources v) (omega arith)

    lowest : (i : ℕ) → suc i ≡ wrote.last - wrote.first → (j : ℕ) → j < suc i → get_or (backs (back n sources v) wrote.first (suc i)) (wrote.last - wrote.low) 0 ≤ get_or (backs (back n sources v) wrote.first (suc i)) j 0
    lowest i e j h =
        let order : wrote.first < wrote.last = wrote.met.order in
        let low_after : wrote.first < wrote.low = wrote.after_first in
        let low_in : wrote.low ≤ wrote.last = wrote.to_last in
        let here : back n sources v (wrote.last - (wrote.last - wrote.low)) ≡ back n sources v wrote.low = ap (back n sources v) (omega arith) in
        omega (arith, event_at i (wrote.last - wrote.low) e (omega arith), event_at i j e h, here, wrote.least (wrote.last - j) (omega arith) (omega arith))

    loop_of : (i : ℕ) → suc i ≡ wrote.last - wrote.first → Loop w m L (rotated (wrote.last - wrote.low) (backs (back n sources v) wrote.first (suc i)))
    loop_of i e =
        let order : wrote.first < wrote.last = wrote.met.order in
        let low_after : wrote.first < wrote.low = wrote.after_first in
        walk_loop w m L net.wide X x_wide n (from_in sources) traced (back n sources v) wrote.last (λ i h. refl) wrote.met.short v_in some changed wrote.first i (omega arith) wrote.met.same wrote.met.apart (wrote.last - wrote.low) (omega arith) (lowest i e)

    -- all of its events are different
    size_in : len ≤ m
    size_in =
        let short : wrote.last ≤ n = wrote.met.short in
        let few : wrote.last ≤ m = back_few wrote.last (omega arith) wrote.met.apart in
        omega (arith, wrote.size)

    pub written_loop : Shown w m L row after len
    written_loop =
        let order : wrote.first < wrote.last = wrote.met.order in
        let size : len ≡ wrote.last - wrote.first = wrote.size in
        let more : suc (wrote.last - wrote.first - 1) ≡ wrote.last - wrote.first = omega arith in
        let looped = subst (λ (k : ℕ). Loop w m L (rotated (wrote.last - wrote.low) (backs (back n sources v) wrote.first k))) more (loop_of (wrote.last - wrote.first - 1) more) in
        (size_in, subst (Loop w m L) (sym (ap (λ (k : ℕ). take k after) size ∙ wrote.rotated_in.events)) looped, ap (λ (k : ℕ). drop k after) size ∙ wrote.rotated_in.rest ∙ ap (λ (k : ℕ). drop k row) (sym size))
