-- The walk back, step by step, until an event is met again.
use Rattle.std.proofs.Common.{◌≡◌, ℕ, ◌+◌, ◌-◌, ◌<◌, ◌≤◌, ◌⊎◌, List, [], length, get_or, take, set, None, Some, sym, ap, ◌∙◌, inl, inr, rules, arith, get_or-set_same}
use Rattle.std.proofs.lemmas.Bool.{cases_eq}
use Rattle.std.proofs.lemmas.List.{get_or-take, length-set, length-take}
use Rattle.std.specs.Int.{bit_at}
use Rattle.schedules.specs.Walks.{Apart}
use Rattle.solver.specs.Trails.{back, FoundOn, HasAll, Holds, Leads, Met, on}
use Rattle.solver.specs.Words.{Added}

-- The path has the walk back over n rounds up to place d - 1, and event e is the next one.
module _ (n : ℕ) (sources : List (List ℕ)) (path : List ℕ) (event d e : ℕ) (some : 1 ≤ d) (short : d ≤ n) (room : d < length path) (holds : Holds path (back n sources event) (d - 1)) (next : e ≡ get_or (get_or sources (n - d) []) (get_or path (d - 1) 0) 0) where
  pub holds_more : Holds (set path d e) (back n sources event) d
  holds_more = search rules

  here : e ≡ back n sources event d
  here = sym (get_or-set_same path d e 0 room) ∙ holds_more d (omega arith)

  pub next_in : (m : ℕ) → Leads m n (back n sources event) → e < m
  next_in m leads = let at : back n sources event d < m = leads d short in omega (arith, here)

  -- what stands before d
  before : (i : ℕ) → i < d → on (take d (set path d e)) i ≡ back n sources event i
  before i h = get_or-take d (set path d e) i 0 h ∙ holds_more i (omega arith)

  -- the word has what stands before d
  module _ (word : ℕ) (has : (i : ℕ) → i < d → bit_at word (back n sources event i) ≡ 1) where
    pub has_before : HasAll word (take d (set path d e))
    has_before i h =
        let lt : i < d = omega (arith, h, length-take d (set path d e)) in
        ap (bit_at word) (before i lt) ∙ has i lt

    -- and with e what stands up to d
    pub has_more : (after : ℕ) → Added word e after → (i : ℕ) → i < d + 1 → bit_at after (back n sources event i) ≡ 1
    has_more after more i h = go (cases_eq (back n sources event i) e)
      where
        go : (back n sources event i ≡ e) ⊎ (back n sources event i ≡ e → ⊥) → bit_at after (back n sources event i) ≡ 1
        go (inl q) = ap (bit_at after) q ∙ more.has
        go (inr q) = more.others (back n sources event i) q ∙ has i (earlier (cases_eq i d))
          where
            earlier : (i ≡ d) ⊎ (i ≡ d → ⊥) → i < d
            earlier (inl s) = absurd (q (ap (back n sources event) s ∙ sym here))
            earlier (inr s) = omega arith

  module _ (apart : Apart (back n sources event) d) where
    -- an event met before
    pub met_at : (c : ℕ) → FoundOn (take d (set path d e)) e (Some c) → Met n (back n sources event) (set path d e) c d
    met_at c h =
        let lt : c < d = omega (arith, h.0, length-take d (set path d e)) in
        record { twice = record { order = lt; short = short; same = sym (before c lt) ∙ h.1 ∙ here; apart = apart }; holds = holds_more }

    -- an event not met before
    pub apart_more : FoundOn (take d (set path d e)) e None → Apart (back n sources event) (d + 1)
    apart_more h i j lt le same = go (cases_eq j d)
      where
        go : (j ≡ d) ⊎ (j ≡ d → ⊥) → ⊥
        go (inl q) = h i (omega (arith, length-take d (set path d e), length-set path d e)) (before i (omega arith) ∙ same ∙ ap (back n sources event) q ∙ sym here)
        go (inr q) = apart i j lt (omega arith) same
