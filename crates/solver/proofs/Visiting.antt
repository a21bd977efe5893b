-- Events visited one after the other along the lags, until a chain of lags leads to no other.
use Rattle.std.proofs.Common.{◌≡◌, ℕ, zero, suc, ◌<◌, ◌≤◌, ◌≢◌, ◌⊎◌, List, [], ◌∷◌, ◌++◌, sym, ap, ◌∙◌, subst, inl, inr, arith, None}
use Rattle.std.proofs.lemmas.Bool.{cases_eq}
use Rattle.std.proofs.lemmas.Nat.Bits.{bit_at-lt, bit_at-zero}
use Rattle.std.specs.Int.{bit_at}
use Rattle.rows.specs.Limits.{most_events}
use Rattle.rows.specs.Rows.{Row, plus}
use Rattle.schedules.specs.Plans.{Lags, Chain}
use Rattle.schedules.proofs.Chains.{chain_from, chain_to}
use Rattle.schedules.proofs.Optional.{known_row, some_none}
use Rattle.schedules.proofs.Rotation.{Chain-join}
use Rattle.solver.specs.Words.{Added, Joined, ChainsFrom, ChainsOver, ReachesOver, Shared, StandsFrom, Without}
use Rattle.solver.specs.Trails.{HasAll}
use Rattle.solver.proofs.Bits.{joined_left, joined_one, joined_right, set_or_not}

-- every event of `reached` is one that a chain over events of `over` leads to, and every lag from
-- one of `visited` ends in `reached`
pub record Visiting (m : ℕ) (L : Lags) (over e reached visited : ℕ) : Type 0 where
  pub chained : (v : ℕ) → v < 64 → bit_at reached v ≡ 1 → ReachesOver m L over e v
  pub closed : (u : ℕ) → u < 64 → bit_at visited u ≡ 1 → (v : ℕ) → v < m → L v u ≢ None → bit_at reached v ≡ 1
  pub begun : bit_at visited e ≡ 1

has_more : (word u : ℕ) → bit_at word u ≡ 1 → (es : List ℕ) → HasAll word es → HasAll word (es ++ u ∷ [])
has_more word u b [] h zero i = b
has_more word u b [] h (suc n) i = absurd (omega arith)
has_more word u b (t ∷ es) h zero i = h 0 (omega arith)
has_more word u b (t ∷ es) h (suc n) i = has_more word u b es (λ j k. h (suc j) (omega arith)) n (omega arith)

-- a chain, one lag longer
reaches_more : (m : ℕ) (L : Lags) (over e u v : ℕ) → bit_at over u ≡ 1 → ReachesOver m L over e u → v < m → L v u ≢ None → ReachesOver m L over e v
reaches_more m L over e u v b c v_in n =
    let a = known_row (L v u) n in
    let u_in : u < m = chain_to m L c.0 e u c.1 c.2 in
    (c.0 ++ u ∷ [], plus c.1 a.0, Chain-join m L c.0 [] e u v c.1 a.0 c.2 (u_in, v_in, a.1), has_more over u b c.0 c.3)

module _ (m : ℕ) (L : Lags) (over e : ℕ) (few : m ≤ most_events) where
  pub visiting_first : (led_to visited : ℕ) → e < m → StandsFrom m L e led_to → Added 0 e visited → Visiting m L over e led_to visited
  visiting_first led_to visited inside stands one = record {
    chained = λ v small b.
        let p = (stands v small).0 b in
        let a = known_row (L v e) p.1 in
        ([], a.0, (inside, p.0, a.1), λ i h. absurd (omega arith));
    closed = λ u small b v v_in n. first u b v v_in n (cases_eq u e);
    begun = one.has;
  }
    where
      first : (u : ℕ) → bit_at visited u ≡ 1 → (v : ℕ) → v < m → L v u ≢ None → (u ≡ e) ⊎ (u ≡ e → ⊥) → bit_at led_to v ≡ 1
      first u b v v_in n (inl q) = (stands v (omega arith)).1 (v_in, subst (λ (i : ℕ). L v i ≢ None) q n)
      first u b v v_in n (inr d) = absurd (omega (arith, b, one.others u d, bit_at-zero u))

  module _ (reached visited : ℕ) (h : Visiting m L over e reached visited) (ahead left : ℕ) (shared : Shared reached over ahead) (apart : Without ahead visited left) where
    -- an event that is reached, to be gone over, and not yet visited
    module _ (u : ℕ) (small : u < 64) (next : bit_at left u ≡ 1) where
      opened : bit_at ahead u ≡ 1
      opened = ((apart u small).0 next).0

      found : bit_at reached u ≡ 1
      found = omega (arith, opened, shared u, bit_at-lt reached u)

      free : bit_at over u ≡ 1
      free = omega (arith, opened, shared u, bit_at-lt over u)

      pub visiting_in : u < m
      visiting_in = let c = h.chained u small found in chain_to m L c.0 e u c.1 c.2

      pub visiting_more : (after led_to both : ℕ) → Added visited u after → StandsFrom m L u led_to → Joined reached led_to both → Visiting m L over e both after
      visiting_more after led_to both one stands joined = record {
        chained = λ v small b. chained v small (joined_one reached led_to both joined v b);
        closed = λ t t_small b v v_in n. closed t t_small b v v_in n (cases_eq t u);
        begun = begun (cases_eq e u);
      }
        where
          chained : (v : ℕ) → v < 64 → (bit_at reached v ≡ 1) ⊎ (bit_at led_to v ≡ 1) → ReachesOver m L over e v
          chained v v_small (inl b) = h.chained v v_small b
          chained v v_small (inr b) =
              let p = (stands v v_small).0 b in
              reaches_more m L over e u v free (h.chained u small found) p.0 p.1

          closed : (t : ℕ) → t < 64 → bit_at after t ≡ 1 → (v : ℕ) → v < m → L v t ≢ None → (t ≡ u) ⊎ (t ≡ u → ⊥) → bit_at both v ≡ 1
          closed t t_small b v v_in n (inl q) =
              let set : bit_at led_to v ≡ 1 = (stands v (omega arith)).1 (v_in, subst (λ (i : ℕ). L v i ≢ None) q n) in
              joined_right reached led_to both joined v set
          closed t t_small b v v_in n (inr d) =
              joined_left reached led_to both joined v (h.closed t t_small (sym (one.others t d) ∙ b) v v_in n)

          begun : (e ≡ u) ⊎ (e ≡ u → ⊥) → bit_at after e ≡ 1
          begun (inl q) = ap (bit_at after) q ∙ one.has
          begun (inr d) = one.others e d ∙ h.begun

    -- none
    module _ (none : left ≡ 0) where
      visited_all : (u : ℕ) → u < 64 → bit_at reached u ≡ 1 → bit_at over u ≡ 1 → bit_at visited u ≡ 1
      visited_all u small b f = go (set_or_not visited u)
        where
          go : (bit_at visited u ≡ 0) ⊎ (bit_at visited u ≡ 1) → bit_at visited u ≡ 1
          go (inl c) =
              let set : bit_at left u ≡ 1 = (apart u small).1 (omega (arith, b, f, shared u), c) in
              absurd (omega (arith, set, ap (λ (x : ℕ). bit_at x u) none, bit_at-zero u))
          go (inr c) = c

      -- a chain from a visited event ends at a reached one
      chain_reached : (es : List ℕ) (u v : ℕ) (r : Row) → bit_at visited u ≡ 1 → Chain m L u es v r → HasAll over es → bit_at reached v ≡ 1
      chain_reached [] u v r b c f = h.closed u (omega (arith, c.0)) b v c.1 (λ q. some_none (sym c.2 ∙ q))
      chain_reached (t ∷ es) u v r b c f =
          let t_in : t < m = chain_from m L es t v c.1 c.4 in
          chain_reached es t v c.1 (visited_all t (omega arith) (h.closed u (omega (arith, c.2)) b t t_in (λ q. some_none (sym c.3 ∙ q))) (f 0 (omega arith))) c.4 (λ j k. f (suc j) (omega arith))

      pub visiting_all : ChainsOver m L over e reached
      visiting_all v small = (h.chained v small, λ c. chain_reached c.0 e v c.1 h.begun c.2 c.3)

-- over any events
pub chains_over_all : (m : ℕ) (L : Lags) → m ≤ most_events → (over e word : ℕ) → ((t : ℕ) → t < 64 → bit_at over t ≡ 1) → ChainsOver m L over e word → ChainsFrom m L e word
chains_over_all m L few over e word all chains v small =
    (λ b. let c = (chains v small).0 b in (c.0, c.1, c.2), λ c. (chains v small).1 (c.0, c.1, c.2, on_chain c.0 e c.1 c.2))
  where
    on_chain : (es : List ℕ) (u : ℕ) (r : Row) → Chain m L u es v r → HasAll over es
    on_chain [] u r c i h = absurd (omega arith)
    on_chain (t ∷ es) u r c zero h = let t_in : t < m = chain_from m L es t v c.1 c.4 in all t (omega (arith, few))
    on_chain (t ∷ es) u r c (suc n) h = on_chain es t c.1 c.4 n (omega arith)
