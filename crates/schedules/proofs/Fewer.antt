-- Chains and loops over some of the lags.
use Rattle.std.proofs.Common.{◌≡◌, ℕ, ◌<◌, Bool, true, false, cond, ◌≢◌, List, [], ◌∷◌, Some, None, Option, refl, ◌∙◌}
use Rattle.std.proofs.lemmas.Bool.{cond-true}
use Rattle.rows.specs.Rows.{Row}
use Rattle.rows.proofs.Options.{none_or_some}
use Rattle.schedules.specs.Plans.{Lags, Wide, Limited, Chain, Loop, lags_into}
use Rattle.schedules.proofs.Chains.{chain_from}

-- every lag of L between m events is one of M
abbrev pub HasLags : ℕ → Lags → Lags → Type 0
HasLags m L M = (v u : ℕ) (a : Row) → v < m → u < m → L v u ≡ Some a → M v u ≡ Some a

module _ (m : ℕ) (L M : Lags) (has : HasLags m L M) where
  pub chain_kept : (es : List ℕ) (u v : ℕ) (r : Row) → Chain m L u es v r → Chain m M u es v r
  chain_kept [] u v r c = (c.0, c.1, has v u r c.1 c.0 c.2)
  chain_kept (t ∷ es) u v r c =
      (c.0, c.1, c.2, has t u c.0 (chain_from m L es t v c.1 c.4) c.2 c.3, chain_kept es t v c.1 c.4, c.5)

  pub loop_kept : (w : ℕ) (es : List ℕ) → Loop w m L es → Loop w m M es
  loop_kept w [] l = l
  loop_kept w (e ∷ es) l = (l.0, l.1, (l.2.0, (chain_kept es e e l.2.0 l.2.1.0, l.2.1.1)))

there : (b : Bool) (o : Option Row) (a : Row) → cond b o None ≡ Some a → (b ≡ true) × (o ≡ Some a)
there true o a e = (refl, e)
there false o a e = none_or_some a e

-- the lags into a set of events

pub into_there : (b : Bool) (o : Option Row) → cond b o None ≢ None → (b ≡ true) × (o ≢ None)
into_there true o n = (refl, n)
into_there false o n = absurd (n refl)

module _ (inside : ℕ → Bool) (L : Lags) where
  into_lag : (v u : ℕ) (a : Row) → lags_into inside L v u ≡ Some a → (inside v ≡ true) × (L v u ≡ Some a)
  into_lag v u a e = there (inside v) (L v u) a e

  pub into_has : (m : ℕ) → HasLags m (lags_into inside L) L
  into_has m v u a v_in u_in e = (into_lag v u a e).1

  pub into_wide : (w m : ℕ) → Wide w m L → Wide w m (lags_into inside L)
  into_wide w m wide v u a v_in u_in e = wide v u a v_in u_in (into_lag v u a e).1

  pub into_limited : (b m : ℕ) → Limited b m L → Limited b m (lags_into inside L)
  into_limited b m limited v u a v_in u_in e = limited v u a v_in u_in (into_lag v u a e).1

  module _ (m : ℕ) where
    pub into_end : (es : List ℕ) (u v : ℕ) (r : Row) → Chain m (lags_into inside L) u es v r → inside v ≡ true
    into_end [] u v r c = (into_lag v u r c.2).0
    into_end (t ∷ es) u v r c = into_end es t v c.1 c.4

    -- where no lag leads into the set from outside it, a chain that ends in it is inside
    module _ (closed : (v u : ℕ) (a : Row) → v < m → u < m → L v u ≡ Some a → inside v ≡ true → inside u ≡ true) where
      into_chain : (es : List ℕ) (u v : ℕ) (r : Row) → Chain m L u es v r → inside v ≡ true → (inside u ≡ true) × Chain m (lags_into inside L) u es v r
      into_chain [] u v r c b =
          (closed v u r c.1 c.0 c.2 b, (c.0, c.1, cond-true (inside v) (L v u) None b ∙ c.2))
      into_chain (t ∷ es) u v r c b =
          let rest = into_chain es t v c.1 c.4 b in
          let t_in : t < m = chain_from m L es t v c.1 c.4 in
          (closed t u c.0 t_in c.2 c.3 rest.0, (c.0, c.1, c.2, cond-true (inside t) (L t u) None rest.0 ∙ c.3, rest.1, c.5))

      -- and a loop through one of its events
      pub into_loop : (w e : ℕ) (es : List ℕ) → Loop w m L (e ∷ es) → inside e ≡ true → Loop w m (lags_into inside L) (e ∷ es)
      into_loop w e es l b = (l.0, l.1, (l.2.0, ((into_chain es e e l.2.0 l.2.1.0 b).1, l.2.1.1)))
