-- A table with one lag put in means the lags with that lag in stead of what stood there.
use Rattle.std.proofs.Common.{◌≡◌, ℕ, ◌*◌, ◌<◌, ◌≢◌, false, ◌&&◌, eqb, ◌⊎◌, List, length, get_or, take, set, Some, None, Option, sym, ap, ◌∙◌, ap₂, subst, inl, inr}
use Rattle.std.proofs.lemmas.List.{set-set, set-get_or}
use Rattle.std.proofs.lemmas.Bool.{eq-eqb, ne_eqb, and_from, and_left, and_right, cases_eq, cond-true, cond-false}
use Rattle.std.specs.Option.{option_map}
use Rattle.rows.specs.Rows.{Row}
use Rattle.schedules.specs.Plans.{Lags, KeepsLags, Schedule, Schedulable, Loop, with_lag}
use Rattle.schedules.proofs.Fewer.{loop_kept}
use Rattle.schedules.specs.Tables.{place, lags}
use Rattle.plan.proofs.Places.{set_pair, set_other_pair}
use Rattle.schedules.specs.Answers.{LeastTime, LoopSought}
use Rattle.schedules.proofs.Optional.{some_none}
use Rattle.solver.specs.Repairing.{KeepsOthers}
use Rattle.solver.specs.Words.{Noted, Stands}
use Rattle.solver.proofs.Noting.{Elsewhere, keeps_others, noted_stands}

-- lags that agree on the plan's events have the same schedules and the same loops

abbrev pub Agree : ℕ → Lags → Lags → Type 0
Agree m L M = (v u : ℕ) → v < m → u < m → L v u ≡ M v u

pub Agree-sym : (m : ℕ) (L M : Lags) → Agree m L M → Agree m M L
Agree-sym m L M same v u v_in u_in = sym (same v u v_in u_in)

module _ (w m : ℕ) (L M : Lags) (same : Agree m L M) where
  pub KeepsLags-same : (x : ℕ → Row) → KeepsLags w m L x → KeepsLags w m M x
  KeepsLags-same x s = record { wide = s.wide; keeps = λ v u a v_in u_in e. s.keeps v u a v_in u_in (same v u v_in u_in ∙ e) }

  pub Schedule-same : (x : ℕ → Row) → Schedule w m L x → Schedule w m M x
  Schedule-same x s = record { keeping = KeepsLags-same x s.keeping; opens = s.opens }

  pub Schedulable-same : Schedulable w m L → Schedulable w m M
  Schedulable-same s = (s.0, Schedule-same s.0 s.1)

-- and so each event has the same least time
pub LeastTime-same : (w m : ℕ) (L M : Lags) → Agree m L M → (e : ℕ) (x : Option Row) → LeastTime w m L e x → LeastTime w m M e x
LeastTime-same w m L M same e None free =
    λ r h.
    let t = free r h in
    (t.0, (Schedule-same w m L M same t.0 t.1.0, t.1.1))
LeastTime-same w m L M same e (Some r) t =
    record {
      attained = (t.attained.0, (Schedule-same w m L M same t.attained.0 t.attained.1.0, t.attained.1.1));
      least = λ x s. t.least x (Schedule-same w m M L (Agree-sym m L M same) x s);
    }

Loop-same : (w m : ℕ) (L M : Lags) → Agree m L M → (es : List ℕ) → Loop w m L es → Loop w m M es
Loop-same w m L M same = loop_kept m L M (λ v u a v_in u_in e. sym (same v u v_in u_in) ∙ e) w

pub sought_same : (w m : ℕ) (L M : Lags) → Agree m L M → (row after : List ℕ) (o : Option ℕ) → LoopSought w m L row after o → LoopSought w m M row after o
sought_same w m L M same row after None h = (Schedulable-same w m L M same h.0, h.1)
sought_same w m L M same row after (Some len) h = (h.0, Loop-same w m L M same (take len after) h.1, h.2)

module _ {A : Type 0} (m : ℕ) (amount : A → Row) (table : List (Option A)) (to from : ℕ) (lag : A) (parts : Row) (full : length table ≡ m * m) (to_in : to < m) (from_in : from < m) (made : amount lag ≡ parts) where
  put_elsewhere : Elsewhere m (lags amount m table) (lags amount m (set table (place m to from) (Some lag))) to from
  put_elsewhere v u v_in u_in ne = ap (option_map amount) (set_other_pair m table to from v u (Some lag) None from_in u_in (λ h. ne h.0 h.1))

  put_there : lags amount m (set table (place m to from) (Some lag)) to from ≡ Some parts
  put_there = ap (option_map amount) (set_pair m table to from (Some lag) None full to_in from_in) ∙ ap Some made

  pub put_agrees : Agree m (lags amount m (set table (place m to from) (Some lag))) (with_lag (lags amount m table) to from parts)
  put_agrees v u v_in u_in = go (cases_eq v to) (cases_eq u from)
    where
      L : Lags
      L = lags amount m table

      other : (((v ≡ to) × (u ≡ from)) → ⊥) → (eqb v to && eqb u from) ≡ false → lags amount m (set table (place m to from) (Some lag)) v u ≡ with_lag (lags amount m table) to from parts v u
      other ne f =
          put_elsewhere v u v_in u_in (λ p q. ne (p, q))
          ∙ sym (cond-false (eqb v to && eqb u from) (Some parts) (lags amount m table v u) f)

      go : (v ≡ to) ⊎ (v ≡ to → ⊥) → (u ≡ from) ⊎ (u ≡ from → ⊥) → lags amount m (set table (place m to from) (Some lag)) v u ≡ with_lag (lags amount m table) to from parts v u
      go (inl p) (inl q) =
          ap (λ (i : ℕ). option_map amount (get_or (set table (place m to from) (Some lag)) i None)) (ap₂ (place m) p q)
          ∙ put_there
          ∙ sym (cond-true (eqb v to && eqb u from) (Some parts) (lags amount m table v u) (and_from (eqb v to) (eqb u from) (eq-eqb v to p) (eq-eqb u from q)))
      go (inl p) (inr q) = other (λ h. q h.1) (and_right (eqb v to) (eqb u from) (ne_eqb u from q))
      go (inr p) r = other (λ h. p h.0) (and_left (eqb v to) (eqb u from) (ne_eqb v to p))

  -- so the table afterwards has the lag, and the others as before
  module _ (after : List (Option A)) (put : after ≡ set table (place m to from) (Some lag)) where
    after_there : lags amount m after to from ≢ None
    after_there q = some_none (sym put_there ∙ ap (λ (t : List (Option A)). lags amount m t to from) (sym put) ∙ q)

    after_elsewhere : Elsewhere m (lags amount m table) (lags amount m after) to from
    after_elsewhere = subst (λ (t : List (Option A)). Elsewhere m (lags amount m table) (lags amount m t) to from) (sym put) put_elsewhere

    -- as have the words in which it is noted
    pub after_stands : (words words_after : List ℕ) → from < length words_after → Noted words to from words_after → Stands m (lags amount m table) words → Stands m (lags amount m after) words_after
    after_stands words words_after = noted_stands m (lags amount m table) (lags amount m after) to from to_in after_there after_elsewhere words words_after from_in

    -- and times that kept every lag keep all but that one
    pub after_keeps : (w : ℕ) (x : ℕ → Row) → KeepsLags w m (lags amount m table) x → KeepsOthers m (lags amount m after) x to from
    after_keeps w x = keeps_others w m (lags amount m table) (lags amount m after) to from x after_elsewhere

  -- what the search for a loop says of the table with the lag put in, at the number of events of
  -- the call
  pub sought_put : (w n : ℕ) (after : List (Option A)) (row loop : List ℕ) (o : Option ℕ) → m ≡ n → after ≡ set table (place m to from) (Some lag) → LoopSought w m (lags amount m after) row loop o → LoopSought w n (with_lag (lags amount n table) to from parts) row loop o
  sought_put w n after row loop o same put h =
      let put_in = set table (place m to from) (Some lag) in
      let here = subst (λ t. LoopSought w m (lags amount m t) row loop o) put h in
      subst (λ k. LoopSought w k (with_lag (lags amount k table) to from parts) row loop o) same (sought_same w m (lags amount m put_in) (with_lag (lags amount m table) to from parts) put_agrees row loop o here)

-- what stood there, put back
pub put_back : {A : Type 0} (d : A) (xs after back : List A) (i : ℕ) (x stood : A) → after ≡ set xs i x → back ≡ set after i stood → stood ≡ get_or xs i d → back ≡ xs
put_back d xs after back i x stood p q r =
    q ∙ ap₂ (λ t y. set t i y) p r ∙ set-set xs i x (get_or xs i d) ∙ set-get_or xs i d
