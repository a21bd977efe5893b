-- An answer row, written stage by stage.
use Rattle.std.proofs.Common.{◌≡◌, ℕ, suc, ◌+◌, ◌-◌, ◌*◌, ◌<◌, ◌≤◌, ◌⊎◌, List, length, get_or, drop, set, None, Option, sym, ap, ◌∙◌, subst, inl, inr, arith}
use Rattle.std.proofs.lemmas.List.{length-set, get_or-set_same, get_or-set_other, drop-set-lt, drop-drop}
use Rattle.std.proofs.lemmas.Bool.{cases_lt}
use Rattle.std.specs.Option.{option_map}
use Rattle.rows.specs.Rows.{Row}
use Rattle.schedules.specs.Tables.{start, finish, times}
use Rattle.plan.specs.Filling.{Staged}

module _ {T : Type 0} (P : ℕ → Option T × Option T → Type 0) (k : ℕ) (former now : List (Option T)) (r : Option T × Option T) (room : 2 * k + 2 < length now) (old : Staged P k former now) (this : P k r) where
  abbrev next : List (Option T)
  next = set (set now (2 * k + 1) r.0) (2 * k + 2) r.1

  below : (i : ℕ) → i ≤ 2 * k → get_or next i None ≡ get_or now i None
  below i h =
      get_or-set_other (set now (2 * k + 1) r.0) (2 * k + 2) i r.1 None (λ e. omega arith) ∙ get_or-set_other now (2 * k + 1) i r.0 None (λ e. omega arith)

  at_start : get_or next (2 * k + 1) None ≡ r.0
  at_start =
      get_or-set_other (set now (2 * k + 1) r.0) (2 * k + 2) (2 * k + 1) r.1 None (λ e. omega arith) ∙ get_or-set_same now (2 * k + 1) r.0 None (omega arith)

  at_finish : get_or next (2 * k + 2) None ≡ r.1
  at_finish = get_or-set_same (set now (2 * k + 1) r.0) (2 * k + 2) r.1 None (simp length-set room)

  behind : drop (2 * (k + 1) + 1) next ≡ drop (2 * (k + 1) + 1) former
  behind =
      let more : 2 * (k + 1) + 1 ≡ (2 * k + 1) + 2 = omega arith in
      drop-set-lt (2 * (k + 1) + 1) (set now (2 * k + 1) r.0) (2 * k + 2) r.1 (omega arith)
      ∙ drop-set-lt (2 * (k + 1) + 1) now (2 * k + 1) r.0 (omega arith)
      ∙ ap (λ (i : ℕ). drop i now) more ∙ sym (drop-drop 2 (2 * k + 1) now) ∙ ap (drop 2) old.rest ∙ drop-drop 2 (2 * k + 1) former ∙ ap (λ (i : ℕ). drop i former) (sym more)

  stages : (j : ℕ) → j < k + 1 → (q : Option T × Option T) × P j q × (get_or next (2 * j + 1) None ≡ q.0) × (get_or next (2 * j + 2) None ≡ q.1)
  stages j l = go (cases_lt j k)
    where
      go : (j < k) ⊎ (k ≤ j) → (q : Option T × Option T) × P j q × (get_or next (2 * j + 1) None ≡ q.0) × (get_or next (2 * j + 2) None ≡ q.1)
      go (inl b) = let s = old.stages j b in (s.0, s.1, below (2 * j + 1) (omega arith) ∙ s.2, below (2 * j + 2) (omega arith) ∙ s.3)
      go (inr b) =
          let same : k ≡ j = omega arith in
          subst (λ (i : ℕ). (q : Option T × Option T) × P i q × (get_or next (2 * i + 1) None ≡ q.0) × (get_or next (2 * i + 2) None ≡ q.1)) same (r, this, at_start, at_finish)

  pub staged_step : Staged P (k + 1) former next
  staged_step = record { opening = below 0 (omega arith) ∙ old.opening; stages = stages; rest = behind }

-- what the row means where the pairs of P have what S and F say
pub record Filled {T : Type 0} (row : T → Row) (S F : ℕ → Option Row → Type 0) (n : ℕ) (after : List (Option T)) : Type 0 where
  pub opening : times row after 0 ≡ None
  pub starts : (k : ℕ) → 1 ≤ k → k ≤ n → S k (times row after (start k))
  pub finishes : (k : ℕ) → 1 ≤ k → k ≤ n → F k (times row after (finish k))

module _ {T : Type 0} (row : T → Row) (S F : ℕ → Option Row → Type 0) (P : ℕ → Option T × Option T → Type 0) (n : ℕ) (former after : List (Option T)) where
  pub filled : Staged P n former after → ((k : ℕ) (r : Option T × Option T) → k < n → P k r → S (suc k) (option_map row r.0) × F (suc k) (option_map row r.1)) → Filled row S F n after
  filled h each = record {
    opening = ap (option_map row) h.opening;
    starts = λ k low high.
        let s = h.stages (k - 1) (omega arith) in
        let at : 2 * (k - 1) + 1 ≡ start k = omega arith in
        let same : suc (k - 1) ≡ k = omega arith in
        subst (λ (i : ℕ). S k (times row after i)) at (subst (S k) (sym (ap (option_map row) s.2)) (subst (λ (i : ℕ). S i (option_map row s.0.0)) same (each (k - 1) s.0 (omega arith) s.1).0));
    finishes = λ k low high.
        let s = h.stages (k - 1) (omega arith) in
        let at : 2 * (k - 1) + 2 ≡ finish k = omega arith in
        let same : suc (k - 1) ≡ k = omega arith in
        subst (λ (i : ℕ). F k (times row after i)) at (subst (F k) (sym (ap (option_map row) s.3)) (subst (λ (i : ℕ). F i (option_map row s.0.1)) same (each (k - 1) s.0 (omega arith) s.1).1));
  }
