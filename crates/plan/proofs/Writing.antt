-- The first places of a row, written one after the other.
use Rattle.std.proofs.Common.{◌≡◌, ℕ, ◌+◌, ◌<◌, ◌⊎◌, List, ◌++◌, length, get_or, drop, set, None, Option, sym, ap, ◌∙◌, subst, inl, inr, arith}
use Rattle.std.proofs.lemmas.List.{get_or-set_same, get_or-set_other, get_or_append_left, drop_at, drop-set-lt, drop-drop}
use Rattle.std.proofs.lemmas.Bool.{cases_eq}
use Rattle.schedules.specs.Tables.{Overwritten}

module _ {T : Type 0} (F : ℕ → Option T) (row : List (Option T)) where
  pub written_more : (i : ℕ) (now : List (Option T)) (x : Option T) → i < length now → x ≡ F i → Overwritten F i row now → Overwritten F (i + 1) row (set now i x)
  written_more i now x h e w = (each, rest)
    where
      each : (v : ℕ) → v < i + 1 → get_or (set now i x) v None ≡ F v
      each v k = go (cases_eq v i)
        where
          go : (v ≡ i) ⊎ (v ≡ i → ⊥) → get_or (set now i x) v None ≡ F v
          go (inl p) = subst (λ (t : ℕ). get_or (set now i x) t None ≡ F t) (sym p) (get_or-set_same now i x None h ∙ e)
          go (inr p) = get_or-set_other now i v x None p ∙ w.0 v (omega arith)

      rest : drop (i + 1) (set now i x) ≡ drop (i + 1) row
      rest = drop-set-lt (i + 1) now i x (omega arith) ∙ sym (drop-drop 1 i now) ∙ ap (drop 1) w.1 ∙ drop-drop 1 i row

  -- a row whose first places were written as a row of their own
  pub written_front : (n : ℕ) (front : List (Option T)) → length front ≡ n → ((e : ℕ) → e < n → get_or front e None ≡ F e) → Overwritten F n row (front ++ drop n row)
  written_front n front len each =
      (λ e h. get_or_append_left front (drop n row) None e (subst (λ (k : ℕ). e < k) (sym len) h) ∙ each e h, drop_at front (drop n row) n len)
