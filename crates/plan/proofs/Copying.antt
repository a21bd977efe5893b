-- What holds of totals holds of the answer row that they are copied to.
use Rattle.std.proofs.Common.{◌≡◌, ℕ, ◌<◌, List, get_or, Some, None, Option, refl, sym, ap, ◌∙◌, subst}
use Rattle.std.specs.Option.{option_map}
use Rattle.rows.specs.Rows.{Row}
use Rattle.schedules.specs.Tables.{times, Overwritten}

pub inner_map : {S T : Type 0} (row : T → Row) (inner : S → T) (o : Option S) → option_map row (option_map inner o) ≡ option_map (λ s. row (inner s)) o
inner_map row inner None = refl
inner_map row inner (Some s) = refl

module _ {T : Type 0} (row : T → Row) (P : ℕ → Option Row → Type 0) (m : ℕ) where
  pub copied : (from answer after : List (Option T)) → Overwritten (λ e. get_or from e None) m answer after → ((e : ℕ) → e < m → P e (times row from e)) → (e : ℕ) → e < m → P e (times row after e)
  copied from answer after w h e l = subst (P e) (sym (ap (option_map row) (w.0 e l))) (h e l)

  -- the same of totals that are taken out of others
  pub copied_inner : {S : Type 0} (inner : S → T) (from : List (Option S)) (answer after : List (Option T))
      → Overwritten (λ e. option_map inner (get_or from e None)) m answer after
      → ((e : ℕ) → e < m → P e (times (λ s. row (inner s)) from e)) → (e : ℕ) → e < m → P e (times row after e)
  copied_inner inner from answer after w h e l =
      subst (P e) (sym (ap (option_map row) (w.0 e l) ∙ inner_map row inner (get_or from e None))) (h e l)
