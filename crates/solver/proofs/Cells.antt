-- What rows of totals mean, place by place.
use Rattle.std.proofs.Common.{◌≡◌, ℕ, ◌<◌, List, length, get_or, set, get_or-set_other, get_or-set_same, Some, None, Option, sym, refl, ap}
use Rattle.std.proofs.lemmas.List.{get_or_read}
use Rattle.std.specs.Option.{option_map}
use Rattle.rows.specs.Rows.{Row, plus, Within}
use Rattle.rows.specs.Limits.{total_limit}
use Rattle.rows.specs.MaxPlus.{added}
use Rattle.schedules.proofs.Optional.{WideRow}
use Rattle.schedules.proofs.Rounds.{WideTotals}
use Rattle.schedules.specs.Tables.{times}
use Rattle.solver.specs.Networks.{SumAlong}

mapped_rowed : {A : Type 0} (w : ℕ) (row : A → Row) → ((total : A) → length (row total) ≡ w) → (o : Option A) → WideRow w (option_map row o)
mapped_rowed w row wide None = tt
mapped_rowed w row wide (Some total) = wide total

-- totals of a kind have its width
pub times_sized : {A : Type 0} (w m : ℕ) (row : A → Row) → ((total : A) → length (row total) ≡ w) → (xs : List (Option A)) → WideTotals w m (times row xs)
times_sized w m row wide xs v v_in = mapped_rowed w row wide (get_or xs v None)

-- what a place read by the program means
pub cell_is : {A : Type 0} (row : A → Row) (xs : List (Option A)) (i : ℕ) (x : Option A) → i < length xs → x ≡ get_or xs i x → times row xs i ≡ option_map row x
cell_is row xs i x h e = ap (option_map row) (sym (get_or_read xs i x h e None))

-- the sum along a lag, where it is inside the limit, is the sum of what they mean
pub SumAlong-added : {A : Type 0} (row : A → Row) (total : A) (l : Option Row) (r : Option A) → ((a : Row) → l ≡ Some a → Within total_limit (plus (row total) a)) → SumAlong row total l r → added (Some (row total)) l ≡ option_map row r
SumAlong-added row total None r inside f = ap (option_map row) (sym f)
SumAlong-added row total (Some a) None inside f = absurd (f (inside a refl))
SumAlong-added row total (Some a) (Some sum) inside f = ap (λ (t : Row). Some t) (sym f.1)

-- a row of totals after a write

pub times_set_same : {A : Type 0} (row : A → Row) (xs : List (Option A)) (n : ℕ) (x : Option A) → n < length xs → times row (set xs n x) n ≡ option_map row x
times_set_same row xs n x h = ap (option_map row) (get_or-set_same xs n x None h)

pub times_set_other : {A : Type 0} (row : A → Row) (xs : List (Option A)) (n : ℕ) (x : Option A) (v : ℕ) → (v ≡ n → ⊥) → times row (set xs n x) v ≡ times row xs v
times_set_other row xs n x v d = ap (option_map row) (get_or-set_other xs n v x None d)
