-- Places of pairs of events.
use Rattle.std.proofs.Common.{◌≡◌, ℕ, ◌*◌, ◌/◌, ◌%◌, ◌<◌, List, length, get_or, set, sym, ap, ◌∙◌, subst, get_or-set_other, get_or-set_same}
use Rattle.std.proofs.lemmas.Nat.{mul-add-lt, div-mul-add, mod-mul-add}
use Rattle.schedules.specs.Tables.{place}

pub place_below : (m v u : ℕ) → v < m → u < m → place m v u < m * m
place_below m v u h k = mul-add-lt v m u m h k

pub place_to : (m v u : ℕ) → u < m → place m v u / m ≡ v
place_to m v u h = div-mul-add v m u h

pub place_from : (m v u : ℕ) → u < m → place m v u % m ≡ u
place_from m v u h = mod-mul-add v m u h

-- two pairs at one place are one pair
pub same_pair : (m v u t s : ℕ) → u < m → s < m → place m v u ≡ place m t s → (v ≡ t) × (u ≡ s)
same_pair m v u t s h k e =
    (sym (place_to m v u h) ∙ ap (λ (p : ℕ). p / m) e ∙ place_to m t s k, sym (place_from m v u h) ∙ ap (λ (p : ℕ). p % m) e ∙ place_from m t s k)

-- what a write at one pair leaves at another
pub set_pair : {A : Type 0} (m : ℕ) (xs : List A) (t s : ℕ) (a d : A) → length xs ≡ m * m → t < m → s < m → get_or (set xs (place m t s) a) (place m t s) d ≡ a
set_pair m xs t s a d len h k = get_or-set_same xs (place m t s) a d (subst (λ (n : ℕ). place m t s < n) (sym len) (place_below m t s h k))

pub set_other_pair : {A : Type 0} (m : ℕ) (xs : List A) (t s v u : ℕ) (a d : A) → s < m → u < m → (((v ≡ t) × (u ≡ s)) → ⊥) → get_or (set xs (place m t s) a) (place m v u) d ≡ get_or xs (place m v u) d
set_other_pair m xs t s v u a d k h ne = get_or-set_other xs (place m t s) (place m v u) a d (λ e. ne (same_pair m v u t s h k e))
