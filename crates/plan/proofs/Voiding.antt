-- The places of an event, emptied pair by pair.
use Rattle.std.proofs.Common.{◌≡◌, ℕ, ◌+◌, ◌*◌, ◌<◌, ◌⊎◌, List, length, get_or, set, None, Option, sym, ap, ◌∙◌, subst, inl, inr, arith}
use Rattle.std.proofs.lemmas.Bool.{cases_eq}
use Rattle.std.proofs.lemmas.List.{length-set}
use Rattle.schedules.specs.Tables.{place, Cleared}
use Rattle.plan.proofs.Places.{set_pair, set_other_pair}

-- the pair is one of the event e with an event below i
abbrev pub Met : ℕ → ℕ → ℕ → ℕ → Type 0
Met e i v u = ((v ≡ e) × (u < i)) ⊎ ((u ≡ e) × (v < i))

-- those pairs' places are empty, and the others as they were, as many as before
pub record ClearedBelow {A : Type 0} (m e i : ℕ) (table after : List (Option A)) : Type 0 where
  pub places : length after ≡ length table
  pub emptied : (v u : ℕ) → v < m → u < m → Met e i v u → get_or after (place m v u) None ≡ None
  pub kept : (v u : ℕ) → v < m → u < m → (Met e i v u → ⊥) → get_or after (place m v u) None ≡ get_or table (place m v u) None

-- a pair is (t, s) or not
pub data Pair (v u t s : ℕ) : Type 0 where
  same : v ≡ t → u ≡ s → Pair v u t s
  other : (((v ≡ t) × (u ≡ s)) → ⊥) → Pair v u t s

pub pair : (v u t s : ℕ) → Pair v u t s
pair v u t s = go (cases_eq v t) (cases_eq u s)
  where
    go : (v ≡ t) ⊎ (v ≡ t → ⊥) → (u ≡ s) ⊎ (u ≡ s → ⊥) → Pair v u t s
    go (inl p) (inl q) = same p q
    go (inl p) (inr q) = other (λ h. q h.1)
    go (inr p) (inl q) = other (λ h. p h.0)
    go (inr p) (inr q) = other (λ h. p h.0)

module _ {A : Type 0} (m e i : ℕ) (table t1 : List (Option A)) (in_e : e < m) (in_i : i < m) (len : length t1 ≡ m * m) where
  t2 : List (Option A)
  t2 = set t1 (place m e i) None

  t3 : List (Option A)
  t3 = set t2 (place m i e) None

  len2 : length t2 ≡ m * m
  unfolding t2
  len2 = length-set t1 (place m e i) None ∙ len

  at_column : get_or t3 (place m i e) None ≡ None
  unfolding t3
  at_column = set_pair m t2 i e None None len2 in_i in_e

  past_column : (v u : ℕ) → u < m → (((v ≡ i) × (u ≡ e)) → ⊥) → get_or t3 (place m v u) None ≡ get_or t2 (place m v u) None
  unfolding t3
  past_column v u k ne = set_other_pair m t2 i e v u None None in_e k ne

  at_row : get_or t2 (place m e i) None ≡ None
  unfolding t2
  at_row = set_pair m t1 e i None None len in_e in_i

  past_row : (v u : ℕ) → u < m → (((v ≡ e) × (u ≡ i)) → ⊥) → get_or t2 (place m v u) None ≡ get_or t1 (place m v u) None
  unfolding t2
  past_row v u k ne = set_other_pair m t1 e i v u None None in_i k ne

  fewer : (v u : ℕ) → (((v ≡ i) × (u ≡ e)) → ⊥) → (((v ≡ e) × (u ≡ i)) → ⊥) → Met e (i + 1) v u → Met e i v u
  fewer v u out_column out_row (inl p) = inl (p.0, go (cases_eq u i))
    where
      go : (u ≡ i) ⊎ (u ≡ i → ⊥) → u < i
      go (inl q) = absurd (out_row (p.0, q))
      go (inr q) = let h : u < i + 1 = p.1 in omega arith
  fewer v u out_column out_row (inr p) = inr (p.0, go (cases_eq v i))
    where
      go : (v ≡ i) ⊎ (v ≡ i → ⊥) → v < i
      go (inl q) = absurd (out_column (q, p.0))
      go (inr q) = let h : v < i + 1 = p.1 in omega arith

  more : (v u : ℕ) → Met e i v u → Met e (i + 1) v u
  more v u (inl p) = inl (p.0, omega arith)
  more v u (inr p) = inr (p.0, omega arith)

  emptied_more : ClearedBelow m e i table t1 → (v u : ℕ) → v < m → u < m → Met e (i + 1) v u → get_or t3 (place m v u) None ≡ None
  emptied_more inv v u h k met = go (pair v u i e) (pair v u e i)
    where
      go : Pair v u i e → Pair v u e i → get_or t3 (place m v u) None ≡ None
      go (same p q) r = rw (p, q) at_column
      go (other p) (same q r) = past_column v u k p ∙ rw (q, r) at_row
      go (other p) (other q) = past_column v u k p ∙ past_row v u k q ∙ inv.emptied v u h k (fewer v u p q met)

  kept_more : ClearedBelow m e i table t1 → (v u : ℕ) → v < m → u < m → (Met e (i + 1) v u → ⊥) → get_or t3 (place m v u) None ≡ get_or table (place m v u) None
  kept_more inv v u h k out =
      past_column v u k (λ p. out (inr (p.1, lt_more v p.0))) ∙ past_row v u k (λ p. out (inl (p.0, lt_more u p.1))) ∙ inv.kept v u h k (λ met. out (more v u met))
    where
      lt_more : (w : ℕ) → w ≡ i → w < i + 1
      lt_more w p = omega arith

  cleared_sets : ClearedBelow m e i table t1 → ClearedBelow m e (i + 1) table (set (set t1 (place m e i) None) (place m i e) None)
  unfolding t2 t3
  cleared_sets inv = record {
    places = length-set t2 (place m i e) None ∙ length-set t1 (place m e i) None ∙ inv.places;
    emptied = emptied_more inv;
    kept = kept_more inv;
  }

pub cleared_more : {A : Type 0} (m e i : ℕ) (table now mid after : List (Option A)) → e < m → i < m → length now ≡ m * m → mid ≡ set now (place m e i) None → after ≡ set mid (place m i e) None → ClearedBelow m e i table now → ClearedBelow m e (i + 1) table after
cleared_more m e i table now mid after h k len p q inv =
    subst (ClearedBelow m e (i + 1) table) (sym (q ∙ ap (λ t. set t (place m i e) None) p)) (cleared_sets m e i table now h k len inv)

pub cleared_all : {A : Type 0} (m e : ℕ) (table after : List (Option A)) → ClearedBelow m e m table after → Cleared m (λ v. v ≡ e) table after
cleared_all m e table after c =
    record {
      places = c.places;
      emptied = λ v u h k p. c.emptied v u h k (met v u h k p);
      kept = λ v u h k out. c.kept v u h k (λ p. out (unmet v u p));
    }
  where
    met : (v u : ℕ) → v < m → u < m → (v ≡ e) ⊎ (u ≡ e) → Met e m v u
    met v u h k (inl p) = inl (p, k)
    met v u h k (inr p) = inr (p, h)

    unmet : (v u : ℕ) → Met e m v u → (v ≡ e) ⊎ (u ≡ e)
    unmet v u (inl p) = inl p.0
    unmet v u (inr p) = inr p.0
