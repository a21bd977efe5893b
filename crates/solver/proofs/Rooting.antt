-- Roots taken one after the other, until chains of lags from them reach all events of a word.
use Rattle.std.proofs.Common.{◌≡◌, ℕ, ◌<◌, ◌⊎◌, ◌++◌, ◌∷◌, sym, ap, ◌∙◌, subst, inl, inr, arith}
use Rattle.std.proofs.lemmas.Bool.{cases_eq}
use Rattle.std.proofs.lemmas.Nat.Bits.{bit_at-zero}
use Rattle.std.specs.Int.{bit_at}
use Rattle.rows.specs.Rows.{plus}
use Rattle.schedules.specs.Plans.{Lags, Reaches}
use Rattle.schedules.proofs.Rotation.{Chain-join}
use Rattle.solver.specs.Words.{Added, ChainsOver, FromRoots, Joined, RootsOf, Split, Without}
use Rattle.solver.proofs.Bits.{joined_one, set_or_not}

-- a chain on from where another ends
pub reaches_on : (m : ℕ) (L : Lags) (e u v : ℕ) → Reaches m L e u → Reaches m L u v → Reaches m L e v
reaches_on m L e u v c d = (c.0 ++ u ∷ d.0, plus c.1 d.1, Chain-join m L c.0 d.0 e u v c.1 d.1 c.2 d.2)

-- every root is in the word, what was seen is reached from them, and so is every event of the word
-- that is not left
pub record Rooting (m : ℕ) (L : Lags) (word left seen roots : ℕ) : Type 0 where
  pub left_in : (v : ℕ) → v < 64 → bit_at left v ≡ 1 → bit_at word v ≡ 1
  pub roots_in : (v : ℕ) → v < 64 → bit_at roots v ≡ 1 → bit_at word v ≡ 1
  pub seen_from : (v : ℕ) → v < 64 → bit_at seen v ≡ 1 → FromRoots m L roots v
  pub reached : (v : ℕ) → v < 64 → bit_at word v ≡ 1 → bit_at left v ≡ 0 → FromRoots m L roots v

module _ (m : ℕ) (L : Lags) (word : ℕ) where
  pub rooting_none : Rooting m L word word 0 0
  rooting_none = record {
    left_in = λ v small b. b;
    roots_in = λ v small b. absurd (omega (arith, b, bit_at-zero v));
    seen_from = λ v small b. absurd (omega (arith, b, bit_at-zero v));
    reached = λ v small b c. absurd (omega (arith, b, c));
  }

  module _ (left seen roots : ℕ) (h : Rooting m L word left seen roots) where
    pub rooting_all : left ≡ 0 → RootsOf m L word roots
    rooting_all e = record { inside = h.roots_in; reached = λ v small b. h.reached v small b (ap (λ (r : ℕ). bit_at r v) e ∙ bit_at-zero v) }

    pub rooting_more : (over e others found both joined known kept : ℕ) → Split left e others → ChainsOver m L over e found → Added roots e both → Joined seen found joined → Added joined e known → Without others known kept → Rooting m L word kept known both
    rooting_more over e others found both joined known kept split chains one join with keep = record {
      left_in = λ v small b. left_in v small b (cases_eq v e);
      roots_in = λ v small b. roots_in v small b (cases_eq v e);
      seen_from = λ v small b. seen_from v small b (cases_eq v e);
      reached = λ v small b c. reached v small b c (cases_eq v e) (set_or_not left v) (set_or_not known v);
    }
      where
        left_in : (v : ℕ) → v < 64 → bit_at kept v ≡ 1 → (v ≡ e) ⊎ (v ≡ e → ⊥) → bit_at word v ≡ 1
        left_in v small b (inl q) = subst (λ (i : ℕ). bit_at word i ≡ 1) (sym q) (h.left_in e split.inside split.has)
        left_in v small b (inr d) = h.left_in v small (sym (split.others v small d) ∙ ((keep v small).0 b).0)

        roots_in : (v : ℕ) → v < 64 → bit_at both v ≡ 1 → (v ≡ e) ⊎ (v ≡ e → ⊥) → bit_at word v ≡ 1
        roots_in v small b (inl q) = subst (λ (i : ℕ). bit_at word i ≡ 1) (sym q) (h.left_in e split.inside split.has)
        roots_in v small b (inr d) = h.roots_in v small (sym (one.others v d) ∙ b)

        from_event : (v : ℕ) → (v ≡ e) ⊎ Reaches m L e v → FromRoots m L both v
        from_event v c = (e, (split.inside, one.has), c)

        -- the roots so far are roots still
        still : (v : ℕ) → FromRoots m L roots v → FromRoots m L both v
        still v f = (f.0, (f.1.0, set (cases_eq f.0 e)), f.2)
          where
            set : (f.0 ≡ e) ⊎ (f.0 ≡ e → ⊥) → bit_at both f.0 ≡ 1
            set (inl q) = ap (bit_at both) q ∙ one.has
            set (inr d) = one.others f.0 d ∙ f.1.1

        joined_from : (v : ℕ) → v < 64 → (bit_at seen v ≡ 1) ⊎ (bit_at found v ≡ 1) → FromRoots m L both v
        joined_from v small (inl b) = still v (h.seen_from v small b)
        joined_from v small (inr b) = let c = (chains v small).0 b in from_event v (inr (c.0, c.1, c.2))

        seen_from : (v : ℕ) → v < 64 → bit_at known v ≡ 1 → (v ≡ e) ⊎ (v ≡ e → ⊥) → FromRoots m L both v
        seen_from v small b (inl q) = from_event v (inl q)
        seen_from v small b (inr d) = joined_from v small (joined_one seen found joined join v (sym (with.others v d) ∙ b))

        reached : (v : ℕ) → v < 64 → bit_at word v ≡ 1 → bit_at kept v ≡ 0 → (v ≡ e) ⊎ (v ≡ e → ⊥) → (bit_at left v ≡ 0) ⊎ (bit_at left v ≡ 1) → (bit_at known v ≡ 0) ⊎ (bit_at known v ≡ 1) → FromRoots m L both v
        reached v small b c (inl q) l k = from_event v (inl q)
        reached v small b c (inr d) (inl z) k = still v (h.reached v small b z)
        reached v small b c (inr d) (inr s) (inr k) = seen_from v small k (inr d)
        reached v small b c (inr d) (inr s) (inl k) =
            let set : bit_at kept v ≡ 1 = (keep v small).1 (split.others v small d ∙ s, k) in
            absurd (omega (arith, set, c))

-- the roots of roots are roots

pub roots_of_roots : (m : ℕ) (L : Lags) (word starts roots : ℕ) → RootsOf m L word starts → RootsOf m L starts roots → RootsOf m L word roots
roots_of_roots m L word starts roots f g = record {
  inside = λ e small b. f.inside e small (g.inside e small b);
  reached = λ v small b. let s = f.reached v small b in from s.2 (g.reached s.0 s.1.0 s.1.1);
}
  where
    join : (r s v : ℕ) → (s ≡ r) ⊎ Reaches m L r s → (v ≡ s) ⊎ Reaches m L s v → (v ≡ r) ⊎ Reaches m L r v
    join r s v (inl p) d = subst (λ (i : ℕ). (v ≡ i) ⊎ Reaches m L i v) p d
    join r s v (inr c) (inl q) = inr (subst (Reaches m L r) (sym q) c)
    join r s v (inr c) (inr d) = inr (reaches_on m L r s v c d)

    from : {s v : ℕ} → (v ≡ s) ⊎ Reaches m L s v → FromRoots m L roots s → FromRoots m L roots v
    from {s} {v} c r = (r.0, r.1, join r.0 s v r.2 c)
