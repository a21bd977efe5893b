-- The lags from one event followed, and every event of a word so, in any order.
use Rattle.std.proofs.Common.{◌≡◌, ℕ, ◌<◌, ◌≤◌, ◌⊎◌, IsTrue, Bool, true, false, List, Some, None, Option, Ordering, Less, Equal, Greater, sym, ap, ◌∙◌, subst, inl, inr, arith}
use Rattle.std.specs.Int.{bit_at}
use Rattle.std.specs.Option.{MatchOption, option_map}
use Rattle.std.specs.Ordering.{is_lt, MatchOrdering}
use Rattle.std.proofs.lemmas.Bool.{cases_eq, true≢false}
use Rattle.std.proofs.lemmas.Nat.Bits.{bit_at-zero}
use Rattle.rows.specs.Rows.{Row, plus, Before}
use Rattle.rows.specs.MaxPlus.{before, added}
use Rattle.rows.proofs.Order.{before_asym, NotBefore-same}
use Rattle.rows.proofs.Tests.{Decided, holds, fails, decided, before_true, before_false}
use Rattle.rows.proofs.Options.{both_some}
use Rattle.schedules.specs.Plans.{AtLeast, Lags, Totals, Wide}
use Rattle.schedules.specs.Rounds.{round}
use Rattle.schedules.specs.Tables.{times}
use Rattle.schedules.specs.Walks.{Source}
use Rattle.schedules.proofs.Joined.{folded_holds}
use Rattle.schedules.proofs.Optional.{AtLeast-antisym, AtLeast-refl, AtLeast-trans, Below, below_not_at_least, later_under, after_is}
use Rattle.schedules.proofs.Rounds.{WideTotals, round_rises, round_covers, into_rowed}
use Rattle.solver.specs.Raising.{beats, asked, Followed, Idle, WentRound}
use Rattle.solver.specs.Words.{Added, Among, Copied, Joined, Split}
use Rattle.solver.proofs.Bits.{set_or_not, split_among}

-- the test of the order

pub is_lt_before : (o : Ordering) (x y : Row) → MatchOrdering o (Before x y) (x ≡ y) (Before y x) → is_lt o ≡ before x y
is_lt_before o x y r = go o (before x y) r (decided x y)
  where
    go : (o : Ordering) (d : Bool) → MatchOrdering o (Before x y) (x ≡ y) (Before y x) → Decided x y d → is_lt o ≡ d
    go Less d r (holds e h) = sym e
    go Less d r (fails e n) = absurd (n r)
    go Equal d r (holds e h) = absurd (NotBefore-same x y r h)
    go Equal d r (fails e n) = sym e
    go Greater d r (holds e h) = absurd (before_asym y x r h)
    go Greater d r (fails e n) = sym e

-- what a test of the best so far tells, if there is one, tells `beats`
pub beats_is : {A : Type 0} (row : A → Row) (z : Row) (o : Option A) (b : Bool) (Q : A → Type 0) → ((x : A) → Q x → b ≡ before (row x) z) → MatchOption o (IsTrue b) Q → b ≡ beats z (option_map row o)
beats_is row z None b Q each h = h
beats_is row z (Some x) b Q each h = each x h

pub beats_below : (z : Row) (o : Option Row) → beats z o ≡ true → Below o (Some z)
beats_below z None e = tt
beats_below z (Some x) e = before_true x z e

pub unbeaten_at_least : (z : Row) (o : Option Row) → beats z o ≡ false → AtLeast o (Some z)
unbeaten_at_least z None e = absurd (true≢false e)
unbeaten_at_least z (Some x) e = before_false x z e

below_at_least : (o p : Option Row) → Below o p → AtLeast p o
below_at_least None p b = tt
below_at_least (Some x) None b = absurd b
below_at_least (Some x) (Some y) b = before_asym x y b

-- the lags from u followed, while the events of `rest` are still to come

pub record Following (m : ℕ) (L : Lags) (u : ℕ) (t : Row) (X Y : Totals) (was from : ℕ → ℕ) (rest word : ℕ) : Type 0 where
  pub left : Among m rest
  pub among : Among m word
  pub apart : (v : ℕ) → v < m → bit_at rest v ≡ 1 → bit_at word v ≡ 0
  pub stayed : (v : ℕ) → v < m → bit_at word v ≡ 0 → (Y v ≡ X v) × (from v ≡ was v)
  pub covers : (v : ℕ) → v < m → bit_at word v ≡ 0 → bit_at rest v ≡ 0 → AtLeast (X v) (asked L u t v)
  pub rose : (v : ℕ) → v < m → bit_at word v ≡ 1 → (from v ≡ u) × ((z : Row) × (asked L u t v ≡ Some z) × (Y v ≡ Some z) × (beats z (X v) ≡ true))

module _ (m : ℕ) (few : m ≤ 63) (L : Lags) (u : ℕ) (t : Row) (X : Totals) (was : ℕ → ℕ) where
  pub following_none : (Y : Totals) (from : ℕ → ℕ) (rest : ℕ) → Among m rest → ((v : ℕ) → v < m → Y v ≡ X v) → ((v : ℕ) → v < m → from v ≡ was v) → ((v : ℕ) → v < m → bit_at rest v ≡ 0 → L v u ≡ None) → Following m L u t X Y was from rest 0
  following_none Y from rest left same kept none = record {
    left = left;
    among = λ v in_word e. absurd (omega (arith, bit_at-zero v));
    apart = λ v v_in e. bit_at-zero v;
    stayed = λ v v_in e. (same v v_in, kept v v_in);
    covers = λ v v_in e r. subst (λ (l : Option Row). AtLeast (X v) (added (Some t) l)) (sym (none v v_in r)) tt;
    rose = λ v v_in e. absurd (omega (arith, bit_at-zero v));
  }

  pub followed_all : (Y : Totals) (from : ℕ → ℕ) (rest word : ℕ) → rest ≡ 0 → Following m L u t X Y was from rest word → Followed m L u t X Y was from word
  followed_all Y from rest word e h = record {
    among = h.among;
    stayed = λ v v_in b. ((h.stayed v v_in b).0, (h.stayed v v_in b).1, h.covers v v_in b (ap (λ (r : ℕ). bit_at r v) e ∙ bit_at-zero v));
    rose = h.rose;
  }

  module _ (Y : Totals) (from : ℕ → ℕ) (rest word : ℕ) (h : Following m L u t X Y was from rest word) (e left : ℕ) (split : Split rest e left) where
    pub event_in : e < m
    event_in = h.left e split.inside split.has

    same_bit : (v : ℕ) → v < m → (v ≡ e → ⊥) → bit_at left v ≡ bit_at rest v
    same_bit v v_in d = split.others v (omega arith) d

    among_left : Among m left
    among_left = split_among m rest e left split h.left

    unset_here : bit_at word e ≡ 0
    unset_here = h.apart e event_in split.has

    pub here : Y e ≡ X e
    here = (h.stayed e event_in unset_here).0

    apart_left : (v : ℕ) → v < m → bit_at left v ≡ 1 → bit_at word v ≡ 0
    apart_left v v_in b = go (cases_eq v e)
      where
        go : (v ≡ e) ⊎ (v ≡ e → ⊥) → bit_at word v ≡ 0
        go (inl q) = absurd (let z : bit_at left v ≡ 0 = ap (bit_at left) q ∙ split.gone in omega arith)
        go (inr d) = h.apart v v_in (sym (same_bit v v_in d) ∙ b)

    -- an event of which no more is asked than it has
    pub followed_past : AtLeast (Y e) (asked L u t e) → Following m L u t X Y was from left word
    followed_past enough = record {
      left = among_left;
      among = h.among;
      apart = apart_left;
      stayed = h.stayed;
      covers = λ v v_in b r. go v v_in b r (cases_eq v e);
      rose = h.rose;
    }
      where
        go : (v : ℕ) → v < m → bit_at word v ≡ 0 → bit_at left v ≡ 0 → (v ≡ e) ⊎ (v ≡ e → ⊥) → AtLeast (X v) (asked L u t v)
        go v v_in b r (inl q) = subst (λ (i : ℕ). AtLeast (X i) (asked L u t i)) (sym q) (subst (λ (o : Option Row). AtLeast o (asked L u t e)) here enough)
        go v v_in b r (inr d) = h.covers v v_in b (sym (same_bit v v_in d) ∙ r)

    -- an event of which nothing is asked
    pub followed_nothing : asked L u t e ≡ None → Following m L u t X Y was from left word
    followed_nothing q = followed_past (subst (AtLeast (Y e)) (sym q) tt)

    -- an event whose total is not beaten
    pub followed_unbeaten : (z : Row) → asked L u t e ≡ Some z → false ≡ beats z (Y e) → Following m L u t X Y was from left word
    followed_unbeaten z q b = followed_past (subst (AtLeast (Y e)) (sym q) (unbeaten_at_least z (Y e) (sym b)))

    -- an event that rises
    pub followed_risen : (Z : Totals) (to : ℕ → ℕ) (after : ℕ) (z : Row) → asked L u t e ≡ Some z → true ≡ beats z (Y e) → Z e ≡ Some z → ((v : ℕ) → v < m → (v ≡ e → ⊥) → Z v ≡ Y v) → to e ≡ u → ((v : ℕ) → v < m → (v ≡ e → ⊥) → to v ≡ from v) → Added word e after → Following m L u t X Z was to left after
    followed_risen Z to after z q b total others source kept more = record {
      left = among_left;
      among = λ v small c. among_more v small c (cases_eq v e);
      apart = λ v v_in c. apart_more v v_in c (cases_eq v e);
      stayed = λ v v_in c. stayed_more v v_in c (cases_eq v e);
      covers = λ v v_in c r. covers_more v v_in c r (cases_eq v e);
      rose = λ v v_in c. rose_more v v_in c (cases_eq v e);
    }
      where
        clash : (v : ℕ) → v ≡ e → bit_at after v ≡ 0 → ⊥
        clash v p c = let one : bit_at after v ≡ 1 = ap (bit_at after) p ∙ more.has in omega arith

        among_more : (v : ℕ) → v < 64 → bit_at after v ≡ 1 → (v ≡ e) ⊎ (v ≡ e → ⊥) → v < m
        among_more v small c (inl p) = subst (λ (i : ℕ). i < m) (sym p) event_in
        among_more v small c (inr d) = h.among v small (sym (more.others v d) ∙ c)

        apart_more : (v : ℕ) → v < m → bit_at left v ≡ 1 → (v ≡ e) ⊎ (v ≡ e → ⊥) → bit_at after v ≡ 0
        apart_more v v_in c (inl p) = absurd (let z : bit_at left v ≡ 0 = ap (bit_at left) p ∙ split.gone in omega arith)
        apart_more v v_in c (inr d) = more.others v d ∙ h.apart v v_in (sym (same_bit v v_in d) ∙ c)

        stayed_more : (v : ℕ) → v < m → bit_at after v ≡ 0 → (v ≡ e) ⊎ (v ≡ e → ⊥) → (Z v ≡ X v) × (to v ≡ was v)
        stayed_more v v_in c (inl p) = absurd (clash v p c)
        stayed_more v v_in c (inr d) =
            let was_so = h.stayed v v_in (sym (more.others v d) ∙ c) in
            (others v v_in d ∙ was_so.0, kept v v_in d ∙ was_so.1)

        covers_more : (v : ℕ) → v < m → bit_at after v ≡ 0 → bit_at left v ≡ 0 → (v ≡ e) ⊎ (v ≡ e → ⊥) → AtLeast (X v) (asked L u t v)
        covers_more v v_in c r (inl p) = absurd (clash v p c)
        covers_more v v_in c r (inr d) = h.covers v v_in (sym (more.others v d) ∙ c) (sym (same_bit v v_in d) ∙ r)

        rose_more : (v : ℕ) → v < m → bit_at after v ≡ 1 → (v ≡ e) ⊎ (v ≡ e → ⊥) → (to v ≡ u) × ((z : Row) × (asked L u t v ≡ Some z) × (Z v ≡ Some z) × (beats z (X v) ≡ true))
        rose_more v v_in c (inl p) =
            (ap to p ∙ source, (z, ap (asked L u t) p ∙ q, ap Z p ∙ total, ap (λ (i : ℕ). beats z (X i)) p ∙ ap (beats z) (sym here) ∙ sym b))
        rose_more v v_in c (inr d) =
            let was_so = h.rose v v_in (sym (more.others v d) ∙ c) in
            (kept v v_in d ∙ was_so.0, (was_so.1.0, was_so.1.1, others v v_in d ∙ was_so.1.2, was_so.1.3))

-- m events raised from the totals S, where those of `rest` are still to be followed

pub record Raising (m : ℕ) (L : Lags) (S R : Totals) (from : ℕ → ℕ) (rest word : ℕ) : Type 0 where
  pub left : Among m rest
  pub among : Among m word
  pub same : (v : ℕ) → v < m → bit_at word v ≡ 0 → R v ≡ S v
  pub traced : (v : ℕ) → v < m → bit_at word v ≡ 1 → (R v ≡ S v → ⊥) × Source m L S v (from v) (R v)
  pub risen : (v : ℕ) → v < m → AtLeast (R v) (S v)
  pub covers : (v u : ℕ) → v < m → u < m → bit_at rest u ≡ 0 → AtLeast (R v) (added (S u) (L v u))

-- what is at least the total and what each event asks is at least what the round gives
round_least : (m : ℕ) (L : Lags) (S : Totals) (v : ℕ) (q : Option Row) → AtLeast q (S v) → ((u : ℕ) → u < m → AtLeast q (added (S u) (L v u))) → AtLeast q (round m L S v)
round_least m L S v q h each = folded_holds (AtLeast q) (later_under q) (S v) m (λ u. added (S u) (L v u)) h each

pub raising_none : (m : ℕ) (L : Lags) (S R : Totals) (from : ℕ → ℕ) (rest : ℕ) → Among m rest → Idle m L S rest → ((v : ℕ) → v < m → R v ≡ S v) → Raising m L S R from rest 0
raising_none m L S R from rest left idle same = record {
  left = left;
  among = λ v small e. absurd (omega (arith, bit_at-zero v));
  same = λ v v_in e. same v v_in;
  traced = λ v v_in e. absurd (omega (arith, bit_at-zero v));
  risen = λ v v_in. subst (λ (o : Option Row). AtLeast o (S v)) (sym (same v v_in)) (AtLeast-refl (S v));
  covers = λ v u v_in u_in e. subst (λ (o : Option Row). AtLeast o (added (S u) (L v u))) (sym (same v v_in)) (idle v u v_in u_in e);
}

module _ (w m : ℕ) (few : m ≤ 63) (L : Lags) (wide : Wide w m L) (S : Totals) (sized : WideTotals w m S) where
  -- no event left to follow
  pub raised_all : (R : Totals) (from : ℕ → ℕ) (rest word : ℕ) → rest ≡ 0 → WideTotals w m R → Raising m L S R from rest word → WentRound m L S R from word
  raised_all R from rest word e r_sized h = record { totals = totals; among = h.among; same = h.same; traced = h.traced }
    where
      under : (v : ℕ) → v < m → (bit_at word v ≡ 0) ⊎ (bit_at word v ≡ 1) → AtLeast (round m L S v) (R v)
      under v v_in (inl b) = subst (AtLeast (round m L S v)) (sym (h.same v v_in b)) (round_rises w m L wide S sized v v_in)
      under v v_in (inr b) =
          let s = (h.traced v v_in b).1 in
          subst (AtLeast (round m L S v)) (after_is (S (from v)) (L v (from v)) s.total s.lag s.known s.stands ∙ sym s.gives) (round_covers w m L wide S sized v (from v) v_in s.inside)

      totals : (v : ℕ) → v < m → R v ≡ round m L S v
      totals v v_in =
          AtLeast-antisym w (R v) (round m L S v) (r_sized v v_in) (into_rowed w m L wide S sized v m v_in (omega arith)) (round_least m L S v (R v) (h.risen v v_in) (λ u u_in. h.covers v u v_in u_in (ap (λ (r : ℕ). bit_at r u) e ∙ bit_at-zero u))) (under v v_in (set_or_not word v))

  module _ (R : Totals) (from : ℕ → ℕ) (rest word : ℕ) (r_sized : WideTotals w m R) (h : Raising m L S R from rest word) (u left : ℕ) (split : Split rest u left) where
    pub follower_in : u < m
    follower_in = h.left u split.inside split.has

    left_among : Among m left
    left_among = split_among m rest u left split h.left

    -- an event that has no total asks nothing
    pub raised_past : S u ≡ None → Raising m L S R from left word
    raised_past none = record {
      left = left_among;
      among = h.among;
      same = h.same;
      traced = h.traced;
      risen = h.risen;
      covers = λ v t v_in t_in e. go v t v_in t_in e (cases_eq t u);
    }
      where
        go : (v t : ℕ) → v < m → t < m → bit_at left t ≡ 0 → (t ≡ u) ⊎ (t ≡ u → ⊥) → AtLeast (R v) (added (S t) (L v t))
        go v t v_in t_in e (inl q) = subst (λ (o : Option Row). AtLeast (R v) (added o (L v t))) (sym (ap S q ∙ none)) tt
        go v t v_in t_in e (inr d) = h.covers v t v_in t_in (sym (split.others t (omega arith) d) ∙ e)

    -- an event whose lags were followed
    module _ (x : Row) (known : S u ≡ Some x) (Q : Totals) (to : ℕ → ℕ) (rose after : ℕ) (q_sized : WideTotals w m Q) (followed : Followed m L u x R Q from to rose) (both : Joined word rose after) where
      rises : (v : ℕ) → v < m → AtLeast (Q v) (R v)
      rises v v_in = go (set_or_not rose v)
        where
          go : (bit_at rose v ≡ 0) ⊎ (bit_at rose v ≡ 1) → AtLeast (Q v) (R v)
          go (inl b) = subst (λ (o : Option Row). AtLeast o (R v)) (sym (followed.stayed v v_in b).0) (AtLeast-refl (R v))
          go (inr b) =
              let r = (followed.rose v v_in b).1 in
              subst (λ (o : Option Row). AtLeast o (R v)) (sym r.2) (below_at_least (R v) (Some r.0) (beats_below r.0 (R v) r.3))

      over : (v : ℕ) → v < m → (o : Option Row) → AtLeast (R v) o → AtLeast (Q v) o
      over v v_in o k = AtLeast-trans w (Q v) (R v) o (q_sized v v_in) (r_sized v v_in) (rises v v_in) k

      meets : (v : ℕ) → v < m → AtLeast (Q v) (asked L u x v)
      meets v v_in = go (set_or_not rose v)
        where
          go : (bit_at rose v ≡ 0) ⊎ (bit_at rose v ≡ 1) → AtLeast (Q v) (asked L u x v)
          go (inl b) = over v v_in (asked L u x v) (followed.stayed v v_in b).2
          go (inr b) =
              let r = (followed.rose v v_in b).1 in
              subst (AtLeast (Q v)) (sym r.1) (subst (λ (o : Option Row). AtLeast o (Some r.0)) (sym r.2) (AtLeast-refl (Some r.0)))

      -- a word is set where one of the two is
      clear : (v : ℕ) → bit_at after v ≡ 0 → (bit_at word v ≡ 0) × (bit_at rose v ≡ 0)
      clear v b = (omega (arith, b, both v), omega (arith, b, both v))

      traced_more : (v : ℕ) → v < m → bit_at after v ≡ 1 → (bit_at rose v ≡ 0) ⊎ (bit_at rose v ≡ 1) → (Q v ≡ S v → ⊥) × Source m L S v (to v) (Q v)
      traced_more v v_in b (inl r) =
          let kept = followed.stayed v v_in r in
          let was = h.traced v v_in (omega (arith, b, r, both v)) in
          (λ e. was.0 (sym kept.0 ∙ e), subst (λ (i : ℕ). Source m L S v i (Q v)) (sym kept.1) (subst (Source m L S v (from v)) (sym kept.0) was.1))
      traced_more v v_in b (inr r) =
          let new = followed.rose v v_in r in
          let z = new.1.0 in
          let parts = both_some plus (Some x) (L v u) z new.1.1 in (
            λ e. below_not_at_least (R v) (Some z) (beats_below z (R v) new.1.3) (subst (AtLeast (R v)) (sym e ∙ new.1.2) (h.risen v v_in)),
            subst (λ (i : ℕ). Source m L S v i (Q v)) (sym new.0) (record { inside = follower_in; total = parts.0; lag = parts.1; stands = parts.3; known = known ∙ parts.2; gives = new.1.2 ∙ ap Some (sym parts.4) }),
          )

      pub raised_more : Raising m L S Q to left after
      raised_more = record {
        left = left_among;
        among = λ v small b. among_more v small b (set_or_not word v);
        same = λ v v_in b. (followed.stayed v v_in (clear v b).1).0 ∙ h.same v v_in (clear v b).0;
        traced = λ v v_in b. traced_more v v_in b (set_or_not rose v);
        risen = λ v v_in. over v v_in (S v) (h.risen v v_in);
        covers = λ v t v_in t_in e. covers_more v t v_in t_in e (cases_eq t u);
      }
        where
          among_more : (v : ℕ) → v < 64 → bit_at after v ≡ 1 → (bit_at word v ≡ 0) ⊎ (bit_at word v ≡ 1) → v < m
          among_more v small b (inl r) = followed.among v small (omega (arith, b, r, both v))
          among_more v small b (inr r) = h.among v small r

          covers_more : (v t : ℕ) → v < m → t < m → bit_at left t ≡ 0 → (t ≡ u) ⊎ (t ≡ u → ⊥) → AtLeast (Q v) (added (S t) (L v t))
          covers_more v t v_in t_in e (inl q) = subst (λ (o : Option Row). AtLeast (Q v) o) (sym (ap (λ (i : ℕ). added (S i) (L v i)) q ∙ ap (λ (o : Option Row). added o (L v u)) known)) (meets v v_in)
          covers_more v t v_in t_in e (inr d) = over v v_in (added (S t) (L v t)) (h.covers v t v_in t_in (sym (split.others t (omega arith) d) ∙ e))

  -- after a round no event outside the word asks more of any than it has
  pub went_idle : (R : Totals) (from : ℕ → ℕ) (word : ℕ) → WentRound m L S R from word → Idle m L R word
  went_idle R from word went v u v_in u_in b =
      subst (λ (o : Option Row). AtLeast o (added (R u) (L v u))) (sym (went.totals v v_in)) (subst (λ (o : Option Row). AtLeast (round m L S v) (added o (L v u))) (sym (went.same u u_in b)) (round_covers w m L wide S sized v u v_in u_in))

-- a row alike to the row after the round
pub went_alike : (m : ℕ) (L : Lags) (S R Q : Totals) (from : ℕ → ℕ) (word : ℕ) → ((v : ℕ) → v < m → Q v ≡ R v) → WentRound m L S R from word → WentRound m L S Q from word
went_alike m L S R Q from word alike went = record {
  totals = λ v v_in. alike v v_in ∙ went.totals v v_in;
  among = went.among;
  same = λ v v_in b. alike v v_in ∙ went.same v v_in b;
  traced = λ v v_in b. (λ e. (went.traced v v_in b).0 (sym (alike v v_in) ∙ e), subst (Source m L S v (from v)) (sym (alike v v_in)) (went.traced v v_in b).1);
}

-- so is the row before once what changed is copied
pub copied_alike : {A : Type 0} (row : A → Row) (m : ℕ) → m ≤ 63 → (L : Lags) (totals next after : List (Option A)) (from : ℕ → ℕ) (word : ℕ) → WentRound m L (times row totals) (times row next) from word → Copied None word next totals after → (v : ℕ) → v < m → times row after v ≡ times row next v
copied_alike row m few L totals next after from word went copied v v_in = go (set_or_not word v)
  where
    go : (bit_at word v ≡ 0) ⊎ (bit_at word v ≡ 1) → times row after v ≡ times row next v
    go (inl b) = ap (option_map row) (copied.1 v (λ small. b)) ∙ sym (went.same v v_in b)
    go (inr b) = ap (option_map row) (copied.0 v (omega arith) b)
