-- Rounds from any first totals, with where every total came from, round by round.
use Rattle.std.proofs.Common.{◌≡◌, ℕ, suc, ◌+◌, ◌-◌, ◌^◌, ◌<◌, ◌≤◌, ◌⊎◌, List, [], length, get_or, set, slice_index, Some, None, Option, sym, refl, ap, ◌∙◌, subst, inl, inr, add-one, arith, below_more, get_or-set_other, get_or-set_same, w64}
use Rattle.std.specs.Int.{bit_at, trailing_zeros}
use Rattle.std.specs.Option.{MatchOption}
use Rattle.std.proofs.lemmas.Nat.Bits.{bit_at-zero, bit_at-trailing_zeros}
use Rattle.rows.specs.Rows.{Row}
use Rattle.rows.specs.Limits.{total_limit}
use Rattle.schedules.specs.Firsts.{FirstsInside}
use Rattle.schedules.specs.Plans.{Lags, Totals, Wide}
use Rattle.schedules.specs.Rounds.{rounds, Settled, Changed}
use Rattle.schedules.specs.Walks.{Apart, Source, Traced}
use Rattle.schedules.proofs.Came.{CameSoFar, LastRise, came_start, came_step, came_from, came_rooted}
use Rattle.schedules.proofs.Inside.{firsts_inside}
use Rattle.schedules.proofs.Rounds.{WideTotals, into_same}
use Rattle.solver.specs.Networks.{SumsInside}
use Rattle.solver.specs.Raising.{Idle, WentRound}
use Rattle.solver.specs.Settled.{LeavesRoomFor, SettledAfter}
use Rattle.solver.specs.Trails.{from_in, PartSought}
use Rattle.solver.specs.Words.{Among, Copied, EventIn}
use Rattle.solver.proofs.Bits.{set_or_not}
use Rattle.solver.proofs.Raising.{went_idle}

some_not_none : (n : ℕ) → ◌≡◌ {A = Option ℕ} (Some n) None → ⊥
some_not_none n e = cc

-- the totals of the first m events are the same
abbrev pub Alike : ℕ → Totals → Totals → Type 0
Alike m S R = (v : ℕ) → v < m → S v ≡ R v

-- After k rounds from b: S are the totals of round k, every change of each round is traced, and
-- `came` has where each total came from; only events of the word ask more than the others have, and
-- every round changed something.
pub record Going (m : ℕ) (L : Lags) (b S : Totals) (came : ℕ → ℕ) (rows : List (List ℕ)) (word k : ℕ) : Type 0 where
  pub alike : Alike m S (rounds m L b k)
  pub traced : Traced m L b k (from_in rows)
  pub sources : CameSoFar m L b k came
  pub among : Among m word
  pub idle : Idle m L S word
  pub moved : (j : ℕ) → j < k → Settled m L b j → ⊥

pub going_none : (m : ℕ) (L : Lags) (b : Totals) (came : ℕ → ℕ) (rows : List (List ℕ)) (word : ℕ) → Among m word → Idle m L b word → Going m L b b came rows word 0
going_none m L b came rows word among idle = record {
  alike = λ v v_in. refl;
  traced = λ k v h. absurd (omega arith);
  sources = came_start m L b came;
  among = among;
  idle = idle;
  moved = λ j h. absurd (omega arith);
}

-- a word that is not empty has an event
some_event : (m word : ℕ) → word < 2 ^ 64 → (word ≡ 0 → ⊥) → Among m word → (v : ℕ) × (v < m) × (bit_at word v ≡ 1)
some_event m word fits some among =
    let low = bit_at-trailing_zeros w64 word (omega (arith, some)) fits in
    (trailing_zeros w64 word, among (trailing_zeros w64 word) low.0 low.1, low.1)

Source-alike : (m : ℕ) (L : Lags) (S R : Totals) (v u : ℕ) (o p : Option Row) → Alike m S R → o ≡ p → Source m L S v u o → Source m L R v u p
Source-alike m L S R v u o p same e s =
    record { inside = s.inside; total = s.total; lag = s.lag; stands = s.stands; known = sym (same u s.inside) ∙ s.known; gives = sym e ∙ s.gives }

module _ (w m : ℕ) (few : m ≤ 63) (L : Lags) (wide : Wide w m L) (b : Totals) (sized : WideTotals w m b) (S R : Totals) (s_sized : WideTotals w m S) (k : ℕ) (rows : List (List ℕ)) (row came after : List ℕ) (was word : ℕ) (before : Going m L b S (slice_index came) rows was k) (went : WentRound m L S R (slice_index row) word) where
  risen : Alike m R (rounds m L b (suc k))
  risen v v_in = went.totals v v_in ∙ into_same m L S (rounds m L b k) before.alike v m v_in (omega arith)

  -- what the word has, round k + 1 changed, and nothing else
  pub word_changed : (v : ℕ) → v < m → bit_at word v ≡ 1 → Changed m L b k v
  word_changed v v_in c q = (went.traced v v_in c).0 (risen v v_in ∙ q ∙ sym (before.alike v v_in))

  -- counted from the round after it
  word_changed_now : (v : ℕ) → v < m → bit_at word v ≡ 1 → Changed m L b (k + 1 - 1) v
  word_changed_now v v_in c = let e : k ≡ k + 1 - 1 = omega arith in subst (λ (i : ℕ). Changed m L b i v) e (word_changed v v_in c)

  unchanged : (v : ℕ) → v < m → bit_at word v ≡ 0 → rounds m L b (suc k) v ≡ rounds m L b k v
  unchanged v v_in c = sym (risen v v_in) ∙ went.same v v_in c ∙ before.alike v v_in

  changed_word : (v : ℕ) → v < m → Changed m L b k v → bit_at word v ≡ 1
  changed_word v v_in c = go (set_or_not word v)
    where
      go : (bit_at word v ≡ 0) ⊎ (bit_at word v ≡ 1) → bit_at word v ≡ 1
      go (inl e) = absurd (c (unchanged v v_in e))
      go (inr e) = e

  source_here : (v : ℕ) → v < m → Changed m L b k v → Source m L (rounds m L b k) v (slice_index row v) (rounds m L b (suc k) v)
  source_here v v_in c =
      Source-alike m L S (rounds m L b k) v (slice_index row v) (R v) (rounds m L b (suc k) v) before.alike (risen v v_in) (went.traced v v_in (changed_word v v_in c)).1

  -- a round that changes nothing
  pub settled_after : word ≡ 0 → Settled m L b k
  settled_after e v v_in = unchanged v v_in (ap (λ (x : ℕ). bit_at x v) e ∙ bit_at-zero v)

  pub still_settled : word ≡ 0 → k < m → Copied 0 word row came after → SettledAfter m L b R (slice_index after) k
  still_settled e k_in copied = record {
    few = k_in;
    at = record { totals = same; settled = settled_after e };
    fewest = before.moved;
    sources = came_from w m L wide b sized k (settled_after e) (slice_index after) sources R same;
    rooted = came_rooted w m L wide b sized k (settled_after e) (slice_index after) sources R same;
  }
    where
      same : Alike m R (rounds m L b k)
      same v v_in = risen v v_in ∙ settled_after e v v_in

      -- where nothing changed, nothing was copied
      sources : CameSoFar m L b k (slice_index after)
      sources v v_in n =
          subst (LastRise m L b k v) (sym (copied.1 v (λ small. ap (λ (x : ℕ). bit_at x v) e ∙ bit_at-zero v))) (before.sources v v_in n)

  module _ (room : k < length rows) where
    abbrev SourceIn : (j e : ℕ) → List ℕ → Type 0
    SourceIn j e r = Source m L (rounds m L b j) e (slice_index r e) (rounds m L b (suc j) e)

    earlier : (j : ℕ) → j < k → (e : ℕ) → e < m → Changed m L b j e → SourceIn j e (get_or (set rows k row) j [])
    earlier j h e e_in c = subst (SourceIn j e) (sym (get_or-set_other rows k j row [] (λ q. omega arith))) (before.traced j e h e_in c)

    here : (e : ℕ) → e < m → Changed m L b k e → SourceIn k e (get_or (set rows k row) k [])
    here e e_in c = subst (SourceIn k e) (sym (get_or-set_same rows k row [] room)) (source_here e e_in c)

    traced_more : Traced m L b (k + 1) (from_in (set rows k row))
    traced_more j e h =
        below_more (λ j. e < m → Changed m L b j e → SourceIn j e (get_or (set rows k row) j [])) k (λ j h. earlier j h e) (here e) j h

    -- what a walk back needs of an event of the word
    pub walks_back : (v : ℕ) → EventIn word v → (v < m) × Changed m L b (k + 1 - 1) v × Traced m L b (k + 1) (from_in (set rows k row))
    walks_back v h = let v_in = went.among v h.0 h.1 in (v_in, word_changed_now v v_in h.1, traced_more)

    -- a round that changes something
    pub going_more : word < 2 ^ 64 → (word ≡ 0 → ⊥) → Copied 0 word row came after → Going m L b R (slice_index after) (set rows k row) word (k + 1)
    going_more fits some copied = record {
      alike = rw add-one risen;
      traced = traced_more;
      sources = rw add-one (came_step w m L wide b sized k (slice_index came) (slice_index after) before.sources sources_here sources_kept);
      among = went.among;
      idle = went_idle w m few L wide S s_sized R (slice_index row) word went;
      moved = λ j h. below_more (λ j. Settled m L b j → ⊥) k before.moved moved_here j h;
    }
      where
        sources_here : (v : ℕ) → v < m → Changed m L b k v → Source m L (rounds m L b k) v (slice_index after v) (rounds m L b (suc k) v)
        sources_here v v_in c =
            subst (λ (u : ℕ). Source m L (rounds m L b k) v u (rounds m L b (suc k) v)) (sym (copied.0 v (omega arith) (changed_word v v_in c))) (source_here v v_in c)

        sources_kept : (v : ℕ) → v < m → rounds m L b (suc k) v ≡ rounds m L b k v → slice_index after v ≡ slice_index came v
        sources_kept v v_in e = go (set_or_not word v)
          where
            go : (bit_at word v ≡ 0) ⊎ (bit_at word v ≡ 1) → slice_index after v ≡ slice_index came v
            go (inl c) = copied.1 v (λ small. c)
            go (inr c) = absurd (word_changed v v_in c e)

        moved_here : Settled m L b k → ⊥
        moved_here f =
            let v = some_event m word fits some went.among in
            word_changed v.0 v.1 v.2 (f v.0 v.1)

-- first totals that leave room let every round fit
module _ (m : ℕ) (L : Lags) (b : Totals) (room : LeavesRoomFor m L b) where
  firsts : FirstsInside room.limit room.leaves.bound m L b
  firsts = firsts_inside room.limit room.leaves.bound m L b room.limited room.leaves.within

  pub rounds_fit : (k : ℕ) → k < m → SumsInside m L (rounds m L b k)
  rounds_fit k k_in v u t a v_in u_in e l = firsts.sums m total_limit k k_in room.leaves.room v u t a v_in u_in e l

  pub going_fits : (S : Totals) (k : ℕ) → k < m → Alike m S (rounds m L b k) → SumsInside m L S
  going_fits S k k_in same v u t a v_in u_in e l = rounds_fit k k_in v u t a v_in u_in (sym (same u u_in) ∙ e) l

-- a walk back that met no event twice
pub part_none : (n : ℕ) (p : ℕ → ℕ) (row after : List ℕ) (r : Option ℕ) → r ≡ None → PartSought n p row after r → Apart p (n + 1) × (after ≡ row)
part_none n p row after None e h = h
part_none n p row after (Some len) e h = absurd (some_not_none len e)

-- a look that found no suspect
pub suspect_none : (P : Type 0) (Q : ℕ → Type 0) (r : Option ℕ) → r ≡ None → MatchOption r P Q → P
suspect_none P Q None e h = h
suspect_none P Q (Some v) e h = absurd (some_not_none v e)
