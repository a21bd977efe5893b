-- Words of events: bit k of a word stands for event k.
use Rattle.std.specs.Prelude.{◌≡◌, ℕ, ◌<◌, ◌⊎◌, ◌↔◌, Bool, max, min, List, length, None, Option, ◌==◌, ◌≢◌, slice_index, slice_index_or, slice_set}
use Rattle.std.specs.Int.{bit_at}
use Rattle.rows.specs.Rows.{Row}
use Rattle.schedules.specs.Plans.{Lags, Chain, Reaches}
use Rattle.solver.specs.Trails.{HasAll}

-- whether the event is in the word
abbrev pub in_word : ℕ → ℕ → Bool
in_word word e = bit_at word e == 1

-- only events before n are in the word
abbrev pub Among : ℕ → ℕ → Type 0
Among n word = (e : ℕ) → e < 64 → bit_at word e ≡ 1 → e < n

-- e is in the word, and `rest` is the word without it
pub record Split (word e rest : ℕ) : Type 0 where
  pub inside : e < 64
  pub has : bit_at word e ≡ 1
  pub less : rest < word
  pub gone : bit_at rest e ≡ 0
  pub others : (k : ℕ) → k < 64 → k ≢ e → bit_at rest k ≡ bit_at word k

-- the word with event e
pub record Added (word e after : ℕ) : Type 0 where
  pub has : bit_at after e ≡ 1
  pub others : (k : ℕ) → k ≢ e → bit_at after k ≡ bit_at word k

-- the events of both words
abbrev pub Joined : ℕ → ℕ → ℕ → Type 0
Joined one other both = (k : ℕ) → bit_at both k ≡ max (bit_at one k) (bit_at other k)

-- the events of the word that the other has not
abbrev pub Without : ℕ → ℕ → ℕ → Type 0
Without word other left =
    (k : ℕ) → k < 64 → (bit_at left k ≡ 1) ↔ ((bit_at word k ≡ 1) × (bit_at other k ≡ 0))

-- The word has those of m events to which a lag leads from u.
abbrev pub StandsFrom : ℕ → Lags → ℕ → ℕ → Type 0
StandsFrom m L u word =
    (v : ℕ) → v < 64 → (bit_at word v ≡ 1) ↔ ((v < m) × (L v u ≢ None))

-- So does a word for each of them.
abbrev pub Stands : ℕ → Lags → List ℕ → Type 0
Stands m L words = (u : ℕ) → u < m → StandsFrom m L u (slice_index words u)

-- So does each word that is answered for one of them: `answers u word` where the word may be.
abbrev pub AnswersStanding : ℕ → Lags → (ℕ → ℕ → Type 0) → Type 0
AnswersStanding m L answers = (u word : ℕ) → u < m → answers u word → StandsFrom m L u word

-- A lag to v from u is noted in the words: the word of u gets v, and the others are as they were.
pub record Noted (words : List ℕ) (v u : ℕ) (after : List ℕ) : Type 0 where
  pub word : ℕ
  pub added : Added (slice_index words u) v word
  pub put : after ≡ slice_set words u word

-- a chain of lags leads from u to v over events of the word
abbrev pub ReachesOver : ℕ → Lags → ℕ → ℕ → ℕ → Type 0
ReachesOver m L word u v = (es : List ℕ) × (r : Row) × Chain m L u es v r × HasAll word es

-- The word has those of m events that a chain of lags from u reaches.
abbrev pub ChainsFrom : ℕ → Lags → ℕ → ℕ → Type 0
ChainsFrom m L u word = (v : ℕ) → v < 64 → (bit_at word v ≡ 1) ↔ Reaches m L u v

-- The word has those of m events that a chain of lags from u reaches over events of `over`.
abbrev pub ChainsOver : ℕ → Lags → ℕ → ℕ → ℕ → Type 0
ChainsOver m L over u word =
    (v : ℕ) → v < 64 → (bit_at word v ≡ 1) ↔ ReachesOver m L over u v

-- The places of the word's events have what `from` has there, and the others are as they were. (d
-- is read past the end of a row.)
abbrev pub Copied : {A : Type 0} → A → ℕ → (from row after : List A) → Type 0
Copied d word from row after =
    ((e : ℕ) → e < 64 → bit_at word e ≡ 1 → slice_index_or after e d ≡ slice_index_or from e d)
    × ((e : ℕ) → (e < 64 → bit_at word e ≡ 0)
    → slice_index_or after e d ≡ slice_index_or row e d)

-- the event is in the word
abbrev pub EventIn : ℕ → ℕ → Type 0
EventIn word e = (e < 64) × (bit_at word e ≡ 1)

-- the events that are in both words
abbrev pub Shared : ℕ → ℕ → ℕ → Type 0
Shared one other both = (k : ℕ) → bit_at both k ≡ min (bit_at one k) (bit_at other k)

-- each word has those of its events that are in the one
abbrev pub Masked : List ℕ → ℕ → List ℕ → Type 0
Masked words one after =
    (u : ℕ) → u < length words → Shared (slice_index words u) one (slice_index after u)

-- v is one of the roots, or a chain of lags leads to it from one
abbrev pub FromRoots : ℕ → Lags → ℕ → ℕ → Type 0
FromRoots m L roots v = (r : ℕ) × EventIn roots r × ((v ≡ r) ⊎ Reaches m L r v)

-- The roots are events of the word, and every event of it is one, or a chain of lags leads to it
-- from one.
pub record RootsOf (m : ℕ) (L : Lags) (word roots : ℕ) : Type 0 where
  pub inside : (e : ℕ) → e < 64 → bit_at roots e ≡ 1 → bit_at word e ≡ 1
  pub reached : (v : ℕ) → v < 64 → bit_at word v ≡ 1 → FromRoots m L roots v

-- the word has exactly the first n events
pub record FirstEvents (n word : ℕ) : Type 0 where
  pub all : (e : ℕ) → e < n → bit_at word e ≡ 1
  pub among : Among n word

-- The word has those of the first n events that have a total.
abbrev pub KnownEvents : {T : Type 0} → ℕ → List (Option T) → ℕ → Type 0
KnownEvents n totals word =
    (v : ℕ) → v < 64
    → (bit_at word v ≡ 1) ↔ ((v < n) × (slice_index_or totals v None ≢ None))

-- no word has an event
abbrev pub NoneStand : List ℕ → Type 0
NoneStand words = (u : ℕ) → u < length words → slice_index words u ≡ 0
