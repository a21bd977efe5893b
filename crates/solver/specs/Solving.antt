-- What the solver asks of a network of a kind, and what it answers.
use Rattle.std.specs.Prelude.{◌≡◌, ℕ, ◌<◌, List, Some, None, Option, Ok, Err, Result, ◌≢◌, slice_index}
use Rattle.rows.specs.Rows.{Row, plus, Within}
use Rattle.rows.specs.Limits.{total_limit}
use Rattle.rows.specs.MaxPlus.{added}
use Rattle.marks.specs.declared.kind.Mark.{Ghosts as KindOf}
use Rattle.schedules.specs.Answers.{LeastTimes, Shown}
use Rattle.schedules.specs.Firsts.{LeastFrom}
use Rattle.schedules.specs.Plans.{AllKnown, AtLeast, KeepsLags, Lags, LoopFree, Schedulable, Totals, lags_into}
use Rattle.schedules.specs.Rounds.{opening, total_of}
use Rattle.schedules.specs.Tables.{times}
use Rattle.solver.specs.declared.network.Network.{Ghosts as NetworkOf}
use Rattle.solver.specs.Networks.{SumsInside}
use Rattle.solver.specs.Raising.{Followed, Idle, WentRound}
use Rattle.solver.specs.Repairing.{KeepsOthers, Repaired}
use Rattle.solver.specs.Settled.{LeavesRoomFor, SettledAfter, SettledAt}
use Rattle.solver.specs.Words.{Among, in_word}

-- Rounds from the first totals settled after so many, and the row is as it was; or a loop of that
-- length is in its first places.
abbrev pub EndsIn : ℕ → ℕ → Lags → (first totals : Totals) → (ℕ → ℕ)
    → (row after : List ℕ) → Result ℕ ℕ → Type 0
EndsIn w m L first totals came row after (Ok rounds) =
    SettledAfter m L first totals came rounds × (after ≡ row)
EndsIn w m L first totals came row after (Err len) = Shown w m L row after len

module _ {S T A : Type 0} (network : NetworkOf S T A) (kind : KindOf T A) (net : S) where
  -- the network's size and lags, and what a row of totals means

  abbrev m : ℕ
  m = network.size net

  abbrev L : Lags
  L = network.weight net

  abbrev meant : List (Option T) → Totals
  meant = times kind.row

  -- Some times keep every lag, with the opening at zero.
  abbrev pub HasSchedule : Type 0
  HasSchedule = Schedulable kind.WIDTH m L

  -- Every sum of one of the totals and a lag fits a total.
  abbrev pub SumsFit : List (Option T) → Type 0
  SumsFit totals = SumsInside m L (meant totals)

  -- So does every sum of one event's total and a lag from it.
  abbrev pub AskedFits : ℕ → T → Type 0
  AskedFits from total =
      (v : ℕ) (a : Row) → v < m → L v from ≡ Some a → Within total_limit (plus (kind.row total) a)

  -- Only events of the word ask more of any than it has.
  abbrev pub IdleOutside : List (Option T) → ℕ → Type 0
  IdleOutside totals word = Among m word × Idle m L (meant totals) word

  -- Both rows mean the same totals.
  abbrev pub InStep : List (Option T) → List (Option T) → Type 0
  InStep totals next = (v : ℕ) → v < m → meant next v ≡ meant totals v

  -- The lags from one event at its total were followed to all, and the word has those that rose.
  abbrev pub FollowedFrom :
      ℕ → T → (next after : List (Option T)) → (was sources : List ℕ) → ℕ → Type 0
  FollowedFrom from total next after was sources word =
      Followed m L from (kind.row total) (meant next) (meant after)
      (slice_index was) (slice_index sources) word

  -- One round leads from the totals to those after; where they came from, and what it changed.
  abbrev pub RoundLeads : List (Option T) → List (Option T) → List ℕ → ℕ → Type 0
  RoundLeads totals after sources changed =
      WentRound m L (meant totals) (meant after) (slice_index sources) changed

  -- Each total is the least time of its event.
  abbrev pub AreLeast : List (Option T) → Type 0
  AreLeast totals = LeastTimes kind.WIDTH m L (meant totals)

  -- The first totals leave room for as many lags as there are events.
  abbrev pub LeaveRoom : List (Option T) → Type 0
  LeaveRoom totals = LeavesRoomFor m L (meant totals)

  -- Rounds from the first totals settled, or a loop is in the first places of the row.
  abbrev pub RoundsEnd :
      (first totals : List (Option T)) → List ℕ → (row after : List ℕ) → Result ℕ ℕ → Type 0
  RoundsEnd first totals came row after =
      EndsIn kind.WIDTH m L (meant first) (meant totals) (slice_index came) row after

  -- Rounds from the opening alone settled at the totals, and the row is as it was. Or a loop of
  -- that length is in its first places.
  abbrev pub OpeningEnds : List (Option T) → (row after : List ℕ) → Option ℕ → Type 0
  OpeningEnds totals row after None =
      ((k : ℕ) × SettledAt m L (opening kind.WIDTH) (meant totals) k) × (after ≡ row)
  OpeningEnds totals row after (Some len) = Shown kind.WIDTH m L row after len

  -- No loop is of lags that lead to events of the word, and the row is as it was. Or a loop of that
  -- length is in its first places.
  abbrev pub RestEnds : ℕ → (row after : List ℕ) → Option ℕ → Type 0
  RestEnds word row after None =
      LoopFree kind.WIDTH m (lags_into (in_word word) L) × (after ≡ row)
  RestEnds word row after (Some len) = Shown kind.WIDTH m L row after len

  -- There is a schedule, each total is the least time of its event, and the row is as it was. Or a
  -- loop of that length is in its first places.
  abbrev pub LeastOrLoop : List (Option T) → (row after : List ℕ) → Option ℕ → Type 0
  LeastOrLoop totals row after None = HasSchedule × AreLeast totals × (after ≡ row)
  LeastOrLoop totals row after (Some len) = Shown kind.WIDTH m L row after len

  -- Where some times keep every lag, the totals are the least of those nowhere before the first.
  abbrev pub LeastWhereKept : (first totals : List (Option T)) → Type 0
  LeastWhereKept first totals =
      (x : ℕ → Row) → KeepsLags kind.WIDTH m L x
      → LeastFrom kind.WIDTH m L (meant first) (meant totals)

  -- Every event has a total.
  abbrev pub EachKnown : List (Option T) → Type 0
  EachKnown totals = AllKnown m (meant totals)

  -- The totals keep the lag to one event from another, if one stands there.
  abbrev pub KeepsLag : List (Option T) → (to from : ℕ) → Type 0
  KeepsLag totals to from = AtLeast (meant totals to) (added (meant totals from) (L to from))

  -- The totals keep every lag but for that one.
  abbrev pub KeepsAllBut : List (Option T) → (to from : ℕ) → Type 0
  KeepsAllBut totals = KeepsOthers m L (λ v. total_of kind.WIDTH (meant totals v))

  -- The totals keep every lag but for those from the one event.
  abbrev pub KeepsUnlessFrom : List (Option T) → ℕ → Type 0
  KeepsUnlessFrom totals from = (to u : ℕ) → to < m → u < m → u ≢ from → KeepsLag totals to u

  -- The totals are repaired, and the row is as it was. Or a loop of that length is in its first
  -- places.
  abbrev pub RepairEnds :
      (first totals : List (Option T)) → (row after : List ℕ) → Option ℕ → Type 0
  RepairEnds first totals row after None =
      Repaired kind.WIDTH m L (meant first) (meant totals) × (after ≡ row)
  RepairEnds first totals row after (Some len) = Shown kind.WIDTH m L row after len
