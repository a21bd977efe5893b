use Rattle.std.proofs.Common.{◌≡◌, ◌<◌, ◌≤◌, ℕ, length, slice_index}
use Rattle.rows.specs.Limits.{most_events}
use Rattle.schedules.specs.Tables.{lags}
use Rattle.solver.specs.Words.{StandsFrom}
use Rattle.trials.proofs.settling.LaidNetwork.stand.Given as goal

abbrev pub invariant-loop-from : goal.invariant-loop-from
invariant-loop-from g l = record {
  noted : (u : ℕ) → u < l.from → StandsFrom l.self.count (lags g.K.Mark.amount l.self.count l.self.places.now) u (slice_index l.standing u);
  empty : (u : ℕ) → l.from ≤ u → slice_index l.standing u ≡ 0;
  places : length l.standing ≡ most_events;
}
