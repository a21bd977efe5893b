-- Rounds from any first totals settle at the least of the times from them.
use Rattle.schedules.specs.Firsts.{FirstsAreExact, KnownIsSchedule}
use Rattle.schedules.proofs.Changes.{kept_settles}
use Rattle.schedules.proofs.Least.{settled_least}
use Rattle.schedules.proofs.Reached.{from_reached, reached_from}
use Rattle.schedules.proofs.Rounds.{WideTotals-from}
use Rattle.schedules.proofs.Settled.{known_times, known_schedule}

pub firsts_exact : FirstsAreExact
firsts_exact w m L b wide wide_b = record {
  settles = λ first. kept_settles w m L wide first b (WideTotals-from w m b wide_b);
  least = λ x t k f. settled_least w m L wide b (WideTotals-from w m b wide_b) k f x t;
  reached = λ k f v v_in. (reached_from m L b k v v_in, from_reached w m L wide b (WideTotals-from w m b wide_b) k f v v_in);
}

pub known_is_schedule : KnownIsSchedule
known_is_schedule w m L b wide wide_b k f known = record {
  keeping = known_times w m L wide b (WideTotals-from w m b wide_b) k f known;
  schedule = known_schedule w m L wide b (WideTotals-from w m b wide_b) k f known;
}
