use Rattle.schedules.proofs.Earliest.{settled_earliest, settled_free}
use Rattle.schedules.proofs.Latest.{settled_latest, settled_free_above}
use Rattle.schedules.proofs.Changes.{opening_settles}
use Rattle.schedules.proofs.times_are_exact.Goals as goal

pub returns : goal.returns
returns c = record {
  least = λ w m L wide first plan. record {
    settles = opening_settles w m L wide first plan;
    earliest = λ k f. settled_earliest w m L wide first k f plan;
    free = λ k f some. settled_free w m L wide first k f some plan;
  };
  greatest = λ w m L wide first plan. record {
    latest = λ k f. settled_latest w m L wide first k f plan;
    free = λ k f some. settled_free_above w m L wide first k f some plan;
  };
}
