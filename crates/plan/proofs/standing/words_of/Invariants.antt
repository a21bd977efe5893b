use Rattle.std.proofs.Common.{◌≡◌, ℕ, ◌*◌, ◌<◌, length, slice_index}
use Rattle.rows.specs.Limits.{most_events}
use Rattle.plan.specs.Holding.{Held}
use Rattle.plan.proofs.standing.words_of.Given as goal

abbrev pub invariant-loop-event : goal.invariant-loop-event
invariant-loop-event g l = record {
  places : length l.words ≡ most_events;
  held : (u : ℕ) → u < l.event → Held l.places l.count (u * l.apart) l.step (slice_index l.words u);
}
