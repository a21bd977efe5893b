use Rattle.std.proofs.Common.{◌≡◌, None, length, slice_index_or}
use Rattle.std.specs.Option.{option_map}
use Rattle.schedules.specs.Tables.{Overwritten}
use Rattle.plan.proofs.turning.turn_back.Given as goal

abbrev pub invariant-loop-event : goal.invariant-loop-event
invariant-loop-event g l = (length l.total-items ≡ l.count) × Overwritten (λ e. option_map (λ t. t.inner) (slice_index_or l.turned e None)) l.event l.initial.total-items l.total-items
