use Rattle.schedules.proofs.Firsts.{firsts_exact, known_is_schedule}
use Rattle.schedules.proofs.firsts_are_exact.Goals as goal

pub returns : goal.returns
returns c = record { exact = firsts_exact; known = known_is_schedule }
