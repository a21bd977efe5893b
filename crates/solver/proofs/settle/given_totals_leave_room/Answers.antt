use Rattle.solver.proofs.Opening.{leaves_given}
use Rattle.solver.proofs.settle.given_totals_leave_room.Goals as goal

pub returns : goal.returns
returns c = leaves_given
