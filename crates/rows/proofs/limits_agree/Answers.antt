use Rattle.rows.proofs.Limits.{relations}
use Rattle.rows.proofs.limits_agree.Goals as goal

pub returns : goal.returns
returns c = relations
