use Rattle.algebra.proofs.Means.{flow_greatest_mean}
use Rattle.algebra.proofs.flow_is_greatest_mean.Goals as goal

pub returns : goal.returns
returns c = flow_greatest_mean
