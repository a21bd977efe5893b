use Rattle.algebra.proofs.Residuals.{finish_product}
use Rattle.algebra.proofs.finish_is_product.Goals as goal

pub returns : goal.returns
returns c = λ w n L x y wide_L wide_x. finish_product w n L x wide_L wide_x y
