use Rattle.algebra.proofs.Residuals.{residual_starts, residual_below, residual_greatest}
use Rattle.algebra.proofs.backward_is_residual.Goals as goal

pub returns : goal.returns
returns c = record {
  starts = λ w n L d y wide_L wide_d wide_y due best. residual_starts w n L d wide_L wide_d due y wide_y best;
  below = residual_below;
  greatest = λ w n A d x wide_A wide_d wide_x due below. residual_greatest w n A d wide_A wide_d due x wide_x below;
}
