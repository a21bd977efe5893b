use Rattle.schedules.proofs.Times.{later_times, earlier_times, shifted_times}
use Rattle.schedules.proofs.times_combine.Goals as goal

pub returns : goal.returns
returns c = λ w m L wide. record {
  later = later_times w m L wide;
  earlier = earlier_times w m L wide;
  shifted = shifted_times w m L wide;
}
