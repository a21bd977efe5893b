use Rattle.schedules.proofs.Mirrored.{mirrored_schedule, mirrored_schedulable, mirrored_latest, mirrored_free, mirrored_loop}
use Rattle.schedules.proofs.reversal_mirrors.Goals as goal

pub returns : goal.returns
returns c = λ w m L wide. record {
  schedule = mirrored_schedule w m L wide;
  schedulable = mirrored_schedulable w m L wide;
  latest = mirrored_latest w m L wide;
  free = mirrored_free w m L wide;
  loop = mirrored_loop w m L;
}
