use Rattle.std.proofs.Common.{rules}
use Rattle.marks.proofs.stamps.StampMark.take.Goals as goal

pub returns : goal.returns
returns c = c.of.ensures _ _ (search rules) (search rules)
