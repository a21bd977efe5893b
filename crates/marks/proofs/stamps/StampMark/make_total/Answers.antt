use Rattle.std.proofs.Common.{arith, rules}
use Rattle.rows.specs.Limits.{total_limit}
use Rattle.marks.proofs.Parts.{none_meant, part_meant, row_made}
use Rattle.marks.proofs.stamps.StampMark.make_total.Goals as goal

pub returns : goal.returns
returns c =
    row_made 2 total_limit _ _ (omega arith) (part_meant total_limit _ _ _ _ (search rules) (part_meant total_limit _ _ _ _ (search rules) (none_meant total_limit)))
