use Rattle.std.proofs.Common.{refl, rules}
use Rattle.std.specs.declared.cmp.Ordering.TheVariants.{Less, Equal, Greater}
use Rattle.marks.proofs.Parts.{pair_ranked}
use Rattle.marks.proofs.stamps.StampMark.order.Goals as goal

pub returns-in-Less : goal.returns-in-Less
returns-in-Less c = pair_ranked _ _ _ _ Less Less (search rules) refl

pub returns-in-Equal : goal.returns-in-Equal
returns-in-Equal c = pair_ranked _ _ _ _ Equal _ (search rules) (search rules)

pub returns-in-Greater : goal.returns-in-Greater
returns-in-Greater c = pair_ranked _ _ _ _ Greater Greater (search rules) refl
