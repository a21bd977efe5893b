use Rattle.std.proofs.Common.{ℕ, ◌*◌, ◌%◌, ◌^◌, bit_or, sym, ap, ◌∙◌, subst}
use mir.Val.{bool_byte}
use Rattle.plan.specs.Holding.{PutBefore}
use Rattle.plan.proofs.Holding.{put_before}
use Rattle.plan.proofs.standing.with_place.Goals as goal

pub returns : goal.returns
returns g c =
    subst (λ (b : ℕ). PutBefore c.args.place c.args.word (bit_or (c.args.word * 2 % 2 ^ 64) b)) (sym (c.from.ensures ∙ ap bool_byte c.is_some.ensures)) (put_before c.args.word c.args.place)
