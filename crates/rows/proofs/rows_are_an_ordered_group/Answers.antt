use Rattle.rows.proofs.Sums.{plus_assoc, plus_comm, plus-zeros, plus-negated, length-plus, length-zeros, length-negated, Within-plus, inside_true}
use Rattle.rows.proofs.Inside.{before_from, inside_from}
use Rattle.rows.proofs.Tests.{before_true}
use Rattle.std.proofs.Common.{◌∙◌}
use Rattle.rows.proofs.Order.{before_irrefl, before_trans, before_total, before_plus, after_zeros}
use Rattle.rows.proofs.rows_are_an_ordered_group.Goals as goal

pub returns : goal.returns
returns c = record {
  group = record {
    sums = λ w x y p q. length-plus x y w p q;
    zero = length-zeros;
    opposites = λ w x p. length-negated x ∙ p;
    assoc = plus_assoc;
    comm = plus_comm;
    unit = plus-zeros;
    inverse = plus-negated;
    irreflexive = before_irrefl;
    transitive = before_trans;
    total = before_total;
    monotone = before_plus;
    positive = after_zeros;
  };
  within = Within-plus;
  tests = record {
    order = λ x y. (before_true x y, before_from x y);
    limit = λ l x. (inside_true l x, inside_from l x);
  };
}
