-- Where products and totals begin.
use Rattle.std.proofs.Common.{◌≡◌, refl}
use Rattle.syntax.specs.declared.expression.Conjunction.TheBlock.{struct-Product, struct-Total}
use Rattle.syntax.specs.declared.expression.Product.{Product, out-Product}
use Rattle.syntax.specs.declared.expression.Total.{Total, out-Total}
use Rattle.syntax.specs.View.{factor_of, term_of, product_of, total_of}
use Rattle.types.specs.Typing.{factor_place, term_place, sum_place}

pub product_first : (x : Product) → factor_place (factor_of (out-Product x).first) ≡ term_place (product_of x)
unfolding out-Product denote.Hole.Carrier.out
product_first (struct-Product f op g n row) = refl

pub total_first : (x : Total) → term_place (term_of (out-Total x).first) ≡ sum_place (total_of x)
unfolding out-Total denote.Hole.Carrier.out
total_first (struct-Total t op place u n row) = refl
