-- Products and totals give numbers.
use Rattle.std.proofs.Common.{◌≡◌, refl, Some}
use Rattle.program.specs.declared.kinds.ValueType.TheVariants.{Integer}
use Rattle.syntax.specs.declared.expression.Conjunction.TheBlock.{struct-Product, struct-Total}
use Rattle.syntax.specs.declared.expression.Product.{Product}
use Rattle.syntax.specs.declared.expression.Total.{Total}
use Rattle.syntax.specs.View.{product_of, total_of}
use Rattle.types.specs.Scope.{Scope}
use Rattle.types.specs.Typing.{term_type, sum_type}

pub product_type : (s : Scope) (x : Product) → Some Integer ≡ term_type s (product_of x)
product_type s (struct-Product f op g n row) = refl

pub total_type : (s : Scope) (x : Total) → Some Integer ≡ sum_type s (total_of x)
total_type s (struct-Total t op place u n row) = refl
