-- What is known of an option, of what it is.
use Rattle.std.proofs.Common.{◌≡◌, Option, Some, None, MatchOption, subst}

pub none_of : {X : Type 0} (o : Option X) (N : Type 0) (S : X → Type 0) → o ≡ None → MatchOption o N S → N
none_of o N S is h = subst (λ p. MatchOption p N S) is h

pub some_of : {X : Type 0} (o : Option X) (x : X) (N : Type 0) (S : X → Type 0) → o ≡ Some x → MatchOption o N S → S x
some_of o x N S is h = subst (λ p. MatchOption p N S) is h
