-- Faults, gathered one after another.
use Rattle.std.proofs.Common.{List, [], ◌++◌, Option, append_assoc, append-nil, sym, subst}
use Rattle.scanner.specs.declared.refusal.Refusal.{Refusal}
use Rattle.types.specs.Faults.{IsLeastOf, Gathers}

pub gathers_none : (least : Option Refusal) → Gathers [] least least
gathers_none least es h = subst (λ xs. IsLeastOf xs least) (sym (append-nil es)) h

pub gathers_both : (fs gs : List Refusal) (a b c : Option Refusal) → Gathers fs a b → Gathers gs b c
    → Gathers (fs ++ gs) a c
gathers_both fs gs a b c h k es l = subst (λ xs. IsLeastOf xs c) (append_assoc es fs gs) (k (es ++ fs) (h es l))
