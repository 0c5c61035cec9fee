-- Where no fault is among several, none is among each.
use Rattle.std.proofs.Common.{◌≡◌, List, [], ◌∷◌, ◌++◌, Bool, true, false, not, ◌&&◌, Option, Some, None, is_none}
use Rattle.std.proofs.Common.{refl, ap, ◌∙◌, sym, append-nil}
use Rattle.std.proofs.Math.Bool.{and_assoc}
use Rattle.scanner.specs.declared.token.Place.{Place}
use Rattle.scanner.specs.declared.refusal.Refusal.{Refusal}
use Rattle.scanner.specs.declared.refusal.RefusalKind.{RefusalKind}
use Rattle.types.specs.Faults.{where_true, faults_of}
use Rattle.body_faults.proofs.Gathering.{chained}
use Rattle.resolver.specs.Clean.{is_clean}

pub clean_both : (a b : List Refusal) → is_clean (a ++ b) ≡ (is_clean a && is_clean b)
clean_both [] b = refl
clean_both (x ∷ a) b = refl

-- a level of the grammar without an operator adds no fault
pub lone : (fs : List Refusal) → fs ++ [] ≡ fs
lone fs = append-nil fs

pub lone2 : (fs : List Refusal) → (fs ++ []) ++ [] ≡ fs
lone2 fs = append-nil (fs ++ []) ∙ append-nil fs

pub lone3 : (fs : List Refusal) → ((fs ++ []) ++ []) ++ [] ≡ fs
lone3 fs = append-nil ((fs ++ []) ++ []) ∙ lone2 fs

pub lone4 : (fs : List Refusal) → (((fs ++ []) ++ []) ++ []) ++ [] ≡ fs
lone4 fs = append-nil (((fs ++ []) ++ []) ++ []) ∙ lone3 fs

pub lone5 : (fs : List Refusal) → ((((fs ++ []) ++ []) ++ []) ++ []) ++ [] ≡ fs
lone5 fs = append-nil ((((fs ++ []) ++ []) ++ []) ++ []) ∙ lone4 fs

pub clean_where : (b : Bool) (kind : RefusalKind) (place : Place) → is_clean (where_true b kind place) ≡ not b
clean_where true kind place = refl
clean_where false kind place = refl

pub clean_faults_of : (kind : Option RefusalKind) (place : Place) → is_clean (faults_of kind place) ≡ is_none kind
clean_faults_of None place = refl
clean_faults_of (Some kind) place = refl

-- behind what is clean or isn't, some faults, then further ones
pub clean_next : (y : Bool) (a r : List Refusal) → (y && is_clean (a ++ r)) ≡ ((y && is_clean a) && is_clean r)
clean_next y a r = ap (λ b. y && b) (clean_both a r) ∙ sym (and_assoc y (is_clean a) (is_clean r))

-- none is left
pub clean_past : (y : Bool) → (y && is_clean []) ≡ y
clean_past true = refl
clean_past false = refl

-- two operands, and further ones
pub clean_chain : (f v g w r : List Refusal)
    → ((is_clean (f ++ v) && is_clean (g ++ w)) && is_clean r) ≡ is_clean (f ++ (v ++ g ++ w ++ r))
clean_chain f v g w r = and_assoc (is_clean (f ++ v)) (is_clean (g ++ w)) (is_clean r)
    ∙ ap (λ b. is_clean (f ++ v) && b) (sym (clean_both (g ++ w) r))
    ∙ sym (clean_both (f ++ v) ((g ++ w) ++ r)) ∙ ap is_clean (chained f v g w r)
