-- What a callee's name means, from what the tables of names say.
use Rattle.std.proofs.Common.{◌≡◌, ℕ, ◌<◌, ◌+◌, ◌-◌, ◌^◌, suc, List, [], ◌∷◌, length, Option, Some, None, Bool}
use Rattle.std.proofs.Common.{true, false, cond, bytes_eq, refl, ap, ◌∙◌, sym, arith, slice_get}
use Rattle.std.specs.Prelude.{option_map}
use Rattle.std.specs.Option.{SomeIff}
use Rattle.std.proofs.lemmas.List.{length-map}
use Rattle.syntax.specs.Lexeme.{NameTree}
use Rattle.syntax.specs.Tree.{MonitorTree, UnitTree}
use Rattle.types.specs.Names.{text_number, number_in, monitor_names, external_names, member_names, procedure_names}
use Rattle.types.specs.Pieces.{first_piece, first_external}
use Rattle.types.specs.Scope.{unless_declared, procedure_number, inner_procedure, external_procedure}
use Rattle.callees.specs.Names.{declarations}
use Rattle.callees.proofs.Few.{few_procedures, few_externals}

number_behind : (b : Bool) (o : Option ℕ) (k n : ℕ) → ((m : ℕ) → o ≡ Some m → m < k)
    → cond b (Some 0) (option_map suc o) ≡ Some n → n < suc k
number_behind true o k n h e = let f : 0 ≡ n = cc in omega arith
number_behind false (Some m) k n h e = let f : suc m ≡ n = cc in let g = h m refl in omega arith
number_behind false None k n h e = let w : None ≡ Some n = e in cc

pub text_within : (ns : List NameTree) (text : List ℕ) (n : ℕ) → text_number ns text ≡ Some n → n < length ns
text_within [] text n e = let w : None ≡ Some n = e in cc
text_within (x ∷ ns) text n e = number_behind (bytes_eq text x.text) (text_number ns text) (length ns) n
    (text_within ns text) e

pub undeclared : (o p : Option ℕ) (n : ℕ) → unless_declared o p ≡ Some n → p ≡ Some n
undeclared (Some m) p n e = let w : None ≡ Some n = e in cc
undeclared None p n e = e

summed : (r o : Option ℕ) (first n : ℕ) → first + n < 2 ^ 32 → o ≡ Some n → SomeIff r (first + n < 2 ^ 32) (first + n)
    → r ≡ option_map (λ i. first + i) o
summed None o first n lt e h = absurd (h lt)
summed (Some x) o first n lt e h = ap Some h.1 ∙ sym (ap (option_map (λ i. first + i)) e)

pub inner_found : (u : UnitTree) (m : ℕ) (t : MonitorTree) (name : NameTree) (first n : ℕ) (r : Option ℕ)
    → declarations u < 2 ^ 32 - 1 → slice_get u.monitors m ≡ Some t → first ≡ first_piece u m
    → Some n ≡ procedure_number (Some t) name → SomeIff r (first + n < 2 ^ 32) (first + n)
    → r ≡ inner_procedure u m name
inner_found u m t name first n r few at e found h =
    let lt : n < length (procedure_names t) = text_within (procedure_names t) name.text n (undeclared (number_in
    (member_names t) name) (number_in (procedure_names t) name) n (sym found)) in
    let f = length-map t.procedures (λ q. q.procedure.name) in
    let g = few_procedures u m t few at in
    summed r (procedure_number (slice_get u.monitors m) name) first n (omega arith)
    (ap (λ o. procedure_number o name) at ∙ sym found) h
    ∙ ap (λ k. option_map (λ i. k + i) (procedure_number (slice_get u.monitors m) name)) e

pub external_found : (u : UnitTree) (name : NameTree) (first n : ℕ) (r : Option ℕ) → declarations u < 2 ^ 32 - 1
    → first ≡ first_external u → number_in (monitor_names u) name ≡ None → number_in (external_names u) name ≡ Some n
    → SomeIff r (first + n < 2 ^ 32) (first + n) → r ≡ external_procedure u name
external_found u name first n r few e free found h =
    let lt : n < length (external_names u) = text_within (external_names u) name.text n found in
    let f = length-map u.procedures (λ q. q.name) in
    let g = few_externals u few in
    let o = unless_declared (number_in (monitor_names u) name) (number_in (external_names u) name) in
    let is : o ≡ Some n = ap (λ k. unless_declared k (number_in (external_names u) name)) free ∙ found in
    summed r o first n (omega arith) is h ∙ ap (λ k. option_map (λ i. k + i) o) e
