-- What names mean stands in the resolved program.
use Rattle.std.proofs.Common.{◌≡◌, ℕ, zero, suc, ◌+◌, ◌<◌, List, [], ◌∷◌, length, map, slice_get, Option, Some}
use Rattle.std.proofs.Common.{None, refl, ap, ◌∙◌, subst, arith, option_map, Bool, true, false, cond, bytes_eq}
use Rattle.std.proofs.Common.{length-append}
use Rattle.std.proofs.lemmas.List.{length-map}
use Rattle.std.proofs.lemmas.Option.{slice_get-map}
use Rattle.std.specs.Prelude.{⊤}
use Rattle.program.specs.declared.kinds.ValueType.{ValueType}
use Rattle.program.specs.declared.kinds.MemberType.{MemberType}
use Rattle.program.specs.Scope.{own_monitor, member_in}
use Rattle.syntax.specs.Lexeme.{NameTree}
use Rattle.syntax.specs.Tree.{MonitorTree, UnitTree}
use Rattle.types.specs.Kinds.{member_kind, local_kind, parameter_kinds, locals_kinds, slot_kinds}
use Rattle.types.specs.Names.{text_number, parameter_names, body_scope}
use Rattle.types.specs.Resolved.{monitor, monitors_from}
use Rattle.types.specs.Scope.{Scope, Meaning, Nothing, ALocal, AMember, local_number, slot_kind, member_meaning}
use Rattle.types.specs.Scope.{kind_in, member_number, numbered_member, meaning_in, local_meaning, first_meaning}
use Rattle.types.specs.Scope.{meaning}
use Rattle.proof_well_formed.proofs.Lists.{there, some_same}

number_step : (b : Bool) (o : Option ℕ) (n i : ℕ) → ((j : ℕ) → o ≡ Some j → j < n)
    → cond b (Some 0) (option_map suc o) ≡ Some i → i < suc n
number_step true o n i h e = let f : 0 ≡ i = some_same 0 i e in omega (arith, f)
number_step false None n i h e = cc
number_step false (Some j) n i h e = let f : suc j ≡ i = some_same (suc j) i e in
    let g : j < n = h j refl in omega (arith, f, g)

-- a name that is found is one of the names
pub found_within : (names : List NameTree) (text : List ℕ) (i : ℕ) → text_number names text ≡ Some i
    → i < length names
found_within [] text i e = cc
found_within (n ∷ ns) text i e = number_step (bytes_eq text n.text) (text_number ns text) (length ns) i
    (found_within ns text) e

-- a meaning stands where the scope says it does
abbrev pub StandsIn : Scope → Meaning → Type 0
StandsIn s Nothing = ⊤
StandsIn s (ALocal slot k) = slot_kind s slot ≡ Some k
StandsIn s (AMember m k) = (own_monitor s.piece.role ≡ Some m.monitor)
    × (kind_in (slice_get s.unit.monitors m.monitor) m.number ≡ Some k)

local_stands : (s : Scope) (slot : ℕ) (o : Option ValueType) → slot_kind s slot ≡ o
    → StandsIn s (local_meaning slot o)
local_stands s slot None e = tt
local_stands s slot (Some k) e = e

member_stands : (s : Scope) (m i : ℕ) (o : Option MemberType) → own_monitor s.piece.role ≡ Some m
    → kind_in (slice_get s.unit.monitors m) i ≡ o → StandsIn s (member_meaning m i o)
member_stands s m i None e f = tt
member_stands s m i (Some k) e f = (e, f)

numbered_stands : (s : Scope) (m : ℕ) (o : Option ℕ) → own_monitor s.piece.role ≡ Some m
    → StandsIn s (numbered_member s m o)
numbered_stands s m None e = tt
numbered_stands s m (Some i) e = member_stands s m i (kind_in (slice_get s.unit.monitors m) i) e refl

inner_stands : (s : Scope) (o : Option ℕ) (name : NameTree) → own_monitor s.piece.role ≡ o
    → StandsIn s (meaning_in s o name)
inner_stands s None name e = tt
inner_stands s (Some m) name e = numbered_stands s m (member_number (slice_get s.unit.monitors m) name) e

first_stands : (s : Scope) (o : Option ℕ) (name : NameTree) → StandsIn s (first_meaning s o name)
first_stands s (Some slot) name = local_stands s slot (slot_kind s slot) refl
first_stands s None name = inner_stands s (own_monitor s.piece.role) name refl

pub stands : (s : Scope) (name : NameTree) (m : Meaning) → meaning s name ≡ m → StandsIn s m
stands s name m e = subst (StandsIn s) e (first_stands s (local_number s name) name)

-- a parameter or local that a name means has a type
pub slot_has_kind : (s : Scope) (name : NameTree) (slot : ℕ) → local_number s name ≡ Some slot
    → (k : ValueType) × (slot_kind s slot ≡ Some k)
slot_has_kind s name slot e =
    let ps = s.piece.parameters in
    let ls = s.piece.body.locals in
    let a : length (parameter_names ps) ≡ length ps = length-map ps (λ p. p.name) in
    let b : length (map (λ l. l.name) ls) ≡ length ls = length-map ls (λ l. l.name) in
    let c : length (body_scope ps ls) ≡ length (parameter_names ps) + length (map (λ l. l.name) ls) =
    length-append (parameter_names ps) (map (λ l. l.name) ls) in
    let d : length (parameter_kinds ps) ≡ length ps = length-map ps (λ p. local_kind p.kind) in
    let f : length (locals_kinds ls) ≡ length ls = length-map ls (λ l. local_kind l.kind) in
    let g : length (slot_kinds ps ls) ≡ length (parameter_kinds ps) + length (locals_kinds ls) =
    length-append (parameter_kinds ps) (locals_kinds ls) in
    let h : slot < length (body_scope ps ls) = found_within (body_scope ps ls) name.text slot e in
    there (slot_kinds ps ls) slot (omega (arith, a, b, c, d, f, g, h))

pub monitors_at : (u : UnitTree) (first : ℕ) (ts : List MonitorTree) (m : ℕ)
    → slice_get (monitors_from u first ts) m ≡ option_map (monitor u (first + m)) (slice_get ts m)
monitors_at u first [] m = refl
monitors_at u first (t ∷ ts) zero = let e : first ≡ first + 0 = omega arith in ap (λ n. Some (monitor u n t)) e
monitors_at u first (t ∷ ts) (suc m) = let e : first + 1 + m ≡ first + suc m = omega arith in
    monitors_at u (first + 1) ts m ∙ ap (λ n. option_map (monitor u n) (slice_get ts m)) e

kinds_at : (u : UnitTree) (n : ℕ) (o : Option MonitorTree) (i : ℕ)
    → member_in (option_map (monitor u n) o) i ≡ kind_in o i
kinds_at u n None i = refl
kinds_at u n (Some t) i = slice_get-map (λ x. member_kind x.kind) t.members i

-- a member has the same type in the resolved program
pub member_type_at : (u : UnitTree) (m i : ℕ)
    → member_in (slice_get (monitors_from u 0 u.monitors) m) i ≡ kind_in (slice_get u.monitors m) i
member_type_at u m i = ap (λ o. member_in o i) (monitors_at u 0 u.monitors m)
    ∙ kinds_at u (0 + m) (slice_get u.monitors m) i
