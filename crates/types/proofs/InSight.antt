-- The names and types in sight, where one more local is read.
use Rattle.std.proofs.Common.{◌≡◌, ℕ, ◌<◌, ◌≤◌, ◌+◌, List, [], ◌∷◌, ◌++◌, length, map, take, get_or, append_assoc}
use Rattle.std.proofs.Common.{ap, ◌∙◌, sym, subst}
use Rattle.std.proofs.lemmas.List.{take_more}
use Rattle.std.proofs.lemmas.List.{append-nil, map-append}
use Rattle.program.specs.declared.kinds.ValueType.{ValueType}
use Rattle.syntax.specs.declared.declaration.Local.{Local}
use Rattle.syntax.specs.declared.declaration.Parameter.{Parameter}
use Rattle.syntax.specs.declared.declaration.Member.{Member}
use Rattle.syntax.specs.Tree.{ParameterTree}
use Rattle.program.specs.declared.kinds.MemberType.{MemberType}
use Rattle.types.specs.declared.standing.Members.{Members}
use Rattle.types.specs.Standings.{HasMembers}
use Rattle.std.proofs.lemmas.List.{take_all}
use Rattle.syntax.specs.View.{name_of, parameter_of, local_of, member_of}
use Rattle.types.specs.declared.table.Table.{Table}
use Rattle.types.specs.Kinds.{member_kind, member_kinds, local_kind, slot_kinds, parameter_kinds, locals_kinds}
use Rattle.types.specs.Names.{body_scope, parameter_names, names_of_members}
use Rattle.types.specs.Tables.{IsTable}

locals_more : (ls : List Local) (i : ℕ) (d : Local) → i < length ls
    → map local_of (take (i + 1) ls) ≡ map local_of (take i ls) ++ local_of (get_or ls i d) ∷ []
locals_more ls i d h = ap (map local_of) (take_more ls i d h) ∙ map-append local_of (take i ls) (get_or ls i d ∷ [])

pub names_step : (ps : List ParameterTree) (ls : List Local) (i : ℕ) (d : Local) (t : Table) → i < length ls
    → IsTable (body_scope ps (map local_of (take i ls)) ++ name_of (get_or ls i d).name ∷ []) t
    → IsTable (body_scope ps (map local_of (take (i + 1) ls))) t
names_step ps ls i d t h k =
    let e : body_scope ps (map local_of (take (i + 1) ls)) ≡ body_scope ps (map local_of (take i ls)) ++ name_of
    (get_or ls i d).name ∷ [] =
    ap (λ xs. body_scope ps xs) (locals_more ls i d h)
    ∙ ap (λ ns. parameter_names ps ++ ns) (map-append (λ l. l.name) (map local_of (take i ls)) (local_of
    (get_or ls i d) ∷ []))
    ∙ sym (append_assoc (parameter_names ps) (map (λ l. l.name) (map local_of (take i ls))) (name_of
    (get_or ls i d).name ∷ [])) in
    subst (λ ns. IsTable ns t) (sym e) k

pub kinds_step : (ps : List ParameterTree) (ls : List Local) (i : ℕ) (d : Local) (old new : List ValueType)
    (k : ValueType) → i < length ls
    → new ≡ old ++ k ∷ [] → k ≡ local_kind (get_or ls i d).kind → old ≡ slot_kinds ps (map local_of (take i ls))
    → new ≡ slot_kinds ps (map local_of (take (i + 1) ls))
kinds_step ps ls i d old new k h pushed same before =
    pushed ∙ ap (λ x. old ++ x ∷ []) same ∙ ap (λ xs. xs ++ local_kind (get_or ls i d).kind ∷ []) before
    ∙ append_assoc (parameter_kinds ps) (locals_kinds (map local_of (take i ls))) (local_kind
    (get_or ls i d).kind ∷ [])
    ∙ ap (λ ns. parameter_kinds ps ++ ns) (sym (map-append (λ l. local_kind l.kind) (map local_of (take i ls))
    (local_of (get_or ls i d) ∷ [])))
    ∙ ap (λ xs. slot_kinds ps xs) (sym (locals_more ls i d h))

mapped_more : {X Y Z : Type 0} (f : Y → Z) (g : X → Y) (xs : List X) (i : ℕ) (d : X) → i < length xs
    → map f (map g (take (i + 1) xs)) ≡ map f (map g (take i xs)) ++ f (g (get_or xs i d)) ∷ []
mapped_more f g xs i d h = ap (λ ys. map f (map g ys)) (take_more xs i d h)
    ∙ ap (map f) (map-append g (take i xs) (get_or xs i d ∷ []))
    ∙ map-append f (map g (take i xs)) (g (get_or xs i d) ∷ [])

pub parameter_names_step : (ps : List Parameter) (i : ℕ) (d : Parameter) (t : Table) → i < length ps
    → IsTable (parameter_names (map parameter_of (take i ps)) ++ name_of (get_or ps i d).name ∷ []) t
    → IsTable (parameter_names (map parameter_of (take (i + 1) ps))) t
parameter_names_step ps i d t h k =
    subst (λ ns. IsTable ns t) (sym (mapped_more (λ p. p.name) parameter_of ps i d h)) k

pub parameter_kinds_step : (ps : List Parameter) (i : ℕ) (d : Parameter) (old new : List ValueType) (k : ValueType)
    → i < length ps → new ≡ old ++ k ∷ [] → k ≡ local_kind (get_or ps i d).kind
    → old ≡ parameter_kinds (map parameter_of (take i ps)) → new ≡ parameter_kinds (map parameter_of (take (i + 1) ps))
parameter_kinds_step ps i d old new k h pushed same before =
    pushed ∙ ap (λ x. old ++ x ∷ []) same ∙ ap (λ xs. xs ++ local_kind (get_or ps i d).kind ∷ []) before
    ∙ sym (mapped_more (λ p. local_kind p.kind) parameter_of ps i d h)

pub parameters_in_scope : (ps : List Parameter) (i : ℕ) (t : Table) → length ps ≤ i
    → IsTable (parameter_names (map parameter_of (take i ps))) t → IsTable (body_scope (map parameter_of ps) []) t
parameters_in_scope ps i t h k = subst (λ ns. IsTable ns t)
    (ap (λ xs. parameter_names (map parameter_of xs)) (take_all i ps h)
    ∙ sym (append-nil (parameter_names (map parameter_of ps)))) k

pub parameters_have_kinds : (ps : List Parameter) (i : ℕ) (ks : List ValueType) → length ps ≤ i
    → ks ≡ parameter_kinds (map parameter_of (take i ps)) → ks ≡ slot_kinds (map parameter_of ps) []
parameters_have_kinds ps i ks h e = e ∙ ap (λ xs. parameter_kinds (map parameter_of xs)) (take_all i ps h)
    ∙ sym (append-nil (parameter_kinds (map parameter_of ps)))

pub member_names_step : (ms : List Member) (i : ℕ) (d : Member) (t : Table) → i < length ms
    → IsTable (names_of_members (map member_of (take i ms)) ++ name_of (get_or ms i d).name ∷ []) t
    → IsTable (names_of_members (map member_of (take (i + 1) ms))) t
member_names_step ms i d t h k = subst (λ ns. IsTable ns t) (sym (mapped_more (λ x. x.name) member_of ms i d h)) k

pub member_kinds_step : (ms : List Member) (i : ℕ) (d : Member) (old new : List MemberType) (k : MemberType)
    → i < length ms
    → new ≡ old ++ k ∷ [] → k ≡ member_kind (get_or ms i d).kind → old ≡ member_kinds (map member_of (take i ms))
    → new ≡ member_kinds (map member_of (take (i + 1) ms))
member_kinds_step ms i d old new k h pushed same before =
    pushed ∙ ap (λ x. old ++ x ∷ []) same ∙ ap (λ xs. xs ++ member_kind (get_or ms i d).kind ∷ []) before
    ∙ sym (mapped_more (λ x. member_kind x.kind) member_of ms i d h)

pub all_members : (ms : List Member) (i : ℕ) (m : Members) → length ms ≤ i
    → IsTable (names_of_members (map member_of (take i ms))) m.names
    → m.kinds.items ≡ member_kinds (map member_of (take i ms)) → HasMembers (map member_of ms) m
all_members ms i m h names kinds = (
  subst (λ xs. IsTable (names_of_members (map member_of xs)) m.names) (take_all i ms h) names,
  kinds ∙ ap (λ xs. member_kinds (map member_of xs)) (take_all i ms h),
)
