-- What the names that code lists say of a unit's tree.
use Rattle.std.proofs.Common.{◌≡◌, List, [], ◌∷◌, ◌++◌, map, refl, ap, ◌∙◌, Bool, true, false, cond, take, length}
use Rattle.std.specs.Prelude.{filter, flat_map}
use Rattle.std.proofs.lemmas.List.{map-append, take_at, length-map}
use Rattle.syntax.specs.declared.declaration.Local.{Local}
use Rattle.syntax.specs.declared.declaration.Parameter.{Parameter}
use Rattle.syntax.specs.declared.declaration.Member.{Member}
use Rattle.syntax.specs.declared.declaration.Procedure.{Procedure}
use Rattle.syntax.specs.declared.declaration.Monitor.{Monitor}
use Rattle.syntax.specs.Tree.{MemberTree}
use Rattle.syntax.specs.View.{name_of, parameter_of, local_of, member_of, monitor_of, procedure_of}
use Rattle.syntax.specs.View.{monitor_procedure_of}
use Rattle.types.specs.Names.{parameter_names, body_scope, monitor_scope, procedure_names}
use Rattle.types.specs.Judgement.{is_condition}

-- two ways to the same things
pub seen : {A B C D : Type 0} (f : B → C) (g : A → B) (h : D → C) (k : A → D) → ((x : A) → f (g x) ≡ h (k x))
    → (xs : List A) → map f (map g xs) ≡ map h (map k xs)
seen f g h k e [] = refl
seen f g h k e (x ∷ xs) = ap (λ y. y ∷ map f (map g xs)) (e x) ∙ ap (λ ys. h (k x) ∷ ys) (seen f g h k e xs)

both : {A B C D E F : Type 0} (f : B → C) (g : A → B) (h : D → C) (k : A → D) (l : E → B) (m : F → C) (n : E → F)
    → ((x : A) → f (g x) ≡ h (k x)) → ((x : E) → f (l x) ≡ m (n x)) → (xs : List A) (ys : List E)
    → map f (map g xs ++ map l ys) ≡ map h (map k xs) ++ map m (map n ys)
both f g h k l m n e d xs ys = map-append f (map g xs) (map l ys)
    ∙ ap (λ zs. zs ++ map f (map l ys)) (seen f g h k e xs) ∙ ap (λ zs. map h (map k xs) ++ zs) (seen f l m n d ys)

pub body_names : (ps : List Parameter) (ls : List Local)
    → map name_of (map (λ p. p.name) ps ++ map (λ l. l.name) ls) ≡ body_scope (map parameter_of ps) (map local_of ls)
body_names ps ls = both name_of (λ p. p.name) (λ p. p.name) parameter_of (λ l. l.name) (λ l. l.name) local_of
    (λ x. refl) (λ x. refl) ps ls

pub first_names : (ps : List Parameter) (ls : List Local)
    → map name_of (take (length ps) (map (λ p. p.name) ps ++ map (λ l. l.name) ls))
    ≡ parameter_names (map parameter_of ps)
first_names ps ls =
    ap (map name_of) (take_at (map (λ p. p.name) ps) (map (λ l. l.name) ls) (length ps) (length-map ps (λ p. p.name)))
    ∙ seen name_of (λ p. p.name) (λ p. p.name) parameter_of (λ x. refl) ps

pub scope_names : (m : Monitor) → map name_of (map (λ x. x.name) m.members.items
    ++ map (λ q. q.procedure.name) m.procedures.items) ≡ monitor_scope (monitor_of m)
scope_names m = both name_of (λ x. x.name) (λ x. x.name) member_of (λ q. q.procedure.name) (λ q. q.procedure.name)
    monitor_procedure_of (λ x. refl) (λ x. refl) m.members.items m.procedures.items

pub outer_seen : (ms : List Monitor) (ps : List Procedure) → map name_of (map (λ m. m.name) ms ++ map (λ q. q.name) ps)
    ≡ map (λ m. m.name) (map monitor_of ms) ++ map (λ q. q.name) (map procedure_of ps)
outer_seen ms ps = both name_of (λ m. m.name) (λ m. m.name) monitor_of (λ q. q.name) (λ q. q.name) procedure_of
    (λ x. refl) (λ x. refl) ms ps

pub monitors_seen : (ms : List Monitor) → map name_of (map (λ m. m.name) ms) ≡ map (λ m. m.name) (map monitor_of ms)
monitors_seen ms = seen name_of (λ m. m.name) (λ m. m.name) monitor_of (λ x. refl) ms

pub members_seen : (ms : List Monitor)
    → map member_of (flat_map (λ m. m.members.items) ms) ≡ flat_map (λ t. t.members) (map monitor_of ms)
members_seen [] = refl
members_seen (m ∷ ms) = map-append member_of m.members.items (flat_map (λ x. x.members.items) ms)
    ∙ ap (λ xs. map member_of m.members.items ++ xs) (members_seen ms)

inner_seen : (ms : List Monitor) → map name_of (flat_map (λ m. map (λ q. q.procedure.name) m.procedures.items) ms)
    ≡ flat_map procedure_names (map monitor_of ms)
inner_seen [] = refl
inner_seen (m ∷ ms) =
    map-append name_of (map (λ q. q.procedure.name) m.procedures.items)
    (flat_map (λ x. map (λ q. q.procedure.name) x.procedures.items) ms)
    ∙ ap (λ xs. xs ++ map name_of (flat_map (λ x. map (λ q. q.procedure.name) x.procedures.items) ms))
    (seen name_of (λ q. q.procedure.name) (λ q. q.procedure.name) monitor_procedure_of (λ x. refl) m.procedures.items)
    ∙ ap (λ xs. procedure_names (monitor_of m) ++ xs) (inner_seen ms)

pub procedures_seen : (ms : List Monitor) (ps : List Procedure)
    → map name_of (flat_map (λ m. map (λ q. q.procedure.name) m.procedures.items) ms ++ map (λ q. q.name) ps)
    ≡ flat_map procedure_names (map monitor_of ms) ++ map (λ q. q.name) (map procedure_of ps)
procedures_seen ms ps =
    map-append name_of (flat_map (λ m. map (λ q. q.procedure.name) m.procedures.items) ms) (map (λ q. q.name) ps)
    ∙ ap (λ xs. xs ++ map name_of (map (λ q. q.name) ps)) (inner_seen ms)
    ∙ ap (λ xs. flat_map procedure_names (map monitor_of ms) ++ xs)
    (seen name_of (λ q. q.name) (λ q. q.name) procedure_of (λ x. refl) ps)

kept_or : (b : Bool) (m : Member) (ms : List Member) (xs : List MemberTree)
    → map name_of (map (λ x. x.name) ms) ≡ map (λ x. x.name) xs
    → map name_of (map (λ x. x.name) (cond b (m ∷ ms) ms)) ≡ map (λ x. x.name) (cond b (member_of m ∷ xs) xs)
kept_or true m ms xs e = ap (λ ys. name_of m.name ∷ ys) e
kept_or false m ms xs e = e

pub conditions_seen : (ms : List Member) → map name_of (map (λ x. x.name) (filter (λ x. is_condition x.kind) ms))
    ≡ map (λ x. x.name) (filter (λ x. is_condition x.kind) (map member_of ms))
conditions_seen [] = refl
conditions_seen (m ∷ ms) =
    kept_or (is_condition m.kind) m (filter (λ x. is_condition x.kind) ms)
    (filter (λ x. is_condition x.kind) (map member_of ms)) (conditions_seen ms)
