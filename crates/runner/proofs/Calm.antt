-- No held bucket is in the way of a thread that stands at a calm place: its local steps lead to such alone, up to a shared
-- step that is no futex call.
use Rattle.std.proofs.Common.{◌≡◌, ◌+◌, ℕ, zero, suc, Bool, true, false, List, [], ◌∷◌, length, Option, Some, None}
use Rattle.std.proofs.Common.{slice_get, refl, ap, sym, ◌∙◌, subst}
use Rattle.std.specs.Prelude.{nat_lt}
use Rattle.words.specs.declared.outcome.Fault.{Fault}
use Rattle.words.specs.declared.outcome.Cause.TheVariants.{Faulted}
use Rattle.words.specs.Versions.{most_of}
use Rattle.isa.specs.declared.instr.Instr.{Instr}
use Rattle.isa.specs.declared.instr.Instr.TheVariants.{Push, GetLocal, SetLocal, Pop, Operate, Negate, Not, Jump}
use Rattle.isa.specs.declared.instr.Instr.TheVariants.{JumpIfZero, Call, Ret, RetValue, Index, OwnNumber}
use Rattle.isa.specs.declared.instr.Instr.TheVariants.{ProcessAddress, Raise, Load, Store, Swap, CompareSwap}
use Rattle.isa.specs.declared.instr.Instr.TheVariants.{FetchOr, FetchAdd, Fork, Print, FutexWait, FutexWake}
use Rattle.isa.specs.declared.instr.Instr.TheVariants.{FutexRequeue}
use Rattle.isa.specs.declared.operator.Operator.{Operator}
use Rattle.isa.specs.declared.operator.Operator.TheVariants.{Add, Sub, Mul, Div, Mod, Eq, Ne, Lt, Le, Gt, Ge}
use Rattle.isa.specs.declared.operator.Operator.TheVariants.{BitAnd, BitOr}
use Rattle.isa.specs.Programs.{Program}
use Rattle.robustexit.specs.ExitRules.{exit_of}
use Rattle.robustexit.specs.declared.rule.ExitRule.{ExitRule}
use Rattle.locals.specs.Limits.{most_callers}
use Rattle.locals.specs.Looks.{Look, Goes, Effect, Then, Keeps, To, Tests, Asking, Trying}
use Rattle.locals.specs.Looks.{Calls, Returns, ReturnsValue, Fails, Misses, Guards, Checks, at_place, effect, if_so}
use Rattle.locals.specs.Looks.{look, look_at, on_one, on_two, on_three, operator_effect, or_dies}
use Rattle.locals.specs.Steps.{and_step, local_after, local_next, local_step}
use Rattle.locals.specs.Threads.{Thread, Runs, Dies, Exits, fresh, place_in_code}
use Rattle.locals.specs.declared.frame.Frame.{Frame}
use Rattle.locals.specs.declared.frame.Locals.{Locals}
use Rattle.machine.specs.PieceStates.{call_of}
use Rattle.machine.specs.States.{thread_of}
use Rattle.machine.proofs.Placing.{thread_at-put}
use Rattle.piece_machine.specs.PieceConcrete.{PieceConcrete, is_blocked, is_held, wanted, wanted_by, with_local}
use Rattle.piece_machine.specs.PieceDetermined.{IsFit}
use Rattle.runner.specs.CalmCode.{IsCalm, IsClosed, is_calm, leads_calmly}
use Rattle.runner.specs.Reports.{IsHeldUp}
use Rattle.runner.proofs.CalmNotes.{both}
use Rattle.runner.proofs.Waiting.{held_up_blocked}

-- what an effect at a place leads to
abbrev LeadsOn : List Bool → ℕ → Effect → Type 0
LeadsOn places at (Then operands) = is_calm places (at + 1) ≡ true
LeadsOn places at (Keeps locals operands) = is_calm places (at + 1) ≡ true
LeadsOn places at (To place operands) = is_calm places place ≡ true
LeadsOn places at (Tests value place operands) = (is_calm places place ≡ true) × (is_calm places (at + 1) ≡ true)
LeadsOn places at (Asking request answered) = call_of request ≡ None
LeadsOn places at (Trying request fault answered) = call_of request ≡ None
LeadsOn places at (Calls place operands) = is_calm places place ≡ true
LeadsOn places at (Returns operands) = ⊥
LeadsOn places at (ReturnsValue v operands) = ⊥
LeadsOn places at (Fails fault) = Unit {0}
LeadsOn places at Misses = Unit {0}
LeadsOn places at (Guards test e) = LeadsOn places at e
LeadsOn places at (Checks test fault e) = LeadsOn places at e

one : (places : List Bool) (at : ℕ) (operands : List ℕ) (go : ℕ → List ℕ → Effect)
    → ((v : ℕ) (rest : List ℕ) → LeadsOn places at (go v rest)) → LeadsOn places at (on_one operands go)
one places at [] go h = tt
one places at (v ∷ rest) go h = h v rest

two : (places : List Bool) (at : ℕ) (operands : List ℕ) (go : ℕ → ℕ → List ℕ → Effect)
    → ((a b : ℕ) (rest : List ℕ) → LeadsOn places at (go a b rest)) → LeadsOn places at (on_two operands go)
two places at operands go h =
    one places at operands (λ b rest. on_one rest (λ a rest'. go a b rest'))
    (λ b rest. one places at rest (λ a rest'. go a b rest') (λ a rest'. h a b rest'))

three : (places : List Bool) (at : ℕ) (operands : List ℕ) (go : ℕ → ℕ → ℕ → List ℕ → Effect)
    → ((a b c : ℕ) (rest : List ℕ) → LeadsOn places at (go a b c rest)) → LeadsOn places at (on_three operands go)
three places at operands go h =
    one places at operands (λ c rest. on_two rest (λ a b rest'. go a b c rest'))
    (λ c rest. two places at rest (λ a b rest'. go a b c rest') (λ a b rest'. h a b c rest'))

operated : (places : List Bool) (at : ℕ) (o : Operator) (a b : ℕ) (rest : List ℕ) → is_calm places (at + 1) ≡ true
    → LeadsOn places at (operator_effect o a b rest)
operated places at Add a b rest h = h
operated places at Sub a b rest h = h
operated places at Mul a b rest h = h
operated places at Div a b rest h = h
operated places at Mod a b rest h = h
operated places at Eq a b rest h = h
operated places at Ne a b rest h = h
operated places at Lt a b rest h = h
operated places at Le a b rest h = h
operated places at Gt a b rest h = h
operated places at Ge a b rest h = h
operated places at BitAnd a b rest h = h
operated places at BitOr a b rest h = h

led : (places : List Bool) (at most t : ℕ) (i : Instr) (operands : List ℕ) (locals : Locals)
    → leads_calmly places at i ≡ true → LeadsOn places at (effect most t i operands locals)
led places at most t (Push n) operands locals h = h
led places at most t (GetLocal slot) operands locals h = h
led places at most t (SetLocal slot) operands locals h = one places at operands _ (λ v rest. h)
led places at most t Pop operands locals h = one places at operands _ (λ v rest. h)
led places at most t (Operate o) operands locals h =
    two places at operands (operator_effect o) (λ a b rest. operated places at o a b rest h)
led places at most t Negate operands locals h = one places at operands _ (λ v rest. h)
led places at most t Not operands locals h = one places at operands _ (λ v rest. h)
led places at most t (Jump p) operands locals h = h
led places at most t (JumpIfZero p) operands locals h =
    one places at operands _ (λ v rest. both (is_calm places p) (is_calm places (at + 1)) h)
led places at most t (Call p) operands locals h = h
led places at most t Ret operands locals h = absurd cc
led places at most t RetValue operands locals h = absurd cc
led places at most t (Index b n) operands locals h = one places at operands _ (λ v rest. h)
led places at most t OwnNumber operands locals h = h
led places at most t (ProcessAddress word) operands locals h = one places at operands _ (λ v rest. h)
led places at most t (Raise fault) operands locals h = tt
led places at most t Load operands locals h = one places at operands _ (λ a rest. refl)
led places at most t Store operands locals h = two places at operands _ (λ a v rest. refl)
led places at most t Swap operands locals h = two places at operands _ (λ a v rest. refl)
led places at most t CompareSwap operands locals h = three places at operands _ (λ a e n rest. refl)
led places at most t FetchOr operands locals h = two places at operands _ (λ a v rest. refl)
led places at most t FetchAdd operands locals h = two places at operands _ (λ a v rest. refl)
led places at most t (Fork p n) operands locals h = refl
led places at most t Print operands locals h = one places at operands _ (λ v rest. refl)
led places at most t FutexWait operands locals h = absurd cc
led places at most t FutexWake operands locals h = absurd cc
led places at most t FutexRequeue operands locals h = absurd cc

same_thread : (y x : Thread) → Some y ≡ Some x → y ≡ x
same_thread y x h = cc

calm_is : (places : List Bool) (y x : Thread) → IsCalm places y → Some y ≡ Some x → IsCalm places x
calm_is places y x h is = subst (IsCalm places) (same_thread y x is) h

calm_if : (places : List Bool) (test : Bool) (l : Look) (x : Thread) → (local_next l ≡ Some x → IsCalm places x)
    → local_next (if_so test l) ≡ Some x → IsCalm places x
calm_if places true l x h is = h is
calm_if places false l x h is = absurd cc

calm_or : (places : List Bool) (test : Bool) (fault : Fault) (l : Look) (x : Thread)
    → (local_next l ≡ Some x → IsCalm places x) → local_next (or_dies test fault l) ≡ Some x → IsCalm places x
calm_or places true fault l x h is = h is
calm_or places false fault l x h is = calm_is places (Dies (Faulted fault)) x tt is

-- a local step leads to a calm place
calm_next : (places : List Bool) (at : ℕ) (locals : Locals) (callers : List Frame) (e : Effect) (x : Thread)
    → LeadsOn places at e → local_next (at_place at locals callers e) ≡ Some x → IsCalm places x
calm_next places at locals callers (Then operands) x h is =
    calm_is places (Runs (at + 1) operands locals callers) x h is
calm_next places at locals callers (Keeps locals' operands) x h is =
    calm_is places (Runs (at + 1) operands locals' callers) x h is
calm_next places at locals callers (To place operands) x h is =
    calm_is places (Runs place operands locals callers) x h is
calm_next places at locals callers (Tests zero place operands) x h is =
    calm_is places (Runs place operands locals callers) x h.0 is
calm_next places at locals callers (Tests (suc n) place operands) x h is =
    calm_is places (Runs (at + 1) operands locals callers) x h.1 is
calm_next places at locals callers (Asking request answered) x h is = absurd cc
calm_next places at locals callers (Trying request fault answered) x h is = absurd cc
calm_next places at locals callers (Calls place operands) x h is =
    let made = Runs place operands fresh (record { back = at + 1; locals = locals } ∷ callers) in
    calm_if places (nat_lt (length callers) most_callers) (Goes made) x (λ g. calm_is places made x h g) is
calm_next places at locals callers (Returns operands) x h is = absurd h
calm_next places at locals callers (ReturnsValue v operands) x h is = absurd h
calm_next places at locals callers (Fails fault) x h is = calm_is places (Dies (Faulted fault)) x tt is
calm_next places at locals callers Misses x h is = absurd cc
calm_next places at locals callers (Guards test e) x h is =
    calm_if places test (at_place at locals callers e) x (calm_next places at locals callers e x h) is
calm_next places at locals callers (Checks test fault e) x h is =
    calm_or places test fault (at_place at locals callers e) x (calm_next places at locals callers e x h) is

-- and no bucket is wanted there
none_if : (rule : ExitRule) (k : PieceConcrete) (t : ℕ) (test : Bool) (l : Look) → wanted rule k t l ≡ None → wanted rule k t (if_so test l) ≡ None
none_if rule k t true l h = h
none_if rule k t false l h = refl

none_or : (rule : ExitRule) (k : PieceConcrete) (t : ℕ) (test : Bool) (fault : Fault) (l : Look) → wanted rule k t l ≡ None
    → wanted rule k t (or_dies test fault l) ≡ None
none_or rule k t true fault l h = h
none_or rule k t false fault l h = refl

none_wanted : (rule : ExitRule) (k : PieceConcrete) (t : ℕ) (places : List Bool) (at : ℕ) (locals : Locals) (callers : List Frame)
    (e : Effect) → LeadsOn places at e → wanted rule k t (at_place at locals callers e) ≡ None
none_wanted rule k t places at locals callers (Then operands) h = refl
none_wanted rule k t places at locals callers (Keeps locals' operands) h = refl
none_wanted rule k t places at locals callers (To place operands) h = refl
none_wanted rule k t places at locals callers (Tests value place operands) h = refl
none_wanted rule k t places at locals callers (Asking request answered) h = ap (wanted_by k t) h
none_wanted rule k t places at locals callers (Trying request fault answered) h = ap (wanted_by k t) h
none_wanted rule k t places at locals callers (Calls place operands) h =
    none_if _ k t (nat_lt (length callers) most_callers)
    (Goes (Runs place operands fresh (record { back = at + 1; locals = locals } ∷ callers))) refl
none_wanted rule k t places at locals callers (Returns operands) h = absurd h
none_wanted rule k t places at locals callers (ReturnsValue v operands) h = absurd h
none_wanted rule k t places at locals callers (Fails fault) h = refl
none_wanted rule k t places at locals callers Misses h = refl
none_wanted rule k t places at locals callers (Guards test e) h =
    none_if _ k t test (at_place at locals callers e) (none_wanted _ k t places at locals callers e h)
none_wanted rule k t places at locals callers (Checks test fault e) h =
    none_or _ k t test fault (at_place at locals callers e) (none_wanted _ k t places at locals callers e h)

-- the same of what stands at a place of the code, if something does
next_at : (code : List Instr) (places : List Bool) (at most t : ℕ) (operands : List ℕ) (locals : Locals)
    (callers : List Frame) (x : Thread) (o : Option Instr) → slice_get code at ≡ o → IsClosed code places
    → is_calm places at ≡ true → local_next (look_at most t o at operands locals callers) ≡ Some x → IsCalm places x
next_at code places at most t operands locals callers x None stands closed calm is = absurd cc
next_at code places at most t operands locals callers x (Some i) stands closed calm is =
    calm_next places at locals callers (effect most t i operands locals) x
    (led places at most t i operands locals (closed at i calm stands)) is

wanted_at : (rule : ExitRule) (k : PieceConcrete) (code : List Instr) (places : List Bool) (at most t : ℕ) (operands : List ℕ)
    (locals : Locals) (callers : List Frame) (o : Option Instr) → slice_get code at ≡ o → IsClosed code places
    → is_calm places at ≡ true → wanted rule k t (look_at most t o at operands locals callers) ≡ None
wanted_at rule k code places at most t operands locals callers None stands closed calm = refl
wanted_at rule k code places at most t operands locals callers (Some i) stands closed calm =
    none_wanted _ k t places at locals callers (effect most t i operands locals)
    (led places at most t i operands locals (closed at i calm stands))

calm_step : (p : Program) (t : ℕ) (places : List Bool) (x y : Thread) → IsClosed p.code places → IsCalm places x
    → local_step p t x ≡ Some y → IsCalm places y
calm_step p t places (Runs place operands locals callers) y closed calm goes =
    next_at p.code places place (most_of p.version) t operands locals callers y (slice_get p.code place) refl closed calm
    goes
calm_step p t places (Dies cause) y closed calm goes = absurd cc
calm_step p t places (Exits phase) y closed calm goes = absurd calm

calm_wants : (p : Program) (k : PieceConcrete) (t : ℕ) (places : List Bool) (x : Thread) → IsClosed p.code places
    → IsCalm places x → wanted (exit_of p.version) k t (look p t x) ≡ None
calm_wants p k t places (Runs place operands locals callers) closed calm =
    wanted_at _ k p.code places place (most_of p.version) t operands locals callers (slice_get p.code place) refl closed
    calm
calm_wants p k t places (Dies cause) closed calm = refl
calm_wants p k t places (Exits phase) closed calm = absurd calm

last_step : (p : Program) (t : ℕ) (places : List Bool) (mid : Option Thread) (here : Thread) → IsClosed p.code places
    → ((m : Thread) → mid ≡ Some m → IsCalm places m) → and_step p t mid ≡ Some here → IsCalm places here
last_step p t places None here closed before goes = absurd cc
last_step p t places (Some m) here closed before goes = calm_step p t places m here closed (before m refl) goes

calm_after : (p : Program) (t n : ℕ) (places : List Bool) (o here : Thread) → IsClosed p.code places → IsCalm places o
    → local_after p t n o ≡ Some here → IsCalm places here
calm_after p t zero places o here closed calm goes = calm_is places o here calm goes
calm_after p t (suc n) places o here closed calm goes =
    last_step p t places (local_after p t n o) here closed (λ m is. calm_after p t n places o m closed calm is) goes

true_or_false : (b : Bool) → b ≡ true → b ≡ false → ⊥
true_or_false b is isn't = absurd cc

-- where a thread stands in the code
pub calm_place : (places : List Bool) (x : Thread) (place : ℕ) → place_in_code x ≡ Some place
    → is_calm places place ≡ true → IsCalm places x
calm_place places (Runs at operands locals callers) place is calm =
    let same : at ≡ place = cc in
    subst (λ (n : ℕ). is_calm places n ≡ true) (sym same) calm
calm_place places (Dies cause) place is calm = absurd cc
calm_place places (Exits phase) place is calm = absurd cc

pub calm_free : (p q : Program) (k : PieceConcrete) (t : ℕ) (places : List Bool) (x : Thread) → q ≡ p → IsFit q k
    → thread_of k.concrete t ≡ Some x → IsClosed p.code places → IsCalm places x → IsHeldUp p k t → ⊥
calm_free p q k t places x same fit stands closed calm w =
    let there = with_local k t w.here in
    let from = subst (IsCalm places) (same_thread x w.origin (sym stands ∙ w.stands)) calm in
    let here = calm_after p t w.count places w.origin w.here closed from w.goes in
    let stands_there = thread_at-put k.concrete.threads t w.origin w.here w.stands in
    true_or_false (is_blocked p there t (thread_of there.concrete t))
    (held_up_blocked p k t (subst (λ (z : Program). IsFit z k) same fit) w)
    (ap (is_blocked p there t) stands_there ∙ ap (is_held there) (calm_wants p there t places w.here closed here))
