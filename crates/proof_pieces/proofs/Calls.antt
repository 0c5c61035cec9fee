-- The call that a thread makes; and a thread that waits runs on behind its wait.
use Rattle.std.proofs.Common.{◌≡◌, ◌∙◌, ℕ, ◌+◌, Option, Some, None, List, [], ◌∷◌, length, refl, ap, subst, Bool, true}
use Rattle.std.proofs.Common.{false}
use Rattle.std.specs.Prelude.{nat_lt, slice_get}
use Rattle.words.specs.declared.outcome.Fault.{Fault}
use Rattle.words.specs.Versions.{most_of}
use Rattle.isa.specs.Programs.{Program}
use Rattle.isa.specs.declared.operator.Operator.{Operator}
use Rattle.isa.specs.declared.operator.Operator.TheVariants.{Add, Sub, Mul, Div, Mod, Eq, Ne, Lt, Le, Gt, Ge}
use Rattle.isa.specs.declared.operator.Operator.TheVariants.{BitAnd, BitOr}
use Rattle.isa.specs.declared.instr.Instr.{Instr}
use Rattle.isa.specs.declared.instr.Instr.TheVariants.{Push, GetLocal, SetLocal, Pop, Operate, Negate, Not, Jump}
use Rattle.isa.specs.declared.instr.Instr.TheVariants.{JumpIfZero, Call, Ret, RetValue, Index, OwnNumber}
use Rattle.isa.specs.declared.instr.Instr.TheVariants.{ProcessAddress, Raise, Load, Store, Swap, CompareSwap}
use Rattle.isa.specs.declared.instr.Instr.TheVariants.{FetchOr, FetchAdd, Fork, Print, FutexWait, FutexWake}
use Rattle.isa.specs.declared.instr.Instr.TheVariants.{FutexRequeue}
use Rattle.futexcalls.specs.declared.pieces.FutexCall.{FutexCall}
use Rattle.futexcalls.specs.declared.pieces.FutexCall.TheVariants.{Wait, Wake, Requeue}
use Rattle.robustexit.specs.declared.phase.ExitPhase.TheVariants.{Entry, Pending, ClearId, LastWake, Ended}
use Rattle.locals.specs.declared.frame.Frame.{Frame}
use Rattle.locals.specs.declared.frame.Locals.{Locals}
use Rattle.locals.specs.Threads.{Thread, Runs, Dies, Exits, fresh, is_dying}
use Rattle.locals.specs.InstructionEffects.{operator_effect}
use Rattle.locals.specs.Looks.{AskReturn, AskReturnValue}
use Rattle.locals.specs.Looks.{Request, AskWait, Look, Goes, Asks, look, look_at, at_place}
use Rattle.locals.specs.Looks.{return_look, if_so, or_dies, effect, Effect, Then, Keeps, To, Tests, Asking, Trying}
use Rattle.locals.specs.Looks.{Calls}
use Rattle.locals.specs.Looks.{Returns, ReturnsValue, Fails, Misses, Guards, Checks}
use Rattle.machine.specs.PieceStates.{request_of, call_of, call_at, called}

pub call_back : (call : FutexCall) → call_of (request_of call) ≡ Some call
call_back (Wait a expected) = refl
call_back (Wake a wakes) = refl
call_back (Requeue a b wakes moves expected) = refl

-- the call that a thread makes which asks for one
pub called_is : (p : Program) (t : ℕ) (x : Thread) (call : FutexCall) (go : ℕ → Thread) (o : Option Thread) → o ≡ Some x
    → look p t x ≡ Asks (request_of call) go → called p t o ≡ Some call
called_is p t x call go o stands looks = ap (called p t) stands ∙ ap call_at looks ∙ call_back call

-- whoever makes a call isn't dying
pub asks_alive : (p : Program) (t : ℕ) (x : Thread) (call : FutexCall) (go : ℕ → Thread)
    → look p t x ≡ Asks (request_of call) go → is_dying x ≡ false
asks_alive p t (Runs place operands locals callers) call go h = refl
asks_alive p t (Dies cause) (Wait a expected) go h = absurd cc
asks_alive p t (Dies cause) (Wake a wakes) go h = absurd cc
asks_alive p t (Dies cause) (Requeue a b wakes moves expected) go h = absurd cc
asks_alive p t (Exits (Entry e seen)) call go h = absurd cc
asks_alive p t (Exits Pending) call go h = absurd cc
asks_alive p t (Exits ClearId) call go h = absurd cc
asks_alive p t (Exits LastWake) call go h = absurd cc
asks_alive p t (Exits Ended) call go h = absurd cc

-- behind a wait that slept a thread runs on
abbrev RunsOn : Look → Type 0
RunsOn (Asks (AskWait a expected) go) = is_dying (go 0) ≡ false
RunsOn l = Unit {0}

-- no effect dies of a wait's answer
abbrev TriesNoWait : Effect → Type 0
TriesNoWait (Trying (AskWait a expected) fault answered) = ⊥
TriesNoWait (Guards test e) = TriesNoWait e
TriesNoWait (Checks test fault e) = TriesNoWait e
TriesNoWait e = Unit {0}

tries_operator : (o : Operator) (a b : ℕ) (rest : List ℕ) → TriesNoWait (operator_effect o a b rest)
tries_operator Add a b rest = tt
tries_operator Sub a b rest = tt
tries_operator Mul a b rest = tt
tries_operator Div a b rest = tt
tries_operator Mod a b rest = tt
tries_operator Eq a b rest = tt
tries_operator Ne a b rest = tt
tries_operator Lt a b rest = tt
tries_operator Le a b rest = tt
tries_operator Gt a b rest = tt
tries_operator Ge a b rest = tt
tries_operator BitAnd a b rest = tt
tries_operator BitOr a b rest = tt

tries_instruction : (most t : ℕ) (locals : Locals) (i : Instr) (operands : List ℕ)
    → TriesNoWait (effect most t i operands locals)
tries_instruction most t locals (Push n) operands = tt
tries_instruction most t locals (GetLocal slot) operands = tt
tries_instruction most t locals (SetLocal slot) [] = tt
tries_instruction most t locals (SetLocal slot) (v ∷ rest) = tt
tries_instruction most t locals Pop [] = tt
tries_instruction most t locals Pop (v ∷ rest) = tt
tries_instruction most t locals (Operate o) [] = tt
tries_instruction most t locals (Operate o) (b ∷ []) = tt
tries_instruction most t locals (Operate o) (b ∷ a ∷ rest) = tries_operator o a b rest
tries_instruction most t locals Negate [] = tt
tries_instruction most t locals Negate (a ∷ rest) = tt
tries_instruction most t locals Not [] = tt
tries_instruction most t locals Not (a ∷ rest) = tt
tries_instruction most t locals (Jump to) operands = tt
tries_instruction most t locals (JumpIfZero to) [] = tt
tries_instruction most t locals (JumpIfZero to) (v ∷ rest) = tt
tries_instruction most t locals (Call to) operands = tt
tries_instruction most t locals Ret operands = tt
tries_instruction most t locals RetValue [] = tt
tries_instruction most t locals RetValue (v ∷ rest) = tt
tries_instruction most t locals (Index b n) [] = tt
tries_instruction most t locals (Index b n) (i ∷ rest) = tt
tries_instruction most t locals OwnNumber operands = tt
tries_instruction most t locals (ProcessAddress word) [] = tt
tries_instruction most t locals (ProcessAddress word) (h ∷ rest) = tt
tries_instruction most t locals (Raise fault) operands = tt
tries_instruction most t locals Load [] = tt
tries_instruction most t locals Load (a ∷ rest) = tt
tries_instruction most t locals Store [] = tt
tries_instruction most t locals Store (v ∷ []) = tt
tries_instruction most t locals Store (v ∷ a ∷ rest) = tt
tries_instruction most t locals Swap [] = tt
tries_instruction most t locals Swap (v ∷ []) = tt
tries_instruction most t locals Swap (v ∷ a ∷ rest) = tt
tries_instruction most t locals CompareSwap [] = tt
tries_instruction most t locals CompareSwap (c ∷ []) = tt
tries_instruction most t locals CompareSwap (c ∷ b ∷ []) = tt
tries_instruction most t locals CompareSwap (c ∷ b ∷ a ∷ rest) = tt
tries_instruction most t locals FetchOr [] = tt
tries_instruction most t locals FetchOr (v ∷ []) = tt
tries_instruction most t locals FetchOr (v ∷ a ∷ rest) = tt
tries_instruction most t locals FetchAdd [] = tt
tries_instruction most t locals FetchAdd (v ∷ []) = tt
tries_instruction most t locals FetchAdd (v ∷ a ∷ rest) = tt
tries_instruction most t locals (Fork to n) operands = tt
tries_instruction most t locals Print [] = tt
tries_instruction most t locals Print (v ∷ rest) = tt
tries_instruction most t locals FutexWait [] = tt
tries_instruction most t locals FutexWait (e ∷ []) = tt
tries_instruction most t locals FutexWait (e ∷ a ∷ rest) = tt
tries_instruction most t locals FutexWake [] = tt
tries_instruction most t locals FutexWake (n ∷ []) = tt
tries_instruction most t locals FutexWake (n ∷ a ∷ rest) = tt
tries_instruction most t locals FutexRequeue [] = tt
tries_instruction most t locals FutexRequeue (e ∷ []) = tt
tries_instruction most t locals FutexRequeue (e ∷ d ∷ []) = tt
tries_instruction most t locals FutexRequeue (e ∷ d ∷ c ∷ []) = tt
tries_instruction most t locals FutexRequeue (e ∷ d ∷ c ∷ b ∷ []) = tt
tries_instruction most t locals FutexRequeue (e ∷ d ∷ c ∷ b ∷ a ∷ rest) = tt

on_if : (test : Bool) (l : Look) → RunsOn l → RunsOn (if_so test l)
on_if true l h = h
on_if false l h = tt

on_or : (test : Bool) (fault : Fault) (l : Look) → RunsOn l → RunsOn (or_dies test fault l)
on_or true fault l h = h
on_or false fault l h = tt

module _ (place : ℕ) (locals : Locals) (callers : List Frame) where
  asking_on : (request : Request) (answered : ℕ → List ℕ)
      → RunsOn (Asks request (λ v. Runs (place + 1) (answered v) locals callers))
  asking_on (AskWait a expected) answered = refl
  asking_on request answered = tt

  trying_on : (request : Request) (fault : Fault) (answered : ℕ → List ℕ) → TriesNoWait (Trying request fault answered)
      → RunsOn (at_place place locals callers (Trying request fault answered))
  trying_on (AskWait a expected) fault answered h = absurd h
  trying_on request fault answered h = tt

  returned_on : (v : ℕ) (operands : List ℕ) (frames : List Frame) → RunsOn
      (return_look (AskReturnValue v) operands frames)
  returned_on v operands [] = tt
  returned_on v operands (f ∷ fs) = tt

  return_on : (operands : List ℕ) (frames : List Frame) → RunsOn (return_look AskReturn operands frames)
  return_on operands [] = tt
  return_on operands (f ∷ fs) = tt

  effect_on : (e : Effect) → TriesNoWait e → RunsOn (at_place place locals callers e)
  effect_on (Then operands) h = tt
  effect_on (Keeps locals' operands) h = tt
  effect_on (To place' operands) h = tt
  effect_on (Tests value place' operands) h = tt
  effect_on (Asking request answered) h = asking_on request answered
  effect_on (Trying request fault answered) h = trying_on request fault answered h
  effect_on (Calls place' operands) h =
      on_if (nat_lt (length callers) 15)
      (Goes (Runs place' operands fresh (record { back = place + 1; locals = locals } ∷ callers))) tt
  effect_on (Returns operands) h = return_on operands callers
  effect_on (ReturnsValue v operands) h = returned_on v operands callers
  effect_on (Fails fault) h = tt
  effect_on Misses h = tt
  effect_on (Guards test e) h = on_if test (at_place place locals callers e) (effect_on e h)
  effect_on (Checks test fault e) h = on_or test fault (at_place place locals callers e) (effect_on e h)

on_place : (most t : ℕ) (i : Option Instr) (place : ℕ) (operands : List ℕ) (locals : Locals) (callers : List Frame)
    → RunsOn (look_at most t i place operands locals callers)
on_place most t None place operands locals callers = tt
on_place most t (Some i) place operands locals callers =
    effect_on place locals callers (effect most t i operands locals) (tries_instruction most t locals i operands)

on_look : (p : Program) (t : ℕ) (x : Thread) → RunsOn (look p t x)
on_look p t (Runs place operands locals callers) =
    on_place (most_of p.version) t (slice_get p.code place) place operands locals callers
on_look p t (Dies cause) = tt
on_look p t (Exits (Entry e seen)) = tt
on_look p t (Exits Pending) = tt
on_look p t (Exits ClearId) = tt
on_look p t (Exits LastWake) = tt
on_look p t (Exits Ended) = tt

pub waits_alive : (p : Program) (t : ℕ) (x : Thread) (a expected : ℕ) (go : ℕ → Thread)
    → look p t x ≡ Asks (AskWait a expected) go → is_dying (go 0) ≡ false
waits_alive p t x a expected go h = subst RunsOn h (on_look p t x)
