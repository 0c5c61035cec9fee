-- Where a log leads, entries of one step each lead too: those of its steps.
use Rattle.std.proofs.Common.{◌≡◌, ◌∙◌, ◌+◌, ◌++◌, ℕ, zero, suc, List, [], ◌∷◌, Option, Some, None, ap, ap₂, arith, inl, inr}
use Rattle.std.proofs.Common.{map, refl, replicate, subst, sym}
use Rattle.std.specs.List.{All}
use Rattle.std.proofs.lemmas.List.{map-append}
use Rattle.std.proofs.lemmas.List.Elements.{All-cons, All-head, All-nil, All-tail}
use Rattle.isa.specs.Programs.{Program}
use Rattle.locals.specs.Steps.{local_after}
use Rattle.machine.specs.declared.event.Entry.{Entry}
use Rattle.machine.specs.declared.event.Event.{Event}
use Rattle.machine.specs.FrontRuns.{EventStep, doing_of}
use Rattle.piece_machine.specs.PieceConcrete.{PieceConcrete, with_local}
use Rattle.piece_machine.specs.PieceFronts.{FrontPieces}
use Rattle.runner.specs.LogRuns.{local_step_of, shared_step_of, steps_of}
use Rattle.runner.specs.Logs.{Ends, Enters, EntersOwn, Runs, event_cost, opening}
use Rattle.runner.specs.Schedules.{IsOneStep, turn_by, turn_by_event, turn_of}
use Rattle.runner.specs.declared.schedule.Turn.{Turn}
use Rattle.runner.specs.declared.schedule.Turn.TheVariants.{Step}
use Rattle.runner.proofs.OneByOne.{logs_so}
use Rattle.runner.proofs.Unrolling.{put_back, steps_so}
use Rattle.schedules.specs.OfLog.{LeadsAlike, last_turn, log_turns}

-- the steps of an entry of these
abbrev parts_of : (t n : ℕ) → Option Event → List EventStep
parts_of t n event = replicate n (local_step_of t) ++ shared_step_of t event

abbrev shared_at : ℕ → Event → EventStep
shared_at t event = record { thread = t; event = event }

-- an entry without a step leads nowhere
none_or_some : (o : Option Event) (event : Event) → o ≡ None → o ≡ Some event → ⊥
none_or_some None event none some = absurd cc
none_or_some (Some x) event none some = absurd cc

stays : (p : Program) (k k' : PieceConcrete) (e : Entry) → e.local ≡ 0 → e.event ≡ None → EntersOwn p k e k' → k' ≡ k
stays p k k' e none over enters =
    let goes = subst (λ (n : ℕ). local_after p e.thread n enters.origin ≡ Some enters.here) none enters.goes in
    let same : enters.origin ≡ enters.here = cc in
    subst (λ (o : Option Event). Ends p (with_local k e.thread enters.here) e.thread enters.here o k') over enters.ends
    ∙ put_back k e.thread enters.here (enters.stands ∙ ap Some same)

idle : (p : Program) (k k' : PieceConcrete) (e : Entry) → e.local ≡ 0 → e.event ≡ None → Enters p k e k' → k' ≡ k
idle p k k' e none over (inl enters) = stays p k k' e none over enters
idle p k k' e none over (inr outside) = absurd (none_or_some e.event outside.event over outside.is)

-- nor does a log without one
no_part : (p : Program) (k mid : PieceConcrete) (e : Entry) (n : ℕ) (o : Option Event) (rest : List EventStep)
    → e.local ≡ n → e.event ≡ o → Enters p k e mid → parts_of e.thread n o ++ rest ≡ []
    → (mid ≡ k) × (rest ≡ [])
no_part p k mid e zero None rest local event enters none = (idle p k mid e local event enters, none)
no_part p k mid e zero (Some x) rest local event enters none = absurd cc
no_part p k mid e (suc n) o rest local event enters none = absurd cc

none_left : (p : Program) (k k' : PieceConcrete) (es : List Entry) → Runs p k es k' → steps_of es ≡ [] → k' ≡ k
none_left p k k' [] same none = sym same
none_left p k k' (e ∷ es) runs none =
    let h = no_part p k runs.0 e e.local e.event (steps_of es) refl refl runs.1 none in
    none_left p runs.0 k' es runs.2 h.1 ∙ h.0

-- an entry that has this step alone
record IsSingle (p : Program) (k : PieceConcrete) (s : EventStep) (k' : PieceConcrete) : Type 0 where
  pub entry : Entry
  pub enters : Enters p k entry k'
  pub one : IsOneStep entry
  pub steps : parts_of entry.thread entry.local entry.event ≡ s ∷ []

single_by : (p : Program) (k mid k' : PieceConcrete) (s : EventStep) (e : Entry) (n : ℕ) (o : Option Event)
    → e.local ≡ n → e.event ≡ o → Enters p k e mid → k' ≡ mid → n + event_cost o ≡ 1 → parts_of e.thread n o ≡ s ∷ []
    → IsSingle p k s k'
single_by p k mid k' s e n o local event enters same one steps = record {
  entry = e;
  enters = subst (λ (x : PieceConcrete). Enters p k e x) (sym same) enters;
  one = (λ i. local i + event_cost (event i)) ∙ one;
  steps = (λ i. parts_of e.thread (local i) (event i)) ∙ steps;
}

-- of a log of one step, the entry that has it
first_part : (p : Program) (k mid k' : PieceConcrete) (s : EventStep) (e : Entry) (es : List Entry) (n : ℕ)
    (o : Option Event) → e.local ≡ n → e.event ≡ o → Enters p k e mid → Runs p mid es k'
    → ((x : PieceConcrete) → Runs p x es k' → steps_of es ≡ s ∷ [] → IsSingle p x s k')
    → parts_of e.thread n o ++ steps_of es ≡ s ∷ [] → IsSingle p k s k'
first_part p k mid k' s e es zero None local event enters runs later same =
    later k (subst (λ (x : PieceConcrete). Runs p x es k') (idle p k mid e local event enters) runs) same
first_part p k mid k' s e es zero (Some x) local event enters runs later same =
    let rest : steps_of es ≡ [] = cc in
    let own : shared_at e.thread x ≡ s = cc in
    single_by p k mid k' s e zero (Some x) local event enters (none_left p mid k' es runs rest) refl (ap (λ (y : EventStep). y ∷ []) own)
first_part p k mid k' s e es (suc zero) None local event enters runs later same =
    let rest : steps_of es ≡ [] = cc in
    let own : local_step_of e.thread ≡ s = cc in
    single_by p k mid k' s e (suc zero) None local event enters (none_left p mid k' es runs rest) refl (ap (λ (y : EventStep). y ∷ []) own)
first_part p k mid k' s e es (suc zero) (Some x) local event enters runs later same = absurd cc
first_part p k mid k' s e es (suc (suc n)) o local event enters runs later same = absurd cc

single_of : (p : Program) (k k' : PieceConcrete) (s : EventStep) (log : List Entry) → Runs p k log k'
    → steps_of log ≡ s ∷ [] → IsSingle p k s k'
single_of p k k' s [] same none = absurd cc
single_of p k k' s (e ∷ es) runs steps =
    first_part p k runs.0 k' s e es e.local e.event refl refl runs.1 runs.2
    (λ x more is. single_of p x k' s es more is) steps

-- entries of one step each, which lead as steps do
record AreSingles (p : Program) (k : PieceConcrete) (wanted : List EventStep) (k' : PieceConcrete) : Type 0 where
  pub entries : List Entry
  pub runs : Runs p k entries k'
  pub single : All IsOneStep entries
  pub steps : steps_of entries ≡ wanted

singles_so : (p : Program) (k k' : PieceConcrete) (steps : List EventStep) → FrontPieces p k steps k'
    → AreSingles p k steps k'
singles_so p k k' [] same = record { entries = []; runs = same; single = All-nil IsOneStep; steps = refl }
singles_so p k k' (s ∷ steps) front =
    let log = logs_so p k front.0 (s ∷ []) (front.0, front.1, refl) in
    let first = single_of p k front.0 s log.0 log.1 log.2 in
    let rest = singles_so p front.0 k' steps front.2 in
    record {
      entries = first.entry ∷ rest.entries;
      runs = (front.0, first.enters, rest.runs);
      single = All-cons IsOneStep first.entry rest.entries first.one rest.single;
      steps = λ i. first.steps i ++ rest.steps i;
    }

-- the turn that a step is
abbrev pub step_turn : EventStep → Turn
step_turn s = turn_by (doing_of s.event.name s.event.value) s.thread

local_turns : (t n : ℕ) → map step_turn (replicate n (local_step_of t)) ≡ replicate n (Step t)
local_turns t zero = refl
local_turns t (suc n) = ap (λ (ts : List Turn). Step t ∷ ts) (local_turns t n)

shared_turns : (t : ℕ) (event : Option Event) → map step_turn (shared_step_of t event) ≡ last_turn t event
shared_turns t None = refl
shared_turns t (Some event) = refl

-- the turns of a log's steps are its schedule
pub steps_turns : (log : List Entry) → map step_turn (steps_of log) ≡ log_turns log
steps_turns [] = refl
steps_turns (e ∷ es) =
    map-append step_turn (parts_of e.thread e.local e.event) (steps_of es)
    ∙ ap₂ (λ xs ys. xs ++ ys)
    (map-append step_turn (replicate e.local (local_step_of e.thread)) (shared_step_of e.thread e.event)
    ∙ ap₂ (λ xs ys. xs ++ ys) (local_turns e.thread e.local) (shared_turns e.thread e.event))
    (steps_turns es)

-- of entries of one step each, those of the entries
single_turn : (t n : ℕ) (event : Option Event) → n + event_cost event ≡ 1
    → replicate n (Step t) ++ last_turn t event ≡ turn_by_event event t ∷ []
single_turn t zero None one = absurd cc
single_turn t zero (Some e) one = refl
single_turn t (suc zero) None one = refl
single_turn t (suc zero) (Some e) one = absurd (omega (arith, one))
single_turn t (suc (suc n)) event one = absurd (omega (arith, one))

pub singles_turns : (es : List Entry) → All IsOneStep es → log_turns es ≡ map turn_of es
singles_turns [] all = refl
singles_turns (e ∷ es) all =
    ap₂ (λ xs ys. xs ++ ys) (single_turn e.thread e.local e.event (All-head IsOneStep e es all))
    (singles_turns es (All-tail IsOneStep e es all))

-- by its schedule a program is led as by a log of its own
pub leads_alike : (p : Program) (log : List Entry) (k : PieceConcrete) (turns : List Turn) → turns ≡ log_turns log
    → Runs p (opening p) log k → LeadsAlike p log k turns
leads_alike p log k turns is runs =
    let s = singles_so p (opening p) k (steps_of log) (steps_so p (opening p) k log runs) in
    record {
      single = s.entries;
      follows = record {
        legal = s.runs;
        turns = sym (singles_turns s.entries s.single) ∙ sym (steps_turns s.entries) ∙ ap (map step_turn) s.steps
            ∙ steps_turns log ∙ sym is;
        single = s.single;
      };
      same = s.steps;
    }
