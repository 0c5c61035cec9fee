-- A piece that came in is an entry of the log.
use Rattle.std.proofs.Common.{◌≡◌, ℕ, ◌+◌, ◌-◌, ◌≤◌, List, [], ◌∷◌, ◌++◌, true, Option, Some, None, Result, Ok, Err}
use Rattle.std.proofs.Common.{Bool, false, is_err, IfOk, IfErr, is_some, refl, ap, sym, ◌∙◌, ◌≢◌, arith, subst, inl, inr}
use Rattle.std.specs.Prelude.{if◌then◌else◌}
use Rattle.std.proofs.lemmas.List.Sums.{sum_by-append}
use mir.Val.{bool_byte}
use Rattle.isa.specs.Programs.{Program}
use Rattle.locals.specs.Threads.{Thread}
use Rattle.locals.specs.Steps.{local_step, local_after}
use Rattle.machine.specs.declared.event.Event.{Event}
use Rattle.machine.specs.declared.event.Entry.{Entry}
use Rattle.machine.specs.declared.event.StepFault.{StepFault}
use Rattle.machine.specs.States.{thread_of}
use Rattle.machine.specs.ConcreteSteps.{can_move}
use Rattle.piece_machine.specs.PieceConcrete.{PieceConcrete, piece_of, with_local}
use Rattle.piece_machine.specs.PieceFronts.{OutsidePiece}
use Rattle.runner.specs.Views.{PieceView, LogState}
use Rattle.runner.specs.Logs.{Runs, Enters, EntersOwn, Ends, HasOnly, Outside, event_cost, cost, is_kill, kill_cost}
use Rattle.runner.specs.Logs.{kills_in, opening}
use Rattle.runner.specs.declared.fault.RunFault.{RunFault}
use Rattle.runner.specs.declared.fault.RunFault.TheVariants.{Broken, CannotMove, Limit, Memory, Stray}
use Rattle.runner.specs.Entries.{BreaksAfter, EntersAccess, Stands, entry_end, entry_end_by, event_if, IsFine}
use Rattle.runner.specs.Legal.{IsLegal}
use Rattle.runner.specs.Reports.{CanFail}
use Rattle.runner.specs.Walks.{FailsAfter}
use Rattle.runner.proofs.Going.{runs_more}
use Rattle.runner.proofs.Owning.{kills_more, only_own, own_kills}

abbrev pub entry : ℕ → ℕ → Option Event → Entry
entry t n e = record { thread = t; local = n; event = e }

pub inside : (x y : PieceConcrete × Option Event)
    → (let R : Type 0 = Result (PieceConcrete × Option Event) StepFault in
    (let a : R = Ok x in a) ≡ (let b : R = Ok y in b)) → x ≡ y
inside x y h = cc

ends_by : (p : Program) (there : PieceConcrete) (t : ℕ) (here : Thread) (new : PieceConcrete) (event : Option Event)
    (r : Result (PieceConcrete × Event) StepFault) (ls : Option Thread)
    → local_step p t here ≡ ls → piece_of p there t ≡ r → entry_end_by there r ls ≡ Ok (new, event)
    → Ends p there t here event new
ends_by p there t here new None r (Some to) is st h =
    sym (ap (λ (q : PieceConcrete × Option Event). q.0) (inside _ _ h))
ends_by p there t here new (Some e) r (Some to) is st h =
    absurd (cc (ap (λ (q : PieceConcrete × Option Event). q.1) (inside _ _ h)))
ends_by p there t here new None (Ok x) None is st h =
    absurd (cc (ap (λ (q : PieceConcrete × Option Event). q.1) (inside _ _ h)))
ends_by p there t here new (Some e) (Ok x) None is st h =
    let n : x.0 ≡ new = ap (λ (q : PieceConcrete × Option Event). q.0) (inside _ _ h) in
    let o : Some x.1 ≡ Some e = ap (λ (q : PieceConcrete × Option Event). q.1) (inside _ _ h) in
    let v : x.1 ≡ e = cc in
    (is, st ∙ (λ i. Ok (n i, v i)))
ends_by p there t here new event (Err f) None is st h = absurd cc

pub ends : (p : Program) (k new : PieceConcrete) (t : ℕ) (here : Thread) (event : Option Event)
    → entry_end p k t here ≡ Ok (new, event) → Ends p (with_local k t here) t here event new
ends p k new t here event gives = ends_by p (with_local k t here) t here new event _ _ refl refl gives

pub enters : (p : Program) (k new : PieceConcrete) (t count : ℕ) (o here : Thread) (event : Option Event)
    → thread_of k.concrete t ≡ Some o → can_move k.concrete t ≡ true → local_after p t count o ≡ Some here
    → entry_end p k t here ≡ Ok (new, event) → EntersOwn p k (entry t count event) new
enters p k new t count o here event stands moves goes gives = record {
  origin = o;
  here = here;
  stands = stands;
  moves = moves;
  goes = goes;
  ends = ends p k new t here event gives;
}

pub cost_more : (es : List Entry) (t n : ℕ) (e : Option Event)
    → cost (es ++ entry t n e ∷ []) ≡ cost es + (n + event_cost e)
cost_more es t n e = omega (arith, sum_by-append (λ (x : Entry). x.local + event_cost x.event) es (entry t n e ∷ []))

pub is_shared : (shared : Bool) (event : Event) → bool_byte shared ≡ bool_byte (is_some (event_if shared event))
is_shared true event = refl
is_shared false event = refl

pub event_byte : (e : Option Event) → event_cost e ≡ bool_byte (is_some e)
event_byte None = refl
event_byte (Some e) = refl

-- one event comes of a piece
pub same_event : (r : Result (PieceConcrete × Option Event) StepFault) (k k' : PieceConcrete) (e e' : Option Event)
    → r ≡ Ok (k, e) → r ≡ Ok (k', e') → e ≡ e'
same_event r k k' e e' a b = ap (λ (q : PieceConcrete × Option Event). q.1) (inside _ _ (sym a ∙ b))

same_kills : (p : Program) (k k' : PieceConcrete) (log log' : List Entry) (e : Entry) (killed : ℕ)
    → EntersOwn p k e k' → log' ≡ log ++ e ∷ [] → killed ≡ kills_in log → killed ≡ kills_in log'
same_kills p k k' log log' e killed enters grows is =
    omega (arith, is, kills_more log log' e grows, own_kills p k k' e enters)

pub keeps : (p : Program) (may : Outside) (q q' : Program) (limit : ℕ) (h : LogState) (log : List Entry)
    (new : PieceConcrete) (a : PieceView) (t left limited killed extra : ℕ) (event : Option Event)
    → q' ≡ q → IsLegal p may limit q h.concrete h.log left limited killed
    → local_after p a.thread a.count a.origin ≡ Some a.here
    → IsFine p limit h t a → entry_end q h.concrete t a.here ≡ Ok (new, event)
    → log ≡ h.log ++ entry t a.count event ∷ [] → extra ≡ bool_byte (is_some event)
    → IsLegal p may limit q' new log (left - (a.count + extra)) limited killed
keeps p may q q' limit h log new a t left limited killed extra event is' legal goes fine gives grows is_extra =
    let gives' : entry_end p h.concrete t a.here ≡ Ok (new, event) =
    ap (λ x. entry_end x h.concrete t a.here) (sym legal.program) ∙ gives in
    let goes' : local_after p t a.count a.origin ≡ Some a.here =
    ap (λ k. local_after p k a.count a.origin) (sym fine.stands.0) ∙ goes in
    let same : fine.event ≡ event = same_event _ _ _ _ _ fine.gives gives' in
    let costs : event_cost fine.event ≡ extra = ap event_cost same ∙ event_byte event ∙ sym is_extra in
    let all : cost log ≡ cost h.log + (a.count + event_cost event) = ap cost grows
    ∙ cost_more h.log t a.count event in
    let here : event_cost event ≡ extra = event_byte event ∙ sym is_extra in
    let one = enters p h.concrete new t a.count a.origin a.here event fine.stands.1 fine.moves goes' gives' in
    let runs' = runs_more p (opening p) h.concrete new h.log (entry t a.count event) legal.legal (inl one) in
    record {
      program = is' ∙ legal.program;
      legal = (let P : List Entry → Type 0 = λ l. Runs p (opening p) l new in subst P (sym grows) runs');
      own = only_own p h.concrete new may h.log log (entry t a.count event) one grows legal.own;
      counted = omega (arith, fine.within, legal.counted, legal.limit_is, all, costs, here);
      limit_is = legal.limit_is;
      kills = same_kills p h.concrete new h.log log (entry t a.count event) killed one grows legal.kills;
      few = omega (arith, legal.few, all);
    }

pub cost_small : (e : Option Event) → event_cost e ≤ 1
cost_small None = omega arith
cost_small (Some e) = omega arith

-- an entry is one more of a legal log, where the limit leaves room for any
pub keeps_entry : (p : Program) (may : Outside) (q q' q'' : Program) (limit : ℕ) (k k' new : PieceConcrete)
    (log log' log'' : List Entry) (e : Entry) (left limited killed extra : ℕ)
    → IsLegal p may limit q k log left limited killed → cost log + 257 ≤ limit → q' ≡ q → k' ≡ k → log' ≡ log
    → q'' ≡ q' → EntersOwn q' k' e new → e.local ≤ 256 → log'' ≡ log' ++ e ∷ [] → extra ≡ bool_byte (is_some e.event)
    → IsLegal p may limit q'' new log'' (left - (e.local + extra)) limited killed
keeps_entry p may q q' q'' limit k k' new log log' log'' e left limited killed extra legal room same there before same'
    one turn grows is_extra =
    let program : q' ≡ p = same ∙ legal.program in
    let enters : EntersOwn p k e new =
    subst (λ (x : Program). EntersOwn x k e new) program
    (subst (λ (x : PieceConcrete). EntersOwn q' x e new) there one) in
    let grown : log'' ≡ log ++ e ∷ [] = grows ∙ ap (λ (l : List Entry). l ++ e ∷ []) before in
    let all : cost log'' ≡ cost log + (e.local + event_cost e.event) = ap cost grown
    ∙ cost_more log e.thread e.local e.event in
    let last : event_cost e.event ≡ extra = event_byte e.event ∙ sym is_extra in
    record {
      program = same' ∙ program;
      legal = subst (λ (l : List Entry). Runs p (opening p) l new) (sym grown)
          (runs_more p (opening p) k new log e legal.legal (inl enters));
      own = only_own p k new may log log'' e enters grown legal.own;
      counted = omega (arith, legal.counted, legal.limit_is, room, turn, all, last, cost_small e.event);
      limit_is = legal.limit_is;
      kills = same_kills p k new log log'' e killed enters grown legal.kills;
      few = omega (arith, legal.few, all);
    }

kill_small : (e : Option Event) → kill_cost e ≤ 1
kill_small e = by_test (is_kill e)
  where
    by_test : (b : Bool) → (if b then 1 else 0) ≤ 1
    by_test true = omega arith
    by_test false = omega arith

-- a wake or a kill from outside is one more of a legal log that isn't at its limit
pub keeps_outside : (p : Program) (may : Outside) (q q' : Program) (limit : ℕ) (k new : PieceConcrete)
    (log log' : List Entry) (t left limited killed killed' : ℕ) (event : Event)
    → IsLegal p may limit q k log left limited killed → q' ≡ q → left ≢ 0
    → OutsidePiece q k t event new → log' ≡ log ++ entry t 0 (Some event) ∷ []
    → killed' ≡ killed + kill_cost (Some event) → HasOnly may log'
    → IsLegal p may limit q' new log' (left - 1) limited killed'
keeps_outside p may q q' limit k new log log' t left limited killed killed' event legal same room gives grows counts
    has =
    let outside : OutsidePiece p k t event new = subst (λ (x : Program). OutsidePiece x k t event new) legal.program gives in
    let one : Enters p k (entry t 0 (Some event)) new =
    inr (record { event = event; alone = refl; is = refl; gives = outside }) in
    let all : cost log' ≡ cost log + 1 = ap cost grows ∙ cost_more log t 0 (Some event) in
    let most = kill_small (Some event) in
    record {
      program = same ∙ legal.program;
      legal = subst (λ (l : List Entry). Runs p (opening p) l new) (sym grows)
          (runs_more p (opening p) k new log (entry t 0 (Some event)) legal.legal one);
      own = has;
      counted = omega (arith, legal.counted, room, all);
      limit_is = legal.limit_is;
      kills = omega (arith, counts, legal.kills, kills_more log log' (entry t 0 (Some event)) grows);
      few = omega (arith, counts, legal.few, most, all);
    }

-- what holds of an entry that came in
pub entered : {A E : Type 0} (P Q : A → Type 0) (r : Result A E) (b : Bool) → b ≡ is_err r → b ≡ false → IfOk r P
    → IfOk r Q → (x : A) × P x × Q x
entered P Q (Ok x) b is fine one other = (x, one, other)
entered P Q (Err e) b is fine one other = absurd cc

-- where the next entry of a thread meets a step that may not be, so does a legal log
pub breaks_can : {T : Type 0} → (p : Program) (may : Outside) (q q' : Program) (limit : ℕ) (k k' : PieceConcrete)
    (log : List Entry) (left limited killed t count : ℕ) (r : Result T RunFault)
    → IsLegal p may limit q k log left limited killed → q' ≡ q → k' ≡ k → can_move k.concrete t ≡ true → count ≤ 256
    → IfErr r (λ fault. (fault ≡ Broken) × BreaksAfter q' k' t count) → IfErr r (λ fault. CanFail p may limit fault)
breaks_can p may q q' limit k k' log left limited killed t count (Ok x) legal same there moves turn breaks = breaks
breaks_can p may q q' limit k k' log left limited killed t count (Err fault) legal same there moves turn breaks =
    let b : BreaksAfter p k t count = subst (λ (x : Program). BreaksAfter x k t count) (same ∙ legal.program)
    (subst (λ (x : PieceConcrete). BreaksAfter q' x t count) there breaks.1) in
    subst (λ (f : RunFault). CanFail p may limit f) (sym breaks.0) (record {
      log = log;
      concrete = k;
      legal = legal.legal;
      own = legal.own;
      within = omega (arith, legal.counted, legal.limit_is);
      thread = t;
      origin = b.origin;
      here = b.here;
      count = count;
      stands = b.stands;
      moves = moves;
      goes = b.goes;
      turn = turn;
      breaks = b.breaks;
    })

-- a fault behind the local steps of a turn
pub fails_can : {T : Type 0} → (p : Program) (may : Outside) (q : Program) (limit : ℕ) (k : PieceConcrete)
    (log : List Entry) (left limited killed t count : ℕ) (r : Result T RunFault)
    → IsLegal p may limit q k log left limited killed → can_move k.concrete t ≡ true → count ≤ 256
    → IfErr r (λ fault. FailsAfter q k t count fault) → IfErr r (λ fault. CanFail p may limit fault)
fails_can p may q limit k log left limited killed t count (Ok x) legal moves turn fails = fails
fails_can p may q limit k log left limited killed t count (Err f) legal moves turn fails = by f fails
  where
    by : (f : RunFault) → FailsAfter q k t count f → CanFail p may limit f
    by Broken breaks =
        let r : Result ℕ RunFault = Err Broken in
        breaks_can p may q q limit k k log left limited killed t count r legal refl refl moves turn (refl, breaks)
    by Memory none = tt
    by Stray none = absurd none
    by CannotMove none = absurd none
    by Limit none = absurd none

-- a piece came in with an access, behind which the machine had room for one entry more
pub keeps_access : (p : Program) (may : Outside) (q m q' : Program) (limit : ℕ) (h : LogState) (k : PieceConcrete)
    (items log : List Entry) (new : PieceConcrete) (a : PieceView) (t left limited killed : ℕ)
    → m ≡ q → k ≡ h.concrete → items ≡ h.log → q' ≡ m → IsLegal p may limit q h.concrete h.log left limited killed
    → local_after p a.thread a.count a.origin ≡ Some a.here → Stands h t a → can_move h.concrete.concrete t ≡ true
    → cost h.log + (a.count + 1) ≤ limit → EntersAccess m k t a.here a.count items new log
    → IsLegal p may limit q' new log (left - (a.count + 1)) limited killed
keeps_access p may q m q' limit h k items log new a t left limited killed mq kh ih qm legal goes stands moves within e =
    let gives : entry_end q h.concrete t a.here ≡ Ok (new, Some e.event) =
    (λ i. entry_end (sym mq i) (sym kh i) t a.here) ∙ e.gives in
    let fine : IsFine p limit h t a = record {
      stands = stands;
      moves = moves;
      concrete = new;
      event = Some e.event;
      gives = ap (λ x. entry_end x h.concrete t a.here) (sym legal.program) ∙ gives;
      within = within;
    } in
    keeps p may q q' limit h log new a t left limited killed 1 (Some e.event) (qm ∙ mq) legal goes fine gives
    (e.grows ∙ ap (λ es. es ++ entry t a.count (Some e.event) ∷ []) ih) refl
