-- A legal log, unrolled into the steps of a run of the machine itself, and so into those of a run of the relation.
use Rattle.std.proofs.Common.{◌≡◌, ℕ, zero, suc, ◌+◌, ◌-◌, List, [], ◌∷◌, ◌++◌, length, Option, Some, None}
use Rattle.std.proofs.Common.{Ok, slice_get, slice_set, replicate, map, refl, ap, sym, ◌∙◌, arith}
use Rattle.std.proofs.Common.{subst, inl, inr, length-append}
use Rattle.std.proofs.lemmas.List.{length-replicate, length-map, replicate_more}
use Rattle.std.proofs.lemmas.List.Sums.{sum_by-cons}
use Rattle.words.specs.Limits.{run_buckets}
use Rattle.isa.specs.Programs.{Program}
use Rattle.locals.specs.Threads.{Thread}
use Rattle.locals.specs.Steps.{local_step, local_after, and_step}
use Rattle.machine.specs.declared.event.Event.{Event}
use Rattle.machine.specs.declared.event.Entry.{Entry}
use Rattle.machine.specs.declared.event.StepFault.TheVariants.{Broken}
use Rattle.machine.specs.States.{thread_at, thread_of}
use Rattle.machine.specs.Runs.{Step}
use Rattle.machine.specs.FrontRuns.{EventStep, label_of, event_label}
use Rattle.piece_machine.specs.PieceConcrete.{PieceConcrete, pieces_at, piece_of, with_local}
use Rattle.piece_machine.specs.PieceDetermined.{IsFit}
use Rattle.piece_machine.specs.PieceFronts.{FrontPieces}
use Rattle.piece_machine.proofs.Fronts.{opening_fit, pieces_run_so, run_of}
use Rattle.piece_machine.proofs.Refused.{piece_breaks_so}
use Rattle.runner.specs.Logs.{Runs, Enters, Ends, event_cost, cost, opening}
use Rattle.runner.specs.LogRuns.{StepsSo, RunsSo, MeetsSo, local_step_of, shared_step_of, steps_of}
use Rattle.runner.proofs.Handing.{piece_goes, refused_by, up}

-- one step more at the end, and steps after steps
run_on : (p : Program) (a b c : PieceConcrete) (xs ys : List EventStep) → FrontPieces p a xs b → FrontPieces p b ys c
    → FrontPieces p a (xs ++ ys) c
run_on p a b c [] ys same more = subst (λ (q : PieceConcrete). FrontPieces p q ys c) (sym same) more
run_on p a b c (x ∷ xs) ys runs more = (runs.0, runs.1, run_on p runs.0 b c xs ys runs.2 more)

run_more : (p : Program) (a b c : PieceConcrete) (xs : List EventStep) (s : EventStep) → FrontPieces p a xs b
    → piece_of p b s.thread ≡ Ok (c, s.event) → FrontPieces p a (xs ++ s ∷ []) c
run_more p a b c xs s runs gives = run_on p a b c xs (s ∷ []) runs (c, inl gives, refl)

-- a thread that is put where it is, and put twice
set_back : {A : Type 0} → (xs : List A) (i : ℕ) (x : A) → slice_get xs i ≡ Some x → slice_set xs i x ≡ xs
set_back [] i x h = refl
set_back (y ∷ ys) zero x h = let e : y ≡ x = cc in ap (λ z. z ∷ ys) (sym e)
set_back (y ∷ ys) (suc i) x h = ap (λ zs. y ∷ zs) (set_back ys i x h)

with_locals : (threads : List Thread) (t : ℕ) (x : Thread) → thread_at threads t ≡ Some x
    → slice_set threads (t - 1) x ≡ threads
with_locals threads zero x h = absurd cc
with_locals threads (suc t) x h =
    let e : suc t - 1 ≡ t = omega arith in ap (λ n. slice_set threads n x) e ∙ set_back threads t x h

pub put_back : (k : PieceConcrete) (t : ℕ) (x : Thread) → thread_of k.concrete t ≡ Some x → with_local k t x ≡ k
put_back k t x h = λ i. record k {
  concrete = record { common = k.concrete.common; threads = with_locals k.concrete.threads t x h i };
}

set_twice : {A : Type 0} → (xs : List A) (i : ℕ) (x y : A) → slice_set (slice_set xs i x) i y ≡ slice_set xs i y
set_twice [] i x y = refl
set_twice (z ∷ zs) zero x y = refl
set_twice (z ∷ zs) (suc i) x y = ap (λ ws. z ∷ ws) (set_twice zs i x y)

pub put_twice : (k : PieceConcrete) (t : ℕ) (x y : Thread) → with_local (with_local k t x) t y ≡ with_local k t y
put_twice k t x y = λ i. record k {
  concrete = record { common = k.concrete.common; threads = set_twice k.concrete.threads (t - 1) x y i };
}

-- the local steps of an entry
last_leads : (p : Program) (k : PieceConcrete) (t n : ℕ) (o here : Thread) (mid : Option Thread)
    → k.concrete.common.asleep t ≡ None → thread_of k.concrete t ≡ Some o
    → ((m : Thread) → mid ≡ Some m → FrontPieces p k (replicate n (local_step_of t)) (with_local k t m))
    → and_step p t mid ≡ Some here
    → FrontPieces p k (replicate (suc n) (local_step_of t)) (with_local k t here)
last_leads p k t n o here None awake stands before after = absurd cc
last_leads p k t n o here (Some m) awake stands before after =
    let there = with_local k t m in
    let gives = piece_goes p k t o m here awake stands after in
    let r = run_more p k there (with_local there t here) (replicate n (local_step_of t)) (local_step_of t)
    (before m refl) gives in
    let count : n + 1 ≡ suc n = omega arith in
    let e : replicate n (local_step_of t) ++ local_step_of t ∷ [] ≡ replicate (suc n) (local_step_of t) =
    replicate_more n (local_step_of t) ∙ ap (λ (j : ℕ). replicate j (local_step_of t)) count in
    subst (λ (q : PieceConcrete). FrontPieces p k (replicate (suc n) (local_step_of t)) q) (put_twice k t m here)
    (subst (λ (xs : List EventStep). FrontPieces p k xs (with_local there t here)) e r)

locals_lead : (p : Program) (k : PieceConcrete) (t n : ℕ) (o here : Thread) → k.concrete.common.asleep t ≡ None
    → thread_of k.concrete t ≡ Some o → local_after p t n o ≡ Some here
    → FrontPieces p k (replicate n (local_step_of t)) (with_local k t here)
locals_lead p k t zero o here awake stands after = let e : o ≡ here = cc in
    sym (put_back k t here (stands ∙ ap Some e))
locals_lead p k t (suc n) o here awake stands after =
    last_leads p k t n o here (local_after p t n o) awake stands
    (λ m before. locals_lead p k t n o m awake stands before) after

-- the end of an entry
ends_lead : (p : Program) (there k' : PieceConcrete) (t : ℕ) (here : Thread) (event : Option Event)
    → Ends p there t here event k' → FrontPieces p there (shared_step_of t event) k'
ends_lead p there k' t here None ends = sym ends
ends_lead p there k' t here (Some event) ends = (k', inl ends.1, refl)

-- an entry
entry_leads : (p : Program) (k k' : PieceConcrete) (e : Entry) → Enters p k e k'
    → FrontPieces p k (replicate e.local (local_step_of e.thread) ++ shared_step_of e.thread e.event) k'
entry_leads p k k' e (inr outside) =
    subst (λ (n : ℕ). FrontPieces p k (replicate n (local_step_of e.thread) ++ shared_step_of e.thread e.event) k')
    (sym outside.alone)
    (subst (λ (o : Option Event). FrontPieces p k (shared_step_of e.thread o) k') (sym outside.is)
    (k', inr outside.gives, refl))
entry_leads p k k' e (inl enters) =
    let u = up k.concrete e.thread enters.moves in
    let there = with_local k e.thread enters.here in
    run_on p k there k' (replicate e.local (local_step_of e.thread)) (shared_step_of e.thread e.event)
    (locals_lead p k e.thread e.local enters.origin enters.here u.awake enters.stands enters.goes)
    (ends_lead p there k' e.thread enters.here e.event enters.ends)

-- a log
pub steps_so : StepsSo
steps_so p k k' [] same = same
steps_so p k k' (e ∷ es) runs =
    run_on p k runs.0 k' (replicate e.local (local_step_of e.thread) ++ shared_step_of e.thread e.event)
    (steps_of es) (entry_leads p k runs.0 e runs.1) (steps_so p runs.0 k' es runs.2)

-- a log has as many steps as it costs
shared_many : (t : ℕ) (event : Option Event) → length (shared_step_of t event) ≡ event_cost event
shared_many t None = refl
shared_many t (Some event) = refl

cost_cons : (e : Entry) (es : List Entry) → cost (e ∷ es) ≡ (e.local + event_cost e.event) + cost es
cost_cons e es = sum_by-cons (λ (x : Entry). x.local + event_cost x.event) e es

many : (log : List Entry) → length (steps_of log) ≡ cost log
many [] = refl
many (e ∷ es) =
    let locals = replicate e.local (local_step_of e.thread) in
    let shared = shared_step_of e.thread e.event in
    omega (
      arith,
      length-append (locals ++ shared) (steps_of es),
      length-append locals shared,
      length-replicate e.local (local_step_of e.thread),
      shared_many e.thread e.event,
      many es,
      cost_cons e es,
    )

-- steps of a run that are seen as others are as many
as_many : (run : List Step) (steps : List EventStep) → map label_of run ≡ map event_label steps
    → length run ≡ length steps
as_many run steps same = sym (length-map run label_of) ∙ ap length same ∙ length-map steps event_label

-- what always holds holds where local steps lead
pub kept_put : (p : Program) (k : PieceConcrete) (t n : ℕ) (o here : Thread) → IsFit p k
    → k.concrete.common.asleep t ≡ None → thread_of k.concrete t ≡ Some o → local_after p t n o ≡ Some here
    → IsFit p (with_local k t here)
kept_put p k t n o here fit awake stands goes =
    (run_of p k (with_local k t here) (replicate n (local_step_of t)) fit
    (locals_lead p k t n o here awake stands goes)).fit

-- and where a log leads
pub holds : (p : Program) (log : List Entry) (k : PieceConcrete) → Runs p (opening p) log k → IsFit p k
holds p log k runs = (run_of p (opening p) k (steps_of log) (opening_fit p run_buckets (omega arith))
    (steps_so p (opening p) k log runs)).fit

pub runs_so : RunsSo
runs_so p log k runs =
    let r = pieces_run_so p run_buckets k (steps_of log) (omega arith) (steps_so p (opening p) k log runs) in
    (r.0, r.1, as_many r.0 (steps_of log) r.2 ∙ many log, r.2, r.3)

pub meets_so : MeetsSo
meets_so p may limit m =
    let u = up m.concrete.concrete m.thread m.moves in
    let there = with_local m.concrete m.thread m.here in
    let more = replicate m.count (local_step_of m.thread) in
    let all = steps_of m.log ++ more in
    let runs = run_on p (opening p) m.concrete there (steps_of m.log) more
    (steps_so p (opening p) m.concrete m.log m.legal)
    (locals_lead p m.concrete m.thread m.count m.origin m.here u.awake m.stands m.goes) in
    let r = pieces_run_so p run_buckets there all (omega arith) runs in
    let broken = (refused_by there (piece_of p there m.thread) (local_step p m.thread m.here) Broken m.breaks).1 in
    let long : length r.0 ≡ cost m.log + m.count =
    omega (
      arith,
      as_many r.0 all r.2,
      length-append (steps_of m.log) more,
      many m.log,
      length-replicate m.count (local_step_of m.thread),
    ) in
    (r.0, pieces_at there, r.1, long, (piece_breaks_so p there m.thread r.3).0 broken, r.2)
