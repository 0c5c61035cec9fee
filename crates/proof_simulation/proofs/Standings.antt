-- Where a thread stands holds for more processes, and for variables that are the same in the monitors that it has.
use Rattle.std.proofs.Common.{◌≡◌, ℕ, ◌+◌, ◌≤◌, ◌==◌, true, List, ◌∷◌, Option, ℤ, refl, ap, sym, ◌∙◌, subst, arith, inl}
use Rattle.std.proofs.Common.{inr, ◌⊎◌}
use Rattle.std.proofs.lemmas.Bool.{eq-eqb, or_left}
use Rattle.locals.specs.Threads.{Thread}
use Rattle.locals.specs.declared.frame.Locals.{Locals}
use Rattle.locals.specs.declared.frame.Frame.{Frame as MachineFrame}
use Rattle.program.specs.Trees.{Program}
use Rattle.meaning.specs.Values.{Variables}
use Rattle.program.specs.declared.kinds.Member.{Member}
use Rattle.meaning.specs.Processes.{Frame, Caller, Process, callers_monitors, holds}
use Rattle.meaning.specs.Offers.{Offer, TakesUp}
use Rattle.protocol.specs.Points.{Purpose, ToResume, Owned, Point, entry_at}
use Rattle.protocol.specs.World.{mem}
use Rattle.proof_thread.specs.Variables.{SameIn}
use Rattle.proof_thread.specs.Following.{Build, with_made, own_of}
use Rattle.proof_thread.proofs.Growing.{stands_grow, goes_on_grows, awaits_grow, proceeds_grow, proceeds_same}
use Rattle.proof_templates.specs.Locking.{Takes, ExitsAt, WaitsAt}
use Rattle.proof_templates.specs.Locking as L
use Rattle.proof_templates.specs.Inside.{Template, Enters, Exits, Waits, Notifies, Broadcasts, list_at, StandsIn}
use Rattle.proof_templates.specs.Inside.{TemplateFits}
use Rattle.proof_templates.specs.Inside.{IsSteady, IsBeforeRelease, SameBefore}
use Rattle.proof_simulation.specs.Standing.{IsChild, StandsAt, unmade, works, returns, inside, faults, killed, refused}
use Rattle.proof_simulation.specs.Standing.{reads, sleeps, learns, takes, walks, clears, wakes, rests}
use Rattle.lowering.specs.Conditions.{wait_takes, wait_recovers}
use Rattle.lowering.specs.Locks.{leave_length}
use Rattle.protocol.specs.Rules.{release_of}

-- the first of a list is on it
pub first_in : (m : ℕ) (ms l : List ℕ) → l ≡ m ∷ ms → mem m l ≡ true
first_in m ms l is = ap (mem m) is ∙ or_left (m == m) (mem m ms) (eq-eqb m m refl)

-- two lists with a first element
same_first : (m n : ℕ) (ms ns l : List ℕ) → l ≡ m ∷ ms → l ≡ n ∷ ns → m ≡ n
same_first m n ms ns l h g = cc

-- the thread has the monitors that its list and its point name
abbrev Near : List ℕ → Point → Variables → Variables → Type 0
Near l pt v v' = (m : ℕ) → (mem m l ≡ true) ⊎ (entry_at pt ≡ Owned m) → (n i : ℕ) → v m n i ≡ v' m n i

-- what a process that has its own monitor may read is the same
same_own : (p : Program) (q : Process) (u v v' : Variables) (l : List ℕ) (pt : Point) (m : ℕ) (ms : List ℕ)
    → IsSteady p q u → holds q ≡ m ∷ ms → (mem m l ≡ true) ⊎ (entry_at pt ≡ Owned m) → Near l pt v v'
    → SameIn (own_of q) v v'
same_own p q u v v' l pt m ms steady has here near n e i j =
    let f = steady.first n e in
    let is : n ≡ m = same_first n m f.0 ms (holds q) f.1 has in
    subst (λ k. v k i j ≡ v' k i j) (sym is) (near m here i j)

same_on : (own : Option ℕ) (u v v' : Variables) → SameIn own u v → SameIn own v v' → SameIn own u v'
same_on own u v v' h g m e n i = h m e n i ∙ g m e n i

-- in the giving up of a monitor the thread has it until the swap of its lock word: on its list, or as its entry
exit_has : (p : Program) (t m base : ℕ) (shown : Option ℕ) (l : Locals) (fs : List MachineFrame) (before : Process)
    (z : ℤ) (cs : List Caller) (pt : Point) (x : Thread) → ExitsAt (leave_length p.version) (release_of p.version) p t
    m base shown l fs pt x → IsBeforeRelease pt
    → (mem m (list_at (Exits m base shown l fs before z cs) pt) ≡ true) ⊎ (entry_at pt ≡ Owned m)
exit_has p t m base shown l fs before z cs pt x L.ExitsAt.pends b = inl (first_in m _ _ refl)
exit_has p t m base shown l fs before z cs pt x L.ExitsAt.reads b = inl (first_in m _ _ refl)
exit_has p t m base shown l fs before z cs pt x (L.ExitsAt.cuts h) b = inl (first_in m _ _ refl)
exit_has p t m base shown l fs before z cs pt x L.ExitsAt.swaps b = inr refl
exit_has p t m base shown l fs before z cs pt x L.ExitsAt.wakes b = absurd b
exit_has p t m base shown l fs before z cs pt x L.ExitsAt.unpends b = absurd b
exit_has p t m base shown l fs before z cs pt x L.ExitsAt.goes b = absurd b

take_none : (p : Program) (t m : ℕ) (k : Purpose) (first : ℕ) (values : List ℕ) (fs : List MachineFrame) (pt : Point)
    (x : Thread) → Takes p t m k first values fs pt x → IsBeforeRelease pt → ⊥
take_none p t m k first values fs pt x (L.Takes.reads v) b = b
take_none p t m k first values fs pt x (L.Takes.marks v) b = b
take_none p t m k first values fs pt x (L.Takes.sleeps v) b = b
take_none p t m k first values fs pt x (L.Takes.tries v) b = b
take_none p t m k first values fs pt x (L.Takes.heads v) b = b
take_none p t m k first values fs pt x (L.Takes.links v h) b = b
take_none p t m k first values fs pt x (L.Takes.lists v) b = b
take_none p t m k first values fs pt x (L.Takes.unpends v) b = b
take_none p t m k first values fs pt x (L.Takes.enters v h) b = b
take_none p t m k first values fs pt x (L.Takes.recovers v h) b = b

wait_has : (p : Program) (t : ℕ) (c : Member) (base : ℕ) (l : Locals) (fs : List MachineFrame) (before : Process)
    (f : Frame) (cs : List Caller) (ms : List ℕ) (pt : Point) (x : Thread)
    → WaitsAt (leave_length p.version) (release_of p.version) p t c base l fs pt x
    → IsBeforeRelease pt
    → (mem c.monitor (list_at (Waits c base l fs before f cs ms) pt) ≡ true) ⊎ (entry_at pt ≡ Owned c.monitor)
wait_has p t c base l fs before f cs ms pt x L.WaitsAt.numbers b = inl (first_in c.monitor _ _ refl)
wait_has p t c base l fs before f cs ms pt x (L.WaitsAt.pends v) b = inl (first_in c.monitor _ _ refl)
wait_has p t c base l fs before f cs ms pt x (L.WaitsAt.reads v) b = inl (first_in c.monitor _ _ refl)
wait_has p t c base l fs before f cs ms pt x (L.WaitsAt.cuts v h) b = inl (first_in c.monitor _ _ refl)
wait_has p t c base l fs before f cs ms pt x (L.WaitsAt.swaps v) b = inr refl
wait_has p t c base l fs before f cs ms pt x (L.WaitsAt.wakes v) b = absurd b
wait_has p t c base l fs before f cs ms pt x (L.WaitsAt.sleeps v) b = absurd b
wait_has p t c base l fs before f cs ms pt x (L.WaitsAt.takes h) b =
    absurd (take_none p t c.monitor (ToResume c) (base + wait_takes p.version) l.values fs pt x h b)

module _ (b : Build) (made : ℕ) (le : b.made ≤ made) (v v' : Variables) (t : ℕ) where
  steady_moves : (q : Process) → IsSteady b.program q v → SameIn (own_of q) v v' → IsSteady b.program q v'
  steady_moves q s same = record {
    first = s.first;
    same = λ v'' h. s.same v'' (same_on (own_of q) v v' v'' same h) ∙ sym (s.same v' same);
  }

  fits_grows : (u : Variables) (k : Template) → TemplateFits b u t k → TemplateFits (with_made b made) u t k
  fits_grows u (Enters m base l fs f cs) h = record {
    monitor = h.monitor;
    held = h.held;
    code = h.code;
    after = goes_on_grows b made le t m (base + 60) l fs f cs h.after;
  }
  fits_grows u (Exits m base shown l fs before z cs) h = record {
    monitor = h.monitor;
    offers = h.offers;
    steady = h.steady;
    held = h.held;
    code = h.code;
    after = stands_grow b made le t _ _ h.after;
  }
  fits_grows u (Waits c base l fs before f cs ms) h = record {
    condition = h.condition;
    own = h.own;
    offers = h.offers;
    steady = h.steady;
    had = h.had;
    held = h.held;
    code = h.code;
    after = goes_on_grows b made le t c.monitor (base + wait_recovers b.program.version) l fs f cs h.after;
  }
  fits_grows u (Notifies c base l fs before after ms) h = record {
    condition = h.condition;
    keeps = h.keeps;
    offers = h.offers;
    steady = h.steady;
    held = h.held;
    code = h.code;
    goes = stands_grow b made le t _ _ h.goes;
  }
  fits_grows u (Broadcasts c base l fs before after ms) h = record {
    condition = h.condition;
    keeps = h.keeps;
    offers = h.offers;
    steady = h.steady;
    held = h.held;
    code = h.code;
    goes = stands_grow b made le t _ _ h.goes;
  }

  same_before : (u : Variables) (k : Template) (pt : Point) (x : Thread) → TemplateFits b u t k
      → StandsIn b.program t k pt x
      → Near (list_at k pt) pt v v' → SameBefore k pt u v → SameBefore k pt u v'
  same_before u (Enters m base l fs f cs) pt x fit stands near same = tt
  same_before u (Exits m base shown l fs before z cs) pt x fit stands near same = λ r.
      same_on (own_of before) u v v' (same r)
      (same_own b.program before u v v' _ pt m (callers_monitors cs) fit.steady fit.held
      (exit_has b.program t m base shown l fs before z cs pt x stands r) near)
  same_before u (Waits c base l fs before f cs ms) pt x fit stands near same = λ r.
      same_on (own_of before) u v v' (same r)
      (same_own b.program before u v v' _ pt c.monitor ms fit.steady fit.had
      (wait_has b.program t c base l fs before f cs ms pt x stands r) near)
  same_before u (Notifies c base l fs before after ms) pt x fit stands near same =
      same_on (own_of before) u v v' same
      (same_own b.program before u v v' (c.monitor ∷ ms) pt c.monitor ms fit.steady fit.held
      (inl (first_in c.monitor ms (c.monitor ∷ ms) refl)) near)
  same_before u (Broadcasts c base l fs before after ms) pt x fit stands near same =
      same_on (own_of before) u v v' same
      (same_own b.program before u v v' (c.monitor ∷ ms) pt c.monitor ms fit.steady fit.held
      (inl (first_in c.monitor ms (c.monitor ∷ ms) refl)) near)

  child_grows : (c : ℕ) (f : Frame) (cs : List Caller) → IsChild b c f cs → IsChild (with_made b made) c f cs
  child_grows c f cs is = record { some = is.some; made = omega (arith, le, is.made); last = is.last }

  -- the variables of a process's own monitor are among those of the monitors that it holds
  own_same : (pt : Point) (q : Process) → Near (holds q) pt v v' → IsSteady b.program q v → SameIn (own_of q) v v'
  own_same pt q near steady m e n i = near m (inl (first_in m (steady.first m e).0 (holds q) (steady.first m e).1)) n i

  -- more processes, and variables that are the same in the monitors that the thread has
  pub stand_moves : (x : Option Thread) (q : Option Process) (pt : Point) (l : List ℕ) → Near l pt v v'
      → StandsAt b v t x q pt l → StandsAt (with_made b made) v' t x q pt l
  unfolding awaits_grow
  stand_moves x q pt l near unmade = unmade
  stand_moves x q pt l near (works {x = y} {q = r} left few h work) =
      let steady = work.steady in
      let same = own_same pt r near steady in
      works left few (proceeds_grow b made le t v' left y r (proceeds_same b t v v' left y r same (sym (steady.same v'
      same)) h)) (record {
        steady = steady_moves r steady same;
        keeps = λ label effect after is takes. work.keeps label effect after is
            (subst (λ (o : Offer). TakesUp o label effect after) (steady.same v' same) takes);
      })
  stand_moves x q pt l near (returns r fits h mark) = returns r fits h mark
  stand_moves x q pt l near (inside {y = y} {pt = at} left k u few walk fits same ne stands) =
      inside left k u few walk (fits_grows u k fits) (same_before u k at y fits stands near same) ne stands
  stand_moves x q pt l near (faults f) = faults f
  stand_moves x q pt l near (killed of) = killed of
  stand_moves x q pt l near (refused {q = r} left few h o steady) =
      let same = own_same pt r near steady in
      refused left few h (steady.same v' same ∙ o) (steady_moves r steady same)
  stand_moves x q pt l near (reads {child = c} {into = i} {part = p} {f = f} {cs = cs} left few is j h) =
      reads left few (child_grows c f cs is) (awaits_grow b made le t c i p f cs j) h
  stand_moves x q pt l near (sleeps {child = c} {into = i} {part = p} {f = f} {cs = cs} left few is j h) =
      sleeps left few (child_grows c f cs is) (awaits_grow b made le t c i p f cs j) h
  stand_moves x q pt l near (learns {child = c} {into = i} {part = p} {f = f} {cs = cs} left few is j h) =
      learns left few (child_grows c f cs is) (awaits_grow b made le t c i p f cs j) h
  stand_moves x q pt l near (takes {child = c} {into = i} {part = p} {f = f} {cs = cs} left few is j h) =
      takes left few (child_grows c f cs is) (awaits_grow b made le t c i p f cs j) h
  stand_moves x q pt l near (walks phase is short end of) = walks phase is short end of
  stand_moves x q pt l near clears = clears
  stand_moves x q pt l near wakes = wakes
  stand_moves x q pt l near rests = rests
