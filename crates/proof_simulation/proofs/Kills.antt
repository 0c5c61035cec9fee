-- What the source makes of a thread that is killed, where it stands: what its process holds, and whether it was about
-- to resume others.
use Rattle.std.proofs.Common.{◌≡◌, ◌≢◌, ◌==◌, ◌||◌, ◌++◌, ℕ, suc, Bool, true, false, List, [], ◌∷◌, Option}
use Rattle.std.proofs.Common.{Some, None, refl, ap, sym, ◌∙◌, subst, arith, inl, inr, Contains}
use Rattle.std.specs.Prelude.{if◌then◌else◌}
use Rattle.std.proofs.lemmas.Bool.{cases_eq, eq-eqb, ne_eqb, false≢true}
use Rattle.program.specs.Scope.{recover_of}
use Rattle.meaning.specs.Processes.{without_monitor, recovers, recovers_by, opening_frame, frame_of, monitor_of_role}
use Rattle.meaning.specs.Runs.{Enters, GivesUp}
use Rattle.proof_thread.specs.Builds.{IsBuild}
use Rattle.lowering.specs.Locks.{leave_length}
use Rattle.protocol.specs.Rules.{release_of}
use Rattle.protocol.specs.Points.{Entry as Pending, Owned, Unowned}
use Rattle.protocol.specs.World.{mem}
use Rattle.protocol.proofs.Roles.{Listed}
use Rattle.protocol.specs.Carries.{has_died}
use Rattle.proof_templates.specs.Inside.{lock_taker}
use Rattle.words.specs.Updates.{put}
use Rattle.machine.specs.States.{State}
use Rattle.program.specs.WellFormed.{WellFormed}
use Rattle.meaning.specs.Table.{Table, AreResumed}
use Rattle.meaning.specs.States.{SourceState}
use Rattle.protocol.specs.Points.{Unmade}
use Rattle.protocol.specs.World.{World}
use Rattle.protocol.specs.Moves.{Kill}
use Rattle.protocol.specs.Steps.{Can, after}
use Rattle.protocol.specs.Carries.{Event, Kills, Permits, death, resumed_by, table_after}
use Rattle.protocol.proofs.Good.{Good}
use Rattle.protocol.proofs.Kept.{permitted}
use Rattle.protocol.proofs.Roles.{Knows}
use Rattle.protocol.proofs.Processes.{is_made, point_made}
use Rattle.refinement.specs.Built.{build_of}
use Rattle.refinement.proofs.Building.{is_build}
use Rattle.proof_simulation.specs.Corresponding.{Corresponds, Reached}
use Rattle.proof_simulation.proofs.Worlds.{reached_on, reached_good}
use Rattle.proof_templates.proofs.Taken.{taken_holds, owned_alone, entry_alone}
use Rattle.locals.specs.Threads.{Thread}
use Rattle.program.specs.declared.kinds.Member.{Member}
use Rattle.program.specs.declared.kinds.Role.{Role}
use Rattle.program.specs.declared.kinds.Role.TheVariants.{Entry, Internal, Recover, External, Main}
use Rattle.program.specs.Trees.{Block, Done, Then, Return, Assign, If, While, Call, Fork, Join, Wait, Notify, Broadcast}
use Rattle.program.specs.Trees.{Print, Abort, Part, NoPart, SomePart, Program}
use Rattle.meaning.specs.Labels as K
use Rattle.meaning.specs.Labels.{Ended, Aborted, End}
use Rattle.meaning.specs.Values.{Variables}
use Rattle.meaning.specs.Processes.{Frame, Caller, Process, Entering, Before, Suspended, Joining, Returning, Failing}
use Rattle.meaning.specs.Processes.{Dying, Leaving, Over, goes_on, goes_on_by, with_result, holds, all_monitors}
use Rattle.meaning.specs.Processes.{callers_monitors}
use Rattle.meaning.specs.Offers.{Offer, Rests, Does, Takes, MakesOne, ClaimsOne, JoinsOne, NotifiesSome, NotifiesAll}
use Rattle.meaning.specs.Offers.{offer, after_join, joined_part}
use Rattle.meaning.specs.Runs.{IsKillable, IsNotifying, IsLeft}
use Rattle.proof_thread.specs.Following.{Build}
use Rattle.proof_thread.specs.Completing.{Completes}
use Rattle.proof_thread.specs.Completing as F
use Rattle.proof_thread.proofs.Holding.{goes_on_holds}
use Rattle.protocol.specs.Points.{NoEntry, Point, Runs, NotifyWakes, BroadcastMarks, BroadcastReads}
use Rattle.protocol.specs.Points.{BroadcastMoves, IsLive, entry_at}
use Rattle.proof_templates.specs.Inside.{Template, process_at, list_at, StandsIn, TemplateFits, SameBefore}
use Rattle.proof_templates.specs.Inside as I
use Rattle.proof_templates.specs.Locking as L
use Rattle.proof_templates.specs.Notifying as N
use Rattle.proof_simulation.specs.Deferred.{notified_at}
use Rattle.proof_simulation.specs.Killing.{last_of, left_of}
use Rattle.proof_simulation.specs.Standing.{StandsAt, IsLast}
use Rattle.proof_simulation.specs.Standing as S

-- a process that a kill may take here, with the robust list of its thread
pub record KillStands (p : Program) (v : Variables) (q : Process) (pt : Point) (l : List ℕ) : Type 0 where
  pub killable : IsKillable q
  pub left : IsLeft p v q None l
  pub notifies : IsNotifying (offer p v q) (notified_at pt)

pub resumes_none : (o : Offer) → IsNotifying o None
resumes_none Rests = tt
resumes_none (Does l e q) = tt
resumes_none (Takes l f a) = tt
resumes_none (MakesOne c q r) = tt
resumes_none (ClaimsOne c q r) = tt
resumes_none (JoinsOne c q) = tt
resumes_none (NotifiesSome c q) = tt
resumes_none (NotifiesAll c q) = tt

-- what a process offers that is neither dying nor over
abbrev Alive : Offer → Type 0
Alive Rests = ⊥
Alive (Does (K.Ends e) f r) = ⊥
Alive (Does (K.Abandons m) f r) = ⊥
Alive o = Unit {0}

alive : (p : Program) (v : Variables) (q : Process) → Alive (offer p v q) → IsKillable q
alive p v (Dying cause []) h = absurd h
alive p v (Dying cause (m ∷ ms)) h = absurd h
alive p v (Over e) h = absurd h
alive p v (Entering m f cs) h = tt
alive p v (Before m f cs) h = tt
alive p v (Suspended c f cs) h = tt
alive p v (Joining c i x f cs) h = tt
alive p v (Returning z cs) h = tt
alive p v (Failing x m f cs) h = tt
alive p v (Leaving z) h = tt

offers : (p : Program) (v : Variables) (q : Process) (o : Offer) → offer p v q ≡ o → Alive o → IsKillable q
offers p v q o e h = alive p v q (subst Alive (sym e) h)

completes_killable : (b : Build) (t : ℕ) (v : Variables) (x : Thread) (q : Process) → Completes b t v x q
    → IsKillable q
completes_killable b t v x q (F.acts kind own h m o st) = offers b.program v q _ o tt
completes_killable b t v x q (F.prints n go h o st) = offers b.program v q _ o tt
completes_killable b t v x q (F.stores m i z go own has is fits h o st) = offers b.program v q _ o tt
completes_killable b t v x q (F.returns h m e) = subst IsKillable (sym e) tt
completes_killable b t v x q (F.leaves r fits h m o) = offers b.program v q _ o tt
completes_killable b t v x q (F.forks entry arguments go h full o mine its empty) = offers b.program v q _ o tt
completes_killable b t v x q (F.claims child go some made most h o j to bad) = offers b.program v q _ o tt
completes_killable b t v x q (F.faults fault e o) = offers b.program v q _ o tt
completes_killable b t v x q (F.enters base e is below held code after) = subst IsKillable (sym e) tt
completes_killable b t v x q (F.exits m base shown o held is code after) = offers b.program v q _ o tt
completes_killable b t v x q (F.waits c base h o had own held is code after) = offers b.program v q _ o tt
completes_killable b t v x q (F.notifies c base h o first keeps is code after) = offers b.program v q _ o tt
completes_killable b t v x q (F.broadcasts c base h o first keeps is code after) = offers b.program v q _ o tt

-- a process that goes on can be killed
on_killable : (entered : Option ℕ) (f : Frame) (role : Role) (rest : Block) (cs : List Caller)
    → IsKillable (goes_on_by role rest entered f cs)
on_killable entered f (Entry m) rest cs = tt
on_killable entered f (Internal m) rest cs = tt
on_killable entered f (Recover m) Done [] = tt
on_killable entered f (Recover m) Done (c ∷ cs) = tt
on_killable entered f (Recover m) (Then s rest) cs = tt
on_killable entered f External rest cs = tt
on_killable entered f Main Done cs = tt
on_killable entered f Main (Then (Return value) rest) cs = tt
on_killable entered f Main (Then (Assign target e) rest) cs = tt
on_killable entered f Main (Then (If e x y) rest) cs = tt
on_killable entered f Main (Then (While e x) rest) cs = tt
on_killable entered f Main (Then (Call q es into) rest) cs = tt
on_killable entered f Main (Then (Fork q es into) rest) cs = tt
on_killable entered f Main (Then (Join e into y) rest) cs = tt
on_killable entered f Main (Then (Wait c) rest) cs = tt
on_killable entered f Main (Then (Notify c) rest) cs = tt
on_killable entered f Main (Then (Broadcast c) rest) cs = tt
on_killable entered f Main (Then (Print e) rest) cs = tt
on_killable entered f Main (Then Abort rest) cs = tt

module _ (b : Build) (v : Variables) (t : ℕ) where
  on_stands : (entered : Option ℕ) (f : Frame) (cs : List Caller) (pt : Point) → IsLast f cs
      → notified_at pt ≡ None → KillStands b.program v (goes_on entered f cs) pt (all_monitors f cs)
  on_stands entered f cs pt last none = record {
    killable = on_killable entered f f.role f.rest cs;
    left = sym (goes_on_holds b entered f cs last);
    notifies = subst (λ (i : Option Member). IsNotifying (offer b.program v (goes_on entered f cs)) i) (sym none)
        (resumes_none (offer b.program v (goes_on entered f cs)));
  }

  with_stands : (into : Option ℕ) (z : _) (f : Frame) (cs : List Caller) (pt : Point) → IsLast f cs
      → notified_at pt ≡ None → KillStands b.program v (goes_on None (with_result into z f) cs) pt (all_monitors f cs)
  with_stands None z f cs pt last none = on_stands None f cs pt last none
  with_stands (Some slot) z f cs pt last none = on_stands None _ cs pt last none

  join_stands : (into : Option ℕ) (part : Part) (f : Frame) (cs : List Caller) (end : End) (pt : Point) → IsLast f cs
      → notified_at pt ≡ None → KillStands b.program v (after_join into part f cs end) pt (all_monitors f cs)
  join_stands into part f cs (Ended z) pt last none = with_stands into z f cs pt last none
  join_stands into NoPart f cs (Aborted cause) pt last none = record {
    killable = tt;
    left = refl;
    notifies = subst (λ (i : Option Member). IsNotifying (offer b.program v (joined_part NoPart f cs)) i) (sym none)
        (resumes_none (offer b.program v (joined_part NoPart f cs)));
  }
  join_stands into (SomePart x) f cs (Aborted cause) pt last none = on_stands None _ cs pt last none

  -- before what the template does, with a monitor first on the list
  before_stands : (q : Process) (u : Variables) (o : Offer) (l : List ℕ) (pt : Point) → offer b.program u q ≡ o
      → Alive o → holds q ≡ l → notified_at pt ≡ None → KillStands b.program v q pt l
  before_stands q u o l pt e h held none = record {
    killable = offers b.program u q o e h;
    left = sym held;
    notifies = subst (λ (i : Option Member). IsNotifying (offer b.program v q) i) (sym none)
        (resumes_none (offer b.program v q));
  }

  notify_kill : (u : Variables) (c : Member) (base : ℕ) (l : _) (fs : List _) (before after : Process) (ms : List ℕ)
      (pt : Point) (y : Thread) → I.NotifyFits b u t c base l fs before after ms
      → SameBefore (I.Notifies c base l fs before after ms) pt u v → N.NotifiesAt b.program c base l fs pt y
      → pt ≢ Runs → KillStands b.program v before pt (c.monitor ∷ ms)
  notify_kill u c base l fs before after ms pt y fits same N.NotifiesAt.adds ne =
      before_stands before u _ _ pt fits.offers tt fits.held refl
  notify_kill u c base l fs before after ms pt y fits same N.NotifiesAt.wakes ne = record {
    killable = offers b.program u before _ fits.offers tt;
    left = sym fits.held;
    notifies = subst (λ (o : Offer). IsNotifying o (Some c)) (sym (fits.steady.same v same ∙ fits.offers)) refl;
  }
  notify_kill u c base l fs before after ms pt y fits same N.NotifiesAt.goes ne = absurd (ne refl)

  broadcast_kill : (u : Variables) (c : Member) (base : ℕ) (l : _) (fs : List _) (before after : Process)
      (ms : List ℕ) (pt : Point) (y : Thread) → I.BroadcastFits b u t c base l fs before after ms
      → SameBefore (I.Broadcasts c base l fs before after ms) pt u v → N.BroadcastsAt b.program c base l fs pt y
      → pt ≢ Runs → KillStands b.program v before pt (c.monitor ∷ ms)
  broadcast_kill u c base l fs before after ms pt y fits same N.BroadcastsAt.adds ne =
      before_stands before u _ _ pt fits.offers tt fits.held refl
  broadcast_kill u c base l fs before after ms pt y fits same N.BroadcastsAt.marks ne = record {
    killable = offers b.program u before _ fits.offers tt;
    left = sym fits.held;
    notifies = subst (λ (o : Offer). IsNotifying o (Some c)) (sym (fits.steady.same v same ∙ fits.offers)) refl;
  }
  broadcast_kill u c base l fs before after ms pt y fits same N.BroadcastsAt.reads ne = record {
    killable = offers b.program u before _ fits.offers tt;
    left = sym fits.held;
    notifies = subst (λ (o : Offer). IsNotifying o (Some c)) (sym (fits.steady.same v same ∙ fits.offers)) refl;
  }
  broadcast_kill u c base l fs before after ms pt y fits same (N.BroadcastsAt.moves n) ne = record {
    killable = offers b.program u before _ fits.offers tt;
    left = sym fits.held;
    notifies = subst (λ (o : Offer). IsNotifying o (Some c)) (sym (fits.steady.same v same ∙ fits.offers)) refl;
  }
  broadcast_kill u c base l fs before after ms pt y fits same N.BroadcastsAt.goes ne = absurd (ne refl)

-- the same with anything pending
pub record KillAny (p : Program) (v : Variables) (q : Process) (pt : Point) (l : List ℕ) : Type 0 where
  pub killable : IsKillable q
  pub left : IsLeft p v q (last_of (entry_at pt)) (left_of (last_of (entry_at pt)) l)
  pub notifies : IsNotifying (offer p v q) (notified_at pt)

abbrev pub AtAny : Program → Variables → Option Process → Point → List ℕ → Type 0
AtAny p v None pt l = ⊥
AtAny p v (Some q) pt l = KillAny p v q pt l

without_first : (m : ℕ) (ms : List ℕ) → without_monitor m (m ∷ ms) ≡ without_monitor m ms
without_first m ms = rw (eq-eqb m m refl) refl

or_second : (a b : Bool) → (a || b) ≡ false → b ≡ false
or_second true b h = absurd cc
or_second false b h = h

without_absent : (m : ℕ) (ms : List ℕ) → mem m ms ≡ false → without_monitor m ms ≡ ms
without_absent m [] h = refl
without_absent m (x ∷ xs) h = elim (cases_eq x m) [
  | inl e ↦ absurd (false≢true (sym h ∙ ap (λ b. b || mem m xs) (eq-eqb m x (sym e))))
  | inr o ↦ rw (ne_eqb x m o) (ap (λ (l : List ℕ). x ∷ l) (without_absent m xs (or_second (m == x) (mem m xs) h)))
]

contains_first : (m : ℕ) (ms : List ℕ) → Contains (m ∷ ms) m
contains_first m ms = (0, omega arith, refl)

contains_mem : (m : ℕ) (ms : List ℕ) → mem m ms ≡ true → Contains ms m
contains_mem m [] h = absurd (false≢true h)
contains_mem m (x ∷ xs) h = elim (cases_eq m x) [
  | inl e ↦ subst (λ n. Contains (n ∷ xs) m) e (contains_first m xs)
  | inr o ↦
      let less = contains_mem m xs (sym (ap (λ b. b || mem m xs) (ne_eqb m x o)) ∙ h) in
      (suc less.0, omega (arith, less.1), less.2)
]

module _ (b : Build) (is : IsBuild b) (v : Variables) (t : ℕ) where
  -- a process that has just taken a monitor's lock
  module _ (m : ℕ) (f : Frame) (cs : List Caller) (ms : List ℕ) (held : all_monitors f cs ≡ m ∷ ms)
      (alone : f.role ≡ Main → cs ≡ []) where
    on_enters : (role : Role) (rest : Block) (cs' : List Caller) → f.role ≡ role → all_monitors f cs' ≡ m ∷ ms
        → (f.role ≡ Main → cs' ≡ []) → Enters (goes_on_by role rest (Some m) f cs') m
    on_enters (Entry n) rest cs' e h a = refl
    on_enters (Internal n) rest cs' e h a = refl
    on_enters (Recover n) Done [] e h a =
        let none : [] ≡ m ∷ ms = sym (ap (λ (r : Role). monitor_of_role r []) e) ∙ h in absurd cc
    on_enters (Recover n) Done (c ∷ cs') e h a = refl
    on_enters (Recover n) (Then s rest) cs' e h a = refl
    on_enters External rest cs' e h a = refl
    on_enters Main rest cs' e h a =
        let none : [] ≡ m ∷ ms = sym (ap (λ (l : List Caller). monitor_of_role Main (callers_monitors l)) (a e))
        ∙ sym (ap (λ (r : Role). monitor_of_role r (callers_monitors cs')) e) ∙ h in absurd cc

    part_so : (o : Option ℕ) → recover_of b.program m ≡ o
        → IsKillable (recovers_by b.program o m f cs) × Enters (recovers_by b.program o m f cs) m
    part_so None e = (tt, refl)
    part_so (Some r) e =
        let q = is.recovers m r e in
        let g = opening_frame b.program r [] in
        let role : g.role ≡ Recover m = ap (λ o. (frame_of o []).role) q.1 ∙ q.2 in
        let behind = record { into = None; frame = f } ∷ cs in (
          on_killable (Some m) g g.role g.rest behind,
          subst (λ (i : Role). Enters (goes_on_by i g.rest (Some m) g behind) m) (sym role) (by_rest g g.rest behind),
        )
      where
        by_rest : (g : Frame) (rest : Block) (behind : List Caller)
            → Enters (goes_on_by (Recover m) rest (Some m) g (record { into = None; frame = f } ∷ cs)) m
        by_rest g Done behind = refl
        by_rest g (Then s rest) behind = refl

    taker_so : (seen : ℕ) → IsKillable (lock_taker b.program m f cs seen) × Enters (lock_taker b.program m f cs seen) m
    taker_so seen = by_test (has_died seen)
      where
        by_test : (x : Bool) → IsKillable (if x then recovers b.program m f cs else goes_on (Some m) f cs)
            × Enters (if x then recovers b.program m f cs else goes_on (Some m) f cs) m
        by_test true = part_so (recover_of b.program m) refl
        by_test false = (on_killable (Some m) f f.role f.rest cs, on_enters f.role f.rest cs refl held alone)

    taken_any : (seen : ℕ) (pt : Point) (l : List ℕ) → entry_at pt ≡ Owned m → notified_at pt ≡ None
        → without_monitor m l ≡ without_monitor m (m ∷ ms) → KillAny b.program v (lock_taker b.program m f cs seen) pt l
    taken_any seen pt l owned none same =
        let q = lock_taker b.program m f cs seen in
        let has : holds q ≡ m ∷ ms = taken_holds b is m f cs seen alone ∙ held in
        let so = taker_so seen in
        record {
          killable = so.0;
          left = subst (λ (i : Pending). IsLeft b.program v q (last_of i) (left_of (last_of i) l)) (sym owned) (
            subst (λ (i : List ℕ). Contains i m) (sym has) (contains_first m ms),
            inl so.1,
            ap (λ (i : List ℕ). i ++ m ∷ []) (same ∙ sym (ap (without_monitor m) has)),
          );
          notifies = subst (λ (i : Option Member). IsNotifying (offer b.program v q) i) (sym none)
              (resumes_none (offer b.program v q));
        }

  -- a process that is about to give up a monitor
  gives_any : (q : Process) (u : Variables) (o : Offer) (m : ℕ) (ms l : List ℕ) (pt : Point)
      → offer b.program v q ≡ o → Alive o → GivesUp o m → holds q ≡ m ∷ ms → entry_at pt ≡ Owned m
      → notified_at pt ≡ None → without_monitor m l ≡ without_monitor m (m ∷ ms) → KillAny b.program v q pt l
  gives_any q u o m ms l pt e h gives held owned none same = record {
    killable = offers b.program v q o e h;
    left = subst (λ (i : Pending). IsLeft b.program v q (last_of i) (left_of (last_of i) l)) (sym owned) (
      subst (λ (i : List ℕ). Contains i m) (sym held) (contains_first m ms),
      inr (subst (λ (i : Offer). GivesUp i m) (sym e) gives),
      ap (λ (i : List ℕ). i ++ m ∷ []) (same ∙ sym (ap (without_monitor m) held)),
    );
    notifies = subst (λ (i : Option Member). IsNotifying (offer b.program v q) i) (sym none)
        (resumes_none (offer b.program v q));
  }

  -- a process that enters a monitor once more
  again_any : (m : ℕ) (f : Frame) (cs : List Caller) (pt : Point) → entry_at pt ≡ Owned m → notified_at pt ≡ None
      → mem m (callers_monitors cs) ≡ true → KillAny b.program v (Entering m f cs) pt (callers_monitors cs)
  again_any m f cs pt owned none h = record {
    killable = tt;
    left = subst (λ (i : Pending). IsLeft b.program v (Entering m f cs) (last_of i)
        (left_of (last_of i) (callers_monitors cs))) (sym owned)
        (contains_mem m (callers_monitors cs) h, inl refl, refl);
    notifies = subst (λ (i : Option Member). IsNotifying (offer b.program v (Entering m f cs)) i) (sym none) tt;
  }

  enter_any : (m base : ℕ) (l : _) (fs : List _) (f : Frame) (cs : List Caller) (pt : Point) (y : Thread)
      → I.EnterFits b t m base l fs f cs → L.EntersAt b.program t m base l fs pt y → pt ≢ Runs
      → Listed pt (list_at (I.Enters m base l fs f cs) pt)
      → KillAny b.program v (process_at b.program (I.Enters m base l fs f cs) pt) pt
      (list_at (I.Enters m base l fs f cs) pt)
  enter_any m base l fs f cs pt y fits L.EntersAt.pends ne k = record { killable = tt; left = refl; notifies = tt }
  enter_any m base l fs f cs pt y fits L.EntersAt.tries ne k = record { killable = tt; left = refl; notifies = tt }
  enter_any m base l fs f cs pt y fits (L.EntersAt.takes (L.Takes.reads n)) ne k =
      record { killable = tt; left = refl; notifies = tt }
  enter_any m base l fs f cs pt y fits (L.EntersAt.takes (L.Takes.marks n)) ne k =
      record { killable = tt; left = refl; notifies = tt }
  enter_any m base l fs f cs pt y fits (L.EntersAt.takes (L.Takes.sleeps n)) ne k =
      record { killable = tt; left = refl; notifies = tt }
  enter_any m base l fs f cs pt y fits (L.EntersAt.takes (L.Takes.tries n)) ne k =
      record { killable = tt; left = refl; notifies = tt }
  enter_any m base l fs f cs pt y fits (L.EntersAt.takes (L.Takes.heads n)) ne k =
      taken_any m f cs _ fits.held (entry_alone m f cs fits.held) n pt _ refl refl (sym (without_first m _))
  enter_any m base l fs f cs pt y fits (L.EntersAt.takes (L.Takes.links n h)) ne k =
      taken_any m f cs _ fits.held (entry_alone m f cs fits.held) n pt _ refl refl (sym (without_first m _))
  enter_any m base l fs f cs pt y fits (L.EntersAt.takes (L.Takes.lists n)) ne k =
      taken_any m f cs _ fits.held (entry_alone m f cs fits.held) n pt _ refl refl (sym (without_first m _))
  enter_any m base l fs f cs pt y fits (L.EntersAt.takes (L.Takes.unpends n)) ne k =
      taken_any m f cs _ fits.held (entry_alone m f cs fits.held) n pt _ refl refl refl
  enter_any m base l fs f cs pt y fits (L.EntersAt.takes (L.Takes.enters n h)) ne k = absurd (ne refl)
  enter_any m base l fs f cs pt y fits (L.EntersAt.takes (L.Takes.recovers n h)) ne k = absurd (ne refl)
  enter_any m base l fs f cs pt y fits L.EntersAt.pends_again ne k =
      record { killable = tt; left = refl; notifies = tt }
  enter_any m base l fs f cs pt y fits L.EntersAt.tries_again ne k = again_any m f cs pt refl refl k
  enter_any m base l fs f cs pt y fits (L.EntersAt.takes_again (L.Takes.reads n)) ne k =
      again_any m f cs pt refl refl k
  enter_any m base l fs f cs pt y fits (L.EntersAt.takes_again (L.Takes.marks n)) ne k =
      again_any m f cs pt refl refl k.0
  enter_any m base l fs f cs pt y fits (L.EntersAt.takes_again (L.Takes.sleeps n)) ne k =
      again_any m f cs pt refl refl k.0
  enter_any m base l fs f cs pt y fits (L.EntersAt.takes_again (L.Takes.tries n)) ne k = absurd k.0
  enter_any m base l fs f cs pt y fits (L.EntersAt.takes_again (L.Takes.heads n)) ne k =
      taken_any m f cs _ fits.held (entry_alone m f cs fits.held) n pt _ refl refl (sym (without_first m _))
  enter_any m base l fs f cs pt y fits (L.EntersAt.takes_again (L.Takes.links n h)) ne k =
      taken_any m f cs _ fits.held (entry_alone m f cs fits.held) n pt _ refl refl (sym (without_first m _))
  enter_any m base l fs f cs pt y fits (L.EntersAt.takes_again (L.Takes.lists n)) ne k =
      taken_any m f cs _ fits.held (entry_alone m f cs fits.held) n pt _ refl refl (sym (without_first m _))
  enter_any m base l fs f cs pt y fits (L.EntersAt.takes_again (L.Takes.unpends n)) ne k =
      taken_any m f cs _ fits.held (entry_alone m f cs fits.held) n pt _ refl refl refl
  enter_any m base l fs f cs pt y fits (L.EntersAt.takes_again (L.Takes.enters n h)) ne k = absurd (ne refl)
  enter_any m base l fs f cs pt y fits (L.EntersAt.takes_again (L.Takes.recovers n h)) ne k = absurd (ne refl)

  exit_any : (u : Variables) (m base : ℕ) (shown : Option ℕ) (l : _) (fs : List _) (before : Process) (z : _)
      (cs : List Caller) (pt : Point) (y : Thread) → I.ExitFits b u t m base shown l fs before z cs
      → SameBefore (I.Exits m base shown l fs before z cs) pt u v
      → L.ExitsAt (leave_length b.program.version) (release_of b.program.version) b.program t m base shown l fs pt y →
      pt ≢ Runs
      → KillAny b.program v (process_at b.program (I.Exits m base shown l fs before z cs) pt) pt
      (list_at (I.Exits m base shown l fs before z cs) pt)
  exit_any u m base shown l fs before z cs pt y fits same L.ExitsAt.pends ne =
      let s = before_stands b v t before u _ _ pt fits.offers tt fits.held refl in
      record { killable = s.killable; left = s.left; notifies = s.notifies }
  exit_any u m base shown l fs before z cs pt y fits same L.ExitsAt.reads ne =
      gives_any before u _ m _ _ pt (fits.steady.same v (same tt) ∙ fits.offers) tt refl fits.held refl refl refl
  exit_any u m base shown l fs before z cs pt y fits same (L.ExitsAt.cuts h) ne =
      gives_any before u _ m _ _ pt (fits.steady.same v (same tt) ∙ fits.offers) tt refl fits.held refl refl refl
  exit_any u m base shown l fs before z cs pt y fits same L.ExitsAt.swaps ne =
      gives_any before u _ m _ _ pt (fits.steady.same v (same tt) ∙ fits.offers) tt refl fits.held refl refl
      (sym (without_first m _))
  exit_any u m base shown l fs before z cs pt y fits same L.ExitsAt.wakes ne =
      record { killable = tt; left = refl; notifies = tt }
  exit_any u m base shown l fs before z cs pt y fits same L.ExitsAt.unpends ne =
      record { killable = tt; left = refl; notifies = tt }
  exit_any u m base shown l fs before z cs pt y fits same L.ExitsAt.goes ne = absurd (ne refl)

  -- a process that waits, or resumes
  asleep_any : (c : Member) (f : Frame) (cs : List Caller) (ms : List ℕ) (pt : Point)
      → all_monitors f cs ≡ c.monitor ∷ ms → mem c.monitor ms ≡ false → entry_at pt ≡ Unowned c.monitor
      → notified_at pt ≡ None → KillAny b.program v (Suspended c f cs) pt ms
  asleep_any c f cs ms pt held absent owned none = record {
    killable = tt;
    left = subst (λ (i : Pending). IsLeft b.program v (Suspended c f cs) (last_of i) (left_of (last_of i) ms))
        (sym owned) (sym (ap (without_monitor c.monitor) held ∙ without_first c.monitor ms
        ∙ without_absent c.monitor ms absent));
    notifies = subst (λ (i : Option Member). IsNotifying (offer b.program v (Suspended c f cs)) i) (sym none) tt;
  }

  wait_any : (u : Variables) (c : Member) (base : ℕ) (l : _) (fs : List _) (before : Process) (f : Frame)
      (cs : List Caller) (ms : List ℕ) (pt : Point) (y : Thread) → I.WaitFits b u t c base l fs before f cs ms
      → SameBefore (I.Waits c base l fs before f cs ms) pt u v
      → L.WaitsAt (leave_length b.program.version) (release_of b.program.version) b.program t c base l fs pt y
      → pt ≢ Runs → Listed pt (list_at (I.Waits c base l fs before f cs ms) pt)
      → KillAny b.program v (process_at b.program (I.Waits c base l fs before f cs ms) pt) pt
      (list_at (I.Waits c base l fs before f cs ms) pt)
  wait_any u c base l fs before f cs ms pt y fits same L.WaitsAt.numbers ne k =
      let s = before_stands b v t before u _ _ pt fits.offers tt fits.had refl in
      record { killable = s.killable; left = s.left; notifies = s.notifies }
  wait_any u c base l fs before f cs ms pt y fits same (L.WaitsAt.pends n) ne k =
      let s = before_stands b v t before u _ _ pt fits.offers tt fits.had refl in
      record { killable = s.killable; left = s.left; notifies = s.notifies }
  wait_any u c base l fs before f cs ms pt y fits same (L.WaitsAt.reads n) ne k =
      gives_any before u _ c.monitor _ _ pt (fits.steady.same v (same tt) ∙ fits.offers) tt refl fits.had refl refl refl
  wait_any u c base l fs before f cs ms pt y fits same (L.WaitsAt.cuts n h) ne k =
      gives_any before u _ c.monitor _ _ pt (fits.steady.same v (same tt) ∙ fits.offers) tt refl fits.had refl refl refl
  wait_any u c base l fs before f cs ms pt y fits same (L.WaitsAt.swaps n) ne k =
      gives_any before u _ c.monitor _ _ pt (fits.steady.same v (same tt) ∙ fits.offers) tt refl fits.had refl refl
      (sym (without_first c.monitor _))
  wait_any u c base l fs before f cs ms pt y fits same (L.WaitsAt.wakes n) ne k =
      asleep_any c f cs ms pt fits.held k refl refl
  wait_any u c base l fs before f cs ms pt y fits same (L.WaitsAt.sleeps n) ne k =
      asleep_any c f cs ms pt fits.held k refl refl
  wait_any u c base l fs before f cs ms pt y fits same (L.WaitsAt.takes (L.Takes.reads n)) ne k =
      asleep_any c f cs ms pt fits.held k refl refl
  wait_any u c base l fs before f cs ms pt y fits same (L.WaitsAt.takes (L.Takes.marks n)) ne k =
      asleep_any c f cs ms pt fits.held k.0 refl refl
  wait_any u c base l fs before f cs ms pt y fits same (L.WaitsAt.takes (L.Takes.sleeps n)) ne k =
      asleep_any c f cs ms pt fits.held k.0 refl refl
  wait_any u c base l fs before f cs ms pt y fits same (L.WaitsAt.takes (L.Takes.tries n)) ne k =
      asleep_any c f cs ms pt fits.held k.0 refl refl
  wait_any u c base l fs before f cs ms pt y fits same (L.WaitsAt.takes (L.Takes.heads n)) ne k =
      taken_any c.monitor f cs ms fits.held (owned_alone c.monitor f cs fits.own) n pt _ refl refl
      (sym (without_first c.monitor _))
  wait_any u c base l fs before f cs ms pt y fits same (L.WaitsAt.takes (L.Takes.links n h)) ne k =
      taken_any c.monitor f cs ms fits.held (owned_alone c.monitor f cs fits.own) n pt _ refl refl
      (sym (without_first c.monitor _))
  wait_any u c base l fs before f cs ms pt y fits same (L.WaitsAt.takes (L.Takes.lists n)) ne k =
      taken_any c.monitor f cs ms fits.held (owned_alone c.monitor f cs fits.own) n pt _ refl refl
      (sym (without_first c.monitor _))
  wait_any u c base l fs before f cs ms pt y fits same (L.WaitsAt.takes (L.Takes.unpends n)) ne k =
      taken_any c.monitor f cs ms fits.held (owned_alone c.monitor f cs fits.own) n pt _ refl refl refl
  wait_any u c base l fs before f cs ms pt y fits same (L.WaitsAt.takes (L.Takes.enters n h)) ne k = absurd (ne refl)
  wait_any u c base l fs before f cs ms pt y fits same (L.WaitsAt.takes (L.Takes.recovers n h)) ne k =
      absurd (ne refl)

  as_any : (q : Process) (pt : Point) (l : List ℕ) → entry_at pt ≡ NoEntry → KillStands b.program v q pt l
      → KillAny b.program v q pt l
  as_any q pt l none s = record {
    killable = s.killable;
    left = subst (λ (i : Pending). IsLeft b.program v q (last_of i) (left_of (last_of i) l)) (sym none) s.left;
    notifies = s.notifies;
  }

  notify_none : (c : Member) (base : ℕ) (l : _) (fs : List _) (pt : Point) (y : Thread)
      → N.NotifiesAt b.program c base l fs pt y → entry_at pt ≡ NoEntry
  notify_none c base l fs pt y N.NotifiesAt.adds = refl
  notify_none c base l fs pt y N.NotifiesAt.wakes = refl
  notify_none c base l fs pt y N.NotifiesAt.goes = refl

  broadcast_none : (c : Member) (base : ℕ) (l : _) (fs : List _) (pt : Point) (y : Thread)
      → N.BroadcastsAt b.program c base l fs pt y → entry_at pt ≡ NoEntry
  broadcast_none c base l fs pt y N.BroadcastsAt.adds = refl
  broadcast_none c base l fs pt y N.BroadcastsAt.marks = refl
  broadcast_none c base l fs pt y N.BroadcastsAt.reads = refl
  broadcast_none c base l fs pt y (N.BroadcastsAt.moves n) = refl
  broadcast_none c base l fs pt y N.BroadcastsAt.goes = refl

  inside_any : (k : Template) (u : Variables) (pt : Point) (y : Thread) → TemplateFits b u t k → SameBefore k pt u v
      → pt ≢ Runs → StandsIn b.program t k pt y → Listed pt (list_at k pt)
      → KillAny b.program v (process_at b.program k pt) pt (list_at k pt)
  inside_any (I.Enters m base l fs f cs) u pt y fits same ne s k = enter_any m base l fs f cs pt y fits s ne k
  inside_any (I.Exits m base shown l fs before z cs) u pt y fits same ne s k =
      exit_any u m base shown l fs before z cs pt y fits same s ne
  inside_any (I.Waits c base l fs before f cs ms) u pt y fits same ne s k =
      wait_any u c base l fs before f cs ms pt y fits same s ne k
  inside_any (I.Notifies c base l fs before after ms) u pt y fits same ne s k =
      as_any before pt _ (notify_none c base l fs pt y s)
      (notify_kill b v t u c base l fs before after ms pt y fits same s ne)
  inside_any (I.Broadcasts c base l fs before after ms) u pt y fits same ne s k =
      as_any before pt _ (broadcast_none c base l fs pt y s)
      (broadcast_kill b v t u c base l fs before after ms pt y fits same s ne)

  -- a thread that isn't dying yet, wherever it stands
  pub kill_any : (o : Option Thread) (q : Option Process) (pt : Point) (l : List ℕ) → StandsAt b v t o q pt l
      → IsLive pt → Listed pt l → AtAny b.program v q pt l
  kill_any o q pt l S.unmade live listed = absurd live
  kill_any o q pt l (S.works {q = r} left few h work) live listed = record {
    killable = completes_killable b t v h.last r h.completes;
    left = refl;
    notifies = resumes_none (offer b.program v r);
  }
  kill_any o q pt l (S.returns r fits h mark) live listed = record { killable = tt; left = refl; notifies = tt }
  kill_any o q pt l (S.inside {y = y} left k u few walk fits same ne stands) live listed =
      inside_any k u pt y fits same ne stands listed
  kill_any o q pt l (S.faults fault) live listed = absurd live
  kill_any o q pt l (S.killed of) live listed = absurd live
  kill_any o q pt l (S.refused {q = r} left few h claims steady) live listed = record {
    killable = offers b.program v r _ claims tt;
    left = refl;
    notifies = resumes_none (offer b.program v r);
  }
  kill_any o q pt l (S.reads left few c j h) live listed = record { killable = tt; left = refl; notifies = tt }
  kill_any o q pt l (S.sleeps left few c j h) live listed = record { killable = tt; left = refl; notifies = tt }
  kill_any o q pt l (S.learns {end = end} {into = i} {part = part} {f = f} {cs = cs} left few c j h) live listed =
      as_any _ pt l refl (join_stands b v t i part f cs end pt c.last refl)
  kill_any o q pt l (S.takes {z = z} {into = i} {f = f} {cs = cs} left few c j h) live listed =
      as_any _ pt l refl (with_stands b v t i z f cs pt c.last refl)
  kill_any o q pt l (S.walks phase is short ends of) live listed = absurd live
  kill_any o q pt l S.clears live listed = absurd live
  kill_any o q pt l S.wakes live listed = absurd live
  kill_any o q pt l S.rests live listed = absurd live

-- those whom a killed process has resumed
abbrev pub resumed_in : World → Table → ℕ → Option Member → List ℕ
resumed_in w T t None = []
resumed_in w T t (Some c) = resumed_by w T c (put w.asleep t None)

death_is : (w : World) (T : Table) (t : ℕ) (pt : Point)
    → death w T t pt ≡ Kills t (notified_at pt) (resumed_in w T t (notified_at pt))
death_is w T t (NotifyWakes c) = refl
death_is w T t (BroadcastMarks c) = refl
death_is w T t (BroadcastReads c) = refl
death_is w T t (BroadcastMoves c s) = refl
death_is w T t pt = refl

live_made : (pt : Point) → IsLive pt → point_made pt ≡ true
live_made Unmade live = absurd live
live_made pt live = refl

module _ (p : Program) (wf : WellFormed p) (steps : ℕ) (s : State) (c : SourceState)
    (k : Corresponds p wf steps s c) (t : ℕ) (q : Process) (proc : c.process t ≡ Some q)
    (live : IsLive (k.world.at t).point) where
  abbrev pt : Point
  pt = (k.world.at t).point

  good : Good k.world c.table
  good = reached_good p.version k.world c.table k.reached

  pub kill_made : is_made (k.world.at t) ≡ true
  unfolding is_made
  kill_made = live_made pt live

  can : Can k.world t (Kill pt)
  can = record { number = good.threads.number t kill_made; awake = tt; stands = refl; finds = live }

  -- what a kill takes of the process of a live thread
  pub kill_here : KillAny p c.variable q pt (k.world.at t).list
  unfolding Knows
  kill_here = subst (λ (i : Option Process). AtAny p c.variable i pt (k.world.at t).list) proc
      (kill_any (build_of p wf k.world.made) (is_build p wf k.world.made) c.variable t (s.thread t) (c.process t) pt
      (k.world.at t).list (k.threads t) live (good.locks.knows t).1)

  -- those whom it has resumed wait
  pub kill_resumes : AreResumed c.table (notified_at pt) (resumed_in k.world c.table t (notified_at pt))
  kill_resumes = (subst (λ (e : Event). Permits e c.table (table_after k.world c.table t (Kill pt)))
      (death_is k.world c.table t pt) (permitted k.world c.table t (Kill pt) good can)).0

  pub kill_reached : Reached p.version (after k.world t (Kill pt)) (table_after k.world c.table t (Kill pt))
  kill_reached = reached_on p.version k.world c.table t (Kill pt) k.reached can
