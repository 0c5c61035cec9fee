-- Who was killed: by a kill one process more, and by no other action any.
use Rattle.std.proofs.Common.{◌≡◌, ◌+◌, ◌-◌, ◌≤◌, ◌==◌, ℕ, length, zero, suc, ℤ, pos, negsuc, Bool, true, false, cond, List, []}
use Rattle.std.proofs.Common.{◌∷◌, Option, Some, None, refl, sym, ap, ◌∙◌, subst, arith, inl, inr}
use Rattle.std.specs.Prelude.{⊤, if◌then◌else◌}
use Rattle.std.proofs.lemmas.Bool.{cases_eq, eq-eqb, ne_eqb}
use Rattle.words.specs.Updates.{put}
use Rattle.program.specs.declared.kinds.Role.{Role}
use Rattle.program.specs.declared.kinds.Role.TheVariants.{Entry, Internal, Recover, External, Main}
use Rattle.program.specs.Scope.{array_size, recover_of}
use Rattle.program.specs.Trees.{Expression, Target, ToLocal, ToMember, ToElement, Statement, Assign, If, While, Call}
use Rattle.program.specs.Trees.{Fork, Join, Return, Wait, Notify, Broadcast, Print, Abort, Block, Done, Then, Part}
use Rattle.program.specs.Trees.{NoPart, SomePart, Program}
use Rattle.meaning.specs.Values.{Variables, Evaluated, Value, Fails, EvaluatedAll, Values, FailsAll, evaluate}
use Rattle.meaning.specs.Values.{evaluate_all, index_in}
use Rattle.meaning.specs.Labels.{Action, Cause, Faulted, Killed, End, Ended, Aborted, Label, Alone, Stores, Forks}
use Rattle.meaning.specs.Labels.{FindsFull, Claims, FindsClaimed, Joins, Enters, Resumes, Exits, Waits, Notifies}
use Rattle.meaning.specs.Labels.{Broadcasts, Abandons, Ends}
use Rattle.meaning.specs.Processes.{Frame, Caller, Process, Entering, Before, Suspended, Joining, Returning, Failing}
use Rattle.meaning.specs.Processes.{Dying, Leaving, Over, goes_on, goes_on_by, begins_by, recovers_by}
use Rattle.meaning.specs.Processes.{hands_over, opening_frame}
use Rattle.meaning.specs.Offers.{Effect, Nothing, Puts, Writes, Makes, Offer, Rests, Does, Takes, MakesOne, ClaimsOne}
use Rattle.meaning.specs.Offers.{JoinsOne, NotifiesSome, NotifiesAll, with_value, with_values, with_index, answers}
use Rattle.meaning.specs.Offers.{claims, assigns, return_value, statement_offer, rest_offer, offer, TakesUp}
use Rattle.meaning.specs.Offers.{after_join}
use Rattle.meaning.specs.Runs.{IsAction, IsStep}
use Rattle.meaning.specs.States.{SourceState, main_process, opening, processes_after}
use Rattle.meaning.specs.Table.{Allows, Table}
use Rattle.meaning.proofs.Ends.{IsNumbered}
use Rattle.source_search.specs.Found.{is_killed, is_killed_at, killed_in, killed_to, one_kill}

-- who takes up the offer wasn't killed by that, nor who is made by it
abbrev Spares : Offer → Type 0
Spares Rests = ⊤
Spares (Does label effect after) = (is_killed after ≡ false) × ((n : ℕ) (q : Process) → effect ≡ Makes n q → is_killed q ≡ false)
Spares (Takes label free abandoned) = (is_killed free ≡ false) × (is_killed abandoned ≡ false)
Spares (MakesOne child after full) =
    (is_killed child ≡ false) × ((n : ℕ) → is_killed (after n) ≡ false) × (is_killed full ≡ false)
Spares (ClaimsOne child after refused) = (is_killed after ≡ false) × (is_killed refused ≡ false)
Spares (JoinsOne child after) = (end : End) → is_killed (after end) ≡ false
Spares (NotifiesSome c after) = is_killed after ≡ false
Spares (NotifiesAll c after) = is_killed after ≡ false

main_spared : (b : Block) (entered : Option ℕ) (f : Frame) (callers : List Caller)
    → is_killed (goes_on_by Main b entered f callers) ≡ false
main_spared Done entered f callers = refl
main_spared (Then (Return value) rest) entered f callers = refl
main_spared (Then (Assign target e) rest) entered f callers = refl
main_spared (Then (If e b part) rest) entered f callers = refl
main_spared (Then (While e b) rest) entered f callers = refl
main_spared (Then (Call q es into) rest) entered f callers = refl
main_spared (Then (Fork q es into) rest) entered f callers = refl
main_spared (Then (Join e into part) rest) entered f callers = refl
main_spared (Then (Wait c) rest) entered f callers = refl
main_spared (Then (Notify c) rest) entered f callers = refl
main_spared (Then (Broadcast c) rest) entered f callers = refl
main_spared (Then (Print e) rest) entered f callers = refl
main_spared (Then Abort rest) entered f callers = refl

by_role : (r : Role) (b : Block) (entered : Option ℕ) (f : Frame) (callers : List Caller)
    → is_killed (goes_on_by r b entered f callers) ≡ false
by_role (Entry m) b entered f callers = refl
by_role (Internal m) b entered f callers = refl
by_role (Recover m) Done entered f [] = refl
by_role (Recover m) Done entered f (c ∷ callers) = refl
by_role (Recover m) (Then s rest) entered f callers = refl
by_role External b entered f callers = refl
by_role Main b entered f callers = main_spared b entered f callers

goes_spared : (entered : Option ℕ) (f : Frame) (callers : List Caller) → is_killed (goes_on entered f callers) ≡ false
goes_spared entered f callers = by_role f.role f.rest entered f callers

begins_spared : (r : Role) (f : Frame) (callers : List Caller) → is_killed (begins_by r f callers) ≡ false
begins_spared (Entry m) f callers = refl
begins_spared (Internal m) f callers = goes_spared None f callers
begins_spared (Recover m) f callers = goes_spared None f callers
begins_spared External f callers = goes_spared None f callers
begins_spared Main f callers = goes_spared None f callers

recovers_spared : (p : Program) (o : Option ℕ) (m : ℕ) (f : Frame) (callers : List Caller)
    → is_killed (recovers_by p o m f callers) ≡ false
recovers_spared p None m f callers = refl
recovers_spared p (Some r) m f callers = goes_spared (Some m) _ _

handed_spared : (z : ℤ) (callers : List Caller) → is_killed (hands_over z callers) ≡ false
handed_spared z [] = refl
handed_spared z (c ∷ callers) = goes_spared None _ callers

-- no process is made
none_made : (n : ℕ) (q : Process) → Nothing ≡ Makes n q → is_killed q ≡ false
none_made n q is = absurd cc

writes_none : (z : ℤ) (n : ℕ) (q : Process) → Writes z ≡ Makes n q → is_killed q ≡ false
writes_none z n q is = absurd cc

puts_none : (m k i : ℕ) (z : ℤ) (n : ℕ) (q : Process) → Puts m k i z ≡ Makes n q → is_killed q ≡ false
puts_none m k i z n q is = absurd cc

spares_value : (e : Evaluated) (f : Frame) (callers : List Caller) (go : ℤ → Offer) → ((z : ℤ) → Spares (go z))
    → Spares (with_value e f callers go)
spares_value (Value z) f callers go each = each z
spares_value (Fails fault) f callers go each = (refl, none_made)

spares_values : (e : EvaluatedAll) (f : Frame) (callers : List Caller) (go : List ℤ → Offer)
    → ((zs : List ℤ) → Spares (go zs)) → Spares (with_values e f callers go)
spares_values (Values zs) f callers go each = each zs
spares_values (FailsAll fault) f callers go each = (refl, none_made)

spares_index : (i : Option ℕ) (f : Frame) (callers : List Caller) (go : ℕ → Offer) → ((k : ℕ) → Spares (go k))
    → Spares (with_index i f callers go)
spares_index None f callers go each = (refl, none_made)
spares_index (Some k) f callers go each = each k

spares_answers : (r : Role) (z : ℤ) (callers : List Caller) → Spares (answers r z callers)
spares_answers (Entry m) z callers = (refl, none_made)
spares_answers (Internal m) z callers = (handed_spared z callers, none_made)
spares_answers (Recover m) z callers = tt
spares_answers External z callers = (handed_spared z callers, none_made)
spares_answers Main z callers = tt

spares_claims : (z : ℤ) (into : Option ℕ) (part : Part) (f : Frame) (callers : List Caller)
    → Spares (claims z into part f callers)
spares_claims (pos zero) into part f callers = (refl, none_made)
spares_claims (pos (suc n)) into part f callers = (refl, refl)
spares_claims (negsuc n) into part f callers = (refl, none_made)

spares_assigns : (p : Program) (v : Variables) (f : Frame) (callers : List Caller) (target : Target)
    (e : Expression) → Spares (assigns p v f callers target e)
spares_assigns p v f callers (ToLocal slot) e =
    spares_value (evaluate p v f.locals e) f callers _ (λ z. (goes_spared None _ callers, none_made))
spares_assigns p v f callers (ToMember m) e =
    spares_value (evaluate p v f.locals e) f callers _
    (λ z. (goes_spared None f callers, puts_none m.monitor m.number 0 z))
spares_assigns p v f callers (ToElement a i) e =
    spares_value (evaluate p v f.locals i) f callers _ (λ n.
    spares_index (index_in (array_size p a) n) f callers _ (λ k.
    spares_value (evaluate p v f.locals e) f callers _
    (λ z. (goes_spared None f callers, puts_none a.monitor a.number k z))))

spares_statement : (p : Program) (v : Variables) (f : Frame) (callers : List Caller) (s : Statement)
    → Spares (statement_offer p v f callers s)
spares_statement p v f callers (Assign target e) = spares_assigns p v f callers target e
spares_statement p v f callers (If e b part) =
    spares_value (evaluate p v f.locals e) f callers _ (λ z. (goes_spared None _ callers, none_made))
spares_statement p v f callers (While e b) =
    spares_value (evaluate p v f.locals e) f callers _ (λ z. (goes_spared None _ callers, none_made))
spares_statement p v f callers (Call q es into) =
    spares_values (evaluate_all p v f.locals es) f callers _ (λ zs. (
      begins_spared (opening_frame p q zs).role (opening_frame p q zs) (record { into = into; frame = f } ∷ callers),
      none_made,
    ))
spares_statement p v f callers (Fork q es into) =
    spares_values (evaluate_all p v f.locals es) f callers _
    (λ zs. (
      begins_spared (opening_frame p q zs).role (opening_frame p q zs) [],
      (λ n. goes_spared None _ callers),
      refl,
    ))
spares_statement p v f callers (Join e into part) =
    spares_value (evaluate p v f.locals e) f callers _ (λ z. spares_claims z into part f callers)
spares_statement p v f callers (Return value) =
    spares_value (return_value p v f value) f callers _ (λ z. spares_answers f.role z callers)
spares_statement p v f callers (Wait c) = (refl, none_made)
spares_statement p v f callers (Notify c) = goes_spared None f callers
spares_statement p v f callers (Broadcast c) = goes_spared None f callers
spares_statement p v f callers (Print e) =
    spares_value (evaluate p v f.locals e) f callers _ (λ z. (goes_spared None f callers, writes_none z))
spares_statement p v f callers Abort = (refl, none_made)

spares_rest : (p : Program) (v : Variables) (f : Frame) (callers : List Caller) (b : Block)
    → Spares (rest_offer p v f callers b)
spares_rest p v f callers Done = spares_answers f.role (pos 0) callers
spares_rest p v f callers (Then s rest) = spares_statement p v (record f { rest = rest }) callers s

joined_spared : (into : Option ℕ) (part : Part) (f : Frame) (callers : List Caller) (end : End)
    → is_killed (after_join into part f callers end) ≡ false
joined_spared into part f callers (Ended z) = goes_spared None _ callers
joined_spared into NoPart f callers (Aborted cause) = refl
joined_spared into (SomePart b) f callers (Aborted cause) = goes_spared None _ callers

dying_by : (cause : Cause) (ms : List ℕ) → is_killed (Dying cause ms) ≡ false → is_killed (Over (Aborted cause)) ≡ false
dying_by (Faulted fault) ms is = refl
dying_by Killed ms is = absurd cc

still_dying : (cause : Cause) (ms ns : List ℕ) → is_killed (Dying cause ms) ≡ false → is_killed (Dying cause ns) ≡ false
still_dying (Faulted fault) ms ns is = refl
still_dying Killed ms ns is = absurd cc

-- who wasn't killed isn't by an action of its own
spares : (p : Program) (v : Variables) (q : Process) → is_killed q ≡ false → Spares (offer p v q)
spares p v (Entering m f callers) is = (goes_spared (Some m) f callers, recovers_spared p (recover_of p m) m f callers)
spares p v (Before entered f callers) is = spares_rest p v f callers f.rest
spares p v (Suspended c f callers) is =
    (goes_spared (Some c.monitor) f callers, recovers_spared p (recover_of p c.monitor) c.monitor f callers)
spares p v (Joining child into part f callers) is = λ end. joined_spared into part f callers end
spares p v (Returning z callers) is = (handed_spared z callers, none_made)
spares p v (Failing fault entered f callers) is = (refl, none_made)
spares p v (Dying cause []) is = (dying_by cause [] is, none_made)
spares p v (Dying cause (m ∷ ms)) is = (still_dying cause (m ∷ ms) ms is, none_made)
spares p v (Leaving z) is = (refl, none_made)
spares p v (Over end) is = tt

taken_spared : (b : Bool) (free abandoned : Process) → is_killed free ≡ false → is_killed abandoned ≡ false
    → is_killed (if b then abandoned else free) ≡ false
taken_spared true free abandoned f a = a
taken_spared false free abandoned f a = f

same_spared : (q r : Process) → q ≡ r → is_killed r ≡ false → is_killed q ≡ false
same_spared q r is spared = ap is_killed is ∙ spared

-- whoever takes it up
spared_by : (o : Offer) (l : Label) (e : Effect) (q : Process) → Spares o → TakesUp o l e q → is_killed q ≡ false
spared_by Rests l e q is t = absurd t
spared_by (Does k f r) l e q is t = same_spared q r t.2 is.0
spared_by (Takes k f r) l e q is t = same_spared q _ t.3 (taken_spared t.0 f r is.0 is.1)
spared_by (MakesOne c k r) l e q is (inl t) = same_spared q (k t.0) t.3 (is.1 t.0)
spared_by (MakesOne c k r) l e q is (inr t) = same_spared q r t.2 is.2
spared_by (ClaimsOne c k r) l e q is (inl t) = same_spared q k t.2 is.0
spared_by (ClaimsOne c k r) l e q is (inr t) = same_spared q r t.2 is.1
spared_by (JoinsOne c k) l e q is t = same_spared q (k t.0) t.3 (is t.0)
spared_by (NotifiesSome c k) l e q is t = same_spared q k t.3 is
spared_by (NotifiesAll c k) l e q is t = same_spared q k t.3 is

nothing_made : (e : Effect) (n : ℕ) (q : Process) → e ≡ Nothing → e ≡ Makes n q → is_killed q ≡ false
nothing_made e n q none makes = none_made n q (sym none ∙ makes)

made_same : (m n : ℕ) (c q : Process) → Makes m c ≡ Makes n q → c ≡ q
made_same m n c q is = cc

-- nor is who is made
made_spared : (o : Offer) (l : Label) (e : Effect) (q : Process) → Spares o → TakesUp o l e q → (n : ℕ) (c : Process)
    → e ≡ Makes n c → is_killed c ≡ false
made_spared Rests l e q is t n c makes = absurd t
made_spared (Does k f r) l e q is t n c makes = is.1 n c (sym t.1 ∙ makes)
made_spared (Takes k f r) l e q is t n c makes = nothing_made e n c t.2 makes
made_spared (MakesOne d k r) l e q is (inl t) n c makes =
    same_spared c d (sym (made_same t.0 n d c (sym t.2 ∙ makes))) is.0
made_spared (MakesOne d k r) l e q is (inr t) n c makes = nothing_made e n c t.1 makes
made_spared (ClaimsOne d k r) l e q is (inl t) n c makes = nothing_made e n c t.1 makes
made_spared (ClaimsOne d k r) l e q is (inr t) n c makes = nothing_made e n c t.1 makes
made_spared (JoinsOne d k) l e q is t n c makes = nothing_made e n c t.2 makes
made_spared (NotifiesSome d k) l e q is t n c makes = nothing_made e n c t.2 makes
made_spared (NotifiesAll d k) l e q is t n c makes = nothing_made e n c t.2 makes

-- each process that was killed was so before
abbrev WereKilled : (ℕ → Option Process) → (ℕ → Option Process) → Type 0
WereKilled f g = (q : ℕ) → is_killed_at (g q) ≡ true → is_killed_at (f q) ≡ true

abbrev one : Bool → ℕ
one b = if b then 1 else 0

one_less : (b c : Bool) → (c ≡ true → b ≡ true) → one c ≤ one b
one_less b true so = let e : one b ≡ 1 = ap one (so refl) in omega (arith, e)
one_less true false so = omega arith
one_less false false so = omega arith

-- then there are no more
fewer : (f g : ℕ → Option Process) (n : ℕ) → WereKilled f g → killed_to g n ≤ killed_to f n
fewer f g zero were = omega arith
fewer f g (suc n) were =
    let rest = fewer f g n were in
    let here = one_less (is_killed_at (f (suc n))) (is_killed_at (g (suc n))) (were (suc n)) in
    omega (arith, rest, here)

-- the two differ at one place
abbrev AreApart : (ℕ → Option Process) → (ℕ → Option Process) → ℕ → Type 0
AreApart f g p = (q : ℕ) → (q ≡ p → ⊥) → g q ≡ f q

one_small : (b : Bool) → one b ≤ 1
one_small true = omega arith
one_small false = omega arith

at_most_one : (f g : ℕ → Option Process) (p n : ℕ) → AreApart f g p → killed_to g n ≤ killed_to f n + 1
at_most_one f g p zero apart = omega arith
at_most_one f g p (suc n) apart = elim (cases_eq (suc n) p) [
  | inl here ↦
      let rest = before n (omega (arith, here)) in
      let small = one_small (is_killed_at (g (suc n))) in
      omega (arith, rest, small)
  | inr other ↦
      let rest = at_most_one f g p n apart in
      let same : one (is_killed_at (g (suc n))) ≡ one (is_killed_at (f (suc n))) =
      ap (λ (o : Option Process). one (is_killed_at o)) (apart (suc n) other) in
      omega (arith, rest, same)
]
  where
    before : (m : ℕ) → m + 1 ≤ p → killed_to g m ≡ killed_to f m
    before zero less = refl
    before (suc m) less =
        let rest = before m (omega (arith, less)) in
        let same : one (is_killed_at (g (suc m))) ≡ one (is_killed_at (f (suc m))) =
        ap (λ (o : Option Process). one (is_killed_at o)) (apart (suc m) (λ e. omega (arith, e, less))) in
        omega (arith, rest, same)

put_here : (f : ℕ → Option Process) (p : ℕ) (o : Option Process) (q : ℕ) → q ≡ p → put f p o q ≡ o
put_here f p o q is = rw (eq-eqb q p is) refl

put_there : (f : ℕ → Option Process) (p : ℕ) (o : Option Process) (q : ℕ) → (q ≡ p → ⊥) → put f p o q ≡ f q
put_there f p o q other = rw (ne_eqb q p other) refl

differ : (b : Bool) → b ≡ true → b ≡ false → ⊥
differ true t f = cc
differ false t f = cc

by_bool : (b : Bool) → (b ≡ false → ⊥) → b ≡ true
by_bool true not_false = refl
by_bool false not_false = absurd (not_false refl)

-- who was killed makes nobody
killed_quiet : (p : Program) (v : Variables) (q : Process) (l : Label) (e : Effect) (r : Process) → is_killed q ≡ true
    → TakesUp (offer p v q) l e r → e ≡ Nothing
killed_quiet p v (Entering m f callers) l e r is t = absurd cc
killed_quiet p v (Before entered f callers) l e r is t = absurd cc
killed_quiet p v (Suspended c f callers) l e r is t = absurd cc
killed_quiet p v (Joining child into part f callers) l e r is t = absurd cc
killed_quiet p v (Returning z callers) l e r is t = absurd cc
killed_quiet p v (Failing fault entered f callers) l e r is t = absurd cc
killed_quiet p v (Dying cause []) l e r is t = t.1
killed_quiet p v (Dying cause (m ∷ ms)) l e r is t = t.1
killed_quiet p v (Leaving z) l e r is t = absurd cc
killed_quiet p v (Over end) l e r is t = absurd t

-- an action of a process's own
module _ (p : Program) (s s' : SourceState) (a : Action) (x : IsAction p s a s') where
  made_killed : (q : ℕ) → is_killed_at (processes_after x.effect s.process q) ≡ true
      → is_killed_at (s.process q) ≡ true
  made_killed q killed = by_before (is_killed x.before) refl
    where
      by_effect : (e : Effect) → x.effect ≡ e → is_killed x.before ≡ false
          → is_killed_at (processes_after e s.process q) ≡ true → is_killed_at (s.process q) ≡ true
      by_effect Nothing is alive now = now
      by_effect (Puts m n i z) is alive now = now
      by_effect (Writes z) is alive now = now
      by_effect (Makes n c) is alive now = elim (cases_eq q n) [
        | inl here ↦ absurd (differ (is_killed c)
            (sym (ap is_killed_at (put_here s.process n (Some c) q here)) ∙ now)
            (made_spared (offer p s.variable x.before) x.label x.effect x.after
            (spares p s.variable x.before alive) x.acts n c is))
        | inr other ↦ sym (ap is_killed_at (put_there s.process n (Some c) q other)) ∙ now
      ]

      by_before : (b : Bool) → is_killed x.before ≡ b → is_killed_at (s.process q) ≡ true
      by_before true is = subst (λ (e : Effect). is_killed_at (processes_after e s.process q) ≡ true)
          (killed_quiet p s.variable x.before x.label x.effect x.after is x.acts) killed
      by_before false is = by_effect x.effect refl is killed

  own_killed : WereKilled s.process s'.process
  own_killed q killed = elim (cases_eq q a.process) [
    | inl here ↦
        let now : is_killed x.after ≡ true =
        sym (ap is_killed_at (put_here (processes_after x.effect s.process) a.process (Some x.after) q here)) ∙ after in
        ap is_killed_at (ap s.process here ∙ x.stands)
        ∙ by_bool (is_killed x.before) (λ alive. differ (is_killed x.after) now
        (spared_by (offer p s.variable x.before) x.label x.effect x.after (spares p s.variable x.before alive) x.acts))
    | inr other ↦ made_killed q
        (sym (ap is_killed_at (put_there (processes_after x.effect s.process) a.process (Some x.after) q other)) ∙ after)
  ]
    where
      after : is_killed_at (put (processes_after x.effect s.process) a.process (Some x.after) q) ≡ true
      after = sym (ap (λ (f : ℕ → Option Process). is_killed_at (f q)) x.processes) ∙ killed

-- all were counted
pub counted_all : (s : SourceState) (n k : ℕ) → k ≡ killed_to s.process n → n ≡ s.table.made → k ≡ killed_in s
counted_all s n k is e = is ∙ ap (killed_to s.process) e

-- no action takes back who was made
made_stays : (p : ℕ) (l : Label) (t t' : Table) → Allows p l t t' → t.made ≤ t'.made
made_stays p (Alone kind) t t' a = let e : t'.made ≡ t.made = ap (λ (x : Table). x.made) a in omega (arith, e)
made_stays p (Stores m) t t' a = let e : t'.made ≡ t.made = ap (λ (x : Table). x.made) a in omega (arith, e)
made_stays p (Forks child) t t' a = let e : t'.made ≡ t.made + 1 = ap (λ (x : Table). x.made) a.2 in omega (arith, e)
made_stays p FindsFull t t' a = let e : t'.made ≡ t.made = ap (λ (x : Table). x.made) a.1 in omega (arith, e)
made_stays p (Claims child) t t' a = let e : t'.made ≡ t.made = ap (λ (x : Table). x.made) a.1 in omega (arith, e)
made_stays p (FindsClaimed child) t t' a = let e : t'.made ≡ t.made =
    ap (λ (x : Table). x.made) a.1 in omega (arith, e)
made_stays p (Joins child end) t t' a = let e : t'.made ≡ t.made = ap (λ (x : Table). x.made) a.1 in omega (arith, e)
made_stays p (Enters m w) t t' a = let e : t'.made ≡ t.made = ap (λ (x : Table). x.made) a.1 in omega (arith, e)
made_stays p (Resumes m w) t t' a = let e : t'.made ≡ t.made = ap (λ (x : Table). x.made) a.2 in omega (arith, e)
made_stays p (Exits m) t t' a = let e : t'.made ≡ t.made = ap (λ (x : Table). x.made) a in omega (arith, e)
made_stays p (Waits c) t t' a = let e : t'.made ≡ t.made = ap (λ (x : Table). x.made) a in omega (arith, e)
made_stays p (Notifies c resumed) t t' a = let e : t'.made ≡ t.made =
    ap (λ (x : Table). x.made) a.1 in omega (arith, e)
made_stays p (Broadcasts c resumed) t t' a = let e : t'.made ≡ t.made =
    ap (λ (x : Table). x.made) a.1 in omega (arith, e)
made_stays p (Abandons m) t t' a = let e : t'.made ≡ t.made = ap (λ (x : Table). x.made) a in omega (arith, e)
made_stays p (Ends end) t t' a = let e : t'.made ≡ t.made = ap (λ (x : Table). x.made) a in omega (arith, e)

-- of the processes past those that were made none was killed
past_made : (s : SourceState) (n : ℕ) → IsNumbered s → killed_to s.process (s.table.made + n) ≡ killed_in s
past_made s zero is = let none : s.table.made + 0 ≡ s.table.made = omega arith in ap (killed_to s.process) none
past_made s (suc n) is =
    let rest = past_made s n is in
    let next : s.table.made + suc n ≡ suc (s.table.made + n) = omega arith in
    let here : one (is_killed_at (s.process (suc (s.table.made + n)))) ≡ 0 =
    ap (λ (o : Option Process). one (is_killed_at o)) (is (suc (s.table.made + n)) (omega arith)) in
    ap (killed_to s.process) next ∙ omega (arith, rest, here)

made_or_more : (s : SourceState) (m : ℕ) → s.table.made ≤ m → IsNumbered s → killed_to s.process m ≡ killed_in s
made_or_more s m more is =
    let sum : m ≡ s.table.made + (m - s.table.made) = omega (arith, more) in
    ap (killed_to s.process) sum ∙ past_made s (m - s.table.made) is

-- an action kills one process more at most, and only a kill does
pub killed_more : (p : Program) (s : SourceState) (a : Action) (s' : SourceState) → IsNumbered s → IsStep p s a s'
    → killed_in s' ≤ killed_in s + one_kill a.kind
killed_more p s a s' is (inl x) =
    let less = fewer s.process s'.process s'.table.made (own_killed p s s' a x) in
    let same = made_or_more s s'.table.made (made_stays a.process x.label s.table s'.table x.allows) is in
    omega (arith, less, same)
killed_more p s a s' is (inr (inl x)) =
    let made : s'.table.made ≡ s.table.made = ap (λ (t : Table). t.made) x.2.allows.1 in
    let same : killed_in s' ≡ killed_in s = λ i. killed_to (x.2.processes i) (made i) in
    omega (arith, same)
killed_more p s a s' is (inr (inr x)) =
    let made : s'.table.made ≡ s.table.made = ap (λ (t : Table). t.made) x.3.allows.1 in
    let same : killed_in s' ≡ killed_to s'.process s.table.made = ap (killed_to s'.process) made in
    let less = at_most_one s.process s'.process a.process s.table.made
    (λ q other. ap (λ (f : ℕ → Option Process). f q) x.3.processes
    ∙ put_there s.process a.process (Some (Dying Killed x.3.monitors)) q other) in
    let one_more : one_kill a.kind ≡ 1 = ap one_kill x.2 in
    omega (arith, less, same, one_more)

none_killed : (f : ℕ → Option Process) (n : ℕ) → ((q : ℕ) → is_killed_at (f q) ≡ false) → killed_to f n ≡ 0
none_killed f zero each = refl
none_killed f (suc n) each =
    let rest = none_killed f n each in
    let here : one (is_killed_at (f (suc n))) ≡ 0 = ap one (each (suc n)) in
    omega (arith, rest, here)

-- nobody was killed where each run begins
pub killed_opening : (p : Program) → killed_in (opening p) ≡ 0
killed_opening p = none_killed (opening p).process 1 (λ q. at (q == 1))
  where
    at : (b : Bool) → is_killed_at (cond b (Some (main_process p)) None) ≡ false
    at true = begins_spared (opening_frame p (length p.procedures - 1) []).role _ []
    at false = refl
