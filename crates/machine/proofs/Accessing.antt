-- An access that a thread makes in its place is its step.
use Rattle.std.proofs.Common.{◌≡◌, ◌≢◌, ◌≤◌, ◌-◌, ◌+◌, ◌%◌, ◌==◌, ◌∙◌, ℕ, Bool, true, false, List, Option, Some, None, Result, Ok, Err}
use Rattle.std.proofs.Common.{zero, suc, [], ◌∷◌, slice_get, length, length-set, slice_set, refl, ap, sym, subst, arith, not, ◌||◌}
use Rattle.std.specs.Prelude.{IfNone, IfSome, MatchOption, if◌then◌else◌, nat_lt, slice_index}
use Rattle.std.specs.Int.Bits.{bit_or}
use Rattle.isa.specs.Programs.{Program}
use Rattle.robustexit.specs.declared.phase.ExitPhase.TheVariants.{Entry, Pending, ClearId, LastWake, Ended}
use Rattle.locals.specs.declared.access.Access.{Access}
use Rattle.locals.specs.Accesses.{Found, Accessing, found, goes_on, accessing}
use Rattle.locals.specs.Threads.{Thread, Runs, Dies, Exits}
use Rattle.locals.specs.Looks.{Request, AskLoad, AskStore, AskSwap, AskCompareSwap, AskOr, AskAdd, AskFork, AskPrint}
use Rattle.locals.specs.Looks.{AskWait, AskWake, AskRequeue, AskReturn, AskReturnValue, AskFault, Look, Goes, Asks}
use Rattle.locals.specs.Looks.{Leaves, Breaks, Rests, look}
use Rattle.robustexit.specs.declared.rule.ExitRule.{ExitRule}
use Rattle.machine.specs.declared.event.Event.{Event}
use Rattle.machine.specs.declared.event.EventName.TheVariants as name
use Rattle.machine.specs.declared.event.StepFault.{StepFault}
use Rattle.machine.specs.declared.event.StepFault.TheVariants.{Broken}
use Rattle.machine.specs.Accessing.{AccessedSo, DidAccess, HasNoAccess, MadeFrom, MakesAccess, access_event, access_name}
use Rattle.machine.specs.Accessing.{told_access}
use Rattle.machine.specs.ConcreteServing.{Served, gives, load, plain, serve, set_word}
use Rattle.machine.specs.ConcreteSteps.{Stepped, can_move, go_on_with, on_machine, step_awake, step_of, step_thread}
use Rattle.machine.specs.ConcreteSteps.{thread_can_move, thread_step}
use Rattle.machine.specs.Runs.{has_ended}
use Rattle.machine.specs.States.{Common, ConcreteState, thread_at, thread_of}
use Rattle.machine.specs.Views.{CommonView, View, IsWellFormed, ShowsAble, concrete, parts_of}
use Rattle.machine.proofs.Ables.{put_spares, shows_one}
use Rattle.machine.proofs.Placing.{thread_at-put}

same : {A : Type 0} (x y : A) → Some x ≡ Some y → x ≡ y
same x y h = cc

-- what an access found, as it is served
abbrev served : Common → Found → Result Served StepFault
served c f = gives f.answer (record c { words = f.words }) (plain (access_name f.told.kind) f.told.value)

-- an address that lies in the memory
opened : (b : Bool) (r f : Found) (s : Result Served StepFault) → (if b then Some r else None) ≡ Some f
    → ((if b then s else Err Broken) ≡ s) × (r ≡ f)
opened true r f s h = (refl, same r f h)
opened false r f s h = absurd cc

swapped : (b : Bool) (c : Common) (a v : ℕ)
    → (if b then set_word c a v else c) ≡ record c { words = if b then slice_set c.words a v else c.words }
swapped true c a v = refl
swapped false c a v = refl

pub found_serves : (made t : ℕ) (c : Common) (request : Request) (f : Found) → found request c.words ≡ Some f
    → serve made t request c ≡ served c f
found_serves made t c (AskLoad a) f h =
    let o = opened (nat_lt a (length c.words)) _ f (gives (load c a) c (plain name.Load (load c a))) h in
    o.0 ∙ ap (served c) o.1
found_serves made t c (AskStore a v) f h =
    let o = opened (nat_lt a (length c.words)) _ f (gives 0 (set_word c a v) (plain name.Store v)) h in
    o.0 ∙ ap (served c) o.1
found_serves made t c (AskSwap a v) f h =
    let o = opened (nat_lt a (length c.words)) _ f (gives (load c a) (set_word c a v) (plain name.Swap (load c a))) h in
    o.0 ∙ ap (served c) o.1
found_serves made t c (AskCompareSwap a expected new) f h =
    let o = opened (nat_lt a (length c.words)) _ f
    (gives (load c a) (if load c a == expected then set_word c a new else c) (plain name.CompareSwap (load c a))) h in
    o.0
    ∙ (ap (λ (d : Common). gives (load c a) d (plain name.CompareSwap (load c a)))
    (swapped (load c a == expected) c a new)
    ∙ ap (served c) o.1)
found_serves made t c (AskOr a v) f h =
    let o = opened (nat_lt a (length c.words)) _ f
    (gives (load c a) (set_word c a (bit_or (load c a) v)) (plain name.FetchOr (load c a))) h in
    o.0 ∙ ap (served c) o.1
found_serves made t c (AskAdd a v) f h =
    let o = opened (nat_lt a (length c.words)) _ f
    (gives (load c a) (set_word c a ((load c a + v) % 4294967296)) (plain name.FetchAdd (load c a))) h in
    o.0 ∙ ap (served c) o.1
found_serves made t c (AskFork entry arguments has_room) f h = absurd cc
found_serves made t c (AskPrint number) f h = absurd cc
found_serves made t c (AskWait a expected) f h = absurd cc
found_serves made t c (AskWake a n) f h = absurd cc
found_serves made t c (AskRequeue a b n m expected) f h = absurd cc
found_serves made t c AskReturn f h = absurd cc
found_serves made t c (AskReturnValue v) f h = absurd cc
found_serves made t c (AskFault cause) f h = absurd cc

-- the step of a thread that makes an access
abbrev stepped : Common → Accessing → Result Stepped StepFault
stepped c a =
    Ok (record { common = record c { words = a.words }; thread = a.thread; child = None; event = access_event a })

goes : (made t : ℕ) (c : Common) (request : Request) (go : ℕ → Thread) (a : Accessing) (o : Option Found)
    → found request c.words ≡ o → goes_on go o ≡ Some a → go_on_with go (serve made t request c) ≡ stepped c a
goes made t c request go a None is h = absurd cc
goes made t c request go a (Some f) is h =
    ap (go_on_with go) (found_serves made t c request f is) ∙ ap (stepped c) (same _ a h)

pub accessing_steps : (rule : ExitRule) (made t : ℕ) (c : Common) (l : Look) (a : Accessing) → accessing l c.words ≡ Some a
    → thread_step rule made t c l ≡ stepped c a
accessing_steps rule made t c (Asks request go) a h = goes made t c request go a (found request c.words) refl h
accessing_steps rule made t c (Goes x) a h = absurd cc
accessing_steps rule made t c (Leaves phase) a h = absurd cc
accessing_steps rule made t c Breaks a h = absurd cc
accessing_steps rule made t c Rests a h = absurd cc

-- who can move is awake
awake_by : (o : Option ℕ) (x : Option Thread) → thread_can_move o x ≡ true → o ≡ None
awake_by None x h = refl
awake_by (Some a) None h = absurd cc
awake_by (Some a) (Some x) h = absurd cc

pub awake : (k : ConcreteState) (t : ℕ) → can_move k t ≡ true → k.common.asleep t ≡ None
awake k t h = awake_by (k.common.asleep t) (thread_of k t) h

pub access_steps : (v v' : View) (t : ℕ) (e : Event) → can_move (concrete v) t ≡ true → MakesAccess v t e v'
    → step_of v.program (concrete v) t ≡ Ok (concrete v', e)
access_steps v v' t e can m =
    let k = concrete v in
    ap (step_thread v.program k t) m.stands
    ∙ (ap (step_awake v.program k t m.origin) (awake k t can)
    ∙ (ap (on_machine k t) (accessing_steps _ (length k.threads) t k.common (look v.program t m.origin) m.access m.makes)
    ∙ (λ i. Ok (concrete (sym m.after i), sym m.told i))))

-- a thread that hasn't ended can move as before
lives : (x : Thread) → x ≢ Exits Ended → has_ended (Some x) ≡ false
lives (Runs place operands locals callers) h = refl
lives (Dies cause) h = refl
lives (Exits (Entry e seen)) h = refl
lives (Exits Pending) h = refl
lives (Exits ClearId) h = refl
lives (Exits LastWake) h = refl
lives (Exits Ended) h = absurd (h refl)

still_moves : (o : Option ℕ) (x : Thread) → o ≡ None → x ≢ Exits Ended → thread_can_move o (Some x) ≡ true
still_moves o x awake h = ap (λ q. thread_can_move q (Some x)) awake ∙ ap (λ b. not (false || b)) (lives x h)

pub still_can : (k : ConcreteState) (words : List ℕ) (t : ℕ) (x y : Thread) → thread_of k t ≡ Some y
    → can_move k t ≡ true → x ≢ Exits Ended
    → can_move (record {
      common = record k.common { words = words };
      threads = slice_set k.threads (t - 1) x;
    }) t ≡ true
still_can k words t x y stands can alive =
    ap (thread_can_move (k.common.asleep t)) (thread_at-put k.threads t y x stands)
    ∙ still_moves (k.common.asleep t) x (awake k t can) alive

-- so the bits that show who can move are right still where a thread has gone on in its place, awake
pub shows_still : (k : ConcreteState) (words : List ℕ) (t : ℕ) (x y : Thread) (bits : List ℕ) → 1 ≤ t
    → thread_of k t ≡ Some y → can_move k t ≡ true → x ≢ Exits Ended → ShowsAble bits k
    → ShowsAble bits (record {
      common = record k.common { words = words };
      threads = slice_set k.threads (t - 1) x;
    })
shows_still k words t x y bits some stands can alive shows =
    let k' : ConcreteState = record {
      common = record k.common { words = words };
      threads = slice_set k.threads (t - 1) x;
    } in
    shows_one k k' t bits bits shows
    (λ u ne. put_spares (record k.common { words = words }) k.threads t x u some ne)
    (λ u le h. h)
    (shows t some ∙ can ∙ sym (still_can k words t x y stands can alive))

-- it leaves as many words as there were
sized : (b : Bool) (r f : Found) (n : ℕ) → (if b then Some r else None) ≡ Some f → length r.words ≡ n → length f.words ≡ n
sized true r f n h is = ap (λ (x : Found). length x.words) (sym (same r f h)) ∙ is
sized false r f n h is = absurd cc

set_if : (b : Bool) (ws : List ℕ) (a v : ℕ) → length (if b then slice_set ws a v else ws) ≡ length ws
set_if true ws a v = length-set ws a v
set_if false ws a v = refl

found_size : (request : Request) (ws : List ℕ) (f : Found) → found request ws ≡ Some f → length f.words ≡ length ws
found_size (AskLoad a) ws f h = sized (nat_lt a (length ws)) _ f (length ws) h refl
found_size (AskStore a v) ws f h = sized (nat_lt a (length ws)) _ f (length ws) h (length-set ws a v)
found_size (AskSwap a v) ws f h = sized (nat_lt a (length ws)) _ f (length ws) h (length-set ws a v)
found_size (AskCompareSwap a expected new) ws f h =
    sized (nat_lt a (length ws)) _ f (length ws) h (set_if (slice_index ws a == expected) ws a new)
found_size (AskOr a v) ws f h = sized (nat_lt a (length ws)) _ f (length ws) h (length-set ws a _)
found_size (AskAdd a v) ws f h = sized (nat_lt a (length ws)) _ f (length ws) h (length-set ws a _)
found_size (AskFork entry arguments has_room) ws f h = absurd cc
found_size (AskPrint number) ws f h = absurd cc
found_size (AskWait a expected) ws f h = absurd cc
found_size (AskWake a n) ws f h = absurd cc
found_size (AskRequeue a b n m expected) ws f h = absurd cc
found_size AskReturn ws f h = absurd cc
found_size (AskReturnValue v) ws f h = absurd cc
found_size (AskFault cause) ws f h = absurd cc

of_found : (go : ℕ → Thread) (request : Request) (ws : List ℕ) (a : Accessing) (o : Option Found)
    → found request ws ≡ o → goes_on go o ≡ Some a → length a.words ≡ length ws
of_found go request ws a None is h = absurd cc
of_found go request ws a (Some f) is h =
    ap (λ (x : Accessing). length x.words) (sym (same _ a h)) ∙ found_size request ws f is

pub access_size : (l : Look) (ws : List ℕ) (a : Accessing) → accessing l ws ≡ Some a → length a.words ≡ length ws
access_size (Asks request go) ws a h = of_found go request ws a (found request ws) refl h
access_size (Goes x) ws a h = absurd cc
access_size (Leaves phase) ws a h = absurd cc
access_size Breaks ws a h = absurd cc
access_size Rests ws a h = absurd cc

-- who can move hasn't ended
alive_by : (o : Option ℕ) (x : Thread) → x ≡ Exits Ended → thread_can_move o (Some x) ≡ true → ⊥
alive_by None x is h = let q : thread_can_move None (Some (Exits Ended)) ≡ true = ap (λ y. thread_can_move None (Some y)) (sym is) ∙ h in cc
alive_by (Some a) x is h = cc

pub mover_lives : (k : ConcreteState) (t : ℕ) (x : Thread) → thread_of k t ≡ Some x → can_move k t ≡ true
    → x ≢ Exits Ended
mover_lives k t x stands can is =
    alive_by (k.common.asleep t) x is (ap (thread_can_move (k.common.asleep t)) (sym stands) ∙ can)

-- what always holds is kept by an access
pub keeps_access : (p : Program) (k : ConcreteState) (l : Look) (a : Accessing) (t : ℕ) → IsWellFormed p k
    → accessing l k.common.words ≡ Some a
    → IsWellFormed p (record {
      common = record k.common { words = a.words };
      threads = slice_set k.threads (t - 1) a.thread;
    })
keeps_access p k l a t well h =
    let same : length (slice_set k.threads (t - 1) a.thread) ≡ length k.threads =
    length-set k.threads (t - 1) a.thread in
    record {
      most = well.most;
      fits = well.fits;
      sized = access_size l k.common.words a h ∙ well.sized;
      some = omega (arith, same, well.some);
      few = omega (arith, same, well.few);
      agree = well.agree;
      made = λ u b h'. let r = well.made u b h' in (r.0, omega (arith, same, r.1));
    }

set_same : {A : Type 0} (xs : List A) (n : ℕ) (x : A) → slice_get xs n ≡ Some x → slice_set xs n x ≡ xs
set_same [] zero x h = absurd cc
set_same [] (suc n) x h = absurd cc
set_same (y ∷ ys) zero x h = ap (λ z. z ∷ ys) (sym (same y x h))
set_same (y ∷ ys) (suc n) x h = ap (λ zs. y ∷ zs) (set_same ys n x h)

-- a thread that is put where it stands stays there
pub stays : (threads : List Thread) (t : ℕ) (x : Thread) → thread_at threads t ≡ Some x
    → slice_set threads (t - 1) x ≡ threads
stays threads zero x h = absurd cc
stays threads (suc n) x h =
    let e : suc n - 1 ≡ n = omega arith in
    subst (λ i. slice_set threads i x ≡ threads) (sym e) (set_same threads n x h)

-- the machine behind a try of an access
abbrev pub after_view : Program → CommonView → List Thread → View
after_view p c threads = record {
  program = p;
  words = c.words;
  sleepers = c.sleepers;
  threads = threads;
  output = c.output;
  room = c.capacity - length c.output;
}

-- an access that a thread made on the words is made on what is shared
pub accessed_on : (r : Option Access) (l : Look) (v : CommonView) (words : List ℕ) (x x' : Thread)
    → MatchOption r ((accessing l v.words ≡ None) × (x' ≡ x) × (words ≡ v.words))
    (λ told. accessing l v.words ≡ Some (record { told = told; words = words; thread = x' }))
    → AccessedSo r l v (record v { words = words }) x'
accessed_on None l v words x x' h = h.0
accessed_on (Some told) l v words x x' h = record {
  access = record { told = told; words = words; thread = x' };
  makes = h;
  told = refl;
  after = refl;
  goes = refl;
}

pub kept_on : (r : Option Access) (l : Look) (v c : CommonView) (words : List ℕ) (x x' : Thread) → v ≡ c
    → MatchOption r ((accessing l v.words ≡ None) × (x' ≡ x) × (words ≡ v.words))
    (λ told. accessing l v.words ≡ Some (record { told = told; words = words; thread = x' }))
    → IfNone r ((x' ≡ x) × ((let w : CommonView = record v { words = words } in w) ≡ c))
kept_on None l v c words x x' is h = (h.1, (λ i. record v { words = h.2 i }) ∙ is)
kept_on (Some told) l v c words x x' is h = tt

pub access_keeps : (p : Program) (c c' : CommonView) (threads : List Thread) (t : ℕ) (x x' : Thread)
    (made : Option Access) (bits : List ℕ) → 1 ≤ t → thread_at threads t ≡ Some x
    → can_move (parts_of c threads) t ≡ true
    → IsWellFormed p (parts_of c threads) → ShowsAble bits (parts_of c threads)
    → AccessedSo made (look p t x) c c' x' → IfNone made ((x' ≡ x) × (c' ≡ c))
    → IfSome made (λ told. x' ≢ Exits Ended)
    → IsWellFormed p (parts_of c' (slice_set threads (t - 1) x'))
    × ShowsAble bits (parts_of c' (slice_set threads (t - 1) x'))
access_keeps p c c' threads t x x' (Some told) bits some stands can well shows did none lives =
    let k : ConcreteState = parts_of c threads in
    let k' : ConcreteState = record {
      common = record k.common { words = did.access.words };
      threads = slice_set k.threads (t - 1) did.access.thread;
    } in
    let is : k' ≡ parts_of c' (slice_set threads (t - 1) x') =
    (λ i. parts_of (sym did.after i) (slice_set threads (t - 1) (sym did.goes i))) in (
      subst (IsWellFormed p) is (keeps_access p k (look p t x) did.access t well did.makes),
      subst (ShowsAble bits) is (shows_still k did.access.words t did.access.thread x bits some stands can
          (subst (λ (y : Thread). y ≢ Exits Ended) did.goes lives) shows),
    )
access_keeps p c c' threads t x x' None bits some stands can well shows did kept lives =
    let is : parts_of c threads ≡ parts_of c' (slice_set threads (t - 1) x') =
    (λ i. parts_of (sym kept.1 i) (sym (stays threads t x stands) i))
    ∙ (λ i. parts_of c' (slice_set threads (t - 1) (sym kept.0 i))) in
    (subst (IsWellFormed p) is well, subst (ShowsAble bits) is shows)

one_thread : (x y : Thread) → Some x ≡ Some y → x ≡ y
one_thread x y h = cc

pub access_returns : (p : Program) (c c' : CommonView) (threads : List Thread) (t : ℕ) (x x' : Thread)
    (made : Option Access) → 1 ≤ t → thread_at threads t ≡ Some x → AccessedSo made (look p t x) c c' x'
    → IfNone made ((x' ≡ x) × (c' ≡ c))
    → MatchOption made ((after_view p c' (slice_set threads (t - 1) x') ≡ after_view p c threads)
    × HasNoAccess (after_view p c threads) t)
    (λ told. MakesAccess (after_view p c threads) t (told_access told)
    (after_view p c' (slice_set threads (t - 1) x')))
access_returns p c c' threads t x x' (Some told) some stands did none = record {
  origin = x;
  stands = stands;
  access = did.access;
  makes = did.makes;
  told = did.told;
  after = λ i. after_view p (did.after i) (slice_set threads (t - 1) (did.goes i));
}
access_returns p c c' threads t x x' None some stands did kept = (
  (λ i. after_view p (kept.1 i) (slice_set threads (t - 1) (kept.0 i)))
      ∙ (λ i. after_view p c (stays threads t x stands i)),
  λ y at. ap (λ (z : Thread). accessing (look p t z) c.words) (one_thread y x (sym at ∙ stands)) ∙ did,
)

-- who made an access can move still
pub access_moves : (c c' : CommonView) (l : Look) (threads : List Thread) (t : ℕ) (x x' : Thread) (made : Option Access)
    → thread_at threads t ≡ Some x → can_move (parts_of c threads) t ≡ true → AccessedSo made l c c' x'
    → IfSome made (λ told. x' ≢ Exits Ended)
    → IfSome made (λ told. can_move (parts_of c' (slice_set threads (t - 1) x')) t ≡ true)
access_moves c c' l threads t x x' None stands can did lives = tt
access_moves c c' l threads t x x' (Some told) stands can did lives =
    let k : ConcreteState = parts_of c threads in
    let is : (record {
      common = record k.common { words = did.access.words };
      threads = slice_set k.threads (t - 1) did.access.thread;
    }) ≡ parts_of c' (slice_set threads (t - 1) x') =
    (λ i. parts_of (sym did.after i) (slice_set threads (t - 1) (sym did.goes i))) in
    subst (λ (q : ConcreteState). can_move q t ≡ true) is
    (still_can k did.access.words t did.access.thread x stands can
    (subst (λ (y : Thread). y ≢ Exits Ended) did.goes lives))

-- who stands before an access hasn't ended
alive_of : (p : Program) (t : ℕ) (x : Thread) (words : List ℕ) (a : Accessing) → accessing (look p t x) words ≡ Some a
    → x ≢ Exits Ended
alive_of p t x words a h is =
    let q : accessing (look p t (Exits Ended)) words ≡ Some a = ap (λ y. accessing (look p t y) words) (sym is) ∙ h in
    absurd cc

pub put_twice : {A : Type 0} → (xs : List A) (i : ℕ) (x y : A) → slice_set (slice_set xs i x) i y ≡ slice_set xs i y
put_twice [] i x y = refl
put_twice (z ∷ zs) zero x y = refl
put_twice (z ∷ zs) (suc i) x y = ap (λ ws. z ∷ ws) (put_twice zs i x y)

-- what always holds is kept by an access that a thread makes from where its local steps would have led it
pub from_keeps : (p : Program) (c c' : CommonView) (threads : List Thread) (t : ℕ) (y x x' : Thread) (event : Event)
    (bits : List ℕ) → 1 ≤ t → thread_at threads t ≡ Some y → can_move (parts_of c threads) t ≡ true
    → IsWellFormed p (parts_of c threads) → ShowsAble bits (parts_of c threads)
    → DidAccess (look p t x) c c' x' event → x' ≢ Exits Ended
    → IsWellFormed p (parts_of c' (slice_set threads (t - 1) x'))
    × ShowsAble bits (parts_of c' (slice_set threads (t - 1) x'))
from_keeps p c c' threads t y x x' event bits some stands can well shows did lives =
    let k : ConcreteState = parts_of c threads in
    let k' : ConcreteState = record {
      common = record k.common { words = did.access.words };
      threads = slice_set k.threads (t - 1) did.access.thread;
    } in
    let is : k' ≡ parts_of c' (slice_set threads (t - 1) x') =
    (λ i. parts_of (sym did.after i) (slice_set threads (t - 1) (sym did.goes i))) in (
      subst (IsWellFormed p) is (keeps_access p k (look p t x) did.access t well did.makes),
      subst (ShowsAble bits) is (shows_still k did.access.words t did.access.thread y bits some stands can
          (subst (λ (z : Thread). z ≢ Exits Ended) did.goes lives) shows),
    )

-- and it is the access that the thread would have made there
pub from_returns : (p : Program) (c c' : CommonView) (threads : List Thread) (t : ℕ) (y x x' : Thread) (told : Access)
    → 1 ≤ t → thread_at threads t ≡ Some y → can_move (parts_of c threads) t ≡ true
    → DidAccess (look p t x) c c' x' (told_access told) → x' ≢ Exits Ended
    → MadeFrom told (after_view p c threads) t x (after_view p c' (slice_set threads (t - 1) x')) x'
from_returns p c c' threads t y x x' told some stands can did lives =
    let k : ConcreteState = parts_of c threads in
    let is : (record {
      common = record k.common { words = did.access.words };
      threads = slice_set k.threads (t - 1) did.access.thread;
    }) ≡ parts_of c' (slice_set threads (t - 1) x') =
    (λ i. parts_of (sym did.after i) (slice_set threads (t - 1) (sym did.goes i))) in
    record {
      moved = still_can k k.common.words t x y stands can (alive_of p t x c.words did.access did.makes);
      made = record {
        origin = x;
        stands = thread_at-put threads t y x stands;
        access = did.access;
        makes = did.makes;
        told = did.told;
        after = (λ i. after_view p (did.after i) (slice_set threads (t - 1) (did.goes i)))
            ∙ (λ i. after_view p (record c { words = did.access.words })
            (sym (put_twice threads (t - 1) x did.access.thread) i));
      };
      stands = thread_at-put threads t y x' stands;
      moves = subst (λ (q : ConcreteState). can_move q t ≡ true) is
          (still_can k did.access.words t did.access.thread y stands can
          (subst (λ (z : Thread). z ≢ Exits Ended) did.goes lives));
    }
