-- What a thread asks for, and the states behind it.
use Rattle.std.proofs.Common.{◌≡◌, ◌<◌, ◌==◌, ◌∙◌, ℕ, Bool, true, false, List, [], Some}
use Rattle.std.proofs.Common.{refl, sym, ap, subst, arith, length}
use Rattle.std.specs.Prelude.{if◌then◌else◌, slice_index, slice_set}
use Rattle.std.proofs.lemmas.List.{length-set, get_or-set_same, get_or-set_other}
use Rattle.std.proofs.lemmas.Option.{same_Some}
use Rattle.words.specs.Updates.{put}
use Rattle.words.proofs.Updates.{at_put, put_itself}
use Rattle.isa.specs.Programs.{Program}
use Rattle.robustexit.specs.ExitRules.{exit_of}
use Rattle.locals.specs.declared.request.Request.{Request as Told}
use Rattle.locals.specs.declared.request.Request.TheVariants as told
use Rattle.locals.specs.declared.request.NextStep.TheVariants as next
use Rattle.locals.specs.Threads.{Thread}
use Rattle.locals.specs.Looks.{Request, AskLoad, AskStore, AskSwap, AskCompareSwap, AskOr, AskAdd, AskFork, AskPrint}
use Rattle.locals.specs.Looks.{AskWait, AskWake, AskRequeue, AskReturn, AskReturnValue, AskFault, Look, Goes}
use Rattle.locals.specs.Looks.{Asks, Leaves, Breaks, Rests, look}
use Rattle.locals.specs.Requests.{after_answer, next_step_of}
use Rattle.machine.specs.RequestMeanings.{asked_of}
use Rattle.machine.specs.States.{State, with_thread, with_word}
use Rattle.proof_pieces.specs.WholeCalls.{MovesWhole, ServesWhole}
use Rattle.image_states.specs.declared.next.Next.{Next as NextOf}
use Rattle.image_states.specs.declared.packed.Packed.{Packed as PackedOf}
use Rattle.image_states.specs.declared.parts.Parts.{Parts as PartsOf}
use Rattle.image_states.specs.Accesses.{access_of, access_answer, word_after}
use Rattle.image_states.specs.Nexts.{shaped, MovesTo, Reaches}
use Rattle.image_states.specs.Packed.{asleep_at, unpacked, words_in}

shared_one : (x y : Told) → next.Shared x ≡ next.Shared y → x ≡ y
shared_one x y e = cc

-- a thread whose next step the code tells as this request asks for it
pub asks : (l : Look) (q : Told) → next_step_of l ≡ next.Shared q → (go : ℕ → Thread) × (l ≡ Asks (asked_of q) go)
asks (Goes x) q e = absurd cc
asks (Leaves phase) q e = absurd cc
asks Breaks q e = absurd cc
asks Rests q e = absurd cc
asks (Asks (AskLoad a) go) q e = (go, ap (λ r. Asks (asked_of r) go) (shared_one (told.Load (record { 0 = a })) q e))
asks (Asks (AskStore a v) go) q e =
    (go, ap (λ r. Asks (asked_of r) go) (shared_one (told.Store (record { 0 = a }) v) q e))
asks (Asks (AskSwap a v) go) q e =
    (go, ap (λ r. Asks (asked_of r) go) (shared_one (told.Swap (record { 0 = a }) v) q e))
asks (Asks (AskCompareSwap a expected new) go) q e =
    (go, ap (λ r. Asks (asked_of r) go) (shared_one (told.CompareSwap (record { 0 = a }) expected new) q e))
asks (Asks (AskOr a v) go) q e =
    (go, ap (λ r. Asks (asked_of r) go) (shared_one (told.FetchOr (record { 0 = a }) v) q e))
asks (Asks (AskAdd a v) go) q e =
    (go, ap (λ r. Asks (asked_of r) go) (shared_one (told.FetchAdd (record { 0 = a }) v) q e))
asks (Asks (AskFork entry arguments has_room) go) q e = absurd cc
asks (Asks (AskPrint n) go) q e = (go, ap (λ r. Asks (asked_of r) go) (shared_one (told.Print n) q e))
asks (Asks (AskWait a expected) go) q e =
    (go, ap (λ r. Asks (asked_of r) go) (shared_one (told.Wait (record { 0 = a }) expected) q e))
asks (Asks (AskWake a n) go) q e =
    (go, ap (λ r. Asks (asked_of r) go) (shared_one (told.Wake (record { 0 = a }) n) q e))
asks (Asks (AskRequeue a b wake moves expected) go) q e = (
  go,
  ap (λ r. Asks (asked_of r) go)
      (shared_one (told.Requeue (record { 0 = a }) (record { 0 = b }) wake moves expected) q e),
)
asks (Asks AskReturn go) q e = (go, ap (λ r. Asks (asked_of r) go) (shared_one told.Return q e))
asks (Asks (AskReturnValue v) go) q e =
    (go, ap (λ r. Asks (asked_of r) go) (shared_one (told.ReturnValue v) q e))
asks (Asks (AskFault cause) go) q e = (go, ap (λ r. Asks (asked_of r) go) (shared_one (told.Fault cause) q e))

-- however a request is served, what comes of it with the thread behind its answer is reached
abbrev pub AllServed : Program → PartsOf → PackedOf → List NextOf → ℕ → Thread → Request → Type 0
AllServed p parts x nexts t here r = (woken : List ℕ) (answer : ℕ) (mid : State)
    → ServesWhole t r (unpacked p parts x) woken answer mid
    → Reaches p parts nexts (with_thread mid t (after_answer (look p t here) answer here)) x.killed

-- it is enough to look at that
pub moves_asked : (p : Program) (parts : PartsOf) (x : PackedOf) (nexts : List NextOf) (t : ℕ) (here : Thread) (r : Request)
    (go : ℕ → Thread) → look p t here ≡ Asks r go → AllServed p parts x nexts t here r → MovesTo p parts x nexts t here
moves_asked p parts x nexts t here r go is each woken s' moves =
    subst (λ s. Reaches p parts nexts s x.killed) (sym at.3)
    (subst (λ z. Reaches p parts nexts (with_thread at.1 t z) x.killed) (ap (λ l. after_answer l at.0 here) is)
    (each woken at.0 at.1 at.2))
  where
    at : (answer : ℕ) × (mid : State) × ServesWhole t r (unpacked p parts x) woken answer mid
        × (s' ≡ with_thread mid t (go answer))
    at = subst (λ l. MovesWhole (exit_of p.version) (unpacked p parts x) t woken l s') is moves

-- the same by what the code tells that it asks for
pub moves_told : (p : Program) (parts : PartsOf) (x : PackedOf) (nexts : List NextOf) (t : ℕ) (here : Thread) (q : Told)
    → next_step_of (look p t here) ≡ next.Shared q → AllServed p parts x nexts t here (asked_of q)
    → MovesTo p parts x nexts t here
moves_told p parts x nexts t here q is each =
    let go = asks (look p t here) q is in moves_asked p parts x nexts t here (asked_of q) go.0 go.1 each

-- a word that is changed in a list, and in a function
pub set_put : (w : List ℕ) (a v k : ℕ) → a < length w → slice_index (slice_set w a v) k ≡ put (λ j. slice_index w j) a v k
set_put w a v k less = at_put (λ j. slice_index w j) a v k (λ y. slice_index (slice_set w a v) k ≡ y)
    (λ e. ap (slice_index (slice_set w a v)) e ∙ get_or-set_same w a v 0 less)
    (λ ne. get_or-set_other w a k v 0 ne)

-- the state with one word changed
pub with_word_at : (s : State) (w : List ℕ) (a v : ℕ) → ((k : ℕ) → slice_index w k ≡ s.word k) → length w ≡ s.size
    → a < length w → shaped s (slice_set w a v) s.asleep s.output ≡ with_word s a v
with_word_at s w a v is size less = λ i. record s {
  word = λ k. (set_put w a v k less ∙ ap (λ (f : ℕ → ℕ). put f a v k) (λ j n. is n j)) i;
  size = (length-set w a v ∙ size) i;
}

pub with_word_is : (p : Program) (parts : PartsOf) (x : PackedOf) (a v : ℕ) → a < length (words_in parts.memories.items x.memory)
    → shaped (unpacked p parts x) (slice_set (words_in parts.memories.items x.memory) a v) (asleep_at x.places.items) []
    ≡ with_word (unpacked p parts x) a v
with_word_is p parts x a v less =
    with_word_at (unpacked p parts x) (words_in parts.memories.items x.memory) a v (λ k. refl) refl less

pub with_two_words : (p : Program) (parts : PartsOf) (x : PackedOf) (a v b u : ℕ)
    → a < length (words_in parts.memories.items x.memory) → b < length (words_in parts.memories.items x.memory)
    → shaped (unpacked p parts x) (slice_set (slice_set (words_in parts.memories.items x.memory) a v) b u)
    (asleep_at x.places.items) []
    ≡ with_word (with_word (unpacked p parts x) a v) b u
with_two_words p parts x a v b u less less' =
    with_word_at (with_word (unpacked p parts x) a v) (slice_set (words_in parts.memories.items x.memory) a v) b u
    (λ k. set_put (words_in parts.memories.items x.memory) a v k less)
    (length-set (words_in parts.memories.items x.memory) a v)
    (let same : length (slice_set (words_in parts.memories.items x.memory) a v)
    ≡ length (words_in parts.memories.items x.memory) = length-set (words_in parts.memories.items x.memory) a v in
    omega (arith, same, less'))

-- how an access is served
pub record IsAccess (s : State) (q : Told) (a answer : ℕ) (mid : State) : Type 0 where
  pub lies : a < s.size
  pub answered : answer ≡ access_answer q (s.word a)
  pub leads : mid ≡ with_word s a (word_after q (s.word a))

same_word : (s : State) (a : ℕ) → s ≡ with_word s a (s.word a)
same_word s a = λ i. record s { word = λ k. sym (put_itself s.word a (s.word a) k refl) i }

pub access_served : (t : ℕ) (s : State) (woken : List ℕ) (answer : ℕ) (mid : State) (q : Told) (a : ℕ)
    → access_of q ≡ Some a → ServesWhole t (asked_of q) s woken answer mid → IsAccess s q a answer mid
access_served t s woken answer mid (told.Load b) a e (lies, (quiet, (is, leads))) =
    subst (λ c. IsAccess s (told.Load b) c answer mid) (same_Some b.0 a e)
    (record { lies = lies; answered = is; leads = leads ∙ same_word s b.0 })
access_served t s woken answer mid (told.Store b v) a e (lies, (quiet, (is, leads))) =
    subst (λ c. IsAccess s (told.Store b v) c answer mid) (same_Some b.0 a e)
    (record { lies = lies; answered = is; leads = leads })
access_served t s woken answer mid (told.Swap b v) a e (lies, (quiet, (is, leads))) =
    subst (λ c. IsAccess s (told.Swap b v) c answer mid) (same_Some b.0 a e)
    (record { lies = lies; answered = is; leads = leads })
access_served t s woken answer mid (told.CompareSwap b expected new) a e (lies, (quiet, (is, leads))) =
    subst (λ c. IsAccess s (told.CompareSwap b expected new) c answer mid) (same_Some b.0 a e)
    (record { lies = lies; answered = is; leads = leads ∙ by_test (s.word b.0 == expected) })
  where
    by_test : (test : Bool) → (if test then with_word s b.0 new else s)
        ≡ with_word s b.0 (if test then new else s.word b.0)
    by_test true = refl
    by_test false = same_word s b.0
access_served t s woken answer mid (told.FetchOr b v) a e (lies, (quiet, (is, leads))) =
    subst (λ c. IsAccess s (told.FetchOr b v) c answer mid) (same_Some b.0 a e)
    (record { lies = lies; answered = is; leads = leads })
access_served t s woken answer mid (told.FetchAdd b v) a e (lies, (quiet, (is, leads))) =
    subst (λ c. IsAccess s (told.FetchAdd b v) c answer mid) (same_Some b.0 a e)
    (record { lies = lies; answered = is; leads = leads })
access_served t s woken answer mid (told.Print n) a e serves = absurd cc
access_served t s woken answer mid (told.Wait b expected) a e serves = absurd cc
access_served t s woken answer mid (told.Wake b n) a e serves = absurd cc
access_served t s woken answer mid (told.Requeue b c wake moves expected) a e serves = absurd cc
access_served t s woken answer mid told.Return a e serves = absurd cc
access_served t s woken answer mid (told.ReturnValue v) a e serves = absurd cc
access_served t s woken answer mid (told.Fault cause) a e serves = absurd cc
