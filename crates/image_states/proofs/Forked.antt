-- A thread that makes another, and both are taken on by local steps.
use Rattle.std.proofs.Common.{◌≡◌, ◌≢◌, ◌<◌, ◌≤◌, ◌+◌, ◌∙◌, ℕ, zero, suc, Bool, true, false, List, [], ◌∷◌, ◌++◌, None, Some}
use Rattle.std.proofs.Common.{inl, inr, refl, sym, ap, subst, arith, length, All, slice_get}
use Rattle.std.specs.Prelude.{slice_index, slice_set}
use Rattle.std.proofs.lemmas.List.{length-append, length-set}
use Rattle.std.proofs.lemmas.List.Elements.{All-push, All-set}
use Rattle.std.proofs.lemmas.Option.{slice_get_within, same_Some}
use Rattle.words.specs.Process.{process_word}
use Rattle.words.specs.Updates.{put}
use Rattle.words.proofs.Updates.{at_put, at_put2, put_other, put_same}
use Rattle.isa.specs.Programs.{Program}
use Rattle.locals.specs.Threads.{Thread, opening_thread}
use Rattle.locals.specs.Looks.{Look, Request, AskFork, Asks, look}
use Rattle.locals.specs.Requests.{after_answer, fork_child}
use Rattle.machine.specs.AbstractServing.{with_child}
use Rattle.machine.specs.RequestMeanings.{AsksFork}
use Rattle.machine.specs.States.{State, with_thread}
use Rattle.proof_image_search.specs.Searching.{IsCovered}
use Rattle.image_states.specs.declared.next.Next.{Next as NextOf}
use Rattle.image_states.specs.declared.packed.Packed.{Packed as PackedOf}
use Rattle.image_states.specs.declared.parts.Parts.{Parts as PartsOf}
use Rattle.image_states.specs.Forking.{HasChild, IsThreadMore}
use Rattle.image_states.specs.Nexts.{Covers, IsBase, MovesTo, Reaches, ReachesAt, RunsOn}
use Rattle.image_states.specs.Packed.{asleep_at, local_in, thread_at, unpacked, words_in, IsWithin}
use Rattle.image_states.proofs.Covering.{leaf, put_thread, run_covered}
use Rattle.image_states.proofs.Growing.{slice_get_last}
use Rattle.image_states.proofs.Served.{moves_asked, set_put, AllServed}
use Rattle.image_states.proofs.Stepped.{answered_so}

-- a thread that asks for a fork
pub record IsFork (l : Look) (room : Bool) : Type 0 where
  pub entry : ℕ
  pub arguments : List ℕ
  pub go : ℕ → Thread
  pub asks : l ≡ Asks (AskFork entry arguments room) go

is_fork_of : (r : Request) (go : ℕ → Thread) (room : Bool) → AsksFork (Asks r go) room → IsFork (Asks r go) room
is_fork_of (AskFork entry arguments has) go room h =
    record { entry = entry; arguments = arguments; go = go; asks = ap (λ b. Asks (AskFork entry arguments b) go) h }
is_fork_of r go room h = absurd h

pub is_fork : (l : Look) (room : Bool) → AsksFork l room → IsFork l room
is_fork (Asks r go) room h = is_fork_of r go room h
is_fork l room h = absurd h

-- one thread more, behind the others
pub thread_more : (locals : List Thread) (ns : List ℕ) (n : ℕ) (z : Thread) → slice_get locals n ≡ Some z → (u : ℕ)
    → put (thread_at locals ns) (suc (length ns)) (Some z) u ≡ thread_at locals (ns ++ n ∷ []) u
thread_more locals ns n z is u =
    at_put (thread_at locals ns) (suc (length ns)) (Some z) u (λ o. o ≡ thread_at locals (ns ++ n ∷ []) u)
    (λ e. subst (λ j. Some z ≡ thread_at locals (ns ++ n ∷ []) j) (sym e)
    (sym (ap (local_in locals) (slice_get_last ns n) ∙ is)))
    (other u)
  where
    beside : (xs : List ℕ) (j : ℕ) → j ≢ length xs → slice_get (xs ++ n ∷ []) j ≡ slice_get xs j
    beside [] zero ne = absurd (ne refl)
    beside [] (suc j) ne = refl
    beside (y ∷ ys) zero ne = refl
    beside (y ∷ ys) (suc j) ne = beside ys j (λ e. ne (ap suc e))

    other : (j : ℕ) → j ≢ suc (length ns) → thread_at locals ns j ≡ thread_at locals (ns ++ n ∷ []) j
    other zero ne = refl
    other (suc j) ne = ap (local_in locals) (sym (beside ns j (λ e. ne (ap suc e))))

-- what was put first is put over
put_over : {A : Type 0} (f : ℕ → A) (c t : ℕ) (o v z : A) (u : ℕ)
    → put (put (put f c o) t v) c z u ≡ put (put f t v) c z u
put_over f c t o v z u = at_put2 (put (put f c o) t v) (put f t v) c z z u (λ a b. a ≡ b) (λ e. refl)
    (λ ne. at_put2 (put f c o) f t v v u (λ a b. a ≡ b) (λ e. refl) (λ n. put_other f c o u ne))

module _ (p : Program) (parts : PartsOf) (x state : PackedOf) (k memory : ℕ) (here : Thread)
    (base : IsBase p parts x k memory here state) (entry : ℕ) (arguments : List ℕ)
    (y : PackedOf) (part count : ℕ) (there : Thread) (more : IsThreadMore state y part)
    (is : slice_get parts.locals.items part ≡ Some there)
    (runs : RunsOn p (suc (length x.parts.items)) count (opening_thread entry arguments) there)
    (words_are : words_in parts.memories.items memory
    ≡ slice_set (words_in parts.memories.items x.memory) (process_word (suc (length x.parts.items)) 2)
    (suc (length x.parts.items)))
    (less : process_word (suc (length x.parts.items)) 2 < length (words_in parts.memories.items x.memory)) where
  abbrev pub number : ℕ
  number = suc (length x.parts.items)

  abbrev pub made : State
  made = with_child (unpacked p parts x) entry arguments

  abbrev pub after : State
  after = with_thread made (suc k) base.there

  apart : number ≢ suc k
  apart e = let l : k < length x.parts.items = base.moved.less in omega (arith, e, l)

  child_stands : after ≡ with_thread after number (opening_thread entry arguments)
  child_stands = λ i. record after { thread = λ u. sym (by u) i }
    where
      by : (u : ℕ) → put after.thread number (Some (opening_thread entry arguments)) u ≡ after.thread u
      by u = at_put after.thread number (Some (opening_thread entry arguments)) u (λ o. o ≡ after.thread u)
          (λ e. subst (λ j. Some (opening_thread entry arguments) ≡ after.thread j) (sym e)
          (sym (put_other made.thread (suc k) (Some base.there) number apart
          ∙ put_same (unpacked p parts x).thread number (Some (opening_thread entry arguments)))))
          (λ ne. refl)

  parts_are : slice_set x.parts.items k base.part ++ part ∷ [] ≡ y.parts.items
  parts_are = ap (λ ns. ns ++ part ∷ []) (sym base.moved.parts) ∙ sym more.parts

  memory_is : memory ≡ y.memory
  memory_is = sym base.moved.memory ∙ sym more.memory

  set_size : length (slice_set x.parts.items k base.part) ≡ length x.parts.items
  set_size = length-set x.parts.items k base.part

  threads_are : (u : ℕ) → put after.thread number (Some there) u ≡ thread_at parts.locals.items y.parts.items u
  threads_are u =
      put_over (unpacked p parts x).thread number (suc k) (Some (opening_thread entry arguments)) (Some base.there)
      (Some there) u
      ∙ at_put2 (put (thread_at parts.locals.items x.parts.items) (suc k) (Some base.there))
      (thread_at parts.locals.items (slice_set x.parts.items k base.part)) number (Some there) (Some there) u
      (λ a b. a ≡ b) (λ e. refl)
      (λ ne. put_thread parts.locals.items x.parts.items k base.part base.there base.moved.less base.is u)
      ∙ ap (λ n. put (thread_at parts.locals.items (slice_set x.parts.items k base.part)) (suc n) (Some there) u)
      (sym set_size)
      ∙ thread_more parts.locals.items (slice_set x.parts.items k base.part) part there is u
      ∙ ap (λ ns. thread_at parts.locals.items ns u) parts_are

  words_so : (a : ℕ) → put (λ b. slice_index (words_in parts.memories.items x.memory) b) (process_word number 2) number a
      ≡ slice_index (words_in parts.memories.items y.memory) a
  words_so a = sym (set_put (words_in parts.memories.items x.memory) (process_word number 2) number a less)
      ∙ ap (λ w. slice_index w a) (sym words_are) ∙ ap (λ m. slice_index (words_in parts.memories.items m) a) memory_is

  size_so : length (words_in parts.memories.items x.memory) ≡ length (words_in parts.memories.items y.memory)
  size_so = sym (length-set (words_in parts.memories.items x.memory) (process_word number 2) number)
      ∙ ap length (sym words_are) ∙ ap (λ m. length (words_in parts.memories.items m)) memory_is

  made_so : number ≡ length y.parts.items
  made_so =
      let e : length (slice_set x.parts.items k base.part ++ part ∷ []) ≡ length (slice_set x.parts.items k base.part) + 1 =
      length-append (slice_set x.parts.items k base.part) (part ∷ []) in
      let size : length (slice_set x.parts.items k base.part) ≡ length x.parts.items = set_size in
      let same : suc (length x.parts.items) ≡ length (slice_set x.parts.items k base.part ++ part ∷ []) =
      omega (arith, e, size) in
      same ∙ ap length parts_are

  asleep_so : asleep_at x.places.items ≡ asleep_at y.places.items
  asleep_so = ap asleep_at (sym base.moved.places) ∙ sym more.places

  is_unpacked : record (with_thread after number there) { output = [] } ≡ unpacked p parts y
  is_unpacked = λ i. record (unpacked p parts y) {
    word = λ a. words_so a i;
    size = size_so i;
    made = made_so i;
    thread = λ u. threads_are u i;
    asleep = asleep_so i;
  }

  pub fork_covers : Covers p parts y (with_thread made (suc k) here) y.killed
  fork_covers kept has =
      run_covered p parts.alone kept y.killed made (suc k) base.count here base.there base.runs.goes base.runs.lives
      (subst (λ s. (m : ℕ) × IsCovered p parts.alone kept m s y.killed) (sym child_stands)
      (run_covered p parts.alone kept y.killed after number count (opening_thread entry arguments) there runs.goes runs.lives
      (zero, leaf p parts kept y (with_thread after number there) is_unpacked has)))

  pub fork_within : IsWithin parts x → memory < length parts.memories.items → length x.parts.items < parts.most
      → IsWithin parts y
  fork_within in_x l few = record {
    memory = subst (λ m. m < length parts.memories.items) memory_is l;
    locals = subst (All (λ n. n < length parts.locals.items)) parts_are
        (All-push (λ n. n < length parts.locals.items) (slice_set x.parts.items k base.part) part
        (All-set (λ n. n < length parts.locals.items) x.parts.items k base.part
        (slice_get_within parts.locals.items base.part base.there base.is) in_x.locals)
        (slice_get_within parts.locals.items part there is));
    places = more.count ∙ ap suc (ap length base.moved.places ∙ in_x.places) ∙ made_so;
    few = subst (λ n. n ≤ parts.most) made_so (omega (arith, few));
  }

-- the step of a fork that makes a thread
pub fork_moves : (p : Program) (parts : PartsOf) (x state : PackedOf) (k t memory : ℕ) (here child : Thread)
    (nexts : List NextOf) → t ≡ suc k
    → AsksFork (look p t here) true → fork_child (look p t here) ≡ Some child
    → length x.parts.items < parts.most
    → IsBase p parts x k memory (after_answer (look p t here) (suc (length x.parts.items)) here) state
    → HasChild p parts state nexts (suc (length x.parts.items)) child
    → words_in parts.memories.items memory
    ≡ slice_set (words_in parts.memories.items x.memory) (process_word (suc (length x.parts.items)) 2)
    (suc (length x.parts.items))
    → process_word (suc (length x.parts.items)) 2 < length (words_in parts.memories.items x.memory)
    → IsWithin parts x → memory < length parts.memories.items
    → MovesTo p parts x nexts t here
fork_moves p parts x state k t memory here child nexts number asks child_is few base has words_are less in_x l =
    moves_asked p parts x nexts t here (AskFork fork.entry fork.arguments true) fork.go fork.asks each
  where
    fork : IsFork (look p t here) true
    fork = is_fork (look p t here) true asks

    child_opens : child ≡ opening_thread fork.entry fork.arguments
    child_opens = same_Some child (opening_thread fork.entry fork.arguments) (sym child_is ∙ ap fork_child fork.asks)

    runs : RunsOn p (suc (length x.parts.items)) has.count (opening_thread fork.entry fork.arguments) has.there
    runs = subst (λ z. RunsOn p (suc (length x.parts.items)) has.count z has.there) child_opens has.runs

    reached : Reaches p parts nexts
        (with_thread (with_child (unpacked p parts x) fork.entry fork.arguments) (suc k)
        (after_answer (look p t here) (suc (length x.parts.items)) here)) x.killed
    reached = record {
      next = has.has.next;
      found = has.has.found;
      within = fork_within p parts x state k memory (after_answer (look p t here) (suc (length x.parts.items)) here) base
          fork.entry fork.arguments has.has.next.state has.part has.count has.there has.has.more has.is runs words_are less
          in_x l few;
      covers = subst (Covers p parts has.has.next.state
          (with_thread (with_child (unpacked p parts x) fork.entry fork.arguments) (suc k)
          (after_answer (look p t here) (suc (length x.parts.items)) here))) (has.has.more.killed ∙ base.moved.killed)
          (fork_covers p parts x state k memory (after_answer (look p t here) (suc (length x.parts.items)) here) base
          fork.entry fork.arguments has.has.next.state has.part has.count has.there has.has.more has.is runs words_are
          less);
    }

    each : AllServed p parts x nexts t here (AskFork fork.entry fork.arguments true)
    each woken answer mid (nobody, inl (full, zero_is, leads)) =
        absurd (let e : length x.parts.items ≡ parts.most = full in omega (arith, e, few))
    each woken answer mid (nobody, inr (room, has_room, number_is, leads)) =
        answered_so p parts x nexts t here (suc (length x.parts.items)) answer
        (with_child (unpacked p parts x) fork.entry fork.arguments) mid (sym leads) number_is
        (subst (λ j. Reaches p parts nexts
        (with_thread (with_child (unpacked p parts x) fork.entry fork.arguments) j
        (after_answer (look p t here) (suc (length x.parts.items)) here)) x.killed) (sym number) reached)

-- one that makes none: the table is full
pub full_moves : (p : Program) (parts : PartsOf) (x : PackedOf) (t : ℕ) (here : Thread) (room : Bool)
    (nexts : List NextOf) → AsksFork (look p t here) room → length x.parts.items ≡ parts.most
    → ReachesAt p parts x nexts t (words_in parts.memories.items x.memory) (asleep_at x.places.items)
    (after_answer (look p t here) 0 here)
    → MovesTo p parts x nexts t here
full_moves p parts x t here room nexts asks full reaches =
    moves_asked p parts x nexts t here (AskFork fork.entry fork.arguments room) fork.go fork.asks each
  where
    fork : IsFork (look p t here) room
    fork = is_fork (look p t here) room asks

    each : AllServed p parts x nexts t here (AskFork fork.entry fork.arguments room)
    each woken answer mid (nobody, inl (is, zero_is, leads)) =
        answered_so p parts x nexts t here 0 answer (unpacked p parts x) mid (sym leads) zero_is (reaches [])
    each woken answer mid (nobody, inr (few, has_room, number_is, leads)) =
        absurd (let l : length x.parts.items < parts.most = few in omega (arith, l, full))

-- or there is no room
pub no_fork_moves : (p : Program) (parts : PartsOf) (x : PackedOf) (t : ℕ) (here : Thread) (room : Bool)
    (nexts : List NextOf) → AsksFork (look p t here) room → length x.parts.items ≢ parts.most → room ≡ false
    → MovesTo p parts x nexts t here
no_fork_moves p parts x t here room nexts asks not none =
    moves_asked p parts x nexts t here (AskFork fork.entry fork.arguments room) fork.go fork.asks each
  where
    fork : IsFork (look p t here) room
    fork = is_fork (look p t here) room asks

    each : AllServed p parts x nexts t here (AskFork fork.entry fork.arguments room)
    each woken answer mid (nobody, inl (is, zero_is, leads)) = absurd (not is)
    each woken answer mid (nobody, inr (few, has_room, number_is, leads)) =
        absurd (let differ : true ≡ false = sym has_room ∙ none in cc)

-- who asks for a fork with room says which thread it makes
pub child_there : (l : Look) → AsksFork l true → fork_child l ≡ None → ⊥
child_there l asks none =
    let fork = is_fork l true asks in
    let differ : None ≡ Some (opening_thread fork.entry fork.arguments) = sym none ∙ ap fork_child fork.asks in cc
