-- What a run notes of the threads that wait for buckets holds behind each try.
use Rattle.std.proofs.Common.{◌≡◌, ◌≢◌, ◌⊎◌, ℕ, zero, suc, ◌*◌, ◌%◌, ◌^◌, ◌<◌, ◌≤◌, Bool, true, false, List, [], ◌∷◌, Option}
use Rattle.std.proofs.Common.{arith, Some, None, is_some, not, slice_get, slice_set, replicate, inl, inr, refl, sym, ap, ◌∙◌, subst}
use Rattle.std.proofs.lemmas.Bool.{both_ways, cases_eq, cases_lt}
use Rattle.isa.specs.Programs.{Program}
use Rattle.std.specs.Int.{bit_at, bit_not, w64}
use Rattle.std.specs.Int.Bits.{bit_and, bit_or}
use Rattle.std.proofs.lemmas.Nat.Bits.{bit_at-zero, bit_at_clear_other, bit_at_clear_same, bit_at_set_other, bit_at_set_same}
use Rattle.buckets.specs.Sleepers.{bucket_count, holder_of}
use Rattle.words.specs.Limits.{run_buckets}
use Rattle.machine.specs.ConcreteSteps.{can_move}
use Rattle.machine.specs.ThreadSets.{has_bit, IsLeastFrom, IsMember}
use Rattle.machine.specs.Views.{View, concrete}
use Rattle.machine.specs.declared.event.Entry.{Entry}
use Rattle.machine.proofs.Placing.{get_set_other}
use Rattle.piece_machine.specs.PieceConcrete.{PieceConcrete}
use Rattle.piece_machine.specs.PieceDetermined.{IsFit}
use Rattle.piece_machine.specs.PieceFronts.{OutsidePiece}
use Rattle.piece_machine.proofs.Fronts.{opening_fit}
use Rattle.piece_machine.specs.PieceViews.{PieceView as MachineView, parts}
use Rattle.runner.specs.declared.attempt.Obstacle.{Obstacle}
use Rattle.runner.specs.declared.attempt.Obstacle.TheVariants.{First, Other}
use Rattle.runner.specs.declared.passing_over.Waiting.{Waiting}
use Rattle.runner.specs.declared.thread_bits.ThreadBits.{ThreadBits}
use Rattle.runner.specs.declared.attempt.Attempt.{Attempt}
use Rattle.runner.specs.declared.attempt.Attempt.TheVariants.{Accessed, Made, Took, Wants, HeldUp, Refused}
use Rattle.runner.specs.Attempts.{HasEntered, TriedSo, WantsBucket, WantsIf, is_made}
use Rattle.runner.specs.Reports.{IsHeldUp, IsStopped}
use Rattle.runner.specs.Logs.{Enters, Runs, opening}
use Rattle.runner.specs.Views.{LogState}
use Rattle.runner.specs.Waits.{AllHeld, AllWait, IsNextAround, IsNextFree, WantIn}
use Rattle.runner.proofs.Passing.{Apart, entered_apart, kill_apart, mover_number, outside_apart}
use Rattle.runner.proofs.Wanting.{held_up_so, wants_behind}

-- of nobody at the start
none_noted : (n t b : ℕ) → slice_get (replicate n (let o : Option ℕ = None in o)) t ≡ Some (Some b) → ⊥
none_noted zero t b h = cc
none_noted (suc n) zero b h = cc
none_noted (suc n) (suc t) b h = none_noted n t b h

pub none_want : (p : Program) (k : PieceConcrete) (n : ℕ) → WantIn p k (replicate n None)
none_want p k n t b is = absurd (none_noted n t b is)

-- of a thread that made its entry no more
gone : (xs : List (Option ℕ)) (t b : ℕ) → slice_get (slice_set xs t None) t ≡ Some (Some b) → ⊥
gone [] t b h = cc
gone (x ∷ xs) zero b h = cc
gone (x ∷ xs) (suc t) b h = gone xs t b h

pub made_want : (p : Program) (k new : PieceConcrete) (t : ℕ) (xs : List (Option ℕ)) → IsFit p k
    → WantIn p k xs → HasEntered p k t new → WantIn p new (slice_set xs t None)
made_want p k new t xs fit want entered u b is = elim (cases_eq u t) [
  | inl e ↦ absurd (gone xs t b (subst (λ (v : ℕ). slice_get (slice_set xs t None) v ≡ Some (Some b)) e is))
  | inr other ↦ wants_behind p k new t u b fit entered other (want u b (sym (get_set_other xs t u None other) ∙ is))
]

-- and of one that is held up anew
put_is : (xs : List (Option ℕ)) (t a b : ℕ) → slice_get (slice_set xs t (Some a)) t ≡ Some (Some b) → a ≡ b
put_is [] t a b h = absurd cc
put_is (x ∷ xs) zero a b h = cc
put_is (x ∷ xs) (suc t) a b h = put_is xs t a b h

pub held_want : (p : Program) (k new : PieceConcrete) (t a : ℕ) (xs : List (Option ℕ)) → new ≡ k
    → WantIn p k xs → WantsBucket p new t a
    → WantIn p new (slice_set xs t (Some a))
held_want p k new t a xs same want wants u b is = elim (cases_eq u t) [
  | inl e ↦
      let one : a ≡ b = put_is xs t a b (subst (λ (v : ℕ). slice_get (slice_set xs t (Some a)) v ≡ Some (Some b)) e is) in
      subst (λ (v : ℕ). WantsBucket p new v b) (sym e) (subst (λ (c : ℕ). WantsBucket p new t c) one wants)
  | inr other ↦
      subst (λ (q : PieceConcrete). WantsBucket p q u b) (sym same)
      (want u b (sym (get_set_other xs t u (Some a) other) ∙ is))
]

pub still_want : (p : Program) (k new : PieceConcrete) (xs : List (Option ℕ)) → new ≡ k → WantIn p k xs → WantIn p new xs
still_want p k new xs same want = subst (λ (q : PieceConcrete). WantIn p q xs) (sym same) want

pub want_as : (p : Program) (k : PieceConcrete) (xs ys : List (Option ℕ)) → ys ≡ xs → WantIn p k xs → WantIn p k ys
want_as p k xs ys same want = subst (λ (zs : List (Option ℕ)). WantIn p k zs) (sym same) want

pub wait_at : (p q : Program) (k j : PieceConcrete) (w : Waiting) → q ≡ p → j ≡ k → AllWait p k w → AllWait q j w
wait_at p q k j w program same wait =
    subst (λ (x : Program). AllWait x j w) (sym program) (subst (λ (x : PieceConcrete). AllWait p x w) (sym same) wait)

-- who is passed over is held up
pub passed_so : (p : Program) (k : PieceConcrete) (w : Waiting) (t : ℕ) → AllWait p k w → IsMember t
    → has_bit w.ready.words t ≡ false → IsHeldUp p k t
passed_so p k w t wait is out =
    let q = wait.sound.passed t is out in
    let noted = wait.sound.named q.bucket t q.set q.at is.0 q.has in
    let h = wait.held q.bucket (wait.sound.few t q.bucket noted) q.shut in
    held_up_so p k t q.bucket h.0 (wait.want t q.bucket noted) h.1

-- those who are held up, up to one number
abbrev pub IsHeldUpTo : Program → PieceConcrete → (from at : ℕ) → Type 0
IsHeldUpTo p k from at = (u : ℕ) → from ≤ u → u < at → can_move k.concrete u ≡ true → IsHeldUp p k u

abbrev pub IsHeldUpBefore : Program → PieceConcrete → ℕ → Option ℕ → Type 0
IsHeldUpBefore p k from None = (u : ℕ) → from ≤ u → can_move k.concrete u ≡ true → IsHeldUp p k u
IsHeldUpBefore p k from (Some at) = IsHeldUpTo p k from at

pub held_on : (p : Program) (k : PieceConcrete) (from at t : ℕ) → IsHeldUpTo p k from at
    → IsLeastFrom (can_move k.concrete) at (Some t) → IsHeldUpTo p k from t
held_on p k from at t before least u above below moves = elim (cases_lt u at) [
  | inl less ↦ before u above less moves
  | inr past ↦ absurd (both_ways (can_move k.concrete u) (least.2 u past below) moves)
]

pub held_gap : (p : Program) (k : PieceConcrete) (w : Waiting) (from t : ℕ) (o : Option ℕ) → IsFit p k → AllWait p k w
    → IsHeldUpTo p k from t → IsLeastFrom (has_bit w.ready.words) t o → IsHeldUpBefore p k from o
held_gap p k w from t None fit wait before none = λ u above moves. elim (cases_lt u t) [
  | inl less ↦ before u above less moves
  | inr past ↦ passed_so p k w u wait (mover_number p k u fit moves) (none u past)
]
held_gap p k w from t (Some next) fit wait before least = λ u above below moves. elim (cases_lt u t) [
  | inl less ↦ before u above less moves
  | inr past ↦ passed_so p k w u wait (mover_number p k u fit moves) (least.2 u past below)
]

-- the first that can move, by the machine's view
pub least_here : (m : MachineView) (v : View) (at : ℕ) (o : Option ℕ) → v ≡ m.view
    → IsLeastFrom (can_move (concrete v)) at o → IsLeastFrom (can_move (parts m).concrete) at o
least_here m v at o shows least = subst (λ (x : View). IsLeastFrom (can_move (concrete x)) at o) shows least

-- where nobody is passed over, the next one that can move is free
pub none_passed : (p : Program) (m : MachineView) (v : View) (from : ℕ) (o : Option ℕ) → v ≡ m.view
    → IsLeastFrom (can_move (concrete v)) from o → IsNextFree p (parts m) from o
none_passed p m v from None shows least = λ u above moves.
    absurd (both_ways (can_move (parts m).concrete u) (least_here m v from None shows least u above) moves)
none_passed p m v from (Some t) shows least =
    let h = least_here m v from (Some t) shows least in
    (h.0, h.1, λ u above below moves. absurd (both_ways (can_move (parts m).concrete u) (h.2 u above below) moves))

-- else the next one that is free from that on
pub some_passed : (p : Program) (m : MachineView) (v : View) (from t : ℕ) (o : Option ℕ) → v ≡ m.view
    → IsLeastFrom (can_move (concrete v)) from (Some t) → IsNextFree p (parts m) t o → IsNextFree p (parts m) from o
some_passed p m v from t None shows least free = λ u above moves. elim (cases_lt u t) [
  | inl less ↦ absurd (both_ways (can_move (parts m).concrete u) ((least_here m v from (Some t) shows least).2 u above less) moves)
  | inr past ↦ free u past moves
]
some_passed p m v from t (Some next) shows least free =
    let h = least_here m v from (Some t) shows least in (
      omega (arith, h.0, free.0),
      free.1,
      λ u above below moves. elim (cases_lt u t) [
        | inl less ↦ absurd (both_ways (can_move (parts m).concrete u) (h.2 u above less) moves)
        | inr past ↦ free.2 u past below moves
      ],
    )

-- the next one behind one that is passed over
pub goes_on : (w : Waiting) (t next : ℕ) → has_bit w.ready.words t ≡ false
    → IsLeastFrom (has_bit w.ready.words) t (Some next) → t < next
goes_on w t next out least = elim (cases_lt t next) [
  | inl less ↦ less
  | inr past ↦
      let same : t ≡ next = omega (arith, past, least.0) in
      absurd (both_ways (has_bit w.ready.words t) out (ap (has_bit w.ready.words) same ∙ least.1))
]

pub held_all : (p : Program) (k : PieceConcrete) (from at : ℕ) → IsHeldUpTo p k from at
    → IsLeastFrom (can_move k.concrete) at None → (u : ℕ) → from ≤ u → can_move k.concrete u ≡ true → IsHeldUp p k u
held_all p k from at before none u above moves = elim (cases_lt u at) [
  | inl less ↦ before u above less moves
  | inr past ↦ absurd (both_ways (can_move k.concrete u) (none u past) moves)
]

-- what a round finds
pub free_at : (p q : Program) (k j : PieceConcrete) (from : ℕ) (o : Option ℕ) → q ≡ p → j ≡ k → IsNextFree q j from o
    → IsNextFree p k from o
free_at p q k j from o program same free =
    subst (λ (x : Program). IsNextFree x k from o) program (subst (λ (x : PieceConcrete). IsNextFree q x from o) same free)

pub around_at : (p q : Program) (k j : PieceConcrete) (last : ℕ) (o : Option ℕ) → q ≡ p → j ≡ k → IsNextAround q j last o
    → IsNextAround p k last o
around_at p q k j last o program same around =
    subst (λ (x : Program). IsNextAround x k last o) program (subst (λ (x : PieceConcrete). IsNextAround q x last o) same around)

-- those before the next one can make no entry, where those before the number can't from which it was searched
pub stopped_to : (p : Program) (limit : ℕ) (h : LogState) (from t : ℕ)
    → ((u : ℕ) → u < from → can_move h.concrete.concrete u ≡ true → IsStopped p limit h.log h.concrete u)
    → IsNextFree p h.concrete from (Some t) → (u : ℕ) → u < t → can_move h.concrete.concrete u ≡ true
    → IsStopped p limit h.log h.concrete u
stopped_to p limit h from t before free u below moves = elim (cases_lt u from) [
  | inl less ↦ before u less moves
  | inr past ↦ inr (free.2 u past below moves)
]

pub all_stopped : (p : Program) (limit : ℕ) (h : LogState) (from : ℕ)
    → ((u : ℕ) → u < from → can_move h.concrete.concrete u ≡ true → IsStopped p limit h.log h.concrete u)
    → IsNextFree p h.concrete from None → (u : ℕ) → can_move h.concrete.concrete u ≡ true
    → IsStopped p limit h.log h.concrete u
all_stopped p limit h from before free u moves = elim (cases_lt u from) [
  | inl less ↦ before u less moves
  | inr past ↦ inr (free u past moves)
]

-- an entry that was made is one of the thread's own, whichever bucket it took
pub made_so : (p : Program) (k k' : PieceConcrete) (t : ℕ) (a : Attempt) → is_made a ≡ true → a ≢ Accessed
    → HasEntered p k t k' → TriedSo p k t a k'
made_so p k k' t Accessed made other entered = absurd (other refl)
made_so p k k' t Made made other entered = entered
made_so p k k' t (Took bucket) made other entered = entered
made_so p k k' t (Wants bucket) made other entered = absurd cc
made_so p k k' t HeldUp made other entered = absurd cc
made_so p k k' t Refused made other entered = absurd cc

pub made_entered : (p : Program) (k k' : PieceConcrete) (t : ℕ) (a : Attempt) → ((a ≡ Accessed) ⊎ (a ≡ Made))
    → TriedSo p k t a k' → HasEntered p k t k'
made_entered p k k' t a is tried = elim is [
  | inl e ↦ (subst (λ (b : Attempt). TriedSo p k t b k') e tried).0
  | inr e ↦ subst (λ (b : Attempt). TriedSo p k t b k') e tried
]

-- what is noted of an obstacle
pub wants_if : (p : Program) (k : PieceConcrete) (t : ℕ) (o : Obstacle) → ((b : ℕ) → o ≡ First b → WantsBucket p k t b)
    → WantsIf p k t o
wants_if p k t (First b) h = h b refl
wants_if p k t Other h = tt

pub wants_at : (p q q' : Program) (k k' : PieceConcrete) (t : ℕ) (o : Obstacle) → q ≡ p → q' ≡ q → k' ≡ k
    → WantsIf q' k t o → WantsIf p k' t o
wants_at p q q' k k' t o is same there wants =
    subst (λ (x : Program). WantsIf x k' t o) (same ∙ is) (subst (λ (x : PieceConcrete). WantsIf q' x t o) (sym there) wants)

pub written_twice : {A : Type 0} → (xs : List A) (i : ℕ) (x y : A) → slice_set (slice_set xs i x) i y ≡ slice_set xs i y
written_twice [] i x y = refl
written_twice (z ∷ zs) zero x y = refl
written_twice (z ∷ zs) (suc i) x y = ap (λ ws. z ∷ ws) (written_twice zs i x y)

-- at the start
got_replicate : (n b : ℕ) (x s : ThreadBits) → slice_get (replicate n x) b ≡ Some s → x ≡ s
got_replicate zero b x s h = absurd cc
got_replicate (suc n) zero x s h = cc
got_replicate (suc n) (suc b) x s h = got_replicate n b x s h

no_bit : (b : ℕ) → bit_at 0 b ≡ 1 → ⊥
no_bit b is = absurd (omega (arith, is, bit_at-zero b))

-- no bucket is shut
pub none_shut : (k : PieceConcrete) (w : Waiting) → w.shut ≡ 0 → AllHeld k w
none_shut k w none = λ bucket inside is. absurd (no_bit bucket (ap (λ (n : ℕ). bit_at n bucket) (sym none) ∙ is))

pub none_wait : (p : Program) (k : PieceConcrete) (w : Waiting) (n m : ℕ) (none : ThreadBits)
    → w.wants ≡ replicate n None → w.wanting ≡ replicate m none → w.shut ≡ 0 → ((t : ℕ) → has_bit none.words t ≡ false)
    → ((t : ℕ) → IsMember t → has_bit w.ready.words t ≡ true) → AllWait p k w
none_wait p k w n m none wants wanting shut nobody ready = record {
  want = want_as p k (replicate n None) w.wants wants (none_want p k n);
  sound = record {
    named = λ b t s at some has.
        let one : none ≡ s = got_replicate m b none s (sym (ap (λ (xs : List ThreadBits). slice_get xs b) wanting) ∙ at) in
        absurd (both_ways (has_bit none.words t) (nobody t) (ap (λ (z : ThreadBits). has_bit z.words t) one ∙ has));
    passed = λ t is out. absurd (both_ways (has_bit w.ready.words t) out (ready t is));
    few = λ t b is. absurd (none_noted n t b (sym (ap (λ (xs : List (Option ℕ)). slice_get xs t) wants) ∙ is));
  };
  held = λ b inside is. absurd (no_bit b (sym (ap (λ (x : ℕ). bit_at x b) shut) ∙ is));
}

-- a run has as many buckets as at its start
entry_apart : (p : Program) (k k' : PieceConcrete) (e : Entry) → IsFit p k → Enters p k e k' → Apart p k k' e.thread
entry_apart p k k' e fit (inl own) = entered_apart p k k' e fit own
entry_apart p k k' e fit (inr outside) = by outside.gives
  where
    by : OutsidePiece p k e.thread outside.event k' → Apart p k k' e.thread
    by (inl wakes) = outside_apart p k k' e.thread outside.event fit wakes
    by (inr kills) = kill_apart p k k' e.thread outside.event fit kills

runs_buckets : (p : Program) (k k' : PieceConcrete) (log : List Entry) → IsFit p k → Runs p k log k'
    → k'.buckets ≡ k.buckets
runs_buckets p k k' [] fit same = ap (λ (q : PieceConcrete). q.buckets) (sym same)
runs_buckets p k k' (e ∷ es) fit runs =
    let a = entry_apart p k runs.0 e fit runs.1 in runs_buckets p runs.0 k' es a.fit runs.2 ∙ a.buckets

pub legal_buckets : (p : Program) (log : List Entry) (k : PieceConcrete) → Runs p (opening p) log k
    → k.buckets ≡ run_buckets
legal_buckets p log k runs = runs_buckets p (opening p) k log (opening_fit p run_buckets (omega arith)) runs

-- whether a bucket is held, as the code sees it
some_there : (o : Option ℕ) → is_some o ≡ true → (u : ℕ) × (o ≡ Some u)
some_there None some = absurd cc
some_there (Some u) some = (u, refl)

pub held_some : (m : MachineView) (v : View) (b : ℕ) (o : Option ℕ) (s : Bool) → v ≡ m.view → o ≡ holder_of v.sleepers b
    → is_some o ≡ not s → s ≡ false → (u : ℕ) × ((parts m).holder b ≡ Some u)
held_some m v b o s shows is tells some =
    let u = some_there o (tells ∙ ap not some) in
    (u.0, sym (ap (λ (x : View). holder_of x.sleepers b) shows) ∙ sym is ∙ u.1)

pub inside_here : (m : MachineView) (v : View) (b : ℕ) → v ≡ m.view → (parts m).buckets ≡ run_buckets → b < run_buckets
    → b < bucket_count v.sleepers
inside_here m v b shows many inside =
    subst (λ (n : ℕ). b < n) (sym (ap (λ (x : View). bucket_count x.sleepers) shows ∙ many)) inside

-- a bit of the buckets that are shut
pub put_bit : (shut b c : ℕ) → b < 64 → c ≢ b → bit_at (bit_or shut (1 * 2 ^ b % 18446744073709551616)) c ≡ bit_at shut c
put_bit shut b c inside other = bit_at_set_other w64 shut b inside c other

pub bit_put : (shut b : ℕ) → b < 64 → bit_at (bit_or shut (1 * 2 ^ b % 18446744073709551616)) b ≡ 1
bit_put shut b inside = bit_at_set_same w64 shut b inside

pub bit_cleared : (shut b : ℕ) → b < 64
    → bit_at (bit_and shut (bit_not w64 (1 * 2 ^ b % 18446744073709551616))) b ≡ 0
bit_cleared shut b inside = bit_at_clear_same w64 shut b inside

pub clear_bit : (shut b c : ℕ) → b < 64 → c < 64 → c ≢ b
    → bit_at (bit_and shut (bit_not w64 (1 * 2 ^ b % 18446744073709551616))) c ≡ bit_at shut c
clear_bit shut b c inside within other = bit_at_clear_other w64 shut b inside c within other
