-- What is seen of a run in pieces is what is seen of its state with whole calls.
use Rattle.std.proofs.Common.{◌≡◌, ◌⊎◌, ◌∙◌, ℕ, false, is_some, List, Option, Some, None, refl, sym, ap}
use Rattle.std.proofs.Common.{inl, inr, subst}
use Rattle.words.specs.Process.{process_word}
use Rattle.words.proofs.Updates.{put_same}
use Rattle.futexcalls.specs.declared.pieces.FutexCall.TheVariants.{Wait}
use Rattle.futexcalls.specs.declared.pieces.FutexPhase.{FutexPhase}
use Rattle.futexcalls.specs.declared.pieces.FutexPhase.TheVariants.{First, Second, Compare, Act}
use Rattle.isa.specs.Programs.{Program as Image}
use Rattle.locals.specs.Threads.{Thread, Runs, Dies, Exits, is_dying}
use Rattle.locals.specs.Looks.{Request, AskLoad, AskWait, Look, Asks, look}
use Rattle.machine.specs.States.{State, with_thread}
use Rattle.machine.specs.AbstractServing.{IsUnserved}
use Rattle.machine.specs.Runs.{Step, CanStep, NextIsBroken, IsBroken, has_ended}
use Rattle.machine.specs.PieceStates.{PieceState, IsHeldRight, call_at, called, committed, committed_at}
use Rattle.machine.specs.PieceSteps.{NextPieceIsBroken}
use Rattle.program.specs.Trees.{Program}
use Rattle.refinement.specs.Refines.{Sleeps, HasEnded, RunsFreely, Explained}
use Rattle.refinement.specs.Seen.{end_by}
use Rattle.refinement.proofs.Waiting.{still_so}
use Rattle.refinement.specs.Pieces.{ExplainedInPieces}
use Rattle.meaning.specs.Labels.{Action}
use Rattle.proof_pieces.specs.Whole.{either, behind, resumed, whole_at, whole}
use Rattle.proof_pieces.proofs.Calls.{asks_alive, waits_alive}
use Rattle.proof_pieces.proofs.Rests.{rests, holders_go_on, breaks_both, sleeps_so}

-- a thread that isn't dying has no end
alive_end : (word : ℕ) (x : Thread) → is_dying x ≡ false → end_by word (Some x) ≡ None
alive_end word (Runs place operands locals callers) h = refl
alive_end word (Dies cause) h = refl
alive_end word (Exits phase) h = absurd cc

-- nor has one that goes on behind a wait
resumed_end : (p : Image) (t word : ℕ) (x : Thread) (l : Look) → look p t x ≡ l
    → end_by word (Some (resumed l x)) ≡ end_by word (Some x)
resumed_end p t word x (Asks (AskWait a expected) go) looks =
    alive_end word (go 0) (waits_alive p t x a expected go looks)
    ∙ sym (alive_end word x (asks_alive p t x (Wait (record { 0 = a }) expected) go looks))
resumed_end p t word x l looks = refl

behind_end : (p : Image) (t word : ℕ) (phase : FutexPhase) (x : Thread)
    → end_by word (Some (behind phase (look p t x) x)) ≡ end_by word (Some x)
behind_end p t word First x = refl
behind_end p t word Second x = refl
behind_end p t word Compare x = refl
behind_end p t word Act x = resumed_end p t word x (look p t x) refl

whole_end : (p : Image) (t word : ℕ) (phase : FutexPhase) (o : Option Thread)
    → end_by word (whole_at p t phase o) ≡ end_by word o
whole_end p t word phase None = refl
whole_end p t word phase (Some x) = behind_end p t word phase x

-- and it was made in the whole where it was
whole_made : (p : Image) (t : ℕ) (phase : FutexPhase) (o : Option Thread) → is_some o ≡ is_some (whole_at p t phase o)
whole_made p t phase None = refl
whole_made p t phase (Some x) = refl

-- a thread stands in the whole where it stands, or it has committed to sleep
stands_behind : (phase : FutexPhase) (l : Look) (x : Thread)
    → (behind phase l x ≡ x) ⊎ ((a : ℕ) × (committed_at phase (call_at l) ≡ Some a))
stands_behind First l x = inl refl
stands_behind Second l x = inl refl
stands_behind Compare l x = inl refl
stands_behind Act (Asks (AskWait a expected) go) x = inr (a, refl)
stands_behind Act l x = inl refl

either_some : (o : Option ℕ) (a : ℕ) → (b : ℕ) × (either o (Some a) ≡ Some b)
either_some None a = (a, refl)
either_some (Some b) a = (b, refl)

-- local steps change nothing that tells whether a request can be served
unserved_with : (p : Image) (s : PieceState) (t : ℕ) (y : Thread) (request : Request)
    → IsUnserved request (with_thread s.base t y) → IsUnserved request (with_thread (whole p s) t y)
unserved_with p s t y (AskLoad a) h = h
unserved_with p s t y request h = h

broken_with : (p : Image) (s : PieceState) (t : ℕ) (y : Thread) (l : Look) → IsBroken (with_thread s.base t y) l
    → IsBroken (with_thread (whole p s) t y) l
broken_with p s t y (Asks request go) h = unserved_with p s t y request h
broken_with p s t y l h = h

module _ (p : Image) (s : PieceState) where
  pub whole_first : (t : ℕ) (x : Thread) → s.phase t ≡ First → s.base.thread t ≡ Some x → (whole p s).thread t ≡ Some x
  whole_first t x first stands = ap (λ f. whole_at p t f (s.base.thread t)) first ∙ ap (whole_at p t First) stands

  pub awake_first : (t : ℕ) → s.phase t ≡ First → s.base.asleep t ≡ None → (whole p s).asleep t ≡ None
  awake_first t first awake = ap (λ o. either o (committed p s t)) awake
      ∙ ap (λ f. committed_at f (called p t (s.base.thread t))) first

  -- a step that may not be behind local steps is one in the whole
  pub broken_behind : (t : ℕ) (y : Thread) → s.base.asleep t ≡ None
      → NextPieceIsBroken p (record s { base = with_thread s.base t y }) t → NextIsBroken p (with_thread (whole p s) t y) t
  broken_behind t y awake broken = record {
    thread = broken.1.thread;
    stands = put_same (whole p s).thread t (Some y) ∙ sym (put_same s.base.thread t (Some y)) ∙ broken.1.stands;
    awake = awake_first t broken.0 awake;
    breaks = broken_with p s t y (look p t broken.1.thread) broken.1.breaks;
  }

  -- a thread of the whole is the machine's, or sleeps
  same_or_sleeps : (t : ℕ) (x y : Thread) → s.base.thread t ≡ Some x → (whole p s).thread t ≡ Some y
      → ((whole p s).thread t ≡ s.base.thread t) ⊎ Sleeps (whole p s) t
  same_or_sleeps t x y base stands = elim (stands_behind (s.phase t) (look p t x) x) [
    | inl same ↦ inl (ap (whole_at p t (s.phase t)) base ∙ ap (λ z. Some z) same ∙ sym base)
    | inr (a, commits) ↦ inr (
        let here : committed p s t ≡ Some a =
        ap (λ o. committed_at (s.phase t) (called p t o)) base ∙ commits in
        let some = either_some (s.base.asleep t) a in
        (some.0, ap (either (s.base.asleep t)) here ∙ some.1))
  ]

  abbrev IsOutside : State → ℕ → Type 0
  IsOutside k t = Sleeps k t ⊎ (HasEnded k t ⊎ RunsFreely k t)

  outside_whole : (t : ℕ) → (whole p s).thread t ≡ s.base.thread t → IsOutside s.base t → IsOutside (whole p s) t
  outside_whole t same (inl sleeps) = inl (sleeps.0, sleeps_so p s t sleeps.0 sleeps.1)
  outside_whole t same (inr (inl ended)) = inr (inl (ap has_ended same ∙ ended))
  outside_whole t same (inr (inr free)) = inr (inr (free.0, free.1, free.2, free.3, same ∙ free.4, free.5))

  -- where all are outside the taking and giving up of locks, they are in the whole
  all_outside : ((t : ℕ) (x : Thread) → s.base.thread t ≡ Some x → IsOutside s.base t)
      → (t : ℕ) (y : Thread) → (whole p s).thread t ≡ Some y → IsOutside (whole p s) t
  all_outside outside t y stands = by_thread (s.base.thread t) refl
    where
      by_thread : (o : Option Thread) → s.base.thread t ≡ o → IsOutside (whole p s) t
      by_thread None none = absurd (let e : None ≡ Some y = sym (ap (whole_at p t (s.phase t)) none) ∙ stands in cc)
      by_thread (Some x) base = elim (same_or_sleeps t x y base stands) [
        | inl same ↦ outside_whole t same (outside t x base)
        | inr sleeps ↦ inl sleeps
      ]

-- what explains the whole explains the state in pieces, by the same actions
pub explained_in_pieces : (p : Program) (image : Image) (steps : List Step) (s : PieceState) → IsHeldRight image s
    → (e : Explained p image steps (whole image s)) (actions : List Action) → e.actions ≡ actions
    → (x : ExplainedInPieces p image steps s) × (x.actions ≡ actions)
explained_in_pieces p image steps s right e actions same = (
  record {
    sound = λ t broken. e.sound t ((breaks_both image s t right).0 broken);
    actions = e.actions;
    source = e.source;
    run = e.run;
    output = e.output;
    variables = e.variables;
    ends = λ q. sym (whole_end image q (s.base.word (process_word q 5)) (s.phase q) (s.base.thread q)) ∙ e.ends q;
    made = λ q. whole_made image q (s.phase q) (s.base.thread q) ∙ e.made q;
    locks = e.locks;
    asleep = λ q a sleeps. e.asleep q a (sleeps_so image s q a sleeps);
    goes_on = λ b u holds. holders_go_on image s b u right holds;
    free = λ rest. (rests image s right rest).0;
    still = λ rest.
        let r = rests image s right rest in
        still_so s.base (subst (λ (x : State). (t : ℕ) → CanStep x t → ⊥) r.1 r.2);
    at_rest = λ rest. e.at_rest (rests image s right rest).2;
    sleepers = λ outside t sleeps.
        e.sleepers (all_outside image s outside) t (sleeps.0, sleeps_so image s t sleeps.0 sleeps.1);
    pace = e.pace;
    strays = e.strays;
    kills = e.kills;
  },
  same,
)
