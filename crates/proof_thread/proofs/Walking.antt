-- Walks one after another, and what leads on from an evaluation.
use Rattle.std.proofs.Common.{◌≡◌, ℕ, ◌+◌, ◌<◌, ◌≤◌, List, [], ◌∷◌, ◌++◌, length, None, Option, refl, ap}
use Rattle.std.proofs.Common.{◌∙◌, subst, arith, ℤ, lt-ltb}
use Rattle.words.specs.Signed.{word_of}
use Rattle.words.specs.declared.outcome.Cause.TheVariants.{Faulted}
use Rattle.words.specs.Versions.{most_of}
use Rattle.isa.specs.declared.instr.Instr.{Instr}
use Rattle.proof_thread.specs.Deferrals.{MarkedImage, IsAt, mark_of, deferred_by_mark}
use Rattle.lowering.specs.declared.mark.Mark.{Mark}
use Rattle.lowering.specs.declared.mark.Marked.{Marked}
use Rattle.lowering.specs.Marks.{with_mark}
use Rattle.program.specs.declared.kinds.ValueType.{ValueType}
use Rattle.locals.specs.declared.frame.Locals.{Locals}
use Rattle.locals.specs.declared.frame.Frame.{Frame}
use Rattle.locals.specs.Threads.{Thread, Runs, Dies}
use Rattle.locals.specs.Looks.{Goes, Asks, AskLoad, look, effect, at_place, if_so, push_effect}
use Rattle.program.specs.Trees.{Program as Source}
use Rattle.meaning.specs.Values.{Variables, Evaluated, Value, Fails, and_then}
use Rattle.proof_thread.specs.Variables.{SameIn}
use Rattle.proof_thread.specs.Typed.{HasValue}
use Rattle.proof_thread.specs.Evaluation.{OfType}
use Rattle.proof_thread.specs.Walks.{View, empty_view, StandAt, Reads, Walks, stays, goes, loads, WalksWithin, Gives}
use Rattle.proof_thread.proofs.Operators.{shown}

pub front_stands : (p : MarkedImage) (place : ℕ) (a b : List Marked) → StandAt p place (a ++ b) → StandAt p place a
front_stands p place [] b h = tt
front_stands p place (i ∷ a) b h = (h.0, front_stands p (place + 1) a b h.1)

pub back_stands : (p : MarkedImage) (place : ℕ) (a b : List Marked) → StandAt p place (a ++ b) → StandAt p
    (place + length a) b
back_stands p place [] b h = let e : place ≡ place + 0 = omega arith in subst (λ n. StandAt p n b) e h
back_stands p place (i ∷ a) b h =
    let e : place + 1 + length a ≡ place + length (i ∷ a) = omega arith in
    subst (λ n. StandAt p n b) e (back_stands p (place + 1) a b h.1)

module _ (p : MarkedImage) (t : ℕ) (s : View) where
  pub walks_on : (m : ℕ) (z : Thread) → {n : ℕ} {x y : Thread} → Walks p t s n x y
      → Walks p t s m y z → Walks p t s (n + m) x z
  walks_on m z (stays {x = a}) w = subst (λ k. Walks p t s k a z) (omega arith) w
  walks_on m z (goes {n = k} {x = a} h none v) w = subst (λ i. Walks p t s i a z) (omega arith)
      (goes h none (walks_on m z v w))
  walks_on m z (loads {n = k} {x = a} h r v) w = subst (λ i. Walks p t s i a z) (omega arith)
      (loads h r (walks_on m z v w))

  pub within_on : (n m : ℕ) (x y z : Thread) → WalksWithin p t s n x y → WalksWithin p t s m y z
      → WalksWithin p t s (n + m) x z
  within_on n m x y z v w = record {
    count = v.count + w.count;
    few = omega (arith, v.few, w.few);
    walk =
        walks_on w.count z v.walk w.walk;
  }

  pub wider : (n m : ℕ) (x y : Thread) → n ≤ m → WalksWithin p t s n x y → WalksWithin p t s m x y
  wider n m x y le w = record { count = w.count; few = omega (arith, le, w.few); walk = w.walk }

  pub one_step : (x y : Thread) → look p.image t x ≡ Goes y → deferred_by_mark (mark_of p.marks x) ≡ None
      → WalksWithin p t s 1 x y
  one_step x y h none = record { count = 1; few = omega arith; walk = goes h none stays }

  pub one_load : (x : Thread) (a word : ℕ) (k : ℕ → Thread) → look p.image t x ≡ Asks (AskLoad a) k → Reads s a word
      → WalksWithin p t s 1 x (k word)
  one_load x a word k h r = record { count = 1; few = omega arith; walk = loads h r stays }

  pub wider_gives : (n m : ℕ) (x : Thread) (e : Evaluated) (place : ℕ) (operands : List ℕ) (l : Locals)
      (fs : List Frame) → n ≤ m → Gives p t s n x e place operands l fs
      → Gives p t s m x e place operands l fs
  wider_gives n m x (Value z) place operands l fs le g = wider n m x _ le g
  wider_gives n m x (Fails fault) place operands l fs le g = wider n m x _ le g

  pub walk_gives : (n m : ℕ) (x y : Thread) (e : Evaluated) (place : ℕ) (operands : List ℕ) (l : Locals)
      (fs : List Frame) → WalksWithin p t s n x y → Gives p t s m y e place operands l fs
      → Gives p t s (n + m) x e place operands l fs
  walk_gives n m x y (Value z) place operands l fs w g = within_on n m x y _ w g
  walk_gives n m x y (Fails fault) place operands l fs w g = within_on n m x y _ w g

  -- what a value leads to
  pub and_gives : (most made : ℕ) → (u : ValueType) (n m : ℕ) (x : Thread) (e : Evaluated) (go : ℤ
      → Evaluated) (place1 : ℕ)
      (operands1 : List ℕ) (place : ℕ) (operands : List ℕ) (l : Locals) (fs : List Frame)
      → Gives p t s n x e place1 operands1 l fs → OfType most made u e →
      ((z : ℤ) → HasValue most made u z → Gives p t s m (Runs place1 (word_of z ∷ operands1) l fs)
      (go z) place operands l fs) → Gives p t s (n + m) x (and_then e go) place operands l fs
  and_gives most made u n m x (Value z) go place1 operands1 place operands l fs g h k = walk_gives n m x _
      (go z) place operands l fs g (k z h)
  and_gives most made u n m x (Fails fault) go place1 operands1 place operands l fs g h k =
      wider n (n + m) x (Dies (Faulted fault))
      (omega arith) g

  -- one instruction that shows an evaluation
  pub shown_gives : (x : Thread) (e : Evaluated) (place : ℕ) (operands : List ℕ) (l : Locals) (fs : List Frame)
      → look p.image t x ≡ shown e operands place l fs → deferred_by_mark (mark_of p.marks x) ≡ None
      → Gives p t s 1 x e (place + 1) operands l fs
  shown_gives x (Value z) place operands l fs h none = one_step x _ h none
  shown_gives x (Fails fault) place operands l fs h none = one_step x _ h none

  -- what the look at a place is, by its instruction
  pub look_here : {mark : Mark} (place : ℕ) (i : Instr) (operands : List ℕ) (l : Locals) (fs : List Frame)
      → IsAt p place (with_mark mark i) → look p.image t (Runs place operands l fs) ≡ at_place place l fs
      (effect (most_of p.image.version) t i operands l)
  look_here place i operands l fs h = rw (h.0) refl

  -- a word is pushed where there is room
  pub push_step : (place v : ℕ) (operands : List ℕ) (l : Locals) (fs : List Frame) → look p.image t
      (Runs place operands l fs) ≡ at_place place l fs (push_effect v operands) → length operands < 512 → look p.image t
      (Runs place operands l fs) ≡ Goes (Runs (place + 1) (v ∷ operands) l fs)
  push_step place v operands l fs h room =
      h ∙ ap (λ b. if_so b (Goes (Runs (place + 1) (v ∷ operands) l fs))) (lt-ltb (length operands) 512 room)

pub and_typed : (most made : ℕ) → (u t : ValueType) (e : Evaluated) (go : ℤ → Evaluated) → OfType most made u e →
    ((z : ℤ) → HasValue most made u z → OfType most made t (go z)) → OfType most made t (and_then e go)
and_typed most made u t (Value z) go h k = k z h
and_typed most made u t (Fails fault) go h k = tt

-- a walk that reads nothing is one in any view
seen_walk : (p : MarkedImage) (t : ℕ) (source : Source) (s : View) → {n : ℕ} {x y : Thread}
    → Walks p t (empty_view source) n x y → Walks p t s n x y
seen_walk p t source s stays = stays
seen_walk p t source s (goes h none w) = goes h none (seen_walk p t source s w)
seen_walk p t source s (loads h r w) = let none = r.mine in absurd cc

pub seen : (p : MarkedImage) (t : ℕ) (source : Source) (s : View) (n : ℕ) (x y : Thread)
    → WalksWithin p t (empty_view source) n x y → WalksWithin p t s n x y
seen p t source s n x y w = record { count = w.count; few = w.few; walk = seen_walk p t source s w.walk }

-- a walk reads the same where the own monitor's variables are the same
same_walk : (p : MarkedImage) (t : ℕ) (source : Source) (own : Option ℕ) (v v' : Variables) → SameIn own v v' → {n : ℕ}
    {x y : Thread} → Walks p t (record { program = source; own = own; variables = v }) n x y
    → Walks p t (record { program = source; own = own; variables = v' }) n x y
same_walk p t source own v v' same stays = stays
same_walk p t source own v v' same (goes h none w) = goes h none (same_walk p t source own v v' same w)
same_walk p t source own v v' same (loads h r w) =
    loads h (record {
      member = r.member;
      index = r.index;
      mine = r.mine;
      variable = r.variable;
      there = r.there;
      shown = r.shown ∙ ap word_of (same r.member.monitor r.mine r.member.number r.index);
    }) (same_walk p t source own v v' same w)

pub same_within : (p : MarkedImage) (t : ℕ) (source : Source) (own : Option ℕ) (v v' : Variables) (n : ℕ) (x y : Thread)
    → SameIn own v v' → WalksWithin p t (record { program = source; own = own; variables = v }) n x y
    → WalksWithin p t (record { program = source; own = own; variables = v' }) n x y
same_within p t source own v v' n x y same w =
    record { count = w.count; few = w.few; walk = same_walk p t source own v v' same w.walk }
