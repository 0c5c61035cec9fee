-- What is heard of a step, as the code tells the step and as the machine's definition does.
use Rattle.std.proofs.Common.{◌≡◌, ℕ, ◌==◌, ◌&&◌, Bool, true, false, refl, ap, sym, ◌∙◌}
use Rattle.std.proofs.lemmas.Bool.{eq-eqb}
use Rattle.words.specs.declared.mem.Addr.{Addr}
use Rattle.words.specs.LockWord.{owner_of}
use Rattle.locals.specs.declared.request.Request.{Request}
use Rattle.locals.specs.declared.request.Request.TheVariants as told
use Rattle.locals.specs.Looks.{Request as RequestOf, AskLoad, Look, Goes, Asks, Leaves, Breaks, Rests}
use Rattle.locals.specs.Requests.{next_step_of, request_step}
use Rattle.program.specs.Trees.{Program}
use Rattle.proof_simulation.specs.Ordering.{completes, is_raise, raises_number}
use Rattle.protocol.specs.Word.{owner}
use Rattle.log_simulation.specs.Entries.{is_visible}
use Rattle.log_simulation.specs.Requests.{raises, visible_request, visible_step}

-- a compare-and-swap that found what it expected took a free lock, or an owned one
pub taken : (p : Program) (request : Request) (a : Addr) (expected new value t : ℕ) → value ≡ expected
    → t ≡ owner_of expected → request ≡ told.CompareSwap a expected new
    → (t == 0) ≡ visible_request p request value
unfolding owner
taken p request a expected new value t same is here =
    ap (λ n. n == 0) is ∙ sym (by_first (value == expected) (owner expected == 0) (eq-eqb value expected same))
    ∙ sym (ap (λ r. visible_request p r value) here)
  where
    by_first : (b d : Bool) → b ≡ true → (b && d) ≡ d
    by_first true d h = refl
    by_first false d h = absurd cc

by_request : (p : Program) (word : ℕ → ℕ) (t : ℕ) (request : RequestOf) (v : ℕ)
    → visible_step p word t (request_step request) v ≡ completes p request v
by_request p word t (AskLoad a) v = refl
by_request p word t request v = refl

-- the step of a thread that looks so
pub visible_so : (p : Program) (word : ℕ → ℕ) (t : ℕ) (l : Look) (v : ℕ)
    → visible_step p word t (next_step_of l) v ≡ is_visible p word t l v
visible_so p word t (Goes x) v = refl
visible_so p word t (Asks request go) v = by_request p word t request v
visible_so p word t (Leaves phase) v = refl
visible_so p word t Breaks v = refl
visible_so p word t Rests v = refl

raises_request : (request : RequestOf) → raises (request_step request) ≡ is_raise request
raises_request (AskLoad a) = refl
raises_request request = refl

-- whether it raises a number
pub raises_so : (l : Look) → raises (next_step_of l) ≡ raises_number l
raises_so (Goes x) = refl
raises_so (Asks request go) = raises_request request
raises_so (Leaves phase) = refl
raises_so Breaks = refl
raises_so Rests = refl
