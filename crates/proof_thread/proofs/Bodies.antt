-- Bodies, one behind the other, and their code.
use Rattle.std.proofs.Common.{◌≡◌, ℕ, ◌+◌, ◌<◌, ◌≤◌, List, ◌++◌, length, ap, subst, arith, length-append, Contains}
use Rattle.std.proofs.lemmas.List.Elements.{Contains-append_left, Contains-append_right}
use Rattle.isa.specs.declared.instr.Instr.TheVariants.{Jump}
use Rattle.proof_thread.specs.Deferrals.{MarkedImage, deferred_by_mark}
use Rattle.program.specs.Trees.{Statement, Block, Done, Then, followed_by}
use Rattle.program.specs.Scope.{Scope}
use Rattle.program.specs.Typing.{BlockFits}
use Rattle.program.specs.Measures.{block_room, most_room, block_calls, calls}
use Rattle.program.specs.Tokens.{block_tokens}
use Rattle.lowering.specs.Statements.{Setting, statement_code, block_code}
use Rattle.locals.specs.declared.frame.Locals.{Locals}
use Rattle.locals.specs.declared.frame.Frame.{Frame as MachineFrame}
use Rattle.locals.specs.Threads.{Runs}
use Rattle.proof_thread.specs.Walks.{View, StandAt, WalksWithin, stays}
use Rattle.proof_thread.specs.Following.{nesting, block_nesting, Implements, finishes, states, follows, AreSound}
use Rattle.proof_thread.proofs.Walking.{front_stands, back_stands, within_on, one_step, look_here}

-- the code of a block, and then what comes after it
pub block_implements : (image : MarkedImage) (c : Setting) (most : ℕ) (b : Block) (depth jumps place : ℕ) (rest : Block)
    → StandAt image place (block_code c b place) → jumps ≤ depth → depth + block_nesting b ≤ most
    → Implements image c most jumps (place + length (block_code c b place)) rest
    → (k : ℕ) × (k ≤ depth) × Implements image c most k place (followed_by b rest)
block_implements image c most Done depth jumps place rest h few deep more =
    let e : place + 0 ≡ place = omega arith in
    (jumps, few, subst (λ n. Implements image c most jumps n rest) e more)
block_implements image c most (Then s b) depth jumps place rest h few deep more =
    let here = statement_code c s place in
    let next = place + length here in
    let e : place + length (here ++ block_code c b next) ≡ next + length (block_code c b next) = omega
    (arith, length-append here (block_code c b next)) in
    let r = block_implements image c most b depth jumps next rest (back_stands image place here _ h) few
    (omega (arith, deep)) (subst (λ n. Implements image c most jumps n rest) e more) in
    (0, omega arith, states depth r.0 (front_stands image place here _ h) r.1 (omega (arith, deep)) r.2)

-- jumps lead to the code of the next statement, or to the end
pub after_jumps : (image : MarkedImage) (c : Setting) (most t : ℕ) (view : View) (operands : List ℕ) (l : Locals)
    (fs : List MachineFrame) → {k place : ℕ} {rest : Block} → Implements image c most k place rest
    → (to : ℕ) × WalksWithin image t view k (Runs place operands l fs) (Runs to operands l fs)
    × Implements image c most 0 to rest
after_jumps image c most t view operands l fs (finishes {place = place} h) =
    (place, record { count = 0; few = omega arith; walk = stays }, finishes h)
after_jumps image c most t view operands l fs (states {place = place} depth jumps h few deep more) =
    (place, record { count = 0; few = omega arith; walk = stays }, states depth jumps h few deep more)
after_jumps image c most t view operands l fs (follows {place = place} {jumps = k} to h more) =
    let r = after_jumps image c most t view operands l fs more in
    let step = one_step image t view (Runs place operands l fs) (Runs to operands l fs)
    (look_here image t view place (Jump to) operands l fs h) (ap deferred_by_mark h.1) in (
      r.0,
      subst (λ n. WalksWithin image t view n (Runs place operands l fs) (Runs r.0 operands l fs))
          (omega arith) (within_on image t view 1 k _ _ _ step r.1),
      r.2,
    )

-- the statement at a place, and what comes after it
pub record Head (image : MarkedImage) (c : Setting) (most place : ℕ) (s : Statement) (rest : Block) : Type 0 where
  pub depth : ℕ
  pub jumps : ℕ
  pub here : StandAt image place (statement_code c s place)
  pub few : jumps ≤ depth
  pub deep : depth + nesting s ≤ most
  pub more : Implements image c most jumps (place + length (statement_code c s place)) rest

pub head_of : {image : MarkedImage} {c : Setting} {most place : ℕ} {s : Statement} {rest : Block}
    → Implements image c most 0 place (Then s rest) → Head image c most place s rest
head_of (states depth jumps h few deep more) = record {
  depth = depth;
  jumps = jumps;
  here = h;
  few = few;
  deep =
      deep;
  more = more;
}

pub are_sound-followed : (height : ℕ → ℕ) (width number : ℕ) (scope : Scope) (b rest : Block)
    → AreSound height width number scope b → AreSound height width number scope rest
    → AreSound height width number scope (followed_by b rest)
are_sound-followed height width number scope Done rest h k = k
are_sound-followed height width number scope (Then s b) rest h k =
    (h.0, are_sound-followed height width number scope b rest h.1 k)

pub block_sound : (height : ℕ → ℕ) (width number : ℕ) (scope : Scope) (b : Block) → BlockFits scope b →
    ((callee : ℕ) → Contains (block_calls b) callee → height callee < height number) → block_room b ≤ most_room
    → block_tokens b ≤ width → AreSound height width number scope b
block_sound height width number scope Done f l r w = tt
block_sound height width number scope (Then s b) f l r w = (
  record {
    fits = f.0;
    lower = λ n h. l n (Contains-append_left (calls s) (block_calls b) n h);
    room =
        omega (arith, r);
    tokens = omega (arith, w);
  },
  block_sound height width number scope b f.1 (λ n h. l n (Contains-append_right (calls s) (block_calls b) n h))
      (omega (arith, r)) (omega (arith, w)),
)
