-- The code of a program is laid out as it should be, and its statements are sound.
use Rattle.std.proofs.Common.{◌≡◌, ℕ, zero, suc, ◌<◌, ◌≤◌, List, [], ◌∷◌, ◌-◌, Option, Some, None, slice_get, refl}
use Rattle.std.proofs.Common.{subst, arith, Contains}
use Rattle.std.proofs.lemmas.List.Elements.{Contains-append_left, Contains-append_right}
use Rattle.words.proofs.Versions.{most_few}
use Rattle.program.specs.declared.kinds.MemberType.TheVariants.{Array}
use Rattle.program.specs.Trees.{Statement, Assign, If, While, Call, Fork, Join, Return, Wait, Notify, Broadcast, Print}
use Rattle.program.specs.Trees.{Abort, Block, Done, Then, Part, NoPart, SomePart, Monitor, Procedure, Program}
use Rattle.program.specs.Scope.{Scope, scope_of, member_in}
use Rattle.program.specs.Typing.{BlockFits}
use Rattle.program.specs.Measures.{block_room, most_room, block_calls, calls}
use Rattle.program.specs.Tokens.{statement_tokens, block_tokens, part_tokens, most_of, most_of_procedures, most_tokens}
use Rattle.program.specs.WellFormed.{WellFormed}
use Rattle.lowering.specs.Cells.{OfMember}
use Rattle.lowering_limits.proofs.Memory.{inside, size}
use Rattle.proof_thread.specs.Variables.{ArraysAreLow}
use Rattle.proof_thread.specs.Builds.{IsBuild}
use Rattle.proof_thread.specs.Following.{AreSound, nesting, block_nesting, part_nesting}
use Rattle.refinement.specs.Built.{build_of}
use Rattle.refinement.proofs.Laying.{all_laid}

mutual
  nesting_tokens : (s : Statement) → nesting s ≤ statement_tokens s
  nesting_tokens (Assign target e) = omega arith
  nesting_tokens (If e b part) = let x = block_tokens_nesting b in let y = part_tokens_nesting part in omega
      (arith, x, y)
  nesting_tokens (While e b) = let x = block_tokens_nesting b in omega (arith, x)
  nesting_tokens (Call q es into) = omega arith
  nesting_tokens (Fork q es into) = omega arith
  nesting_tokens (Join e into part) = let y = part_tokens_nesting part in omega (arith, y)
  nesting_tokens (Return value) = omega arith
  nesting_tokens (Wait c) = omega arith
  nesting_tokens (Notify c) = omega arith
  nesting_tokens (Broadcast c) = omega arith
  nesting_tokens (Print e) = omega arith
  nesting_tokens Abort = omega arith

  block_tokens_nesting : (b : Block) → block_nesting b ≤ block_tokens b
  block_tokens_nesting Done = omega arith
  block_tokens_nesting (Then s b) = let x = nesting_tokens s in let y = block_tokens_nesting b in omega (arith, x, y)

  part_tokens_nesting : (part : Part) → part_nesting part ≤ part_tokens part
  part_tokens_nesting NoPart = omega arith
  part_tokens_nesting (SomePart b) = let y = block_tokens_nesting b in omega (arith, y)

most_nesting : (b : Block) → block_nesting b ≤ most_of b
most_nesting Done = omega arith
most_nesting (Then s b) = let x = nesting_tokens s in let y = most_nesting b in omega (arith, x, y)

most_in : (qs : List Procedure) (n : ℕ) (q : Procedure) → slice_get qs n ≡ Some q
    → most_of q.body ≤ most_of_procedures qs
most_in [] n q h = absurd cc
most_in (r ∷ qs) zero q h = let same : r ≡ q = cc in subst (λ (k : Procedure). most_of k.body ≤ most_of_procedures
    (r ∷ qs)) same (omega arith)
most_in (r ∷ qs) (suc n) q h = let x = most_in qs n q h in omega (arith, x)

body_sound : (height : ℕ → ℕ) (width number : ℕ) (scope : Scope) (b : Block) → BlockFits scope b →
    ((callee : ℕ) → Contains (block_calls b) callee → height callee < height number) → block_room b ≤ most_room
    → most_of b ≤ width → AreSound height width number scope b
body_sound height width number scope Done f l r w = tt
body_sound height width number scope (Then s b) f l r w = (
  record {
    fits = f.0;
    lower = λ n h. l n (Contains-append_left (calls s) (block_calls b) n h);
    room =
        omega (arith, r);
    tokens = omega (arith, w);
  },
  body_sound height width number scope b f.1 (λ n h. l n (Contains-append_right (calls s) (block_calls b) n h))
      (omega (arith, r)) (omega (arith, w)),
)

array_there : (o : Option Monitor) (k n : ℕ) → member_in o k ≡ Some (Array n)
    → (x : Monitor) × (o ≡ Some x) × (slice_get x.members k ≡ Some (Array n))
array_there None k n h = absurd cc
array_there (Some x) k n h = (x, refl, h)

-- an array is short, and lies in the memory
arrays_low : (p : Program) → WellFormed p → ArraysAreLow p
arrays_low p w m n is =
    let there = array_there (slice_get p.monitors m.monitor) m.number n is in
    let few = w.arrays m.monitor there.0 m.number (Array n) there.1 there.2 in
    let last = inside p (OfMember m (n - 1)) (there.0, Array n, there.1, there.2, omega (arith, few.0)) in
    let all = size p in
    let monitors = w.monitors in
    let words = w.words in
    let processes = most_few p.version in
    (few.1, omega (arith, last, all, monitors, words, processes, few.0))

pub is_build : (p : Program) (w : WellFormed p) (made : ℕ) → IsBuild (build_of p w made)
is_build p w made = record {
  version = refl;
  role = λ n q there. (w.procedures n q there).role;
  recovers = w.recovers;
  low = arrays_low p w;
  laid = all_laid p;
  sound = λ n q there. let proper = w.procedures n q there in body_sound w.acyclic.height (most_tokens p) n
      (scope_of p q) q.body proper.body
      (λ callee h. w.acyclic.falls n callee q there h) proper.room (most_in p.procedures n q there);
  deep = λ n q there. let x = most_nesting q.body in let y = most_in p.procedures n q there in omega (arith, x, y);
  parameters = λ n q there. (w.procedures n q there).parameters;
  locals = λ n q there. (w.procedures n q there).locals;
  bounded = w.acyclic.bounded;
}
