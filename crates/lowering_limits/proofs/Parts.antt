-- Statements with parts are within the limits where their parts are.
use Rattle.std.proofs.Common.{◌+◌, ◌<◌, ◌++◌, ℕ, List, [], ◌∷◌, Option, length, length-append, arith}
use Rattle.std.specs.Prelude.{IfSome}
use Rattle.isa.specs.declared.instr.Instr.TheVariants.{Jump, JumpIfZero}
use Rattle.lowering.specs.declared.mark.Mark.TheVariants.{Test}
use Rattle.lowering.specs.declared.mark.Marked.{Marked}
use Rattle.lowering.specs.Marks.{with_mark, plain, rebase_all, Code}
use Rattle.lowering.specs.Processes.{join_code}
use Rattle.lowering.specs.Statements.{if_code, if_else_code, while_code, join_all_code}
use Rattle.lowering.proofs.LengthLaws.{length-placed}
use Rattle.lowering_limits.proofs.Fine.{AreFine, HasRoom, fine_append, placed_fine}
use Rattle.lowering_limits.proofs.Templates.{join_fits}

module _ (total : ℕ) where
  pub if_fine : (t : List Marked) (f : Code) → AreFine total t → HasRoom total f → HasRoom total (if_code t f)
  if_fine t f h k a room =
      let s = a + length t + 1 in
      let rest = with_mark Test (JumpIfZero (s + length (f s))) ∷ f s in
      let n = length-append t rest in
      fine_append total t rest h ((tt, omega (arith, room, n)), k s (omega (arith, room, n)))

  pub if_else_fine : (t : List Marked) (f g : Code) → AreFine total t → HasRoom total f → HasRoom total g
      → HasRoom total (if_else_code t f g)
  if_else_fine t f g h k l a room =
      let s = a + length t + 1 in
      let z = s + length (f s) + 1 in
      let other = plain (Jump (z + length (g z))) ∷ g z in
      let rest = with_mark Test (JumpIfZero z) ∷ (f s ++ other) in
      let n = length-append t rest in
      let m = length-append (f s) other in
      fine_append total t rest h (
        (tt, omega (arith, room, n, m)),
        fine_append total (f s) other (k s (omega (arith, room, n, m)))
            ((tt, omega (arith, room, n, m)), l z (omega (arith, room, n, m))),
      )

  pub while_fine : (t : List Marked) (f : Code) → AreFine total t → HasRoom total f → HasRoom total (while_code t f)
  while_fine t f h k a room =
      let s = a + length t + 1 in
      let back = plain (Jump a) ∷ [] in
      let rest = with_mark Test (JumpIfZero (s + length (f s) + 1)) ∷ (f s ++ back) in
      let n = length-append t rest in
      let m = length-append (f s) back in
      fine_append total t rest h (
        (tt, omega (arith, room, n, m)),
        fine_append total (f s) back (k s (omega (arith, room, n, m)))
            ((tt, omega (arith, room)), tt),
      )

  pub join_fine : (t : List Marked) (into : Option ℕ) (f : Code) → AreFine total t → IfSome into (λ slot. slot < 64)
      → HasRoom total f → HasRoom total (join_all_code t into f)
  join_fine t into f h below k a room =
      let s = a + length t in
      let z = s + 30 in
      let join = rebase_all s (join_code into) in
      let last = plain (Jump (z + length (f z))) ∷ f z in
      let n = length-append t (join ++ last) in
      let m = length-append join last in
      let j = length-placed s (join_code into) in
      fine_append total t (join ++ last) h
      (fine_append total join last
      (placed_fine total 30 s (omega (arith, room, n, m, j)) (join_code into) (join_fits total into below))
      ((tt, omega (arith, room, n, m, j)), k z (omega (arith, room, n, m, j))))
