use Rattle.std.proofs.Common.{◌≡◌, ◌==◌, Bool, ◌∙◌, ℕ, reverse}
use Rattle.std.specs.Cmp.Lexicographic.{pointwise}
use Rattle.std.proofs.lemmas.Slice.Eq.{slice_eq-Decides}
use Rattle.std.proofs.lemmas.Bool.Decides.{Decides-eqb}
use Rattle.locals.proofs.Reverses.{same_by}
use Rattle.locals.proofs.copying.same_operands.Goals as goal

abbrev same : ℕ → ℕ → Bool
same a b = a == b

pub returns : goal.returns
returns c =
    let e : c.eq.result ≡ pointwise same (reverse c.args.a.now) (reverse c.args.b.now) =
    c.eq.ensures ∙ (λ i. pointwise same (c.as_slice.ensures i) (c.as_slice-2.ensures i)) in
    same_by c.eq.result c.args.a.now c.args.b.now
    (slice_eq-Decides Decides-eqb (reverse c.args.a.now) (reverse c.args.b.now) c.eq.result e)
