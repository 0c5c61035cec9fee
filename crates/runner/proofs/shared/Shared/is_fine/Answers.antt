-- A piece that would pass the limit can't come in, if its step is an access.
use Rattle.std.proofs.Common.{arith, subst}
use Rattle.std.proofs.lemmas.Bool.{ltb-false}
use Rattle.runner.specs.Entries.{BringsNoAccess}
use Rattle.runner.specs.Views.{PieceView, SharedView}
use Rattle.runner.proofs.Handing.{brings_none}
use Rattle.runner.proofs.shared.Shared.is_fine.Goals as goal

pub returns-clause-none : goal.returns-clause-none
returns-clause-none g c =
    let s = c.self.inside in
    let p = g.J.RunName.program in
    let limit = g.J.RunName.limit in
    let t = c.args.t in
    let i = c.piece.inside in
    let a : PieceView = record { thread = i.thread; origin = i.origin; here = i.here; count = i.count } in
    let old : SharedView = record { log = s.log.items; room = s.log.room; machine = s.machine; given = s.given } in
    let legal = c.self.invariant.0 in
    λ past. subst (λ (y : SharedView). BringsNoAccess p limit y t c.args.piece.now) c.self.view_is
    (subst (λ (x : PieceView). BringsNoAccess p limit old t x) c.piece.view_is
    (brings_none p limit old t a
    (λ access stands moves fits. omega (arith, ltb-false i.count s.left past, fits, legal.counted, legal.limit_is))))
