use Rattle.std.proofs.Common.{refl}
use Rattle.source_offers.specs.declared.process.Stage.TheVariants as Code
use Rattle.source_table.specs.Tables.{table_of}
use Rattle.sourcemeaning.proofs.Moves.{enters, joins, rests_never, resumes}
use Rattle.source_search.proofs.Held.{held_at, refused}
use Rattle.source_search.proofs.held_up.is_held_up.Goals as goal

pub returns-in-Entering : goal.returns-in-Entering
returns-in-Entering c = λ e p s same stands.
    let t = table_of c.args.table.now in
    let m = c.in-Entering.monitor in
    held_at p s c.args.number t c.args.process.now (Code.Entering m) c.in-Entering.is same stands
    (λ up. refused c.is_enterable.result _ c.is_enterable.ensures e ((enters c.args.number t m _ _).1 up))

pub returns-in-Suspended : goal.returns-in-Suspended
returns-in-Suspended c = λ e p s same stands.
    let t = table_of c.args.table.now in
    let condition = c.in-Suspended.condition in
    held_at p s c.args.number t c.args.process.now (Code.Suspended condition) c.in-Suspended.is same stands
    (λ up. refused c.is_resumable.result _ c.is_resumable.ensures e
    ((resumes c.args.number t condition.monitor _ _).1 up))

pub returns-in-Joining : goal.returns-in-Joining
returns-in-Joining c = λ e p s same stands.
    let t = table_of c.args.table.now in
    let child = c.in-Joining.child in
    held_at p s c.args.number t c.args.process.now (Code.Joining child c.in-Joining.into c.in-Joining.aborted)
    c.in-Joining.is same stands
    (λ up. refused c.is_over.result _ c.is_over.ensures e ((joins c.args.number t child _).1 up))

pub returns-in-Over : goal.returns-in-Over
returns-in-Over c = λ e p s same stands.
    held_at p s c.args.number (table_of c.args.table.now) c.args.process.now (Code.Over c.in-Over.field-0) c.in-Over.is
    same stands (λ up. rests_never c.args.number (table_of c.args.table.now) _ refl up)
