use Rattle.std.proofs.Common.{◌≡◌, Some, map, length, subst, sym, ◌∙◌, arith}
use Rattle.std.specs.Prelude.{slice_set}
use Rattle.std.proofs.lemmas.List.{map-set}
use Rattle.codegen.specs.Generated.{piece_of}
use Rattle.linker.specs.Collecting.{added, slot_of, IsFree}
use Rattle.linker.proofs.Collected.{free_at}
use Rattle.linker.proofs.collector.Collector.add.Goals as goal

pub returns-clause-added : goal.returns-clause-added
returns-clause-added c =
    let slots = c.self.inside.slots.items in
    let n = c.args.piece.number in
    let code = Some c.args.piece.code in
    let long : c.len.result ≡ length slots = c.len.ensures ∙ c.self.inside.slots.ok.0 in
    let none = sym c.is_some.ensures ∙ c.if-is_some.false in
    subst (λ s. IsFree s n × (map slot_of (slice_set slots n code) ≡ added s (piece_of c.args.piece))) c.self.view_is
    (free_at slots n c.index.result.now (omega arith) c.index.ensures none, map-set slot_of slots n code)
