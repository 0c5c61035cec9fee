use Rattle.std.proofs.Common.{Some, sym, ◌∙◌, ◌≡◌, true, false}
use Rattle.std.specs.Prelude.{IsTrue}
use Rattle.types.specs.Faults.{fault}
use Rattle.unit_faults.proofs.Collecting.{collects_none, collects_one, collects_same}
use Rattle.unit_faults.proofs.least.note_where.Goals as goal

pub returns-then-test : goal.returns-then-test
returns-then-test c =
    let one = fault c.args.kind c.args.place in
    collects_same (λ e. e ≡ one) (λ e. IsTrue c.args.test × (e ≡ one)) c.args.least (Some c.lesser.result)
    (λ e h. (c.if-test.true, h)) (λ e h. h.1) (collects_one one c.args.least (Some c.lesser.result) c.lesser.ensures)

pub returns : goal.returns
returns c =
    collects_none (λ e. IsTrue c.args.test × (e ≡ fault c.args.kind c.args.place)) c.args.least
    (λ e h. let t : c.args.test ≡ true = h.0 in let f : c.args.test ≡ false = c.if-test.false in
    let w : true ≡ false = sym t ∙ f in cc)
