use Rattle.source_offers.proofs.Rests.{rest_pushed}
use Rattle.source_offers.proofs.Stages.{joining}
use Rattle.source_offers.proofs.process.Process.join.Goals as goal

pub returns-in_ok-push-in-Aborted-Some : goal.returns-in_ok-push-in-Aborted-Some
returns-in_ok-push-in-Aborted-Some c =
    joining _ c.args.into c.args.end c.in-Aborted-Some.field-0-0 c.args.aborted c.in-Aborted-Some.block
    c.args.self.now.frame _ _
    c.in-Aborted-Some.is-0 c.in-Aborted-Some.is-1 c.go_on-in-Aborted-Some.ensures
    (rest_pushed c.args.self.now.frame.rest.items _ _ c.in_ok-push-in-Aborted-Some.ensures.items)
