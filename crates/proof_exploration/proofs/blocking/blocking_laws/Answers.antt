use Rattle.proof_exploration.proofs.Lasting.{blocked_here, blocked_like, live_back, live_moves, live_over, never_blocked}
use Rattle.proof_exploration.proofs.Lasting.{one_comes, stuck_blocked}
use Rattle.proof_exploration.proofs.blocking.blocking_laws.Goals as goal

pub returns-clause-moves : goal.returns-clause-moves
returns-clause-moves c = λ p s q can. live_moves p s q can

pub returns-clause-over : goal.returns-clause-over
returns-clause-over c = λ p s q over. live_over p s q over

pub returns-clause-back : goal.returns-clause-back
returns-clause-back c = λ p s r q comes live. live_back p s r q comes live

pub returns-clause-comes : goal.returns-clause-comes
returns-clause-comes c = λ p n s r is. one_comes p n s r is

pub returns-clause-never : goal.returns-clause-never
returns-clause-never c = λ p kept actions s q wf complete live led blocked.
    never_blocked p kept wf complete live actions s q led blocked

pub returns-clause-here : goal.returns-clause-here
returns-clause-here c = λ p kept actions s q at wf expanded run covered waits held stands.
    blocked_here p wf kept expanded actions s run covered q at waits held stands

pub returns-clause-stuck : goal.returns-clause-stuck
returns-clause-stuck c = λ p s stuck. (stuck.process, stuck_blocked p s stuck)

pub returns-clause-like : goal.returns-clause-like
returns-clause-like c = λ p s r q like is. blocked_like p s r q like is
