use Rattle.source_offers.proofs.Frames.{monitors_last}
use Rattle.source_offers.proofs.monitors.+add_monitors.Goals as goal

pub returns-in_ok-add_monitors-in-len1-up : goal.returns-in_ok-add_monitors-in-len1-up
returns-in_ok-add_monitors-in-len1-up t c =
    monitors_last _ _ _ c.args.callers.now c.top-item.result c.in-len1-up.len_at_least c.top-item.is
    c.in_ok-add_monitor-in-len1-up.ensures c.in_ok-add_monitors-in-len1-up.ensures
