use Rattle.std.proofs.Common.{string_bytes, codes, ap, sym}
use Rattle.log_text.specs.LogLines.{step_text}
use Rattle.log_text.proofs.Lines.{appended, entry_more}
use Rattle.log_text.proofs.writing.append_entry.Goals as goal

pub returns-in-Some : goal.returns-in-Some
returns-in-Some c =
    entry_more c.append_event.result c.args.entry.now (string_bytes c.args.text.now) _ _ _ _ _
    c.in_ok-append_number.ensures c.in_ok-push_str.ensures.bytes c.in_ok-append_number-2.ensures
    (ap step_text (sym c.in-Some.is)) c.append_event.ensures

pub returns-in-None : goal.returns-in-None
returns-in-None c =
    entry_more c.push_str-in-None.result c.args.entry.now (string_bytes c.args.text.now) _ _ _ (codes "TURN 0") _
    c.in_ok-append_number.ensures c.in_ok-push_str.ensures.bytes c.in_ok-append_number-2.ensures
    (ap step_text (sym c.in-None.is)) (appended c.push_str-in-None.result (string_bytes c.append_number-2.new.text) (codes " TURN 0\n") _
    c.push_str-in-None.ensures.bytes)
