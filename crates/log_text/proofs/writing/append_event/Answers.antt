use Rattle.std.proofs.Common.{codes, string_bytes}
use Rattle.log_text.proofs.Lines.{appended, event_more}
use Rattle.log_text.proofs.writing.append_event.Goals as goal

pub returns : goal.returns
returns c =
    let behind = string_bytes c.append_set-2.new.text in
    let whole = string_bytes c.push_str-4.new.self in
    event_more c.push_str-4.result c.args.event.now (string_bytes c.args.text.now) c.name_of.result.now
    (string_bytes c.push_str.new.self) (string_bytes c.push_str-2.new.self) (string_bytes c.push_str-3.new.self)
    (string_bytes c.append_value.new.text) (string_bytes c.append_set.new.text) behind whole c.name_of.ensures
    c.in_ok-push_str.ensures.bytes c.in_ok-push_str-2.ensures.bytes c.in_ok-push_str-3.ensures.bytes
    c.in_ok-append_value.ensures c.in_ok-append_set.ensures c.in_ok-append_set-2.ensures
    (appended c.push_str-4.result behind (codes "\n") whole c.push_str-4.ensures.bytes)
