use Rattle.std.proofs.Common.{◌≡◌, ◌∙◌, ap, [], arith, codes, length, refl, rules, sym}
use Rattle.std.proofs.lemmas.Bool.{eqb-true}
use Rattle.std.proofs.lemmas.List.{append-nil}
use Rattle.words.specs.Limits.{most_threads}
use Rattle.machine.specs.declared.event.Event.{Event}
use Rattle.log_text.specs.LogLines.{members, set_text}
use Rattle.log_text.proofs.Entries.{after_last, after_woken, ends_is, no_digit_sets, sets_text, value_is}
use Rattle.log_text.proofs.Logs.{some_left}
use Rattle.log_text.proofs.fields.read_event.Goals as goal

pub returns-in_default : goal.returns-in_default
returns-in_default c = λ e shared ends.
    c.in_default.ensures.reads e.value (sets_text e) shared.value (no_digit_sets (members e.woken most_threads) (members e.moved most_threads))
    (value_is c.args.name c.args.text.now e ends)

pub returns-in_default-set_after : goal.returns-in_default-set_after
returns-in_default-set_after c = λ e shared ends.
    let v = c.in-Some.ensures.reads e.value (sets_text e) shared.value
    (no_digit_sets (members e.woken most_threads) (members e.moved most_threads)) (value_is c.args.name c.args.text.now e ends) in
    c.in_default-set_after.ensures.reads e.woken (set_text (codes " moved") e.moved) shared.woken
    (after_woken (members e.moved most_threads)) v.1

pub returns-in_default-set_after-2 : goal.returns-in_default-set_after-2
returns-in_default-set_after-2 c = λ e shared ends.
    let v = c.in-Some.ensures.reads e.value (sets_text e) shared.value
    (no_digit_sets (members e.woken most_threads) (members e.moved most_threads)) (value_is c.args.name c.args.text.now e ends) in
    let w = c.in-Some-set_after.ensures.reads e.woken (set_text (codes " moved") e.moved) shared.woken
    (after_woken (members e.moved most_threads)) v.1 in
    c.in_default-set_after-2.ensures.reads e.moved [] shared.moved after_last
    (w.1 ∙ sym (append-nil (set_text (codes " moved") e.moved)))

pub returns-then-not-is_empty : goal.returns-then-not-is_empty
returns-then-not-is_empty c = λ e shared ends.
    let v = c.in-Some.ensures.reads e.value (sets_text e) shared.value
    (no_digit_sets (members e.woken most_threads) (members e.moved most_threads)) (value_is c.args.name c.args.text.now e ends) in
    let w = c.in-Some-set_after.ensures.reads e.woken (set_text (codes " moved") e.moved) shared.woken
    (after_woken (members e.moved most_threads)) v.1 in
    let m = c.in-Some-set_after-2.ensures.reads e.moved [] shared.moved after_last
    (w.1 ∙ sym (append-nil (set_text (codes " moved") e.moved))) in
    let some = some_left (length c.in-Some-set_after-2.after_moved.now) c.if-not-is_empty.ensures in
    let none : length c.in-Some-set_after-2.after_moved.now ≡ 0 = ap length m.1 in
    absurd (omega (arith, some, none))

pub returns : goal.returns
returns c =
    let e : Event = record {
      name = c.args.name;
      value = c.in-Some.value;
      woken = c.in-Some-set_after.woken;
      moved = c.in-Some-set_after-2.moved;
    } in (
      record {
        shared = c.requires.shared;
        value = search rules;
        woken = c.in-Some-set_after.ensures.small;
        moved = c.in-Some-set_after-2.ensures.small;
      },
      record {
        called = refl;
        spelled = ends_is c.args.text.now c.in-Some.after_value.now c.in-Some-set_after.after_woken.now c.in-Some-set_after-2.after_moved.now e
            c.in-Some.ensures.read c.in-Some-set_after.ensures.read c.in-Some-set_after-2.ensures.read
            (eqb-true (length c.in-Some-set_after-2.after_moved.now) 0 (sym c.if-not-is_empty.ensures));
      },
    )
