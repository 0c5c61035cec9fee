use Rattle.std.proofs.Common.{◌≡◌, ◌∙◌, ◌++◌, ℕ, List, ap, codes}
use Rattle.std.specs.String.{string_bytes}
use Rattle.words.specs.Versions.{base_of}
use Rattle.emit_image.specs.Texts.{declared, monitors_text, needed, opening}
use Rattle.emit_image.proofs.Growing.{five_parts}
use Rattle.emit_image.proofs.head.append_head.Goals as goal

pub returns : goal.returns
returns c =
    let base : c.monitors_base-first.result ≡ base_of c.args.image.now.version =
    c.monitors_base-first.ensures ∙ ap base_of c.version.ensures.value in
    let count : c.needed.result ≡ needed c.args.image.now.code = c.needed.ensures ∙ ap needed c.code.ensures.value in
    let t0 = string_bytes c.args.text.now in
    let t1 = string_bytes c.append_opening.new.text in
    let t3 = string_bytes c.push_str.new.self in
    five_parts t0 t1 (string_bytes c.append_monitors.new.text) t3 (string_bytes c.append_declared.new.text)
    (string_bytes c.push_str-2.new.self) (opening (base_of c.args.image.now.version))
    (monitors_text (base_of c.args.image.now.version) c.args.image.now.monitors) (codes "\n#define MESA_OPERANDS(M)")
    (declared (needed c.args.image.now.code)) (codes "\n#include \"mesa_image.h\"\n\n")
    (c.in_ok-append_opening.ensures ∙ ap (λ (n : ℕ). t0 ++ opening n) base)
    (c.in_ok-append_monitors.ensures ∙ ap (λ (n : ℕ). t1 ++ monitors_text n c.monitors.result.now) base
    ∙ ap (λ (ms : List ℕ). t1 ++ monitors_text (base_of c.args.image.now.version) ms) c.monitors.ensures.value)
    c.in_ok-push_str.ensures.bytes (c.in_ok-append_declared.ensures ∙ ap (λ (n : ℕ). t3 ++ declared n) count)
    c.in_ok-push_str-2.ensures.bytes
