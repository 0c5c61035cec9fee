use Rattle.std.proofs.Common.{◌≡◌, ◌≤◌, ◌+◌, ◌*◌, ◌++◌, drop, string_bytes}
use Rattle.emit_image.specs.Texts.{monitors_text}
use Rattle.emit_image.proofs.head.append_monitors.Given as goal

-- what is written, and the links of what is left, are all links
abbrev pub invariant-loop-members : goal.invariant-loop-members
invariant-loop-members l = record {
  small : l.address ≤ 4294967296 + l.members-index * 8589934592;
  written : string_bytes l.text ++ monitors_text l.address (drop l.members-index l.monitors)
      ≡ string_bytes l.initial.text ++ monitors_text l.first l.monitors;
}
