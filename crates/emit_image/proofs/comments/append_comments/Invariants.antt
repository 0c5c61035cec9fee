use Rattle.std.proofs.Common.{◌≡◌, ◌++◌, length, map, string_bytes}
use Rattle.emit_image.specs.Comments.{comments, later}
use Rattle.emit_image.proofs.comments.append_comments.Given as goal

-- what is written, and the comments of what is left, are all comments
abbrev pub invariant-comments : goal.invariant-comments
invariant-comments l = record {
  written : string_bytes l.text ++ comments (map (λ line. line.now) l.source) l.place l.left
      ≡ string_bytes l.initial.text ++ comments (map (λ line. line.now) l.source) l.place l.starts;
  behind : later l.place l.left ≡ later l.place l.starts;
}

abbrev pub decreases-comments : goal.decreases-comments
decreases-comments l = length l.left
