-- What is told of an image.
use Rattle.std.specs.Prelude.{ℕ, List, ◌++◌, codes}
use Rattle.std.specs.Fmt.{decimal}
use Rattle.log_text.specs.LogLines.{line_feed}

-- the line that tells of an image of so many instructions
abbrev pub image_line : ℕ → List ℕ
image_line count = codes "ok " ++ decimal count ++ codes " instructions" ++ line_feed
