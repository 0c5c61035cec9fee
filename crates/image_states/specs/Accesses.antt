-- Requests that read and write one word and nothing else, by what they do to it.
use Rattle.std.specs.Prelude.{ℕ, ◌+◌, ◌%◌, ◌==◌, Option, Some, None, if◌then◌else◌}
use Rattle.std.specs.Int.Bits.{bit_or}
use Rattle.locals.specs.declared.request.Request.{Request as Told}
use Rattle.locals.specs.declared.request.Request.TheVariants as told

-- the address of that word
abbrev pub access_of : Told → Option ℕ
access_of (told.Load a) = Some a.0
access_of (told.Store a v) = Some a.0
access_of (told.Swap a v) = Some a.0
access_of (told.CompareSwap a expected new) = Some a.0
access_of (told.FetchOr a v) = Some a.0
access_of (told.FetchAdd a v) = Some a.0
access_of request = None

-- the word behind it, where it found this one
abbrev pub word_after : Told → ℕ → ℕ
word_after (told.Store a v) w = v
word_after (told.Swap a v) w = v
word_after (told.CompareSwap a expected new) w = if w == expected then new else w
word_after (told.FetchOr a v) w = bit_or w v
word_after (told.FetchAdd a v) w = (w + v) % 4294967296
word_after request w = w

-- the answer to it
abbrev pub access_answer : Told → ℕ → ℕ
access_answer (told.Store a v) w = 0
access_answer request w = w
