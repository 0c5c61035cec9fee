-- What may stand between tokens: white space and comments.
use Rattle.std.specs.Prelude.{◌≡◌, ◌⊎◌, ℕ, List, [], ◌∷◌, ◌++◌, IsTrue}
use Rattle.std.specs.List.{list_all, flat_map}
use Rattle.scanner.specs.Bytes.{is_white, is_comment_byte}
use Rattle.scanner.specs.Lexemes.{comment_mark}

-- a byte of white space; or a comment: its mark, and its body up to the line feed that ends it
pub data Blank : Type 0 where
  White : (b : ℕ) → IsTrue (is_white b) → Blank
  Comment : (body : List ℕ) → IsTrue (list_all is_comment_byte body) → Blank

-- the bytes of white space
abbrev pub blank_text : Blank → List ℕ
blank_text (White b _) = b ∷ []
blank_text (Comment body _) = comment_mark ++ (body ++ 10 ∷ [])

-- white space and comments, none or more
pub record IsGap (bs : List ℕ) : Type 0 where
  pub blanks : List Blank
  pub text : bs ≡ flat_map blank_text blanks

-- a comment without a line feed at its end
abbrev pub IsOpenComment : List ℕ → Type 0
IsOpenComment bs = (body : List ℕ) × (bs ≡ comment_mark ++ body) × IsTrue (list_all is_comment_byte body)

-- a gap, which a comment may still follow that has no line feed at its end
pub record IsLastGap (bs : List ℕ) : Type 0 where
  pub gap : List ℕ
  pub tail : List ℕ
  pub parts : bs ≡ gap ++ tail
  pub is_gap : IsGap gap
  pub is_tail : (tail ≡ []) ⊎ IsOpenComment tail
