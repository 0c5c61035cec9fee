-- The words of values, and the values of words.
use Rattle.std.proofs.Common.{ℕ, ◌<◌, ℤ}
use Rattle.std.specs.Prelude.{FitsSigned, ◌^◌}
use Rattle.std.specs.Int.{w32}
use Rattle.std.proofs.Math.Facts.{Fits-of_z, sfits_to_z}
use Rattle.words.specs.Signed.{signed_of, word_of}

pub word_below : (z : ℤ) → FitsSigned w32 z → word_of z < 2 ^ 32
word_below z h = (Fits-of_z h).fits

pub signed_fits : (w : ℕ) → w < 2 ^ 32 → FitsSigned w32 (signed_of w)
signed_fits w h = sfits_to_z (record { fits = h })
