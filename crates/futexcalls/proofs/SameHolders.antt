-- Where the table of holders is the same, so are the number of buckets and the holder of each.
use Rattle.std.proofs.Common.{◌≡◌, None, length, ap}
use Rattle.std.specs.Prelude.{slice_index_or}
use Rattle.buckets.specs.Sleepers.{Sleepers, bucket_count, holder_of}
use Rattle.futexcalls.specs.declared.pieces.FutexCall.{FutexCall}
use Rattle.futexcalls.specs.PieceResults.{given_up}

pub same_count : (s s' : Sleepers) → s'.holders ≡ s.holders → bucket_count s' ≡ bucket_count s
unfolding bucket_count
same_count s s' e = ap length e

pub same_holders : (s s' : Sleepers) → s'.holders ≡ s.holders → holder_of s' ≡ holder_of s
unfolding holder_of
same_holders s s' e = λ i k. slice_index_or (e i) k None

pub same_given_up : (call : FutexCall) (s s' : Sleepers) → s'.holders ≡ s.holders → given_up call s' ≡ given_up call s
unfolding bucket_count holder_of
same_given_up call s s' e = ap (λ hs. given_up call (record { places = s.places; waiting = s.waiting; holders = hs })) e
