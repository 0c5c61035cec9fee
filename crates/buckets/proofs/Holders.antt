-- A bucket gets a holder, or loses it.
use Rattle.std.proofs.Common.{◌≡◌, ℕ, ◌<◌, Option, None, List, length, set, refl, ◌∙◌, inl, inr}
use Rattle.std.proofs.Math.Path.{fun_ext}
use Rattle.std.proofs.lemmas.Bool.{cases_eq, eq-eqb, ne_eqb}
use Rattle.std.proofs.lemmas.List.{get_or-set_same, get_or-set_other, length-set}
use Rattle.slab.specs.Slab.{Slab}
use Rattle.words.specs.Updates.{put}
use Rattle.words.specs.declared.mem.Addr.{Addr}
use Rattle.buckets.specs.declared.node.Chain.{Chain}
use Rattle.buckets.specs.declared.node.Node.{Node}
use Rattle.buckets.specs.Sleepers.{Sleepers, queue, place_of, thread_count, bucket_count, holder_of, IsSound}
use Rattle.buckets.specs.Chains.{IsStored}
use Rattle.buckets.proofs.Stores.{seen, sound_in}

-- bucket k has this holder or none, and all else is as before
pub record Changed (s s' : Sleepers) (k : ℕ) (v : Option ℕ) : Type 0 where
  pub holder : holder_of s' ≡ put (holder_of s) k v
  pub count : bucket_count s' ≡ bucket_count s
  pub queues : queue s' ≡ queue s
  pub places : place_of s' ≡ place_of s
  pub threads : thread_count s' ≡ thread_count s
  pub sound : IsSound s × IsSound s'

-- a bucket that contracts allow is one of the table
pub inside_table : (nodes : Slab Node) (chains : List Chain) (places : List (Option Addr)) (holders : List (Option ℕ))
    (k : ℕ) → k < bucket_count (seen nodes chains places holders) → k < length holders
unfolding bucket_count
inside_table nodes chains places holders k h = h

pub changed : (nodes : Slab Node) (chains : List Chain) (places : List (Option Addr)) (holders : List (Option ℕ))
    (k : ℕ)
    (v : Option ℕ) → IsStored nodes chains places holders → k < length holders
    → IsStored nodes chains places (set holders k v)
    × Changed (seen nodes chains places holders) (seen nodes chains places (set holders k v)) k v
unfolding queue place_of thread_count bucket_count holder_of
changed nodes chains places holders k v i l =
    let i' : IsStored nodes chains places (set holders k v) = record {
      consistent = i.consistent;
      chained = i.chained;
      counted = i.counted;
      room = i.room;
      held = length-set holders k v ∙ i.held;
    } in (
      i',
      record {
        holder = fun_ext (λ j. elim (cases_eq j k) [
          | inl e ↦ rw (e, get_or-set_same holders k v None l, eq-eqb k k refl) refl
          | inr ne ↦ rw (get_or-set_other holders k j v None ne, ne_eqb j k ne) refl
        ]);
        count = length-set holders k v;
        queues = refl;
        places = refl;
        threads = refl;
        sound = (sound_in nodes chains places holders i, sound_in nodes chains places (set holders k v) i');
      },
    )

-- the number of an address's bucket is that of its chain
pub number_in : (nodes : Slab Node) (chains : List Chain) (places : List (Option Addr)) (holders : List (Option ℕ))
    (n : ℕ) → n ≡ length holders → n ≡ bucket_count (seen nodes chains places holders)
unfolding bucket_count
number_in nodes chains places holders n e = e
