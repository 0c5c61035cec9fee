-- Calls that are put off behind an entry.
use Rattle.std.proofs.Common.{◌≡◌, ◌<◌, ◌≤◌, arith, inl, inr, subst, sym}
use Rattle.machine.specs.declared.thread_set.ThreadSet.{ThreadSet}
use Rattle.workers.specs.declared.put_off.PutOff.{PutOff}
use Rattle.workers.specs.declared.bucket_waiters.BucketWaiters.{BucketWaiters}
use Rattle.workers.specs.declared.parker.Called.{Called}
use Rattle.workers.specs.declared.shared_run.WakeReason.{WakeReason}
use Rattle.workers.specs.Calls.{AreTold}
use Rattle.workers.specs.PutOffs.{AreNone, AreDue, AreKeptOrMade, AreMadeInTime, counted}

-- they are for one entry more
pub due_later : (old new : PutOff) → old.entries < 16 → new ≡ counted old → AreDue old new
due_later old new few is = inr (is, subst (λ (p : PutOff). p.entries ≤ 16) (sym is) (omega (arith, few)))

-- behind the entry they are as they were counted before it, or made, or of whom it woke
pub made_in_time : (woken : ThreadSet) (old mid new : PutOff) → AreDue old mid → AreKeptOrMade woken mid new
    → AreMadeInTime woken old new
made_in_time woken old mid new due (inl same) = inl (subst (λ (p : PutOff). AreDue old p) (sym same) due)
made_in_time woken old mid new due (inr (inl none)) = inl (inl none)
made_in_time woken old mid new due (inr (inr fresh)) = inr fresh

-- where none was left, others are those of whom the entry woke
pub made_before : (woken : ThreadSet) (old mid new : PutOff) → AreNone mid → AreKeptOrMade woken mid new
    → AreKeptOrMade woken old new
made_before woken old mid new none (inl same) = inr (inl (subst (λ (p : PutOff). AreNone p) (sym same) none))
made_before woken old mid new none (inr made) = inr made

-- what is owed is met where those whom it concerns were told
pub told_met : (owed reason : WakeReason) (owed_freed freed : BucketWaiters) (called : Called) → owed ≡ reason
    → owed_freed ≡ freed → AreTold reason.woken freed reason.forked called
    → AreTold owed.woken owed_freed owed.forked called
told_met owed reason owed_freed freed called is_reason is_freed told =
    let by_freed = subst (λ (f : BucketWaiters). AreTold reason.woken f reason.forked called) (sym is_freed) told in
    subst (λ (w : WakeReason). AreTold w.woken owed_freed w.forked called) (sym is_reason) by_freed
