-- Each step of a thread that the shared words serve is a move.
use Rattle.std.proofs.Common.{if◌then◌else◌, ◌≡◌, ◌≢◌, ℕ, zero, suc, ◌<◌, ◌≤◌, true, false, ◌==◌, ◌||◌, Some, None}
use Rattle.std.proofs.Common.{List, [], ◌∷◌, length, ◌⊎◌, inl, inr, refl, sym, ap, ◌∙◌, subst, arith}
use Rattle.std.proofs.lemmas.Bool.{cond-false, cases_eq, false≢true, eq-eqb, ne_eqb, or_left, or_right, cond-true}
use Rattle.program.specs.declared.kinds.Member.{Member}
use Rattle.meaning.specs.Labels.{Killed, End, Aborted, Notifies, Broadcasts}
use Rattle.words.specs.declared.version.ImageVersion.{ImageVersion}
use Rattle.words.specs.declared.version.ImageVersion.TheVariants.{One, Two, Linux}
use Rattle.words.specs.Versions.{most_of}
use Rattle.meaning.specs.Table.{HeldBy, Table, first_table}
use Rattle.protocol.specs.Word.{owner, waiters}
use Rattle.protocol.specs.Points.{ToExit, ToWait, Entry, NoEntry, Owned, Unowned, Point, Unmade, EnterPends}
use Rattle.protocol.specs.Points.{EnterTries, ReenterPends, ReenterTries, TakeReads, TakeMarks, TakeSleeps, TakeTries}
use Rattle.protocol.specs.Points.{GotReads, GotLinks, GotHeads, GotUnpends, WaitReads, NotifyAdds, NotifyWakes}
use Rattle.protocol.specs.Points.{BroadcastAdds, BroadcastMarks, BroadcastReads, BroadcastMoves, JoinReads}
use Rattle.protocol.specs.Points.{JoinSleeps, JoinLearns, JoinTakes, LeavePends, LeaveReads, LeaveHeads, LeaveSwaps}
use Rattle.protocol.specs.Points.{LeaveWakes, HasLeft, Dies, Walks, ClearsId, LastWakes, HasEnded, entry_at}
use Rattle.protocol.specs.Points.{entry_word}
use Rattle.protocol.specs.World.{World, mem, tail, opening_world}
use Rattle.protocol.specs.Moves.{Move, SetPend, CompareSwapGot, CompareSwapBusy, SetPendHeld, CompareSwapHeld}
use Rattle.protocol.specs.Moves.{LoadHeld, LoadFree, MarkDone, MarkFail, Sleep, Again, FreeGot, FreeFail, ReadHead}
use Rattle.protocol.specs.Moves.{SetLink, SetHead, ClearPend, PendAgain, ReadLink, CutHead, SwapWake, SwapAlone, Wake}
use Rattle.protocol.specs.Moves.{Finish, ReadSeq, SeqSleep, SeqAgain, AddSeq, WakeSeq, AddAll, OrLock, LoadSeq}
use Rattle.protocol.specs.Moves.{MoveAll, WriteFault, SkipEntry, EntryAlone, EntryWake, PendNone, PendAlone, PendWake}
use Rattle.protocol.specs.Moves.{PendForeign, ClearId, LastWake, IdGone, IdThere, IdSleep, IdAgain, LearnEnded}
use Rattle.protocol.specs.Moves.{LearnAborted, TakeResult}
use Rattle.protocol.specs.Steps.{go_list}
use Rattle.protocol.proofs.Words.{owner-small}
use Rattle.protocol.proofs.Roles.{own, ListedEntry, Listed, holds, Knows}
use Rattle.protocol.proofs.Lock.{tie_owner, tie_held, tie_living}
use Rattle.protocol.proofs.Chains.{Chain, ChainAt, chain_some}
use Rattle.protocol.proofs.Waits.{FreshAt}
use Rattle.protocol.proofs.Joins.{IdAt, joins, point_joins}
use Rattle.protocol.proofs.Pend.{PendAt}
use Rattle.protocol.proofs.Processes.{is_made, point_made}
use Rattle.protocol.specs.Moves.{CutToLoad, LoadLock, KeepWake, KeepAlone, KeepFail, WakeNone, ClearBit, ClearFail}
use Rattle.protocol.specs.Moves.{PendPassed}
use Rattle.protocol.specs.Points.{Release, Spot, OnLock, OnSequence, LeaveLoads, LeaveKeeps, LeaveClears}
use Rattle.protocol.specs.Cells.{HeadOf, write}
use Rattle.protocol.specs.Rules.{Rules, AreSafe, release_of, version_rules, ReleaseRule, ClearsWord, KeepsWaiters}
use Rattle.protocol.specs.Rules.{TidiesWaiters}
use Rattle.protocol.specs.Rules.{Keeps, Tidies, ExitRule, WakesAlways, WakesUnowned, WakesUncovered, Wakes, Passes}
use Rattle.protocol.specs.World.{opening_under, awake_after, IsWake}
use Rattle.protocol.specs.Requests.{request, given_up}
use Rattle.protocol.specs.Answers.{WakesOne, Foreign, Abandon, Serves}
use Rattle.protocol.specs.Served.{IsMove, is_pending}
use Rattle.protocol.specs.Ruled.{request_under, WakesUnder, ExitDoesUnder, ServesUnder, released_at, woken_at}
use Rattle.protocol.specs.Ruled.{IsMoveUnder}
use Rattle.protocol.specs.Carries.{Acts, resumed_by}
use Rattle.protocol.specs.Runs.{Leads, last_table}
use Rattle.protocol.proofs.Rest.{good_under, rules_kept, version_safe}
use Rattle.protocol.proofs.Good.{Good}
use Rattle.protocol.specs.Rules.{DropsOwner, Swaps, left_by}
use Rattle.protocol.proofs.Words.{owner_dropped}
use Rattle.protocol.specs.Cells.{LockOf}

abbrev any : End
any = Aborted Killed

fin : (w0 w1 : World) (t : ℕ) (p p' : Point) (l : List ℕ) → w1 ≡ w0 → p' ≡ p → go_list w0 t p l ≡ go_list w1 t p' l
fin w0 w1 t p p' l d e = ap (λ x. go_list x t p l) (sym d) ∙ ap (λ q. go_list w1 t q l) (sym e)

yes : {A : Type 0} (a b : ℕ) (x y : A) → a ≡ b → (if a == b then x else y) ≡ x
yes a b x y h = cond-true (a == b) x y (eq-eqb a b h)

no : {A : Type 0} (a b : ℕ) (x y : A) → a ≢ b → (if a == b then x else y) ≡ y
no a b x y h = cond-false (a == b) x y (ne_eqb a b h)

-- a thread whose id word is 0 is past its clearing
gone : (p : Point) (q v : ℕ) → IdAt p q v → v ≡ 0 → 0 < q → point_made p ≡ true
    → (end : End) × ((p ≡ LastWakes end) ⊎ (p ≡ HasEnded end))
gone Unmade q v h z pos made = absurd (false≢true made)
gone (LastWakes end) q v h z pos made = (end, inl refl)
gone (HasEnded end) q v h z pos made = (end, inr refl)
gone p q v h z pos made = absurd (omega (arith, h, z, pos))

entry_zero : (x : Entry) → entry_word x ≡ 0 → x ≡ NoEntry
entry_zero NoEntry h = refl
entry_zero (Owned m) h = absurd (omega (arith, h))
entry_zero (Unowned m) h = absurd (omega (arith, h))

suc_is : (a b : ℕ) → suc a ≡ suc b → a ≡ b
suc_is a b h = omega (arith, h)

entry_suc : (x : Entry) (m : ℕ) → entry_word x ≡ suc m → (x ≡ Owned m) ⊎ (x ≡ Unowned m)
entry_suc NoEntry m h = absurd (omega (arith, h))
entry_suc (Owned e) m h = inl (ap Owned (suc_is e m h))
entry_suc (Unowned e) m h = inr (ap Unowned (suc_is e m h))

-- who owns the lock has it
owner_holds : (w : World) (T : Table) (t m : ℕ) → Good w T → 0 < t → owner (w.lock m) ≡ t → holds (w.at t) m ≡ true
owner_holds w T t m inv pos own = inv.locks.owned m t (tie_owner (T.hold m) (w.lock m) (inv.locks.tie m)
    (λ z. omega (arith, pos, own, z)) ∙ ap HeldBy own)

holder_owns : (w : World) (T : Table) (t m : ℕ) → Good w T → holds (w.at t) m ≡ true → owner (w.lock m) ≡ t
holder_owns w T t m inv h = (tie_held (T.hold m) (w.lock m) t (inv.locks.tie m) (inv.locks.held m t h)).0

-- a pending entry that isn't owned is owned by another or by none
foreign : (w : World) (T : Table) (t a m : ℕ) (end : End) → Good w T → 0 < t
    → (w.at t).point ≡ Walks a (Unowned m) end → owner (w.lock m) ≡ t → ⊥
unfolding holds Knows
foreign w T t a m end inv pos s owns =
    let k : mem m (w.at t).list ≡ false = subst (λ y. Listed y (w.at t).list) s (inv.locks.knows t).1 in
    let h : (mem m (w.at t).list || false) ≡ true = subst (λ y. (mem m (w.at t).list || own (entry_at y) m) ≡ true) s
    (owner_holds w T t m inv pos owns) in
    false≢true (sym (ap (λ b. b || false) k) ∙ h)

has_entry : (w : World) (T : Table) (t a m : ℕ) (end : End) → Good w T → (w.at t).point ≡ Walks a (Owned m) end
    → owner (w.lock m) ≡ t
unfolding holds
has_entry w T t a m end inv s = holder_owns w T t m
    inv (or_right (mem m (w.at t).list) _ (ap (λ y. own (entry_at y) m) s ∙ eq-eqb m m refl))

abandon_covers : (rules : Rules) (w : World) (T : Table) (t m : ℕ) (end : End) (r : ℕ) (w' : World) → 0 < t → t ≤ w.made
    → w.asleep t ≡ None → (w.at t).point ≡ Walks zero (Owned m) end → Abandon w t m w'
    → IsMoveUnder rules w t (Walks zero (Owned m) end) r w'
abandon_covers rules w T t m end r w' pos high a s d = elim d.1 [
  | inl z ↦ record {
    end = any;
    move = PendAlone m end;
    can = record { number = (pos, high); awake = a; stands = s; finds = z.0 };
    done = fin _ w' t _ _ _ z.1 refl;
    possible = tt;
    carries = λ X. refl;
  }
  | inr z ↦ record {
    end = any;
    move = PendWake m end z.1.woken;
    can = record { number = (pos, high); awake = a; stands = s; finds = (z.0, z.1.wake) };
    done = fin _ w' t _ _ _ z.1.awake refl;
    possible = tt;
    carries = λ X. refl;
  }
]

foreign_covers : (rules : Rules) (w : World) (x : ExitRule) (t m : ℕ) (end : End) (r : ℕ) (w' : World)
    → w.rules.exit ≡ x → 0 < t → t ≤ w.made → w.asleep t ≡ None → (w.at t).point ≡ Walks zero (Unowned m) end
    → Foreign x w m w' → IsMoveUnder rules w t (Walks zero (Unowned m) end) r w'
foreign_covers rules w WakesAlways t m end r w' is pos high a s d = record {
  end = any;
  move = PendForeign m end d.woken;
  can = record {
    number = (pos, high);
    awake = a;
    stands = s;
    finds = (subst (λ y. Wakes y (w.lock m)) (sym is) tt, d.wake);
  };
  done = fin _ w' t _ _ _ d.awake refl;
  possible = tt;
  carries = λ X. refl;
}
foreign_covers rules w WakesUnowned t m end r w' is pos high a s d = elim d [
  | inl z ↦ record {
    end = any;
    move = PendForeign m end z.1.woken;
    can = record {
      number = (pos, high);
      awake = a;
      stands = s;
      finds = (subst (λ y. Wakes y (w.lock m)) (sym is) z.0, z.1.wake);
    };
    done = fin _ w' t _ _ _ z.1.awake refl;
    possible = tt;
    carries = λ X. refl;
  }
  | inr z ↦ record {
    end = any;
    move = PendPassed m end;
    can = record {
      number = (pos, high);
      awake = a;
      stands = s;
      finds = subst (λ y. Passes y (w.lock m)) (sym is) z.0;
    };
    done = fin _ w' t _ _ _ z.1 refl;
    possible = tt;
    carries = λ X. refl;
  }
]
foreign_covers rules w WakesUncovered t m end r w' is pos high a s d = elim d [
  | inl z ↦ record {
    end = any;
    move = PendForeign m end z.1.woken;
    can = record {
      number = (pos, high);
      awake = a;
      stands = s;
      finds = (subst (λ y. Wakes y (w.lock m)) (sym is) z.0, z.1.wake);
    };
    done = fin _ w' t _ _ _ z.1.awake refl;
    possible = tt;
    carries = λ X. refl;
  }
  | inr z ↦ record {
    end = any;
    move = PendPassed m end;
    can = record {
      number = (pos, high);
      awake = a;
      stands = s;
      finds = subst (λ y. Passes y (w.lock m)) (sym is) z.0;
    };
    done = fin _ w' t _ _ _ z.1 refl;
    possible = tt;
    carries = λ X. refl;
  }
]

-- the entry is off the list: the release goes on by its rule
cut_covers : (rules : Rules) (w : World) (t m h : ℕ) (k : Release) (r : ℕ) (w' : World) (rule : ReleaseRule)
    → rules.release ≡ rule → w.rules ≡ rules → 0 < t → t ≤ w.made → w.asleep t ≡ None
    → (w.at t).point ≡ LeaveHeads m h k → w' ≡ write w (HeadOf t) h → IsMoveUnder rules w t (LeaveHeads m h k) r w'
cut_covers rules w t m h k r w' ClearsWord is same pos high a s d = record {
  end = any;
  move = CutHead m h k;
  can = record {
    number = (pos, high);
    awake = a;
    stands = s;
    finds = subst (λ (x : Rules). Swaps x.release) (sym same) (subst Swaps (sym is) tt);
  };
  done = fin _ w' t _ _ _ d (ap (λ x. released_at x m k) is);
  possible = tt;
  carries = λ X. refl;
}
cut_covers rules w t m h k r w' KeepsWaiters is same pos high a s d = record {
  end = any;
  move = CutToLoad m h k;
  can = record {
    number = (pos, high);
    awake = a;
    stands = s;
    finds = subst (λ (x : Rules). Keeps x.release) (sym same) (subst Keeps (sym is) tt);
  };
  done = fin _ w' t _ _ _ d (ap (λ x. released_at x m k) is);
  possible = tt;
  carries = λ X. refl;
}
cut_covers rules w t m h k r w' TidiesWaiters is same pos high a s d = record {
  end = any;
  move = CutToLoad m h k;
  can = record {
    number = (pos, high);
    awake = a;
    stands = s;
    finds = subst (λ (x : Rules). Keeps x.release) (sym same) (subst Keeps (sym is) tt);
  };
  done = fin _ w' t _ _ _ d (ap (λ x. released_at x m k) is);
  possible = tt;
  carries = λ X. refl;
}
cut_covers rules w t m h k r w' DropsOwner is same pos high a s d = record {
  end = any;
  move = CutHead m h k;
  can = record {
    number = (pos, high);
    awake = a;
    stands = s;
    finds = subst (λ (x : Rules). Swaps x.release) (sym same) (subst Swaps (sym is) tt);
  };
  done = fin _ w' t _ _ _ d (ap (λ x. released_at x m k) is);
  possible = tt;
  carries = λ X. refl;
}

-- the word that a release of one step leaves
left_so : (rules : Rules) (w : World) (rule : ReleaseRule) (v : ℕ) → rules.release ≡ rule → w.rules ≡ rules
    → left_by rule v ≡ left_by w.rules.release v
left_so rules w rule v is same = ap (λ x. left_by x v) (sym is ∙ ap (λ (x : Rules). x.release) (sym same))

swapped : (rules : Rules) (w : World) (t m : ℕ) (k : Release) (r : ℕ) (w' : World) → 0 < t → t ≤ w.made
    → w.asleep t ≡ None → (w.at t).point ≡ LeaveSwaps m k → r ≡ w.lock m
    → w' ≡ write w (LockOf m) (left_by w.rules.release (w.lock m)) → IsMoveUnder rules w t (LeaveSwaps m k) r w'
swapped rules w t m k r w' pos high a s told word = elim (cases_eq (waiters (w.lock m)) 0) [
  | inl z ↦ record {
    end = any;
    move = SwapAlone m k;
    can = record { number = (pos, high); awake = a; stands = s; finds = z };
    done = fin _ w' t _ _ _ word (yes (waiters r) 0 _ _ (ap waiters told ∙ z));
    possible = tt;
    carries = λ X. refl;
  }
  | inr z ↦ record {
    end = any;
    move = SwapWake m k;
    can = record { number = (pos, high); awake = a; stands = s; finds = z };
    done = fin _ w' t _ _ _ word (no (waiters r) 0 _ _ (λ q. z (sym (ap waiters told) ∙ q)));
    possible = tt;
    carries = λ X. refl;
  }
]

-- who gives a lock up has it
giver_holds : (w : World) (T : Table) (t m : ℕ) (k : Release) → Good w T → (w.at t).point ≡ LeaveSwaps m k
    → holds (w.at t) m ≡ true
unfolding holds
giver_holds w T t m k inv s = or_right (mem m (w.at t).list) _ (ap (λ y. own (entry_at y) m) s ∙ eq-eqb m m refl)

swap_covers : (rules : Rules) (w : World) (T : Table) (t m : ℕ) (k : Release) (r : ℕ) (w' : World) (rule : ReleaseRule)
    → rules.release ≡ rule → w.rules ≡ rules → Good w T → 0 < t → t ≤ w.made → w.asleep t ≡ None
    → (w.at t).point ≡ LeaveSwaps m k → ServesUnder rules w t (LeaveSwaps m k) (given_up rule t m) r w'
    → IsMoveUnder rules w t (LeaveSwaps m k) r w'
swap_covers rules w T t m k r w' ClearsWord is same inv pos high a s d =
    swapped rules w t m k r w' pos high a s d.0
    (d.1 ∙ ap (write w (LockOf m)) (left_so rules w ClearsWord (w.lock m) is same))
swap_covers rules w T t m k r w' KeepsWaiters is same inv pos high a s d = absurd d
swap_covers rules w T t m k r w' TidiesWaiters is same inv pos high a s d = absurd d
swap_covers rules w T t m k r w' DropsOwner is same inv pos high a s d =
    let held = giver_holds w T t m k inv s in
    let tied = tie_held (T.hold m) (w.lock m) t (inv.locks.tie m) (inv.locks.held m t held) in
    let lives = tie_living (T.hold m) (w.lock m) t (inv.locks.tie m) (inv.locks.held m t held) in
    swapped rules w t m k r w' pos high a s d.0
    (d.1 ∙ ap (write w (LockOf m)) (owner_dropped (w.lock m) t tied.0 lives pos
    ∙ left_so rules w DropsOwner (w.lock m) is same))

none_of : (l : List ℕ) → length l ≡ 0 → l ≡ []
none_of [] h = refl
none_of (x ∷ xs) h = absurd (omega (arith, h))

plain_wake : (rules : Rules) (w : World) (t m : ℕ) (k : Release) (r : ℕ) (w' : World) → 0 < t → t ≤ w.made
    → w.asleep t ≡ None → (w.at t).point ≡ LeaveWakes m k → WakesOne w (OnLock m) w'
    → woken_at rules.release m k r ≡ HasLeft m k → IsMoveUnder rules w t (LeaveWakes m k) r w'
plain_wake rules w t m k r w' pos high a s d goes = record {
  end = any;
  move = Wake m k d.woken;
  can = record { number = (pos, high); awake = a; stands = s; finds = d.wake };
  done = fin _ w' t _ _ _ d.awake goes;
  possible = tt;
  carries = λ X. refl;
}

wakes_one : (rule : ReleaseRule) (w : World) (x : Spot) (r : ℕ) (w' : World) → WakesUnder rule w x r w' → WakesOne w x w'
wakes_one ClearsWord w x r w' d = d
wakes_one KeepsWaiters w x r w' d = d
wakes_one TidiesWaiters w x r w' d = d.0
wakes_one DropsOwner w x r w' d = d

notify_covers : (rules : Rules) (w : World) (t : ℕ) (c : Member) (r : ℕ) (w' : World) → 0 < t → t ≤ w.made
    → w.asleep t ≡ None → (w.at t).point ≡ NotifyWakes c → WakesOne w (OnSequence c) w'
    → IsMoveUnder rules w t (NotifyWakes c) r w'
notify_covers rules w t c r w' pos high a s d = record {
  end = any;
  move = WakeSeq c d.woken;
  can = record { number = (pos, high); awake = a; stands = s; finds = d.wake };
  done = fin _ w' t _ _ _ d.awake refl;
  possible = tt;
  carries = λ X. ap (λ (x : World). Some (Acts t (Notifies c (resumed_by w X c x.asleep)))) (sym d.awake);
}

-- the wake of a release: whether it goes on to clear the bit is told by its answer
wake_covers : (rules : Rules) (w : World) (t m : ℕ) (k : Release) (r : ℕ) (w' : World) (rule : ReleaseRule)
    → rules.release ≡ rule → w.rules ≡ rules → 0 < t → t ≤ w.made → w.asleep t ≡ None
    → (w.at t).point ≡ LeaveWakes m k → WakesUnder rule w (OnLock m) r w' → IsMoveUnder rules w t (LeaveWakes m k) r w'
wake_covers rules w t m k r w' ClearsWord is same pos high a s d = plain_wake rules w t m k r w' pos high a s d
    (ap (λ x. woken_at x m k r) is)
wake_covers rules w t m k r w' KeepsWaiters is same pos high a s d = plain_wake rules w t m k r w' pos high a s d
    (ap (λ x. woken_at x m k r) is)
wake_covers rules w t m k r w' DropsOwner is same pos high a s d = plain_wake rules w t m k r w' pos high a s d
    (ap (λ x. woken_at x m k r) is)
wake_covers rules w t m k r w' TidiesWaiters is same pos high a s d = elim (cases_eq r 0) [
  | inl z ↦ record {
    end = any;
    move = WakeNone m k;
    can = record {
      number = (pos, high);
      awake = a;
      stands = s;
      finds = (
        subst (λ (x : Rules). Tidies x.release) (sym same) (subst Tidies (sym is) tt),
        subst (λ l. IsWake w.asleep (OnLock m) 1 l) (none_of d.0.woken (sym d.1 ∙ z)) d.0.wake,
      );
    };
    done = fin _ w' t _ _ _ (d.0.awake ∙ ap (λ l. record w { asleep = awake_after w.asleep l })
        (none_of d.0.woken (sym d.1 ∙ z))) (ap (λ x. woken_at x m k r) is ∙ yes r 0 _ _ z);
    possible = tt;
    carries = λ X. refl;
  }
  | inr n ↦ plain_wake rules w t m k r w' pos high a s d.0 (ap (λ x. woken_at x m k r) is ∙ no r 0 _ _ n)
]

walk_end : (rules : Rules) (w : World) (T : Table) (t : ℕ) (x : Entry) (end : End) (r : ℕ) (w' : World) → w.rules ≡ rules → Good w T → 0 < t
    → t ≤ w.made → w.asleep t ≡ None → (w.at t).point ≡ Walks zero x end → w.pending t ≡ entry_word x
    → ExitDoesUnder rules w t (Walks zero x end) w' → IsMoveUnder rules w t (Walks zero x end) r w'
walk_end rules w T t NoEntry end r w' same inv pos high a s pend d = elim d [
  | inl k ↦ record {
    end = any;
    move = PendNone end;
    can = record { number = (pos, high); awake = a; stands = s; finds = tt };
    done = fin _ w' t _ _ _ k.1 refl;
    possible = tt;
    carries = λ X. refl;
  }
  | inr k ↦ absurd (omega (arith, pend, k.1))
]
walk_end rules w T t (Owned m) end r w' same inv pos high a s pend d = elim d [
  | inl k ↦ absurd (omega (arith, pend, k.0))
  | inr k ↦
      let q : k.0 ≡ m = suc_is k.0 m (sym k.1 ∙ pend) in
      elim k.2 [
        | inl f ↦ absurd (f.0 (ap (λ y. owner (w.lock y)) q ∙ has_entry w T t zero m end inv s))
        | inr f ↦ abandon_covers rules w T t m end r w' pos high a s (subst (λ y. Abandon w t y w') q f)
      ]
]
walk_end rules w T t (Unowned m) end r w' same inv pos high a s pend d = elim d [
  | inl k ↦ absurd (omega (arith, pend, k.0))
  | inr k ↦
      let q : k.0 ≡ m = suc_is k.0 m (sym k.1 ∙ pend) in
      elim k.2 [
        | inl f ↦ foreign_covers rules w rules.exit t m end r w'
            (ap (λ (x : Rules). x.exit) same) pos high a s (subst (λ y. Foreign rules.exit w y w') q f.1)
        | inr f ↦ absurd (foreign w T t zero m end inv pos s (ap (λ y. owner (w.lock y)) (sym q) ∙ f.0))
      ]
]

other_pending : (x : Entry) (m : ℕ) → x ≢ Owned m → is_pending x m ≡ false
other_pending NoEntry m n = refl
other_pending (Owned e) m n = ne_eqb e m (λ q. n (ap Owned q))
other_pending (Unowned e) m n = refl

entry_covers : (rules : Rules) (w : World) (t m : ℕ) (x : Entry) (end : End) (r : ℕ) (w' : World) → 0 < t → t ≤ w.made
    → w.asleep t ≡ None → (w.at t).point ≡ Walks (suc m) x end → x ≢ Owned m → Abandon w t m w'
    → IsMoveUnder rules w t (Walks (suc m) x end) r w'
entry_covers rules w t m x end r w' pos high a s n d = elim d.1 [
  | inl z ↦ record {
    end = any;
    move = EntryAlone m x end;
    can = record { number = (pos, high); awake = a; stands = s; finds = (n, z.0) };
    done = fin _ w' t _ _ _ z.1 refl;
    possible =
        tt;
    carries = λ X. sym (cond-false (is_pending x m) _ _ (other_pending x m n));
  }
  | inr z ↦ record {
    end = any;
    move = EntryWake m x end z.1.woken;
    can = record { number = (pos, high); awake = a; stands = s; finds = (n, z.0, z.1.wake) };
    done = fin _ w' t _ _ _ z.1.awake refl;
    possible = tt;
    carries = λ X. sym (cond-false (is_pending x m) _ _ (other_pending x m n));
  }
]

walk_covers : (rules : Rules) (w : World) (T : Table) (t a : ℕ) (x : Entry) (end : End) (r : ℕ) (w' : World) → w.rules ≡ rules → Good w T → 0 < t
    → t ≤ w.made → w.asleep t ≡ None → (w.at t).point ≡ Walks a x end → ExitDoesUnder rules w t (Walks a x end) w'
    → IsMoveUnder rules w t (Walks a x end) r w'
unfolding holds Knows
walk_covers rules w T t zero x end r w' same inv pos high aw s d = walk_end rules w T t x end r w'
    same inv pos high aw s (subst (λ y. PendAt y (w.pending t)) s (inv.pends.pend t)) d
walk_covers rules w T t (suc m) x end r w' same inv pos high aw s d =
    let pend : w.pending t ≡ entry_word x = subst (λ y. PendAt y (w.pending t)) s (inv.pends.pend t) in
    let chain : Chain w.link (suc m) (w.at t).list = subst (λ y. ChainAt w.link (w.head t) y (w.at t).list) s
    (inv.chains.chain t) in
    let first = (chain_some w.link m (w.at t).list chain).0 in
    let listed : mem m (w.at t).list ≡ true = ap (mem m) first
    ∙ or_left (m == m) (mem m (tail (w.at t).list)) (eq-eqb m m refl) in
    elim d [
      | inl k ↦ elim (entry_suc x m (sym pend ∙ k.0)) [
        | inl e ↦ record {
          end = any;
          move = SkipEntry m end;
          can = record { number = (pos, high); awake = aw; stands = s ∙ ap (λ y. Walks (suc m) y end) e; finds = tt };
          done = fin
              _ w' t _ _ _ k.1 (ap (λ y. Walks (w.link m) y end) e);
          possible = tt;
          carries = λ X. sym (cond-true (is_pending x m) _ _ (ap (λ y. is_pending y m) e ∙ eq-eqb m m refl));
        }
        | inr e ↦ let not_listed : ListedEntry (Unowned m) (w.at t).list = subst (λ y. ListedEntry y (w.at t).list) e
            (subst (λ y. Listed y (w.at t).list) s (inv.locks.knows t).1)
            in absurd (false≢true (sym not_listed ∙ listed))
      ]
      | inr k ↦ elim k [
        | inl f ↦ absurd (f.0 (holder_owns w T t m inv (or_left (mem m (w.at t).list) _ listed)))
        | inr f ↦ entry_covers rules w t m x end r w' pos high aw s (λ e. f.0 (pend ∙ ap entry_word e)) f.1
      ]
    ]

pub covers : (rules : Rules) (w : World) (T : Table) (t : ℕ) (p : Point) (r : ℕ) (w' : World) → w.rules ≡ rules → Good w T
    → 0 < t → t ≤ w.made → w.asleep t ≡ None → (w.at t).point ≡ p → ServesUnder rules w t p (request_under rules.release t p) r w' → IsMoveUnder rules w t p r w'
unfolding joins is_made holds Knows
covers rules w T t (EnterPends m) r w' same inv pos high a s d = record {
  end = any;
  move = SetPend m;
  can = record { number = (pos, high); awake = a; stands = s; finds = tt };
  done = fin _ w' t _ _ _ d refl;
  possible = tt;
  carries = λ X. refl;
}
covers rules w T t (EnterTries m) r w' same inv pos high a s d = elim d.1 [
  | inl k ↦ record {
    end = any;
    move = CompareSwapGot m;
    can = record { number = (pos, high); awake = a; stands = s; finds = k.0 };
    done = fin _ w' t _ _ _ k.1 (yes r 0 _ _ (d.0 ∙ k.0));
    possible = tt;
    carries = λ X. sym (yes r 0 _ _ (d.0 ∙ k.0));
  }
  | inr k ↦ record {
    end = any;
    move = CompareSwapBusy m;
    can = record { number = (pos, high); awake = a; stands = s; finds = k.0 };
    done = fin _ w' t _ _ _ k.1 (no r 0 _ _ (λ z. k.0 (sym d.0 ∙ z)));
    possible = tt;
    carries = λ X. sym (no r 0 _ _ (λ z. k.0 (sym d.0 ∙ z)));
  }
]
covers rules w T t (ReenterPends m) r w' same inv pos high a s d = record {
  end = any;
  move = SetPendHeld m;
  can = record { number = (pos, high); awake = a; stands = s; finds = tt };
  done
      = fin _ w' t _ _ _ d refl;
  possible = tt;
  carries = λ X. refl;
}
covers rules w T t (ReenterTries m) r w' same inv pos high a s d = elim d.1 [
  | inl k ↦
      let known : mem m (w.at t).list ≡ true = subst (λ y. Listed y (w.at t).list) s (inv.locks.knows t).1 in
      let h = inv.locks.held m t (or_left (mem m (w.at t).list) _ known) in
      let b = tie_held (T.hold m) (w.lock m) t (inv.locks.tie m) h in
      absurd (omega (arith, b.0, b.1, ap owner k.0, owner-small 0 (omega arith)))
  | inr k ↦ record {
    end = any;
    move = CompareSwapHeld m;
    can = record { number = (pos, high); awake = a; stands = s; finds = k.0 };
    done = fin _ w' t _ _ _ k.1 (no r 0 _ _ (λ z. k.0 (sym d.0 ∙ z)));
    possible = λ z. k.0 (sym d.0 ∙ z);
    carries = λ X. refl;
  }
]
covers rules w T t (TakeReads m k) r w' same inv pos high a s d = elim (cases_eq (owner (w.lock m)) 0) [
  | inl z ↦ record {
    end = any;
    move = LoadFree m k;
    can = record { number = (pos, high); awake = a; stands = s; finds = z };
    done = fin _ w' t _ _ _ d.1 (yes (owner r) 0 _ _ (ap owner d.0 ∙ z) ∙ ap (λ x. TakeTries m x k) d.0);
    possible = tt;
    carries = λ X. refl;
  }
  | inr z ↦ record {
    end = any;
    move = LoadHeld m k;
    can = record { number = (pos, high); awake = a; stands = s; finds = z };
    done = fin _ w' t _ _ _ d.1
        (no (owner r) 0 _ _ (λ q. z (sym (ap owner d.0) ∙ q)) ∙ ap (λ x. TakeMarks m x k) d.0);
    possible = tt;
    carries =
        λ X. refl;
  }
]
covers rules w T t (TakeMarks m v k) r w' same inv pos high a s d = elim d.1 [
  | inl z ↦ record {
    end = any;
    move = MarkDone m v k;
    can = record { number = (pos, high); awake = a; stands = s; finds = z.0 };
    done = fin _ w' t _ _ _ z.1 (yes r v _ _ (d.0 ∙ z.0));
    possible = tt;
    carries = λ X. refl;
  }
  | inr z ↦ record {
    end = any;
    move = MarkFail m v k;
    can = record { number = (pos, high); awake = a; stands = s; finds = z.0 };
    done = fin _ w' t _ _ _ z.1 (no r v _ _ (λ q. z.0 (sym d.0 ∙ q)));
    possible = tt;
    carries = λ X. refl;
  }
]
covers rules w T t (TakeSleeps m v k) r w' same inv pos high a s d = elim d [
  | inl z ↦ record {
    end = any;
    move = Sleep m v k;
    can = record { number = (pos, high); awake = a; stands = s; finds = z.0 };
    done = fin _ w' t _ _ _ z.1 refl;
    possible = tt;
    carries = λ X. refl;
  }
  | inr z ↦ record {
    end = any;
    move = Again m v k;
    can = record { number = (pos, high); awake = a; stands = s; finds = z.0 };
    done = fin _ w' t _ _ _ z.1 refl;
    possible = tt;
    carries = λ X. refl;
  }
]
covers rules w T t (TakeTries m v k) r w' same inv pos high a s d = elim d.1 [
  | inl z ↦ record {
    end = any;
    move = FreeGot m v k;
    can = record { number = (pos, high); awake = a; stands = s; finds = z.0 };
    done = fin _ w' t _ _ _ z.1 (yes r v _ _ (d.0 ∙ z.0));
    possible = tt;
    carries = λ X. sym (yes r v _ _ (d.0 ∙ z.0));
  }
  | inr z ↦ record {
    end = any;
    move = FreeFail m v k;
    can = record { number = (pos, high); awake = a; stands = s; finds = z.0 };
    done = fin _ w' t _ _ _ z.1 (no r v _ _ (λ q. z.0 (sym d.0 ∙ q)));
    possible = tt;
    carries = λ X. sym (no r v _ _ (λ q. z.0 (sym d.0 ∙ q)));
  }
]
covers rules w T t (GotReads m v) r w' same inv pos high a s d = record {
  end = any;
  move = ReadHead m v;
  can = record { number = (pos, high); awake = a; stands = s; finds = tt };
  done = fin _ w' t _ _ _ d.1 (ap (λ x. GotLinks m v x) d.0);
  possible = tt;
  carries = λ X. refl;
}
covers rules w T t (GotLinks m v h) r w' same inv pos high a s d = record {
  end = any;
  move = SetLink m v h;
  can = record { number = (pos, high); awake = a; stands = s; finds = tt };
  done
      = fin _ w' t _ _ _ d refl;
  possible = tt;
  carries = λ X. refl;
}
covers rules w T t (GotHeads m v) r w' same inv pos high a s d = record {
  end = any;
  move = SetHead m v;
  can = record { number = (pos, high); awake = a; stands = s; finds = tt };
  done = fin _ w' t _ _ _ d refl;
  possible = tt;
  carries = λ X. refl;
}
covers rules w T t (GotUnpends m v) r w' same inv pos high a s d = record {
  end = any;
  move = ClearPend m v;
  can = record { number = (pos, high); awake = a; stands = s; finds = tt };
  done
      = fin _ w' t _ _ _ d refl;
  possible = tt;
  carries = λ X. refl;
}
covers rules w T t (WaitReads c) r w' same inv pos high a s d = record {
  end = any;
  move = ReadSeq c;
  can = record { number = (pos, high); awake = a; stands = s; finds = tt };
  done = fin _ w' t _ _ _ d.1 (ap (λ x. LeavePends c.monitor (ToWait c x)) d.0);
  possible = tt;
  carries = λ X. refl;
}
covers rules w T t (NotifyAdds c) r w' same inv pos high a s d = record {
  end = any;
  move = AddSeq c;
  can = record { number = (pos, high); awake = a; stands = s; finds = tt };
  done = fin _ w' t _ _ _ d.1 refl;
  possible = tt;
  carries = λ X. refl;
}
covers rules w T t (NotifyWakes c) r w' same inv pos high a s d =
    notify_covers rules w t c r w' pos high a s (wakes_one rules.release w (OnSequence c) r w' d)
covers rules w T t (BroadcastAdds c) r w' same inv pos high a s d = record {
  end = any;
  move = AddAll c;
  can = record { number = (pos, high); awake = a; stands = s; finds = tt };
  done = fin
      _ w' t _ _ _ d.1 refl;
  possible = tt;
  carries = λ X. refl;
}
covers rules w T t (BroadcastMarks c) r w' same inv pos high a s d = record {
  end = any;
  move = OrLock c;
  can = record { number = (pos, high); awake = a; stands = s; finds = tt };
  done = fin
      _ w' t _ _ _ d.1 refl;
  possible = tt;
  carries = λ X. refl;
}
covers rules w T t (BroadcastReads c) r w' same inv pos high a s d = record {
  end = any;
  move = LoadSeq c;
  can = record { number = (pos, high); awake = a; stands = s; finds = tt };
  done =
      fin _ w' t _ _ _ d.1 (ap (λ x. BroadcastMoves c x) d.0);
  possible = tt;
  carries = λ X. refl;
}
covers rules w T t (BroadcastMoves c x) r w' same inv pos high a s d = elim d [
  | inl z ↦ record {
    end = any;
    move = MoveAll c x;
    can = record { number = (pos, high); awake = a; stands = s; finds = z.0 };
    done = fin _ w' t _ _ _ z.1 refl;
    possible = tt;
    carries = λ X. ap (λ (y : World). Some (Acts t (Broadcasts c (resumed_by w X c y.asleep)))) (sym z.1);
  }
  | inr z ↦ let f : x ≡ w.sequence c = subst (FreshAt w.sequence) s (inv.fresh.fresh t) in absurd (z.0 (sym f))
]
covers rules w T t (JoinReads q) r w' same inv pos high a s d = elim (cases_eq (w.id q) 0) [
  | inl z ↦
      let j : joins (w.at t) q ≡ true = ap (λ y. point_joins y q) s ∙ eq-eqb q q refl in
      let c = inv.joiners.claimed t q j in
      let g = gone (w.at q).point q (w.id q) (inv.joiners.ids q) z c.1
      (inv.threads.exist q c.1 (inv.threads.joined t q j)) in
      record {
        end = g.0;
        move = IdGone q g.0;
        can = record {
          number = (pos, high);
          awake = a;
          stands = s;
          finds =
              (z, g.1);
        };
        done = fin _ w' t _ _ _ d.1 (yes r 0 _ _ (d.0 ∙ z));
        possible = tt;
        carries = λ X. sym (yes r 0 _ _ (d.0 ∙ z));
      }
  | inr z ↦ record {
    end = any;
    move = IdThere q;
    can = record { number = (pos, high); awake = a; stands = s; finds = z };
    done = fin _ w' t _ _ _ d.1 (no r 0 _ _ (λ k. z (sym d.0 ∙ k)));
    possible = tt;
    carries = λ X. sym (no r 0 _ _ (λ k. z (sym d.0 ∙ k)));
  }
]
covers rules w T t (JoinSleeps q) r w' same inv pos high a s d = elim d [
  | inl z ↦ record {
    end = any;
    move = IdSleep q;
    can = record { number = (pos, high); awake = a; stands = s; finds = z.0 };
    done = fin _ w' t _ _ _ z.1 refl;
    possible = tt;
    carries = λ X. refl;
  }
  | inr z ↦ record {
    end = any;
    move = IdAgain q;
    can = record { number = (pos, high); awake = a; stands = s; finds = z.0 };
    done = fin _ w' t _ _ _ z.1 refl;
    possible = tt;
    carries = λ X. refl;
  }
]
covers rules w T t (JoinLearns q end) r w' same inv pos high a s d = elim (cases_eq (w.outcome q) 16) [
  | inl z ↦ record {
    end = any;
    move = LearnEnded q end;
    can = record { number = (pos, high); awake = a; stands = s; finds = z };
    done = fin _ w' t _ _ _ d.1 (yes r 16 _ _ (d.0 ∙ z));
    possible = tt;
    carries = λ X. refl;
  }
  | inr z ↦ record {
    end = any;
    move = LearnAborted q end;
    can = record { number = (pos, high); awake = a; stands = s; finds = z };
    done = fin _ w' t _ _ _ d.1 (no r 16 _ _ (λ k. z (sym d.0 ∙ k)));
    possible = tt;
    carries = λ X. refl;
  }
]
covers rules w T t (JoinTakes q end) r w' same inv pos high a s d = record {
  end = any;
  move = TakeResult q end;
  can = record { number = (pos, high); awake = a; stands = s; finds = tt };
  done = fin _ w' t _ _ _ d.1 refl;
  possible = tt;
  carries = λ X. refl;
}
covers rules w T t (LeavePends m k) r w' same inv pos high a s d = record {
  end = any;
  move = PendAgain m k;
  can = record { number = (pos, high); awake = a; stands = s; finds = tt };
  done
      = fin _ w' t _ _ _ d refl;
  possible = tt;
  carries = λ X. refl;
}
covers rules w T t (LeaveReads m k) r w' same inv pos high a s d = record {
  end = any;
  move = ReadLink m k;
  can = record { number = (pos, high); awake = a; stands = s; finds = tt };
  done =
      fin _ w' t _ _ _ d.1 (ap (λ x. LeaveHeads m x k) d.0);
  possible = tt;
  carries = λ X. refl;
}
covers rules w T t (LeaveHeads m h k) r w' same inv pos high a s d =
    cut_covers rules w t m h k r w' rules.release refl same pos high a s d
covers rules w T t (LeaveLoads m k) r w' same inv pos high a s d = record {
  end = any;
  move = LoadLock m k;
  can = record { number = (pos, high); awake = a; stands = s; finds = tt };
  done = fin _ w' t _ _ _ d.1 (ap (λ x. LeaveKeeps m x k) d.0);
  possible = tt;
  carries = λ X. refl;
}
covers rules w T t (LeaveKeeps m v k) r w' same inv pos high a s d = elim d.1 [
  | inl z ↦ elim (cases_eq (waiters v) 0) [
    | inl none ↦ record {
      end = any;
      move = KeepAlone m v k;
      can = record { number = (pos, high); awake = a; stands = s; finds = (z.0, none) };
      done = fin _ w' t _ _ _ z.1 (yes r v _ _ (d.0 ∙ z.0) ∙ yes (waiters v) 0 _ _ none);
      possible = tt;
      carries = λ X. sym (yes r v _ _ (d.0 ∙ z.0));
    }
    | inr some ↦ record {
      end = any;
      move = KeepWake m v k;
      can = record { number = (pos, high); awake = a; stands = s; finds = (z.0, some) };
      done = fin _ w' t _ _ _ z.1 (yes r v _ _ (d.0 ∙ z.0) ∙ no (waiters v) 0 _ _ some);
      possible = tt;
      carries = λ X. sym (yes r v _ _ (d.0 ∙ z.0));
    }
  ]
  | inr z ↦ record {
    end = any;
    move = KeepFail m v k;
    can = record { number = (pos, high); awake = a; stands = s; finds = z.0 };
    done = fin _ w' t _ _ _ z.1 (no r v _ _ (λ q. z.0 (sym d.0 ∙ q)));
    possible = tt;
    carries = λ X. sym (no r v _ _ (λ q. z.0 (sym d.0 ∙ q)));
  }
]
covers rules w T t (LeaveClears m k) r w' same inv pos high a s d = elim d.1 [
  | inl z ↦ record {
    end = any;
    move = ClearBit m k;
    can = record { number = (pos, high); awake = a; stands = s; finds = z.0 };
    done = fin _ w' t _ _ _ z.1 refl;
    possible = tt;
    carries = λ X. refl;
  }
  | inr z ↦ record {
    end = any;
    move = ClearFail m k;
    can = record { number = (pos, high); awake = a; stands = s; finds = z.0 };
    done = fin _ w' t _ _ _ z.1 refl;
    possible = tt;
    carries = λ X. refl;
  }
]
covers rules w T t (LeaveSwaps m k) r w' same inv pos high a s d =
    swap_covers rules w T t m k r w' rules.release refl same inv pos high a s d
covers rules w T t (LeaveWakes m k) r w' same inv pos high a s d =
    wake_covers rules w t m k r w' rules.release refl same pos high a s d
covers rules w T t (HasLeft m ToExit) r w' same inv pos high a s d = record {
  end = any;
  move = Finish m;
  can = record { number = (pos, high); awake = a; stands = s; finds = tt };
  done = fin
      _ w' t _ _ _ d refl;
  possible = tt;
  carries = λ X. refl;
}
covers rules w T t (HasLeft m (ToWait c x)) r w' same inv pos high a s d = elim d [
  | inl z ↦ record {
    end = any;
    move = SeqSleep m c x;
    can = record { number = (pos, high); awake = a; stands = s; finds = z.0 };
    done = fin _ w' t _ _ _ z.1 refl;
    possible = tt;
    carries = λ X. refl;
  }
  | inr z ↦ record {
    end = any;
    move = SeqAgain m c x;
    can = record { number = (pos, high); awake = a; stands = s; finds = z.0 };
    done = fin _ w' t _ _ _ z.1 refl;
    possible = tt;
    carries = λ X. refl;
  }
]
covers rules w T t (Dies cause x) r w' same inv pos high a s d = record {
  end = any;
  move = WriteFault cause x;
  can = record { number = (pos, high); awake = a; stands = s; finds = tt };
  done = fin _ w' t _ _ _ d.1 (ap (λ y. Walks y x (Aborted cause)) d.0);
  possible = tt;
  carries = λ X. refl;
}
covers rules w T t (Walks a x end) r w' same inv pos high aw s d = walk_covers rules w T t a x end r w' same inv pos high aw s d.1
covers rules w T t (ClearsId end) r w' same inv pos high a s d = record {
  end = any;
  move = ClearId end;
  can = record { number = (pos, high); awake = a; stands = s; finds = tt };
  done = fin _ w' t _ _ _ d.1 refl;
  possible = tt;
  carries = λ X. refl;
}
covers rules w T t (LastWakes end) r w' same inv pos high a s d = record {
  end = any;
  move = LastWake end d.1.woken;
  can = record {
    number = (pos, high);
    awake = a;
    stands = s;
    finds =
        d.1.wake;
  };
  done = fin _ w' t _ _ _ d.1.awake refl;
  possible = tt;
  carries = λ X. refl;
}
covers rules w T t p r w' same inv pos high a s d = absurd d

pub every_step_under : (version : ImageVersion) (rules : Rules) → AreSafe rules → (ss : List (ℕ × Move)) (w : World)
    → Leads (opening_under version rules) ss w → (t : ℕ) (p : Point) (r : ℕ) (w' : World) → 0 < t → t ≤ w.made
    → w.asleep t ≡ None → (w.at t).point ≡ p → ServesUnder rules w t p (request_under rules.release t p) r w' → IsMoveUnder rules w t p r w'
every_step_under version rules safe ss w run t p r w' pos high a s d =
    covers rules w (last_table (opening_under version rules) (first_table (most_of version)) ss) t p r w'
    (rules_kept ss (opening_under version rules) w run) (good_under version rules safe ss w run) pos high a s d

-- at the points where a rule of releases says otherwise, the releases of the versions don't
swapped_plainly : (version : ImageVersion) (w : World) (t : ℕ) (p : Point) (m r : ℕ) (w' : World)
    → Serves w t p (given_up (release_of version) t m) r w'
    → ServesUnder (version_rules version) w t p (given_up (release_of version) t m) r w'
swapped_plainly One w t p m r w' d = d
swapped_plainly Two w t p m r w' d = d
swapped_plainly Linux w t p m r w' d = d

woken_plainly : (version : ImageVersion) (w : World) (x : Spot) (r : ℕ) (w' : World) → WakesOne w x w'
    → WakesUnder (release_of version) w x r w'
woken_plainly One w x r w' d = d
woken_plainly Two w x r w' d = d
woken_plainly Linux w x r w' d = d

released_plainly : (version : ImageVersion) (m : ℕ) (k : Release)
    → released_at (release_of version) m k ≡ LeaveSwaps m k
released_plainly One m k = refl
released_plainly Two m k = refl
released_plainly Linux m k = refl

wakes_plainly : (version : ImageVersion) (m : ℕ) (k : Release) (r : ℕ)
    → woken_at (release_of version) m k r ≡ HasLeft m k
wakes_plainly One m k r = refl
wakes_plainly Two m k r = refl
wakes_plainly Linux m k r = refl

to_next : (w : World) (t : ℕ) (p q : Point) (l : List ℕ) → p ≡ q → go_list w t p l ≡ go_list w t q l
to_next w t p q l e = ap (λ (x : Point). go_list w t x l) e

-- by the rules of a version the two say the same
served_plainly : (version : ImageVersion) (w : World) (t : ℕ) (p : Point) (r : ℕ) (w' : World)
    → w.rules ≡ version_rules version → Serves w t p (request (release_of version) t p) r w'
    → ServesUnder (version_rules version) w t p (request_under (release_of version) t p) r w'
served_plainly version w t (LeaveLoads m k) r w' same d = absurd d
served_plainly version w t (LeaveKeeps m v k) r w' same d = absurd d
served_plainly version w t (LeaveClears m k) r w' same d = absurd d
served_plainly version w t (LeaveSwaps m k) r w' same d = swapped_plainly version w t (LeaveSwaps m k) m r w' d
served_plainly version w t (LeaveWakes m k) r w' same d = woken_plainly version w (OnLock m) r w' d
served_plainly version w t (NotifyWakes c) r w' same d = woken_plainly version w (OnSequence c) r w' d
served_plainly version w t (HasLeft m ToExit) r w' same d = d
served_plainly version w t (HasLeft m (ToWait c s)) r w' same d = d
served_plainly version w t (Walks zero x end) r w' same d =
    subst (λ (u : Rules). (r ≡ 0) × ExitDoesUnder u w t (Walks zero x end) w') same d
served_plainly version w t (Walks (suc m) x end) r w' same d = d
served_plainly version w t p r w' same d = d

moves_plainly : (version : ImageVersion) (w : World) (t : ℕ) (p : Point) (r : ℕ) (w' : World)
    → Serves w t p (request (release_of version) t p) r w' → IsMoveUnder (version_rules version) w t p r w'
    → IsMove w t p r w'
moves_plainly version w t (LeaveLoads m k) r w' d h = absurd d
moves_plainly version w t (LeaveKeeps m v k) r w' d h = absurd d
moves_plainly version w t (LeaveClears m k) r w' d h = absurd d
moves_plainly version w t (LeaveHeads m e k) r w' d h = record {
  end = h.end;
  move = h.move;
  can = h.can;
  done = h.done ∙ to_next w' t _ _ (tail (w.at t).list) (released_plainly version m k);
  possible = h.possible;
  carries = h.carries;
}
moves_plainly version w t (LeaveWakes m k) r w' d h = record {
  end = h.end;
  move = h.move;
  can = h.can;
  done = h.done ∙ to_next w' t _ _ (w.at t).list (wakes_plainly version m k r);
  possible = h.possible;
  carries = h.carries;
}
moves_plainly version w t p r w' d h = record {
  end = h.end;
  move = h.move;
  can = h.can;
  done = h.done;
  possible = h.possible;
  carries = h.carries;
}

pub every_step_is_a_move : (version : ImageVersion) (ss : List (ℕ × Move)) (w : World)
    → Leads (opening_world version) ss w
    → (t : ℕ) (p : Point) (r : ℕ) (w' : World) → 0 < t → t ≤ w.made → w.asleep t ≡ None → (w.at t).point ≡ p
    → Serves w t p (request (release_of version) t p) r w' → IsMove w t p r w'
every_step_is_a_move version ss w run t p r w' pos high a s d = moves_plainly version w t p r w' d
    (every_step_under version (version_rules version) (version_safe version) ss w run t p r w' pos high a s
    (served_plainly version w t p r w' (rules_kept ss (opening_world version) w run) d))
