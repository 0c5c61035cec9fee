-- A state beside one of which some threads are further on: by local steps, or by the rest of their exits.
use Rattle.std.proofs.Common.{◌≡◌, ◌≢◌, ◌∙◌, ◌⊎◌, ◌<◌, ◌+◌, ◌*◌, ◌-◌, ℕ, zero, inl, inr, Option, Some, None, List}
use Rattle.std.proofs.Common.{Bool, true, refl, sym, ap, subst, arith}
use Rattle.std.specs.Prelude.{⊤, ℤ}
use Rattle.std.proofs.lemmas.Bool.{cases_eq}
use Rattle.std.proofs.lemmas.Option.{same_Some}
use Rattle.words.specs.Process.{process_word}
use Rattle.words.specs.Updates.{put}
use Rattle.words.proofs.Updates.{at_put, at_put2, put_other, put_same}
use Rattle.isa.specs.Programs.{Program}
use Rattle.robustexit.specs.declared.phase.ExitPhase.TheVariants.{Entry, Pending, ClearId, LastWake, Ended}
use Rattle.locals.specs.Threads.{Thread, Runs, Dies, Exits, is_dying}
use Rattle.machine.specs.States.{State}
use Rattle.proof_image_search.specs.Searching.{IsExitWord, LeavesAlone}
use Rattle.proof_image_search.proofs.Ahead.{Ahead, AheadAt, runs_on, stands_back, stays_dying}

-- what is left of thread t's exit finds no pending entry, and clears its id where that isn't 0
abbrev pub IsLeaving : (ℕ → ℕ) → ℕ → Thread → Type 0
IsLeaving word t (Exits Pending) = word (process_word t 1) ≡ 0
IsLeaving word t (Exits ClearId) = ⊤
IsLeaving word t (Exits LastWake) = word (process_word t 2) ≡ 0
IsLeaving word t (Exits (Entry e seen)) = ⊥
IsLeaving word t (Exits Ended) = ⊥
IsLeaving word t (Runs place operands locals callers) = ⊥
IsLeaving word t (Dies cause) = ⊥

-- thread t is past its robust list in its exit, and further on it has ended
pub record IsGone (alone : Bool) (thread : ℕ → Option Thread) (word : ℕ → ℕ) (asleep : ℕ → Option ℕ)
    (here : ℕ → Option Thread) (words : ℕ → ℕ) (t : ℕ) : Type 0 where
  pub follows : alone ≡ true
  pub some : 0 < t
  pub local : Thread
  pub stands : thread t ≡ Some local
  pub leaves : IsLeaving word t local
  pub ended : here t ≡ Some (Exits Ended)
  pub awake : asleep t ≡ None
  pub nobody : (u : ℕ) → asleep u ≡ Some (process_word t 2) → ⊥
  pub cleared : words (process_word t 2) ≡ 0

-- each thread is where it is, or further on; and so are the words, but for the ids of those that have ended
pub record IsFurther (p : Program) (alone : Bool) (thread : ℕ → Option Thread) (word : ℕ → ℕ) (asleep : ℕ → Option ℕ)
    (here : ℕ → Option Thread) (words : ℕ → ℕ) : Type 0 where
  pub stands : (u : ℕ) → AheadAt p u (thread u) (here u) ⊎ IsGone alone thread word asleep here words u
  pub same : (a : ℕ) → (words a ≡ word a)
      ⊎ ((t : ℕ) × IsGone alone thread word asleep here words t × (a ≡ process_word t 2))

-- the state with these threads, these words and this output
abbrev pub further : State → (ℕ → Option Thread) → (ℕ → ℕ) → List ℤ → State
further s here words output = record s { thread = here; word = words; output = output }

abbrev pub IsFurtherOn : Program → Bool → State → (ℕ → Option Thread) → (ℕ → ℕ) → Type 0
IsFurtherOn p alone s here words = IsFurther p alone s.thread s.word s.asleep here words

-- no word of a thread is one of another
pub words_apart : (t u j k : ℕ) → 0 < t → 0 < u → t ≢ u → j < 6 → k < 6 → process_word t j ≡ process_word u k → ⊥
words_apart t u j k t_some u_some ne j_low k_low same =
    let e : 1 + 6 * (t - 1) + j ≡ 1 + 6 * (u - 1) + k = same in omega (arith, t_some, u_some, ne, j_low, k_low, e)

-- the pending entry of a thread is no id
pub pending_apart : (t u : ℕ) → process_word t 1 ≡ process_word u 2 → ⊥
pending_apart t u same = let e : 1 + 6 * (t - 1) + 1 ≡ 1 + 6 * (u - 1) + 2 = same in omega (arith, e)

-- who leaves is dying
pub leaving_dies : (word : ℕ → ℕ) (t : ℕ) (x : Thread) → IsLeaving word t x → is_dying x ≡ true
leaving_dies word t (Exits phase) h = refl
leaving_dies word t (Runs place operands locals callers) h = absurd h
leaving_dies word t (Dies cause) h = absurd h

-- it leaves by other words that are the same where its exit looks
pub leaving_on : (word word' : ℕ → ℕ) (t : ℕ) (x : Thread) → word' (process_word t 1) ≡ word (process_word t 1)
    → word' (process_word t 2) ≡ word (process_word t 2) → IsLeaving word t x → IsLeaving word' t x
leaving_on word word' t (Exits Pending) pending id h = pending ∙ h
leaving_on word word' t (Exits ClearId) pending id h = tt
leaving_on word word' t (Exits LastWake) pending id h = id ∙ h
leaving_on word word' t (Exits (Entry e seen)) pending id h = absurd h
leaving_on word word' t (Exits Ended) pending id h = absurd h
leaving_on word word' t (Runs place operands locals callers) pending id h = absurd h
leaving_on word word' t (Dies cause) pending id h = absurd h

-- no thread that has ended further on uses this word in the rest of its exit
abbrev pub IsFree : Bool → (ℕ → Option Thread) → ℕ → Type 0
IsFree alone here a =
    (t : ℕ) → alone ≡ true → 0 < t → here t ≡ Some (Exits Ended) → IsExitWord t a → ⊥

-- the word is the id of none
abbrev pub IsNoId : Bool → (ℕ → Option Thread) → ℕ → Type 0
IsNoId alone here a =
    (t : ℕ) → alone ≡ true → 0 < t → here t ≡ Some (Exits Ended) → a ≡ process_word t 2 → ⊥

-- thread u has not ended further on
abbrev pub IsOther : Bool → (ℕ → Option Thread) → ℕ → Type 0
IsOther alone here u = (t : ℕ) → alone ≡ true → here t ≡ Some (Exits Ended) → t ≢ u

-- where nobody has gone further on by its exit
pub itself_further : (p : Program) (alone : Bool) (s : State) (here : ℕ → Option Thread)
    → ((u : ℕ) → AheadAt p u (s.thread u) (here u)) → IsFurtherOn p alone s here s.word
itself_further p alone s here all = record { stands = λ u. inl (all u); same = λ a. inl refl }

module _ (p : Program) (alone : Bool) (thread : ℕ → Option Thread) (word : ℕ → ℕ) (asleep : ℕ → Option ℕ)
    (here : ℕ → Option Thread) (words : ℕ → ℕ) (all : IsFurther p alone thread word asleep here words) where
  abbrev pub Gone : ℕ → Type 0
  Gone t = IsGone alone thread word asleep here words t

  -- a word is as it is, but for those ids
  pub reads : (a : ℕ) → IsNoId alone here a → words a ≡ word a
  reads a free = elim (all.same a) [
    | inl e ↦ e
    | inr g ↦ absurd (free g.0 g.1.follows g.1.some g.1.ended g.2)
  ]

  pub reads_free : (a : ℕ) → IsFree alone here a → words a ≡ word a
  reads_free a free = reads a (λ t f some ended e. free t f some ended (inr e))

  -- a word is written in both
  pub stored : (a v v' : ℕ) → v ≡ v' → IsFree alone here a
      → IsFurther p alone thread (put word a v) asleep here (put words a v')
  stored a v v' same free = record {
    stands = λ u. elim (all.stands u) [
      | inl one ↦ inl one
      | inr g ↦ inr (on u g)
    ];
    same = λ b. at_put2 words word a v' v b
        (λ w o. (w ≡ o)
        ⊎ ((t : ℕ) × IsGone alone thread (put word a v) asleep here (put words a v') t × (b ≡ process_word t 2)))
        (λ e. inl (sym same)) (λ ne. elim (all.same b) [
          | inl e ↦ inl e
          | inr g ↦ inr (g.0, on g.0 g.1, g.2)
        ]);
  }
    where
      on : (t : ℕ) → Gone t → IsGone alone thread (put word a v) asleep here (put words a v') t
      on t g = record {
        follows = g.follows;
        some = g.some;
        local = g.local;
        stands = g.stands;
        leaves = leaving_on word (put word a v) t g.local
            (put_other word a v (process_word t 1) (λ e. free t g.follows g.some g.ended (inl (sym e))))
            (put_other word a v (process_word t 2) (λ e. free t g.follows g.some g.ended (inr (sym e)))) g.leaves;
        ended = g.ended;
        awake = g.awake;
        nobody = g.nobody;
        cleared = put_other words a v' (process_word t 2) (λ e. free t g.follows g.some g.ended (inr (sym e)))
            ∙ g.cleared;
      }

  -- one thread is changed, in one of them or in both
  pub changed : (thread' here' : ℕ → Option Thread) (u : ℕ) → AheadAt p u (thread' u) (here' u)
      → ((v : ℕ) → v ≢ u → thread' v ≡ thread v) → ((v : ℕ) → v ≢ u → here' v ≡ here v) → IsOther alone here u
      → IsFurther p alone thread' word asleep here' words
  changed thread' here' u one there further_on other = record {
    stands = λ v. elim (cases_eq v u) [
      | inl e ↦ inl (subst (λ j. AheadAt p j (thread' j) (here' j)) (sym e) one)
      | inr ne ↦ elim (all.stands v) [
        | inl a ↦ inl (subst (λ o. AheadAt p v o (here' v)) (sym (there v ne))
            (subst (λ o. AheadAt p v (thread v) o) (sym (further_on v ne)) a))
        | inr g ↦ inr (on v g)
      ]
    ];
    same = λ a. elim (all.same a) [
      | inl e ↦ inl e
      | inr g ↦ inr (g.0, on g.0 g.1, g.2)
    ];
  }
    where
      on : (t : ℕ) → Gone t → IsGone alone thread' word asleep here' words t
      on t g = record {
        follows = g.follows;
        some = g.some;
        local = g.local;
        stands = there t (other t g.follows g.ended) ∙ g.stands;
        leaves = g.leaves;
        ended = further_on t (other t g.follows g.ended) ∙ g.ended;
        awake = g.awake;
        nobody = g.nobody;
        cleared = g.cleared;
      }

  -- others sleep: those who did, and those who didn't go further on, on no id of one who did
  abbrev pub SleepSo : (ℕ → Option ℕ) → Type 0
  SleepSo asleep' = (v b : ℕ) → asleep' v ≡ Some b
      → (asleep v ≡ Some b) ⊎ (((t : ℕ) → Gone t → t ≢ v) × IsNoId alone here b)

  pub slept : (asleep' : ℕ → Option ℕ) → SleepSo asleep' → IsFurther p alone thread word asleep' here words
  slept asleep' lies = record {
    stands = λ u. elim (all.stands u) [
      | inl one ↦ inl one
      | inr g ↦ inr (on u g)
    ];
    same = λ a. elim (all.same a) [
      | inl e ↦ inl e
      | inr g ↦ inr (g.0, on g.0 g.1, g.2)
    ];
  }
    where
      on : (t : ℕ) → Gone t → IsGone alone thread word asleep' here words t
      on t g = record {
        follows = g.follows;
        some = g.some;
        local = g.local;
        stands = g.stands;
        leaves = g.leaves;
        ended = g.ended;
        awake = by_place (asleep' t) refl;
        nobody = λ v e. elim (lies v (process_word t 2) e) [
          | inl q ↦ g.nobody v q
          | inr f ↦ f.1 t g.follows g.some g.ended refl
        ];
        cleared = g.cleared;
      }
        where
          by_place : (o : Option ℕ) → asleep' t ≡ o → asleep' t ≡ None
          by_place None e = e
          by_place (Some b) e = elim (lies t b e) [
            | inl q ↦ absurd (let no' : None ≡ Some b = sym g.awake ∙ q in cc)
            | inr f ↦ absurd (f.0 t g refl)
          ]

  -- one that has gone further on takes a step of its exit
  module _ (t : ℕ) (g : Gone t) where
    other_gone : (word' : ℕ → ℕ) → ((a : ℕ) → a ≢ process_word t 2 → word' a ≡ word a) → (x : Thread) (v : ℕ) → v ≢ t
        → Gone v → IsGone alone (put thread t (Some x)) word' asleep here words v
    other_gone word' same x v ne h = record {
      follows = h.follows;
      some = h.some;
      local = h.local;
      stands = put_other thread t (Some x) v ne ∙ h.stands;
      leaves = leaving_on word word' v h.local
          (same (process_word v 1) (λ e. pending_apart v t e))
          (same (process_word v 2) (λ e. words_apart v t 2 2 h.some g.some ne (omega arith) (omega arith) e)) h.leaves;
      ended = h.ended;
      awake = h.awake;
      nobody = h.nobody;
      cleared = h.cleared;
    }

    pub progressed : (word' : ℕ → ℕ) → ((a : ℕ) → a ≢ process_word t 2 → word' a ≡ word a) → (x : Thread)
        → IsLeaving word' t x → IsFurther p alone (put thread t (Some x)) word' asleep here words
    progressed word' same x leaves = record {
      stands = λ v. elim (cases_eq v t) [
        | inl e ↦ inr (subst (λ j. IsGone alone (put thread t (Some x)) word' asleep here words j) (sym e) now)
        | inr ne ↦ elim (all.stands v) [
          | inl one ↦ inl (subst (λ o. AheadAt p v o (here v)) (sym (put_other thread t (Some x) v ne)) one)
          | inr h ↦ inr (other_gone word' same x v ne h)
        ]
      ];
      same = λ a. elim (cases_eq a (process_word t 2)) [
        | inl e ↦ inr (t, now, e)
        | inr ne ↦ elim (all.same a) [
          | inl e ↦ inl (e ∙ sym (same a ne))
          | inr h ↦
              inr (h.0, other_gone word' same x h.0 (λ e. ne (h.2 ∙ ap (λ j. process_word j 2) e)) h.1, h.2)
        ]
      ];
    }
      where
        now : IsGone alone (put thread t (Some x)) word' asleep here words t
        now = record {
          follows = g.follows;
          some = g.some;
          local = x;
          stands = put_same thread t (Some x);
          leaves = leaves;
          ended = g.ended;
          awake = g.awake;
          nobody = g.nobody;
          cleared = g.cleared;
        }

    -- its last one
    pub over : word (process_word t 2) ≡ 0
        → IsFurther p alone (put thread t (Some (Exits Ended))) word asleep here words
    over none = record {
      stands = λ v. elim (cases_eq v t) [
        | inl e ↦ inl (subst (λ j. AheadAt p j (put thread t (Some (Exits Ended)) j) (here j)) (sym e) at)
        | inr ne ↦ elim (all.stands v) [
          | inl one ↦
              inl (subst (λ o. AheadAt p v o (here v)) (sym (put_other thread t (Some (Exits Ended)) v ne)) one)
          | inr h ↦ inr (other_gone word (λ a ne'. refl) (Exits Ended) v ne h)
        ]
      ];
      same = λ a. elim (all.same a) [
        | inl e ↦ inl e
        | inr h ↦ elim (cases_eq h.0 t) [
          | inl same ↦
              let e : a ≡ process_word t 2 = h.2 ∙ ap (λ j. process_word j 2) same in
              inl (ap words e ∙ g.cleared ∙ sym none ∙ ap word (sym e))
          | inr ne ↦ inr (h.0, other_gone word (λ b ne'. refl) (Exits Ended) h.0 ne h.1, h.2)
        ]
      ];
    }
      where
        at : AheadAt p t (put thread t (Some (Exits Ended)) t) (here t)
        at = subst (λ o. AheadAt p t o (here t)) (sym (put_same thread t (Some (Exits Ended))))
            (subst (λ o. AheadAt p t (Some (Exits Ended)) o) (sym g.ended) (zero, refl))

-- where a thread is dying further on, it has taken no local step
pub dying_there : (p : Program) (t : ℕ) (y : Thread) (a o : Option Thread) → o ≡ Some y → AheadAt p t a o
    → is_dying y ≡ true → a ≡ Some y
dying_there p t y a o e h dying = by_back (stands_back p t y a o e h)
  where
    by_back : (x : Thread) × (n : ℕ) × (a ≡ Some x) × Ahead p t n x y → a ≡ Some y
    by_back (x, n, at, on) =
        at ∙ ap (λ z. Some z) (stays_dying p t n x y on (sym (runs_on p t n x y on) ∙ dying))

-- who has gone further on by its exit has not by local steps
pub not_both : (p : Program) (alone : Bool) (thread : ℕ → Option Thread) (word : ℕ → ℕ) (asleep : ℕ → Option ℕ)
    (here : ℕ → Option Thread) (words : ℕ → ℕ) (t : ℕ) → AheadAt p t (thread t) (here t)
    → IsGone alone thread word asleep here words t → ⊥
not_both p alone thread word asleep here words t one g =
    let at : thread t ≡ Some (Exits Ended) = dying_there p t (Exits Ended) (thread t) (here t) g.ended one refl in
    subst (IsLeaving word t) (same_Some g.local (Exits Ended) (sym g.stands ∙ at)) g.leaves

-- further on, a thread leaves alone
module _ (p : Program) (alone : Bool) (s : State) (here : ℕ → Option Thread) (words : ℕ → ℕ) (output : List ℤ)
    (all : IsFurtherOn p alone s here words) (t : ℕ) (is : alone ≡ true)
    (h : LeavesAlone (further s here words output) t) where
  stood_there : s.thread t ≡ Some (Exits Pending)
  stood_there = elim (all.stands t) [
    | inl one ↦ dying_there p t (Exits Pending) (s.thread t) (here t) h.stands one refl
    | inr g ↦ absurd (let no' : Some (Exits Pending) ≡ Some (Exits Ended) = sym h.stands ∙ g.ended in cc)
  ]

  abbrev Then : ℕ → Type 0
  Then v = IsGone alone s.thread s.word s.asleep (put here t (Some (Exits Ended))) (put words (process_word t 2) 0) v

  then_gone : Then t
  then_gone = record {
    follows = is;
    some = h.some;
    local = Exits Pending;
    stands = stood_there;
    leaves = sym (reads p alone s.thread s.word s.asleep here words all (process_word t 1)
        (λ u f some ended e. pending_apart t u e)) ∙ h.none;
    ended = put_same here t (Some (Exits Ended));
    awake = h.awake;
    nobody = h.nobody;
    cleared = put_same words (process_word t 2) 0;
  }

  others_gone : (v : ℕ) → v ≢ t → IsGone alone s.thread s.word s.asleep here words v → Then v
  others_gone v ne g = record {
    follows = g.follows;
    some = g.some;
    local = g.local;
    stands = g.stands;
    leaves = g.leaves;
    ended = put_other here t (Some (Exits Ended)) v ne ∙ g.ended;
    awake = g.awake;
    nobody = g.nobody;
    cleared = put_other words (process_word t 2) 0 (process_word v 2)
        (λ e. words_apart v t 2 2 g.some h.some ne (omega arith) (omega arith) e)
        ∙ g.cleared;
  }

  pub left_on : IsFurtherOn p alone s (put here t (Some (Exits Ended))) (put words (process_word t 2) 0)
  left_on = record {
    stands = λ v. elim (cases_eq v t) [
      | inl e ↦ inr (subst Then (sym e) then_gone)
      | inr ne ↦ elim (all.stands v) [
        | inl one ↦ inl (subst (λ o. AheadAt p v (s.thread v) o) (sym (put_other here t (Some (Exits Ended)) v ne)) one)
        | inr g ↦ inr (others_gone v ne g)
      ]
    ];
    same = λ a. at_put words (process_word t 2) 0 a
        (λ w. (w ≡ s.word a) ⊎ ((v : ℕ) × Then v × (a ≡ process_word v 2))) (λ e. inr (t, then_gone, e))
        (λ ne. elim (all.same a) [
          | inl e ↦ inl e
          | inr g ↦ inr (g.0, others_gone g.0 (λ e. ne (g.2 ∙ ap (λ j. process_word j 2) e)) g.1, g.2)
        ]);
  }
