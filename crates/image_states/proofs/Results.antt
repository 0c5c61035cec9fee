-- What a result says, from what another does.
use Rattle.std.proofs.Common.{Bool, true, false, Result, Ok, Err}
use Rattle.std.specs.Prelude.{IfOk, MatchBool, OnOk}

pub on_ok : {X E : Type 0} (r : Result X E) (A B : Type 0) → OnOk r A → (A → B) → OnOk r B
on_ok (Ok x) A B a f = f a
on_ok (Err e) A B a f = tt

pub if_on : {X E : Type 0} (r : Result X E) (A : Type 0) (P : X → Type 0) → OnOk r A → (A → (x : X) → P x) → IfOk r P
if_on (Ok x) A P a f = f a x
if_on (Err e) A P a f = tt

pub if_ok : {X E : Type 0} (r : Result X E) (P Q : X → Type 0) → IfOk r P → ((x : X) → P x → Q x) → IfOk r Q
if_ok (Ok x) P Q p f = f x p
if_ok (Err e) P Q p f = tt

-- of two things that a result says
pub if_both : {X E : Type 0} (r : Result X E) (A : Type 0) (P Q : X → Type 0) → OnOk r A → IfOk r P
    → (A → (x : X) → P x → Q x) → IfOk r Q
if_both (Ok x) A P Q a p f = f a x p
if_both (Err e) A P Q a p f = tt

pub on_both : {X E : Type 0} (r : Result X E) (A B C : Type 0) → OnOk r A → OnOk r B → (A → B → C) → OnOk r C
on_both (Ok x) A B C a b f = f a b
on_both (Err e) A B C a b f = tt

-- what a test says, from what another does
pub match_both : (b : Bool) (A B A' B' : Type 0) → MatchBool b A B → (A → A') → (B → B') → MatchBool b A' B'
match_both true A B A' B' m f g = f m
match_both false A B A' B' m f g = g m
