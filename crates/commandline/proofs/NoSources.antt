-- Where the words don't name what a run goes by, none is asked for.
use Rattle.std.proofs.Common.{◌≡◌, ◌⊎◌, inl, inr, ◌||◌, ◌∙◌, Bool, true, false, ℕ, List, [], ◌∷◌, Option, Some, None}
use Rattle.std.proofs.Common.{codes, refl, sym, true≢false}
use Rattle.clap.specs.Words.{Row, Text, first_of, one_of}
use Rattle.commandline.specs.CommandLine.{IsExplainedBy, IsReplayedBy, ReadsKills, ReadsOrder, ReadsSeed, ReadsSteps}
use Rattle.commandline.specs.CommandLine.{IsCountOf, IsNumberOf, ReadsAction, ReadsChart, ReadsStrays, has_any, is_written}
use Rattle.commandline.specs.declared.options.ChartOptions.{ChartOptions}
use Rattle.commandline.specs.declared.options.ExplainedBy.{ExplainedBy}
use Rattle.commandline.specs.declared.options.ExplainedBy.TheVariants.{Order as ByOrder, Seed as BySeed}
use Rattle.commandline.specs.declared.options.ExplainedBy.TheVariants.{Schedule as BySchedule, Log as ByLog}
use Rattle.commandline.specs.declared.options.Order.{Order}
use Rattle.commandline.specs.declared.options.Order.TheVariants.{Workers, InOrder, Seed}
use Rattle.commandline.specs.CommandLine.{ReadsForm}
use Rattle.commandline.specs.declared.options.ImageForm.{ImageForm}
use Rattle.commandline.specs.declared.options.ImageForm.TheVariants as form
use Rattle.commandline.specs.declared.options.ReplayedBy.{ReplayedBy}
use Rattle.commandline.specs.declared.options.ReplayedBy.TheVariants.{Schedule, Log}
use Rattle.commandline.proofs.Numbers.{no_value}

pub clash : (b : Bool) → b ≡ true → b ≡ false → ⊥
clash b stands out = true≢false (sym stands ∙ out)

-- of two that are or, neither is
left_out : (a b : Bool) → (a || b) ≡ false → a ≡ false
left_out true b h = h
left_out false b h = refl

right_out : (a b : Bool) → (a || b) ≡ false → b ≡ false
right_out true b h = absurd (true≢false h)
right_out false b h = h

-- of arguments that are left out, each is
pub first_out : (a : Text) (ids : List Text) (rows : List Row) → has_any (a ∷ ids) rows ≡ false
    → is_written a rows ≡ false
first_out a ids rows h = left_out (is_written a rows) (has_any ids rows) h

pub rest_out : (a : Text) (ids : List Text) (rows : List Row) → has_any (a ∷ ids) rows ≡ false
    → has_any ids rows ≡ false
rest_out a ids rows h = right_out (is_written a rows) (has_any ids rows) h

second_out : (a b : Text) (ids : List Text) (rows : List Row) → has_any (a ∷ b ∷ ids) rows ≡ false
    → is_written b rows ≡ false
second_out a b ids rows h = first_out b ids rows (rest_out a (b ∷ ids) rows h)

-- where no number can be read for stray wakes that are asked for, none is asked for
pub no_count : (rows : List Row) (s : Option ℕ) → is_written (codes "strays") rows ≡ true
    → ((n : ℕ) → IsCountOf (one_of (codes "strays") rows) n → ⊥) → ReadsStrays rows s → ⊥
no_count rows None written none h = clash _ written h
no_count rows (Some n) written none h = none n h.1

-- where no number can be read for an action that is asked for, none is asked for
pub no_action : (name : Text) (rows : List Row) (a : Option ℕ) → is_written name rows ≡ true
    → ((n : ℕ) → IsNumberOf (one_of name rows) 64 n → ⊥) → ReadsAction name rows a → ⊥
no_action name rows None written none h = clash _ written h
no_action name rows (Some n) written none h = none n h.1

-- where one of the two actions can't be read, no picture is asked for
pub no_actions : (rows : List Row) (c : Option ChartOptions)
    → ((a : Option ℕ) → ReadsAction (codes "from") rows a → ⊥)
    ⊎ ((a : Option ℕ) → ReadsAction (codes "to") rows a → ⊥) → ReadsChart rows c → ⊥
no_actions rows None (inl none) h = none None (first_out (codes "from") (codes "to" ∷ []) rows h.1)
no_actions rows None (inr none) h = none None (second_out (codes "from") (codes "to") [] rows h.1)
no_actions rows (Some c) (inl none) h = none c.from h.1
no_actions rows (Some c) (inr none) h = none c.to h.2

-- which actions a picture has is said beside its file alone
pub no_chart : (rows : List Row) (c : Option ChartOptions) → first_of (codes "chart") rows ≡ None
    → has_any (codes "from" ∷ codes "to" ∷ []) rows ≡ true → ReadsChart rows c → ⊥
no_chart rows None none some h = clash _ some h.1
no_chart rows (Some c) none some h = no_value _ _ none h.0

-- what comes from outside beside a seed alone
abbrev outside : List Text
outside = codes "strays" ∷ codes "kills" ∷ []

-- what stands beside a seed alone has no order where none stands
pub no_outside : (rows : List Row) (o : Order) → is_written (codes "seed") rows ≡ false
    → has_any (codes "strays" ∷ codes "kills" ∷ []) rows ≡ true → ReadsOrder rows o → ⊥
no_outside rows Workers seed some h =
    clash _ some (rest_out (codes "seed") outside rows (rest_out (codes "in-order") (codes "seed" ∷ outside) rows h))
no_outside rows InOrder seed some h = clash _ some (rest_out (codes "seed") outside rows h.1)
no_outside rows (Seed n s k) seed some h = clash _ h.1 seed

pub no_order : (rows : List Row) (o : Order) → is_written (codes "in-order") rows ≡ true
    → is_written (codes "seed") rows ≡ true → ReadsOrder rows o → ⊥
no_order rows Workers order seed h = clash _ order (first_out (codes "in-order") (codes "seed" ∷ outside) rows h)
no_order rows InOrder order seed h = clash _ seed (first_out (codes "seed") outside rows h.1)
no_order rows (Seed n s k) order seed h = clash _ order h.0

-- where a number that stands beside a seed can't be read, no order is asked for
pub no_seed : (rows : List Row) (o : Order) → is_written (codes "in-order") rows ≡ false
    → is_written (codes "seed") rows ≡ true → ((n : ℕ) → ReadsSeed rows n → ⊥)
    ⊎ (((s : Option ℕ) → ReadsStrays rows s → ⊥) ⊎ ((k : ℕ) → ReadsKills rows k → ⊥)) → ReadsOrder rows o → ⊥
no_seed rows Workers order seed none h =
    clash _ seed (second_out (codes "in-order") (codes "seed") outside rows h)
no_seed rows InOrder order seed none h = clash _ h.0 order
no_seed rows (Seed n s k) order seed (inl none) h = none n h.2
no_seed rows (Seed n s k) order seed (inr (inl none)) h = none s h.3
no_seed rows (Seed n s k) order seed (inr (inr none)) h = none k h.4

-- of two texts one is none, where the same is said of both
no_both : (o : Option Text) (t : Text) → o ≡ Some t → o ≡ None → ⊥
no_both o t some none = no_value _ _ none some

pub no_replayed : (rows : List Row) (r : ReplayedBy) → first_of (codes "SCHEDULE") rows ≡ None
    → (first_of (codes "log") rows ≡ None) ⊎ ((n : ℕ) → ReadsSteps rows n → ⊥) → IsReplayedBy rows r → ⊥
no_replayed rows (Schedule schedule log) none why h = no_value _ _ none h.0
no_replayed rows (Log log steps) none (inl no_log) h = no_value _ _ no_log h.1
no_replayed rows (Log log steps) none (inr no_steps) h = no_steps steps h.2

pub no_scheduled : (rows : List Row) (r : ReplayedBy) (t : Text) → first_of (codes "SCHEDULE") rows ≡ Some t
    → is_written (codes "steps") rows ≡ true → IsReplayedBy rows r → ⊥
no_scheduled rows (Schedule schedule log) t some written h = clash _ written h.2
no_scheduled rows (Log log steps) t some written h = no_both _ t some h.0

-- of two flags both stand, so there is no form
pub no_form : (rows : List Row) (f : Option ImageForm) → is_written (codes "assembly") rows ≡ true
    → is_written (codes "image") rows ≡ true → ReadsForm rows f → ⊥
no_form rows None assembly image h = clash _ assembly (first_out (codes "assembly") (codes "image" ∷ []) rows h)
no_form rows (Some form.Assembly) assembly image h = clash _ image h.1
no_form rows (Some form.Image) assembly image h = clash _ assembly h.0

-- a file of one form is none of another
pub no_source : (rows : List Row) (f : ImageForm) → ReadsForm rows None → ReadsForm rows (Some f) → ⊥
no_source rows form.Assembly none h = clash _ h.0 (first_out (codes "assembly") (codes "image" ∷ []) rows none)
no_source rows form.Image none h = clash _ h.1 (second_out (codes "assembly") (codes "image") [] rows none)

pub no_schedule : (rows : List Row) (e : ExplainedBy) → is_written (codes "schedule") rows ≡ true
    → (has_any (codes "steps" ∷ codes "log" ∷ codes "seed" ∷ codes "strays" ∷ codes "kills" ∷ []) rows ≡ true)
    ⊎ (first_of (codes "schedule") rows ≡ None) → IsExplainedBy rows e → ⊥
no_schedule rows (ByOrder steps) written why h =
    clash _ written (first_out (codes "schedule") (codes "log" ∷ codes "seed" ∷ outside) rows h.0)
no_schedule rows (BySeed steps seed strays kills) written why h =
    clash _ written (first_out (codes "schedule") (codes "log" ∷ []) rows h.0)
no_schedule rows (BySchedule schedule) written (inl more) h = clash _ more h.0
no_schedule rows (BySchedule schedule) written (inr none) h = no_value _ _ none h.2
no_schedule rows (ByLog log steps) written why h =
    clash _ written (first_out (codes "schedule") (codes "seed" ∷ outside) rows h.0)

pub no_log : (rows : List Row) (e : ExplainedBy) → is_written (codes "log") rows ≡ true
    → (has_any (codes "schedule" ∷ codes "seed" ∷ codes "strays" ∷ codes "kills" ∷ []) rows ≡ true)
    ⊎ ((first_of (codes "log") rows ≡ None) ⊎ ((n : ℕ) → ReadsSteps rows n → ⊥)) → IsExplainedBy rows e → ⊥
no_log rows (ByOrder steps) written why h =
    clash _ written (second_out (codes "schedule") (codes "log") (codes "seed" ∷ outside) rows h.0)
no_log rows (BySeed steps seed strays kills) written why h =
    clash _ written (second_out (codes "schedule") (codes "log") [] rows h.0)
no_log rows (BySchedule schedule) written why h =
    clash _ written (second_out (codes "steps") (codes "log") (codes "seed" ∷ outside) rows h.0)
no_log rows (ByLog log steps) written (inl more) h = clash _ more h.0
no_log rows (ByLog log steps) written (inr (inl none)) h = no_value _ _ none h.2
no_log rows (ByLog log steps) written (inr (inr none)) h = none steps h.3

pub no_steps : (rows : List Row) (e : ExplainedBy) → is_written (codes "schedule") rows ≡ false
    → is_written (codes "log") rows ≡ false → ((n : ℕ) → ReadsSteps rows n → ⊥) → IsExplainedBy rows e → ⊥
no_steps rows (ByOrder steps) schedule log none h = none steps h.1
no_steps rows (BySeed steps seed strays kills) schedule log none h = none steps h.2
no_steps rows (BySchedule name) schedule log none h = clash _ h.1 schedule
no_steps rows (ByLog name steps) schedule log none h = clash _ h.1 log

pub no_seeded : (rows : List Row) (e : ExplainedBy) → is_written (codes "schedule") rows ≡ false
    → is_written (codes "log") rows ≡ false → is_written (codes "seed") rows ≡ true
    → ((n : ℕ) → ReadsSeed rows n → ⊥)
    ⊎ (((s : Option ℕ) → ReadsStrays rows s → ⊥) ⊎ ((k : ℕ) → ReadsKills rows k → ⊥)) → IsExplainedBy rows e → ⊥
no_seeded rows (ByOrder steps) schedule log seed none h =
    clash _ seed (second_out (codes "log") (codes "seed") outside rows
    (rest_out (codes "schedule") (codes "log" ∷ codes "seed" ∷ outside) rows h.0))
no_seeded rows (BySeed steps seed strays kills) schedule log written (inl none) h = none seed h.3
no_seeded rows (BySeed steps seed strays kills) schedule log written (inr (inl none)) h = none strays h.4
no_seeded rows (BySeed steps seed strays kills) schedule log written (inr (inr none)) h = none kills h.5
no_seeded rows (BySchedule name) schedule log seed none h = clash _ h.1 schedule
no_seeded rows (ByLog name steps) schedule log seed none h = clash _ h.1 log

pub no_seedless : (rows : List Row) (e : ExplainedBy) → is_written (codes "schedule") rows ≡ false
    → is_written (codes "log") rows ≡ false → is_written (codes "seed") rows ≡ false
    → has_any (codes "strays" ∷ codes "kills" ∷ []) rows ≡ true → IsExplainedBy rows e → ⊥
no_seedless rows (ByOrder steps) schedule log seed some h =
    clash _ some (rest_out (codes "seed") outside rows (rest_out (codes "log") (codes "seed" ∷ outside) rows
    (rest_out (codes "schedule") (codes "log" ∷ codes "seed" ∷ outside) rows h.0)))
no_seedless rows (BySeed steps n s k) schedule log seed some h = clash _ h.1 seed
no_seedless rows (BySchedule name) schedule log seed some h = clash _ h.1 schedule
no_seedless rows (ByLog name steps) schedule log seed some h = clash _ h.1 log
