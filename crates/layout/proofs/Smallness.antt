-- The layout of a checked program has few monitors with few words, and a monitor that there isn't has the address 0.
use Rattle.std.proofs.Common.{◌≡◌, ◌≤◌, ◌+◌, ℕ, List, [], ◌∷◌, ◌++◌, drop, length, map, sum, refl, sym, ap, ◌∙◌, arith}
use Rattle.std.proofs.lemmas.List.{append-nil, at_drop_all}
use Rattle.program.specs.declared.unit.Monitor.{Monitor as MonitorOf}
use Rattle.program.specs.Views.{monitor_of}
use Rattle.std.proofs.lemmas.List.Sums.{sum_by-cons}
use Rattle.std.proofs.lemmas.Option.{slice_get-map, slice_get_past}
use Rattle.std.specs.Option.{option_map}
use Rattle.words.specs.declared.version.ImageVersion.{ImageVersion}
use Rattle.words.specs.Versions.{base_of}
use Rattle.program.specs.Trees.{Monitor, Program}
use Rattle.program.specs.WellFormed.{WellFormed, words_of, all_words}
use Rattle.lowering.specs.Layout.{MonitorLayout, monitors_from, link_in, link_at}
use Rattle.layout.specs.declared.monitor_place.MonitorPlace.{MonitorPlace}
use Rattle.layout.specs.Views.{view_of, IsSmall}

length_from : (base : ℕ) (ms : List Monitor) → length (monitors_from base ms) ≡ length ms
length_from base [] = refl
length_from base (m ∷ ms) = let h = length_from (base + 2 + words_of m.members) ms in omega arith

words_from : (base : ℕ) (ms : List Monitor) → sum (map (λ m. m.words) (monitors_from base ms)) ≡ all_words ms
words_from base [] = refl
words_from base (m ∷ ms) =
    let next = monitors_from (base + 2 + words_of m.members) ms in
    sum_by-cons (λ n. n) (words_of m.members) (map (λ (l : MonitorLayout). l.words) next)
    ∙ ap (λ n. words_of m.members + n) (words_from (base + 2 + words_of m.members) ms)

pub small_monitors : (v : ImageVersion) (p : Program) (pieces : ℕ) → WellFormed p
    → IsSmall (record { version = v; monitors = monitors_from (base_of v) p.monitors; pieces = pieces })
small_monitors v p pieces w = record {
  few_monitors = let h = length_from (base_of v) p.monitors in let k = w.monitors in omega arith;
  few_words = let h = words_from (base_of v) p.monitors in let k = w.words in omega arith;
}

pub no_link : (v : ImageVersion) (places : List MonitorPlace) (pieces m : ℕ) → length places ≤ m
    → link_at (record { version = v; monitors = map view_of places; pieces = pieces }) m ≡ 0
no_link v places pieces m past =
    ap link_in (slice_get-map view_of places m ∙ ap (option_map view_of) (slice_get_past places m past))

-- where nothing is left, all is placed
pub all_placed : (a b : List MonitorLayout) (base i : ℕ) (ms : List MonitorOf) → length ms ≤ i
    → a ++ monitors_from base (map monitor_of (drop i ms)) ≡ b → a ≡ b
all_placed a b base i ms past e =
    sym (append-nil a) ∙ sym (at_drop_all (λ l. a ++ monitors_from base (map monitor_of l)) ms i past) ∙ e

words_seen : (places : List MonitorPlace)
    → map (λ (m : MonitorPlace). m.words) places ≡ map (λ (m : MonitorLayout). m.words) (map view_of places)
words_seen [] = refl
words_seen (p ∷ places) = ap (λ l. p.words ∷ l) (words_seen places)

pub all_words_seen : (words : List ℕ) (places : List MonitorPlace) (i : ℕ) → length places ≤ i
    → words ++ map (λ (m : MonitorPlace). m.words) (drop i places) ≡ map (λ (m : MonitorPlace). m.words) places
    → words ≡ map (λ (m : MonitorLayout). m.words) (map view_of places)
all_words_seen words places i past e =
    sym (append-nil words) ∙ sym (at_drop_all (λ l. words ++ map (λ (m : MonitorPlace). m.words) l) places i past) ∙ e
    ∙ words_seen places
