use Rattle.std.proofs.Common.{◌≡◌, ◌<◌, List, ℕ, false, map, length, sym, ap, ◌∙◌, inr, arith}
use Rattle.std.specs.Prelude.{slice_index, nat_le, sum, ◌&&◌}
use Rattle.words.specs.declared.version.ImageVersion.{ImageVersion}
use Rattle.isa.specs.Limits.{most_instructions, most_monitors, most_member_words}
use Rattle.isa.specs.Programs.{Program, IsProgram}
use Rattle.isa.specs.declared.instr.Instr.{Instr}
use Rattle.lowering.specs.Marks.{instructions}
use Rattle.codegen.specs.Generated.{piece_of}
use Rattle.linker.specs.Linked.{all_fit, code_from, length_of, image_of}
use Rattle.linker.proofs.Steps.{failed}
use Rattle.linker.proofs.Images.{begins_at, linked_by, not_long, not_begun, not_fit, is_program}
use Rattle.linker.proofs.Tests.{code_length}
use Rattle.linker.proofs.linking.link_sorted.Goals as goal

pub returns-in_err-total : goal.returns-in_err-total
returns-in_err-total c =
    let ps = map piece_of c.args.pieces.now in
    failed c.from_residual.result c.in_err-total.field-0.0 _ (most_instructions < length_of ps)
    (IsProgram (image_of c.args.layout.now ps) → ⊥) c.from_residual.ensures (inr c.in_err-total.ensures)
    (not_long c.args.layout.now ps)

pub returns-then-start-total : goal.returns-then-start-total
returns-then-start-total c =
    let ps = map piece_of c.args.pieces.now in
    let starts = c.as_slice.ensures.value ∙ c.in_ok-starts.ensures in
    inr (
      c.refuse_long.ensures,
      not_begun c.args.layout.now ps c.in_ok-total.total c.last_of-start.result
          c.in_ok-total.ensures.0 c.if-start-total.true
          (begins_at ps c.as_slice.result.now c.last_of-start.result starts c.last_of-start.ensures),
    )

pub returns-in_err-code : goal.returns-in_err-code
returns-in_err-code c =
    let ps = map piece_of c.args.pieces.now in
    let starts = c.as_slice-3.ensures.value ∙ c.in_ok-starts.ensures in
    let s = c.as_slice-3.result.now in
    let code = instructions (code_from (slice_index s) 0 ps) in
    failed c.from_residual-in_err-code.result c.in_err-code.field-0.0 _ (all_fit c.in_ok-total.total code ≡ false)
    (IsProgram (image_of c.args.layout.now ps) → ⊥) c.from_residual-in_err-code.ensures c.in_err-code.ensures
    (not_fit c.args.layout.now ps c.in_ok-total.total code c.in_ok-total.ensures.0 (linked_by ps s starts))

pub new-requires : goal.new-requires
new-requires c =
    let ps = map piece_of c.args.pieces.now in
    let t = c.in_ok-total.total in
    let s = c.as_slice-3.result.now in
    let code = c.in_ok-code.code.items in
    let made = c.in_ok-code.ensures in
    let few =
    ap (λ l. nat_le (length l) most_monitors && nat_le (sum l) most_member_words) (sym c.as_slice-2.ensures.value)
    ∙ sym c.if-not-are_few.ensures in
    let len : t ≡ length code =
    c.in_ok-total.ensures.0 ∙ sym (code_length (slice_index s) 0 ps) ∙ sym (ap length made.0) in
    is_program c.version.result c.in_ok-monitors.monitors.items c.last_of-start.result t code few c.in_ok-total.ensures.1 len
    (omega (arith, c.if-start-total.false)) (ap (all_fit t) made.0 ∙ made.1)

pub returns : goal.returns
returns c =
    let ps = map piece_of c.args.pieces.now in
    let starts = c.as_slice.ensures.value ∙ c.in_ok-starts.ensures in
    let starts' = c.as_slice-3.ensures.value ∙ c.in_ok-starts.ensures in
    let code = c.in_ok-code.ensures.0 ∙ linked_by ps c.as_slice-3.result.now starts' in
    let begin = begins_at ps c.as_slice.result.now c.last_of-start.result starts c.last_of-start.ensures in
    let f : ImageVersion → List ℕ → ℕ → List Instr → Program =
    λ v m s is. record { version = v; monitors = m; start = s; code = is } in
    let made = image_of c.args.layout.now ps in
    c.new.ensures
    ∙ ap (λ v. f v c.in_ok-monitors.monitors.items c.last_of-start.result c.in_ok-code.code.items)
    c.version.ensures
    ∙ ap (λ m. f made.version m c.last_of-start.result c.in_ok-code.code.items) c.in_ok-monitors.ensures
    ∙ ap (λ s. f made.version made.monitors s c.in_ok-code.code.items) begin
    ∙ ap (f made.version made.monitors made.start) code
