use Rattle.std.proofs.Common.{◌∙◌, subst, sym}
use Rattle.program.specs.Views.{program_of}
use Rattle.source_search.specs.Known.{AreKnown}
use Rattle.source_search.specs.Living.{AreLiveTo, IsLiveTo}
use Rattle.source_search.specs.Packed.{IsGrown}
use Rattle.source_search.proofs.Keeping.{sound_one}
use Rattle.source_search.proofs.Lively.{key_within, one_live, still_live, still_sound}
use Rattle.source_search.proofs.Packing.{same_key, unpacked_still, within_still}
use Rattle.source_search.proofs.kept.Kept.look_again.Goals as goal

pub returns-then-not-branch-clause-live : goal.returns-then-not-branch-clause-live
returns-then-not-branch-clause-live c =
    subst (AreLiveTo (program_of c.args.checked.now.tree) c.args.aim) (sym c.in_ok-is_live.ensures.same) c.requires.live

pub returns-clause-sound : goal.returns-clause-sound
returns-clause-sound c =
    let b = c.is_live.new.self.parts in
    still_sound b c.note_live.new.self.parts c.note_live.new.self.states.items c.in_ok-note_live.ensures.parts
    (sound_one b c.is_live.new.self.states.items c.note_live.new.self.states.items c.in_ok-copied.copied
    c.in_ok-note_live.ensures.states c.in_ok-is_live.ensures.sound
    (key_within b c.args.packed.now c.in_ok-copied.copied c.in_ok-copied.ensures
    (within_still c.args.self.now.parts b c.in_ok-is_live.ensures.grown c.args.packed.now c.requires.within)))

pub returns-clause-grown : goal.returns-clause-grown
returns-clause-grown c =
    subst (IsGrown c.args.self.now.parts) (sym c.in_ok-note_live.ensures.parts) c.in_ok-is_live.ensures.grown

pub returns-clause-known : goal.returns-clause-known
returns-clause-known c =
    subst (λ parts. AreKnown (program_of c.args.checked.now.tree) parts c.is_live.new.memo)
    (sym c.in_ok-note_live.ensures.parts) c.in_ok-is_live.ensures.known

pub returns-clause-live : goal.returns-clause-live
returns-clause-live c =
    let p = program_of c.args.checked.now.tree in
    let a = c.args.self.now.parts in
    let b = c.is_live.new.self.parts in
    let x = c.args.packed.now in
    still_live p c.args.aim b c.note_live.new.self.parts c.note_live.new.self.states.items c.in_ok-note_live.ensures.parts
    (one_live p c.args.aim b c.is_live.new.self.states.items c.note_live.new.self.states.items c.in_ok-copied.copied
    c.in_ok-note_live.ensures.states
    (subst (AreLiveTo p c.args.aim) (sym c.in_ok-is_live.ensures.same) c.requires.live)
    (subst (IsLiveTo p c.args.aim)
    (sym (unpacked_still a b c.in_ok-is_live.ensures.grown x c.requires.within)
    ∙ same_key b x c.in_ok-copied.copied c.in_ok-copied.ensures)
    (c.in_ok-is_live.ensures.live c.if-not-branch.false)))
