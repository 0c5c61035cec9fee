use Rattle.std.proofs.Common.{◌≡◌, ◌∙◌, [], ap, sym}
use Rattle.meaning.specs.Processes.{Caller}
use Rattle.source_offers.specs.Frames.{callers_of, frame_of}
use Rattle.source_offers.specs.Stages.{standing}
use Rattle.source_sameness.proofs.processes.same_process.Goals as goal

pub returns-then-is_past : goal.returns-then-is_past
returns-then-is_past c = λ same.
    c.is_past.ensures c.if-is_past.true (frame_of c.args.a.now.frame) (frame_of c.args.b.now.frame)
    (callers_of c.args.a.now.callers.items) (callers_of c.args.b.now.callers.items)
    ∙ c.same_stage.ensures c.if-not-same_stage.false (frame_of c.args.b.now.frame)
    (callers_of c.args.b.now.callers.items)

pub returns-then-is_returning : goal.returns-then-is_returning
returns-then-is_returning c = λ same.
    let callers : callers_of c.args.a.now.callers.items ≡ callers_of c.args.b.now.callers.items =
    sym (ap callers_of c.as_slice-first.ensures.value) ∙ c.same_callers.ensures c.if-not-same_callers.false []
    ∙ ap callers_of c.as_slice-second.ensures.value in
    c.is_returning.ensures c.if-is_returning.true (frame_of c.args.a.now.frame) (frame_of c.args.b.now.frame)
    (callers_of c.args.a.now.callers.items)
    ∙ c.same_stage.ensures c.if-not-same_stage.false (frame_of c.args.b.now.frame) (callers_of c.args.a.now.callers.items)
    ∙ ap (standing c.args.b.now.stage (frame_of c.args.b.now.frame)) callers

pub returns : goal.returns
returns c = λ same.
    let frame : frame_of c.args.a.now.frame ≡ frame_of c.args.b.now.frame =
    ap (λ (k : Caller). k.frame) (c.same_frame.ensures same) in
    let callers : callers_of c.args.a.now.callers.items ≡ callers_of c.args.b.now.callers.items =
    sym (ap callers_of c.as_slice-first.ensures.value) ∙ c.same_callers.ensures c.if-not-same_callers.false []
    ∙ ap callers_of c.as_slice-second.ensures.value in
    c.same_stage.ensures c.if-not-same_stage.false (frame_of c.args.a.now.frame)
    (callers_of c.args.a.now.callers.items)
    ∙ (λ i. standing c.args.b.now.stage (frame i) (callers i))
