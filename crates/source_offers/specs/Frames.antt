-- What the code keeps of a procedure that runs, as a frame of the meaning.
use Rattle.std.specs.Prelude.{List, [], ◌∷◌}
use Rattle.meaning.specs.Processes.{Frame, Caller}
use Rattle.source_offers.specs.declared.frame.Frame.{Frame as FrameOf}
use Rattle.source_offers.specs.Rests.{rest_in}

-- a frame
abbrev pub frame_of : FrameOf → Frame
frame_of f = record { role = f.role; locals = f.locals.items; rest = rest_in f.rest.items }

-- a frame whose call isn't over, as a caller
abbrev pub caller_of : FrameOf → Caller
caller_of f = record { into = f.into; frame = frame_of f }

-- procedures that wait for one that they called, the innermost last
abbrev pub callers_from : List FrameOf → List Caller → List Caller
callers_from [] callers = callers
callers_from (f ∷ fs) callers = callers_from fs (caller_of f ∷ callers)

-- the callers of a process
abbrev pub callers_of : List FrameOf → List Caller
callers_of fs = callers_from fs []
