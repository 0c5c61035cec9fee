-- A thread comes from before each template to its first point.
use Rattle.std.proofs.Common.{true, false}
use Rattle.proof_thread.specs.Following.{recovery_in}
use Rattle.proof_templates.specs.Locking as L
use Rattle.proof_templates.specs.Notifying as N
use Rattle.proof_templates.specs.Inside.{Enters, Exits, Waits, Notifies, Broadcasts}
use Rattle.proof_templates.specs.Templates.{TemplatesBegin}
use Rattle.proof_templates.proofs.Entering.{enters_begin}
use Rattle.proof_templates.proofs.Leavings.{exits_begin, waits_begin}
use Rattle.proof_templates.proofs.Notifying.{notifies_begin, broadcasts_begin}
use Rattle.protocol.specs.Rules.{release_of}

pub begins : TemplatesBegin
begins b v t true (Enters m base l fs f cs) some few fits = record {
  thread = _;
  walk = enters_begin (release_of b.program.version) b.program b.code t m base (recovery_in b m) l fs fits.code some
      few;
  stands = L.pends_again;
}
begins b v t false (Enters m base l fs f cs) some few fits = record {
  thread = _;
  walk = enters_begin (release_of b.program.version) b.program b.code t m base (recovery_in b m) l fs fits.code some
      few;
  stands = L.EntersAt.pends;
}
begins b v t held (Exits m base shown l fs before z cs) some few fits = record {
  thread = _;
  walk = exits_begin b.program.version b.program b.code t m base shown l fs fits.code some few;
  stands = L.ExitsAt.pends;
}
begins b v t held (Waits c base l fs before f cs ms) some few fits = record {
  thread = _;
  walk = waits_begin b.program.version b.program b.code t base c (recovery_in b c.monitor) l fs fits.code some few;
  stands = L.WaitsAt.numbers;
}
begins b v t held (Notifies c base l fs before after ms) some few fits = record {
  thread = _;
  walk = notifies_begin (release_of b.program.version) b.program b.code t base c l fs fits.code;
  stands = N.NotifiesAt.adds;
}
begins b v t held (Broadcasts c base l fs before after ms) some few fits = record {
  thread = _;
  walk = broadcasts_begin (release_of b.program.version) b.program b.code t base c l fs fits.code;
  stands = N.BroadcastsAt.adds;
}
