use Rattle.devices.proofs.Puts.{put_on}
use Rattle.devices.proofs.files.fill_and_rename.Goals as goal

pub returns : goal.returns
returns g c = put_on _ _ c.new.result c.write_bytes.new.writer _ c.in_ok-write_bytes.ensures.ok
