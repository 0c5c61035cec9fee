use Rattle.devices.proofs.Puts.{put_by}
use Rattle.devices.proofs.files.put_file.Goals as goal

pub returns-then-is_device : goal.returns-then-is_device
returns-then-is_device g c = put_by _ _ c.new.result c.write_bytes.new.writer _ c.write_bytes.ensures.ok
