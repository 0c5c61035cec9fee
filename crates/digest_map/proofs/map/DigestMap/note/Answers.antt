use Rattle.digest_map.proofs.Noting.{noted}
use Rattle.digest_map.proofs.map.DigestMap.note.Goals as goal

pub returns : goal.returns
returns c = noted c.args.self.now.slots.items c.make_room.new.self.slots.items c.put.new.slots.items (record { mark = c.mark_of-mark.result; number = c.args.number }) c.in_ok-make_room.ensures c.put.ensures
