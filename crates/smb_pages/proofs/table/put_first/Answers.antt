use Rattle.std.proofs.Common.{◌/◌, rules}
use Rattle.smb_pages.proofs.Places.{put_page, room_within}
use Rattle.smb_pages.proofs.table.put_first.Goals as goal

pub returns-clause-put : goal.returns-clause-put
returns-clause-put c =
    put_page c.args.table.now.items c.args.place c.min-count.result c.index_mut.result.now c.put_bytes.new.page c.args.bytes.now
    (room_within c.args.table.now.items (c.args.place / 4096) c.requires.room) c.index_mut.ensures.value (search rules) c.put_bytes.ensures.items c.put_bytes.ensures.capacity c.requires.short
