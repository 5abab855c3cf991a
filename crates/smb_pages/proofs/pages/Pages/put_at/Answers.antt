use Rattle.smb_pages.proofs.Places.{bytes_written}
use Rattle.smb_pages.proofs.pages.Pages.put_at.Goals as goal

pub returns-clause-ok : goal.returns-clause-ok
returns-clause-ok c =
    rw (← c.self.view_is) (bytes_written c.self.inside.table.items c.make_room.new.table.items c.put.new.table.items c.self.inside.size c.args.offset c.max-self-inside.result c.args.buffer.now c.self.invariant c.make_room.ensures.same c.put.ensures c.max-self-inside.ensures)
