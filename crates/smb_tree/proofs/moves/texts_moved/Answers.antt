use Rattle.std.proofs.Common.{◌≡◌, ◌&&◌, get_or, length, nat_lt, arith}
use Rattle.smb_wire.specs.Paths.{folded_path}
use Rattle.smb_wire.specs.PathViews.{parts_of}
use Rattle.smb_tree.specs.Content.{Row}
use Rattle.smb_tree.specs.Moves.{is_within, replaced}
use Rattle.smb_tree.proofs.NewRows.{none_does}
use Rattle.smb_tree.proofs.moves.texts_moved.Goals as goal

pub text_moved-requires : goal.text_moved-requires
text_moved-requires c =
    let here : c.stored-item.result ≡ get_or c.args.entries.now.items c.loop-stored.stored-index c.stored-item.result = rw (← c.deref-stored-items.ensures.value) c.stored-item.is in
    none_does (λ (row : Row). is_within (folded_path (parts_of c.args.from.now)) row.0 && nat_lt 32 (length (replaced (folded_path (parts_of c.args.from.now)) (folded_path (parts_of c.args.to.now)) row.0))) c.args.entries.now.items c.loop-stored.stored-index c.stored-item.result c.requires (omega arith) here
