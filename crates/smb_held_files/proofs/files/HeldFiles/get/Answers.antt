use Rattle.std.proofs.Common.{sym, ap, ◌∙◌}
use Rattle.std.specs.Option.{option_map}
use Rattle.smb_held_files.specs.Held.{file_shown}
use Rattle.smb_held_files.proofs.Showing.{get_shown, shown_behind}
use Rattle.smb_held_files.proofs.files.HeldFiles.get.Goals as goal

pub returns : goal.returns
returns c =
    let shown = get_shown c.self.inside.by_number.entries c.self.inside.next c.args.number in
    rw (← c.self.view_is)
    (shown_behind c.get.result ∙ ap (λ found. option_map file_shown found) c.get.ensures.value ∙ sym shown)
