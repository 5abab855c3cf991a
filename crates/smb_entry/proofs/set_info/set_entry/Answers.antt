use Rattle.std.proofs.Common.{◌≡◌, ap, ◌∙◌}
use Rattle.smb_tree.specs.Entries.{Entry, kept_basic}
use Rattle.smb_tree.specs.Views.{Shown, shown}
use Rattle.smb_entry.specs.Parts.{basic_set, entry_set}
use Rattle.smb_entry.proofs.Settings.{changed_alike}
use Rattle.smb_access.proofs.Trees.{row_of_shown}
use Rattle.smb_entry.proofs.set_info.set_entry.Goals as goal

pub returns : goal.returns
returns g c =
    let r = row_of_shown (g.T.Tree.content c.args.tree.now).rows c.args.entry (shown c.in-Some.seen) c.in-Some.ensures in
    let base : Entry → Entry = λ entry. record entry { basic = kept_basic c.basic_set-basic.result } in
    let same = c.basic_set-basic.ensures ∙ ap (λ (s : Shown). basic_set c.args.ask.now c.args.moment s.basic) r.2 in
    let alike : base r.0.1 ≡ entry_set c.args.ask.now c.args.moment r.0.1 = λ i. record r.0.1 { basic = same i } in
    c.in-Ok.ensures.ok ∙ changed_alike base (entry_set c.args.ask.now c.args.moment) (g.T.Tree.content c.args.tree.now) c.args.entry r.0 r.1 alike
