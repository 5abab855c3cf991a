use Rattle.std.proofs.Common.{ℕ, List, sym}
use Rattle.smb_session.specs.Numbers.{without_number}
use Rattle.smb_session.proofs.Entries.{set-changed, changed-none}
use Rattle.smb_session.proofs.table.drop_number.Goals as goal

pub returns-in-Some : goal.returns-in-Some
returns-in-Some c = rw ((c.get_mut.follows.holds c.remove.new.self).0, c.remove.ensures) (set-changed (λ (numbers : List ℕ). without_number numbers c.args.number) c.args.connection c.args.index.now.entries _ (sym c.in-Some.ensures.value))

pub returns-in_default : goal.returns-in_default
returns-in_default c = rw c.get_mut.follows.holds-at-none (sym (changed-none (λ (numbers : List ℕ). without_number numbers c.args.number) c.args.connection c.args.index.now.entries (sym c.in_default.ensures.value)))
