use Rattle.std.proofs.Common.{◌≡◌, ◌≤◌, false, length, rules}
use Rattle.std.specs.List.{list_any}
use Rattle.std.specs.Str.{bytes_eq}
use Rattle.smb_config.proofs.Users.{all_push, own_push}
use Rattle.smb_config.proofs.configuration.read_users.Goals as goal

pub loop-value-preserved : goal.loop-value-preserved
loop-value-preserved c =
    let apart : list_any (λ other. bytes_eq c.in_ok-user.user.token.items other.token.items) c.loop-value.users.items ≡ false = search rules in
    record {
      names = rw c.in_ok-add_user.ensures (all_push (λ user. length user.name.items ≤ 256) c.loop-value.users.items c.in_ok-user.user c.loop-value.invariant.names c.in_ok-user.ensures);
      tokens = rw c.in_ok-add_user.ensures (own_push c.loop-value.users.items c.in_ok-user.user c.loop-value.invariant.tokens apart);
    }
