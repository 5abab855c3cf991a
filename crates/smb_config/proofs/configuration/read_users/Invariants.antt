use Rattle.std.proofs.Common.{◌≤◌, length, map}
use Rattle.std.specs.List.{AllByRecursion}
use Rattle.smb_session.specs.Tokens.{HaveOwnTokens}
use Rattle.smb_session.specs.Answers.{known_user}
use Rattle.smb_config.proofs.configuration.read_users.Given as goal

abbrev pub invariant-loop-value : goal.invariant-loop-value
invariant-loop-value l = record {
  names : AllByRecursion (λ user. length user.name.items ≤ 256) l.users.items;
  tokens : HaveOwnTokens (map known_user l.users.items);
}
