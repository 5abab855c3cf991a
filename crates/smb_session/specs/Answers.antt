-- Answers and users, as they stand in memory.
use Rattle.smb_session.specs.declared.authenticator.Answer.{Answer}
use Rattle.smb_session.specs.declared.authenticator.Answer.TheVariants.{Continue, Accept, Deny}
use Rattle.smb_session.specs.Authenticator.{Answered, continues, accepts, denies}
use Rattle.smb_session.specs.declared.tokens.User.{User}
use Rattle.smb_session.specs.Tokens.{KnownUser}

-- what an answer says
abbrev pub answered_by : Answer → Answered
answered_by (Continue token) = continues token.items
answered_by (Accept user flags read_only signing token) = accepts user.items flags read_only signing token.items
answered_by Deny = denies

-- what a user is
abbrev pub known_user : User → KnownUser
known_user user = record { name = user.name.items; token = user.token.items; read_only = user.read_only }
