-- What a SESSION_SETUP is answered, as it is in memory.
use Rattle.smb_session.specs.declared.setup.SetupDone.{SetupDone}
use Rattle.smb_session.specs.Setup.{SetupResult}

-- what it is answered
abbrev pub setup_result_of : SetupDone → SetupResult
setup_result_of done = record { session = done.session; status = done.status; flags = done.flags; token = done.token.items; ended = done.ended }
