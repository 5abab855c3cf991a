-- Whose opens stand.
use Rattle.std.specs.Prelude.{◌≡◌, true, false, ◌&&◌, ◌||◌, not, List, is_some}
use Rattle.std.specs.List.{AllByRecursion}
use Rattle.std.specs.Option.{option_map_or}
use Rattle.smb_session.specs.Numbers.{contains}
use Rattle.smb_session.specs.Table.{TableState, session_at}
use Rattle.smb_access.specs.Access.{is_past_reading}
use Rattle.smb_access.specs.declared.open_row.OpenRow.{OpenRow}

-- each of these opens has its owner: its session is finished and has its tree; and where the session may only read, the
-- open has no right but those that may be granted to it then, and is not to delete its entry
abbrev pub AreOwned : TableState → List OpenRow → Type 0
AreOwned table = AllByRecursion (λ row. option_map_or
    (λ session.
    (is_some session.user && contains session.trees row.tree)
    && (not session.read_only || (not (is_past_reading row.access) && not row.delete_on_close)))
    (session_at table row.session)
    false ≡ true)
