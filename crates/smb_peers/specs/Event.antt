-- What happens to a share.
use Rattle.std.specs.Prelude.{ℕ, List}
use Rattle.smb_peers.specs.declared.event.Event.{Event}
use Rattle.smb_peers.specs.declared.event.Event.TheVariants.{Opened, Bytes, Ended}

-- an event: a connection's number, and of a piece its moment and its bytes
pub data EventText : Type 0 where
  opens : ℕ → EventText
  brings : ℕ → ℕ → List ℕ → EventText
  ends : ℕ → EventText

-- an event of the code, without where its bytes lie
abbrev pub text_of : Event → EventText
text_of (Opened connection) = opens connection
text_of (Bytes connection moment piece) = brings connection moment piece.items
text_of (Ended connection) = ends connection

-- the connection of an event
abbrev pub connection_of : EventText → ℕ
connection_of (opens connection) = connection
connection_of (brings connection moment piece) = connection
connection_of (ends connection) = connection
