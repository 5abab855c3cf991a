-- Peers: what their calls tell.
use Rattle.std.specs.Prelude.{◌≡◌, ℕ, ◌==◌, false, List, [], ◌∷◌, ◌++◌, length, take, Some, None, Result, Ok, Err}
use Rattle.std.specs.List.{list_any}
use Rattle.smb_peers.specs.declared.peers.PeerEvent.{PeerEvent}
use Rattle.smb_peers.specs.declared.peers.PeerEvent.TheVariants.{Opened, Bytes, Ended, Idle}
use Rattle.smb_peers.specs.declared.peers.SendFault.{SendFault}
use Rattle.smb_peers.specs.Record.{PeerCall, next_opened, next_bytes, next_ended, next_idle, send}

-- a call of `next`: the event, and of Bytes the piece
abbrev pub call_of : PeerEvent → List ℕ → PeerCall
call_of (Opened k) piece = next_opened k
call_of (Bytes k) piece = next_bytes k piece
call_of (Ended k) piece = next_ended k
call_of Idle piece = next_idle

-- a call of `send`: of the bytes that are offered the first so many are taken, or it fails
abbrev pub send_call : ℕ → List ℕ → Result ℕ SendFault → PeerCall
send_call k bytes (Ok count) = send k (length bytes) (Some (take count bytes))
send_call k bytes (Err fault) = send k (length bytes) None

-- a number is opened once: it was not opened before; and nothing else opens one
abbrev pub OpensOnce : PeerEvent → List ℕ → List ℕ → Type 0
OpensOnce (Opened k) before after = (list_any (λ j. j == k) before ≡ false) × (after ≡ before ++ k ∷ [])
OpensOnce (Bytes k) before after = after ≡ before
OpensOnce (Ended k) before after = after ≡ before
OpensOnce Idle before after = after ≡ before
