-- What the share puts out.
use Rattle.std.specs.Prelude.{ℕ, ◌+◌, ◌*◌, ◌≤◌, List, [], ◌∷◌, length, map}
use Rattle.std.specs.List.{AllByRecursion}
use Rattle.smb_wire.specs.Limits.{most_requests, longest_response}
use Rattle.smb_frame.specs.Framed.{frame}
use Rattle.smb_peers.specs.declared.answer.Answer.{Answer}
use Rattle.smb_peers.specs.declared.answer.Answer.TheVariants.{Frame, End}

-- a frame to a connection's client, or the end of a connection by the share
pub data Output : Type 0 where
  frame_to : ℕ → List ℕ → Output
  end_of : ℕ → Output

-- answers, without where their bytes lie
abbrev pub outputs_of : List Answer → List Output
outputs_of answers = map
    (λ answer. elim answer [
      | Frame connection bytes ↦ frame_to connection bytes.items
      | End connection ↦ end_of connection
    ])
    answers

-- the replies to a payload as one frame; where there is none, nothing is sent
abbrev pub reply_frame : ℕ → List ℕ → List Output
reply_frame connection [] = []
reply_frame connection (byte ∷ replies) = frame_to connection (frame (byte ∷ replies)) ∷ []

-- the bytes of an output: an end has none
abbrev pub output_bytes : Output → List ℕ
output_bytes (frame_to connection bytes) = bytes
output_bytes (end_of connection) = []

-- a frame's payload has at most as many bytes as the responses to the requests of a chain, behind the 4 of its length
abbrev pub AreShort : List Output → Type 0
AreShort = AllByRecursion (λ output.
    length (elim output as (λ it. List ℕ) [ frame_to connection bytes ↦ bytes | end_of connection ↦ [] ])
    ≤ 4 + most_requests * longest_response)
