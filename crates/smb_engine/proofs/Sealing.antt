-- Frames whose replies are signed later.
use Rattle.std.proofs.Common.{◌≡◌, ℕ, ◌+◌, ◌<◌, Bool, Option, is_some, Result, Ok, Err, List, [], ◌∷◌, ◌++◌, length, take, replicate, reverse, refl, sym, ◌∙◌, ap, arith, length-append, append_assoc, append-nil}
use Rattle.std.specs.Prelude.{IfOk, OnErr}
use Rattle.std.specs.List.{flat_map}
use Rattle.std.proofs.lemmas.List.{take_at}
use Rattle.smb_wire.specs.Number.{spelling}
use Rattle.smb_frame.specs.Framed.{frame}
use Rattle.smb_head.specs.declared.unsigned.UnsignedMessage.{UnsignedMessage}
use Rattle.smb_head.specs.Replies.{Reply, joined_replies, unsigned_replies}
use Rattle.smb_head.specs.Placed.{ReplyPlaces, placed, replies_written}
use Rattle.smb_head.specs.Sealed.{AreApart, sealed}
use Rattle.smb_head.proofs.Placing.{empty_is}
use Rattle.smb_head.proofs.Sealing.{apart_to, sealed_front, length-sealed}
use Rattle.smb_head.proofs.Signing.{length-joined}
use Rattle.smb_request.specs.State.{ServerState}
use Rattle.smb_engine.specs.declared.connection.Connection.{Connection}
use Rattle.smb_engine.specs.declared.fault.CutShort.{CutShort}
use Rattle.smb_engine.specs.InPlace.{step_behind}
use Rattle.smb_engine.specs.Output.{output_bytes, reply_frame}
use Rattle.smb_engine.specs.Run.{Step}

-- the frame of some replies
framed : (connection : ℕ) (payload : List ℕ) → 0 < length payload → flat_map output_bytes (reply_frame connection payload) ≡ frame payload
framed connection [] some = absurd (omega (arith, some))
framed connection (byte ∷ payload) some = append-nil (frame (byte ∷ payload))

-- the four bytes before a payload of this length
head_of : ℕ → List ℕ
head_of size = 0 ∷ reverse (spelling 3 size)

headed : (payload : List ℕ) → frame payload ≡ head_of (length payload) ++ payload
unfolding head_of
headed payload = refl

-- no reply: no frame
pub none_framed : (connection : ℕ) (start : ℕ) (before out new : List ℕ) (writer : ReplyPlaces) (replies : List Reply) (messages : List UnsignedMessage) → start ≡ length before →
    writer ≡ placed (before ++ replicate 4 0) replies → out ≡ replies_written (before ++ replicate 4 0) replies → length out ≡ start + 4 → new ≡ take start out →
    sealed messages new ≡ sealed messages before ++ flat_map output_bytes (reply_frame connection (joined_replies replies))
unfolding joined_replies
none_framed connection start before out new writer replies messages s w o size n =
    let four : length (before ++ replicate 4 0) ≡ start + 4 = omega (arith, length-append before (replicate 4 0), s) in
    let none : replies ≡ [] = (empty_is (before ++ replicate 4 0) out replies (start + 4) (sym four) o).0 size in
    let front : take start out ≡ before = ap (take start) (o ∙ append_assoc before (replicate 4 0) (unsigned_replies replies)) ∙ take_at before (replicate 4 0 ++ unsigned_replies replies) start (sym s) in
    rw (n, front, none) (sym (append-nil (sealed messages before)))

-- where replies begin behind bytes that are as many
placed_same : (front other : List ℕ) (replies : List Reply) → length front ≡ length other → placed front replies ≡ placed other replies
placed_same front other replies e = rw e refl

-- the replies of a frame that is closed are signed later
pub replies_framed : (connection start : ℕ) (before out closed new : List ℕ) (writer : ReplyPlaces) (replies : List Reply) (messages more : List UnsignedMessage) → start ≡ length before →
    writer ≡ placed (before ++ replicate 4 0) replies → out ≡ replies_written (before ++ replicate 4 0) replies → start + 4 < length out → length closed ≡ length out → AreApart 0 messages start →
    ((payload : List ℕ) → out ≡ (before ++ replicate 4 0) ++ payload → closed ≡ before ++ frame payload) →
    ((front : List ℕ) → writer ≡ placed front replies → sealed messages closed ≡ front ++ unsigned_replies replies → sealed more new ≡ front ++ joined_replies replies) →
    sealed more new ≡ sealed messages before ++ flat_map output_bytes (reply_frame connection (joined_replies replies))
replies_framed connection start before out closed new writer replies messages more s w o some size apart close put =
    let whole : List ℕ = unsigned_replies replies in
    let joined : List ℕ = joined_replies replies in
    let four : length (before ++ replicate 4 0) ≡ start + 4 = omega (arith, length-append before (replicate 4 0), s) in
    let long : 0 < length whole = omega (arith, some, ap length o, length-append (before ++ replicate 4 0) whole, four) in
    let front : List ℕ = sealed messages before ++ head_of (length whole) in
    let is_apart : AreApart 0 messages (length before) = rw s at apart in
    let is_closed : closed ≡ before ++ (head_of (length whole) ++ whole) = close whole o ∙ ap (λ (l : List ℕ). before ++ l) (headed whole) in
    let head : length (head_of (length whole)) ≡ 4 = omega (
      arith,
      size,
      ap length is_closed,
      length-append before (head_of (length whole) ++ whole),
      length-append (head_of (length whole)) whole,
      ap length o,
      length-append (before ++ replicate 4 0) whole,
      four,
      s,
    ) in
    let as_long : length (before ++ replicate 4 0) ≡ length front =
    omega (arith, four, s, length-append (sealed messages before) (head_of (length whole)), length-sealed messages before 0 is_apart, head) in
    let is_sealed : sealed messages closed ≡ front ++ whole =
    ap (sealed messages) is_closed ∙ sealed_front messages before (head_of (length whole) ++ whole) 0 is_apart
    ∙ sym (append_assoc (sealed messages before) (head_of (length whole)) whole) in
    let is_framed : head_of (length whole) ++ joined ≡ flat_map output_bytes (reply_frame connection joined) =
    ap (λ (n : ℕ). head_of n ++ joined) (sym (length-joined replies)) ∙ sym (headed joined) ∙ sym (framed connection joined (omega (arith, long, length-joined replies))) in
    put front (w ∙ placed_same (before ++ replicate 4 0) front replies as_long) is_sealed
    ∙ append_assoc (sealed messages before) (head_of (length whole)) joined ∙ ap (λ (l : List ℕ). sealed messages before ++ l) is_framed

-- a step whose replies are not signed, behind messages that are signed later
step_sealed : {S : Type 0} (messages : List UnsignedMessage) (before new : List ℕ) (server : ServerState S) (connection : Connection) (stays_open : Bool) (step : Step S) → AreApart 0 messages (length before) →
    record { server = server; connection = connection; stays_open = stays_open; out = new } ≡ step_behind output_bytes before step →
    record { server = server; connection = connection; stays_open = stays_open; out = sealed messages new } ≡ step_behind output_bytes (sealed messages before) step
step_sealed messages before new server connection stays_open step apart e =
    let same_server = ap (λ s. s.server) e in
    let same_connection = ap (λ s. s.connection) e in
    let same_open = ap (λ s. s.stays_open) e in
    let put : sealed messages new ≡ sealed messages before ++ flat_map output_bytes step.outputs =
    ap (λ s. sealed messages s.out) e ∙ sealed_front messages before (flat_map output_bytes step.outputs) 0 apart in
    λ i. record { server = same_server i; connection = same_connection i; stays_open = same_open i; out = put i }

pub result_sealed : {S : Type 0} (result : Result (Option ℕ) CutShort) (messages : List UnsignedMessage) (before new : List ℕ) (server : ServerState S) (connection : Connection) (step : Step S) → AreApart 0 messages (length before) →
    IfOk result (λ count. record { server = server; connection = connection; stays_open = is_some count; out = new } ≡ step_behind output_bytes before step) →
    IfOk result (λ count. record { server = server; connection = connection; stays_open = is_some count; out = sealed messages new } ≡ step_behind output_bytes (sealed messages before) step)
result_sealed (Ok count) messages before new server connection step apart h = step_sealed messages before new server connection (is_some count) step apart h
result_sealed (Err ran_out) messages before new server connection step apart h = tt

pub result_apart : {S : Type 0} (result : Result (Option ℕ) CutShort) (messages : List UnsignedMessage) (before new : List ℕ) (server : ServerState S) (connection : Connection) (step : Step S) → AreApart 0 messages (length before) →
    IfOk result (λ count. record { server = server; connection = connection; stays_open = is_some count; out = new } ≡ step_behind output_bytes before step) → OnErr result (new ≡ before) →
    AreApart 0 messages (length new)
result_apart (Ok count) messages before new server connection step apart h kept =
    let put : new ≡ before ++ flat_map output_bytes step.outputs = ap (λ s. s.out) h in
    rw put (apart_to 0 (length before) (length (before ++ flat_map output_bytes step.outputs)) messages (omega (arith, length-append before (flat_map output_bytes step.outputs))) apart)
result_apart (Err ran_out) messages before new server connection step apart h kept = rw kept apart
