-- Messages that are signed later, among other bytes.
use Rattle.std.proofs.Common.{◌≡◌, ℕ, zero, suc, ◌+◌, ◌-◌, ◌<◌, ◌≤◌, List, [], ◌∷◌, ◌++◌, length, take, drop, true, false, nat_le, Option, None, Some, slice_get, refl, sym, ◌∙◌, ap, arith, length-append, append_assoc}
use Rattle.std.specs.Prelude.{IfSome, is_some}
use Rattle.std.proofs.Math.Seq.{take-append-add, drop-append-add}
use Rattle.std.proofs.lemmas.Bool.{lt-leb, false≢true}
use Rattle.std.proofs.lemmas.List.{length-take-le, length-drop, drop-drop, take-append-drop, take-append-le, drop-append-le}
use Rattle.smb_signing.specs.Signature.{signature, signed}
use Rattle.smb_signing.proofs.Signed.{length-signature, put_is_signed}
use Rattle.smb_head.specs.declared.unsigned.UnsignedMessage.{UnsignedMessage}
use Rattle.smb_head.specs.Sealed.{message_of, signed_at, sealed, AreApart, AreSignaturesOf}
use Rattle.smb_head.proofs.Signing.{length-signed}

-- the bytes before a message, the message, and those behind it
parted : (m : UnsignedMessage) (bytes : List ℕ) → m.begin ≤ m.end → bytes ≡ take m.begin bytes ++ (message_of m bytes ++ drop m.end bytes)
parted m bytes order =
    let behind : drop (m.end - m.begin) (drop m.begin bytes) ≡ drop m.end bytes =
    drop-drop (m.end - m.begin) m.begin bytes ∙ ap (λ (n : ℕ). drop n bytes) (omega (arith, order)) in
    sym (take-append-drop m.begin bytes)
    ∙ ap (λ (l : List ℕ). take m.begin bytes ++ l)
    (sym (take-append-drop (m.end - m.begin) (drop m.begin bytes)) ∙ ap (λ (l : List ℕ). message_of m bytes ++ l) behind)

length-message : (m : UnsignedMessage) (bytes : List ℕ) → m.begin ≤ m.end → m.end ≤ length bytes → length (message_of m bytes) ≡ m.end - m.begin
length-message m bytes order within = length-take-le (m.end - m.begin) (drop m.begin bytes) (omega (arith, length-drop m.begin bytes, order, within))

-- a signature is written over a message's own bytes
written_over : (key front message rest own out new : List ℕ) (place : ℕ) → out ≡ front ++ (message ++ rest) → 64 ≤ length message → own ≡ signature key message →
    place ≡ length front + 48 → new ≡ take place out ++ (own ++ drop (place + length own) out) → new ≡ front ++ (signed key message ++ rest)
written_over key front message rest own out new place o long e p n =
    let size : length own ≡ 16 = ap length e ∙ length-signature key message in
    let head : List ℕ = take 48 message in
    let tail : List ℕ = drop 64 message in
    let before : take place out ≡ front ++ head =
    rw (o, p) (take-append-add front (message ++ rest) 48) ∙ ap (λ (l : List ℕ). front ++ l) (take-append-le 48 message rest (omega (arith, long))) in
    let far : place + length own ≡ length front + 64 = omega (arith, p, size) in
    let behind : drop (place + length own) out ≡ tail ++ rest = rw (o, far) (drop-append-add front (message ++ rest) 64) ∙ drop-append-le 64 message rest long in
    let whole : signed key message ≡ head ++ (own ++ tail) =
    sym (put_is_signed key message own long e) ∙ ap (λ (l : List ℕ). head ++ (own ++ l)) (drop-drop 16 48 message) in
    n ∙ rw (before, behind, whole) (simp append_assoc refl)

pub signature_put : (m : UnsignedMessage) (own out new : List ℕ) (place : ℕ) → m.begin ≤ m.end → m.end ≤ length out → 64 ≤ m.end - m.begin →
    place ≡ m.begin + 48 → new ≡ take place out ++ (own ++ drop (place + length own) out) →
    own ≡ signature m.key.bytes (message_of m out) → new ≡ signed_at m out
signature_put m own out new place order within long p n e =
    let front : length (take m.begin out) ≡ m.begin = length-take-le m.begin out (omega (arith, order, within)) in
    written_over m.key.bytes (take m.begin out) (message_of m out) (drop m.end out) own out new place (parted m out order)
    (omega (arith, length-message m out order within, long)) e (omega (arith, p, front)) n

pub short_stays : (m : UnsignedMessage) (out : List ℕ) → m.begin ≤ m.end → m.end ≤ length out → m.end - m.begin < 64 → out ≡ signed_at m out
short_stays m out order within short =
    let none : nat_le 64 (length (message_of m out)) ≡ false = lt-leb 64 (length (message_of m out)) (omega (arith, length-message m out order within, short)) in
    parted m out order ∙ rw none refl

pub length-signed_at : (m : UnsignedMessage) (bytes : List ℕ) → m.begin ≤ m.end → m.end ≤ length bytes → length (signed_at m bytes) ≡ length bytes
length-signed_at m bytes order within =
    let own : List ℕ = message_of m bytes in
    omega (
      arith,
      length-append (take m.begin bytes) (signed m.key.bytes own ++ drop m.end bytes),
      length-append (signed m.key.bytes own) (drop m.end bytes),
      length-signed m.key.bytes own,
      length-message m bytes order within,
      length-take-le m.begin bytes (omega (arith, order, within)),
      length-drop m.end bytes,
      order,
      within,
    )

-- messages that lie behind one another
pub apart_ends : (from end : ℕ) (messages : List UnsignedMessage) → AreApart from messages end → from ≤ end
apart_ends from end [] h = h
apart_ends from end (m ∷ messages) h = omega (arith, h.0, h.1, apart_ends m.end end messages h.2)

pub apart_to : (from end higher : ℕ) (messages : List UnsignedMessage) → end ≤ higher → AreApart from messages end → AreApart from messages higher
apart_to from end higher [] more h = omega (arith, more, h)
apart_to from end higher (m ∷ messages) more h = (h.0, h.1, apart_to m.end end higher messages more h.2)

pub apart_from : (from lower end : ℕ) (messages : List UnsignedMessage) → AreApart from messages end → lower ≤ from → AreApart lower messages end
apart_from from lower end [] h low = omega (arith, h, low)
apart_from from lower end (m ∷ messages) h low = (omega (arith, h.0, low), h.1, h.2)

pub apart_more : (from : ℕ) (messages : List UnsignedMessage) (m : UnsignedMessage) → m.begin ≤ m.end → AreApart from messages m.begin → AreApart from (messages ++ m ∷ []) m.end
apart_more from [] m order h = (h, order, omega arith)
apart_more from (first ∷ messages) m order h = (h.0, h.1, apart_more first.end messages m order h.2)

pub length-sealed : (messages : List UnsignedMessage) (bytes : List ℕ) (from : ℕ) → AreApart from messages (length bytes) → length (sealed messages bytes) ≡ length bytes
unfolding sealed
length-sealed [] bytes from h = refl
length-sealed (m ∷ messages) bytes from h =
    let same = length-signed_at m bytes h.1 (apart_ends m.end (length bytes) messages h.2) in
    length-sealed messages (signed_at m bytes) m.end (rw same h.2) ∙ same

pub sealed_more : (messages : List UnsignedMessage) (m : UnsignedMessage) (bytes : List ℕ) → sealed (messages ++ m ∷ []) bytes ≡ signed_at m (sealed messages bytes)
unfolding sealed
sealed_more [] m bytes = refl
sealed_more (first ∷ messages) m bytes = sealed_more messages m (signed_at first bytes)

-- what is behind a message stays where this one is signed
same_behind : (m : UnsignedMessage) (bytes : List ℕ) (place : ℕ) → m.begin ≤ m.end → m.end ≤ length bytes → m.end ≤ place → drop place (signed_at m bytes) ≡ drop place bytes
same_behind m bytes place order within behind =
    let own : List ℕ = signed m.key.bytes (message_of m bytes) in
    let front : List ℕ = take m.begin bytes ++ own in
    let long : length front ≡ m.end = omega (
      arith,
      length-append (take m.begin bytes) own,
      length-signed m.key.bytes (message_of m bytes),
      length-message m bytes order within,
      length-take-le m.begin bytes (omega (arith, order, within)),
      order,
    ) in
    let far : place ≡ length front + (place - m.end) = omega (arith, long, behind) in
    let joined : signed_at m bytes ≡ front ++ drop m.end bytes = sym (append_assoc (take m.begin bytes) own (drop m.end bytes)) in
    ap (drop place) joined ∙ ap (λ (n : ℕ). drop n (front ++ drop m.end bytes)) far ∙ drop-append-add front (drop m.end bytes) (place - m.end)
    ∙ drop-drop (place - m.end) m.end bytes ∙ ap (λ (n : ℕ). drop n bytes) (omega (arith, behind))

signatures_stay : (m : UnsignedMessage) (bytes : List ℕ) (others : List UnsignedMessage) (signatures : List (List ℕ)) (from size : ℕ) → m.begin ≤ m.end → m.end ≤ length bytes → m.end ≤ from →
    AreApart from others size → AreSignaturesOf others signatures bytes → AreSignaturesOf others signatures (signed_at m bytes)
signatures_stay m bytes [] signatures from size order within behind h s = tt
signatures_stay m bytes (next ∷ others) [] from size order within behind h s = s
signatures_stay m bytes (next ∷ others) (own ∷ signatures) from size order within behind h s =
    let same : message_of next bytes ≡ message_of next (signed_at m bytes) = ap (take (next.end - next.begin)) (sym (same_behind m bytes next.begin order within (omega (arith, behind, h.0)))) in
    (s.0 ∙ ap (signature next.key.bytes) same, signatures_stay m bytes others signatures next.end size order within (omega (arith, behind, h.0, h.1)) h.2 s.1)

-- how far it has come to write signatures: those that are to come, and what comes of all
pub record Writing (whole : List ℕ) (messages : List UnsignedMessage) (signatures : List (List ℕ)) (out : List ℕ) : Type 0 where
  pub own : AreSignaturesOf messages signatures out
  pub comes : whole ≡ sealed messages out

pub writing_step : (whole out new : List ℕ) (keys : List UnsignedMessage) (m : UnsignedMessage) (others : List UnsignedMessage) (signatures : List (List ℕ)) (own : List ℕ) (more : List (List ℕ)) (from : ℕ) →
    keys ≡ m ∷ others → signatures ≡ own ∷ more → AreApart from keys (length out) →
    (own ≡ signature m.key.bytes (message_of m out) → new ≡ signed_at m out) → Writing whole keys signatures out → Writing whole others more new
unfolding sealed
writing_step whole out new keys m others signatures own more from k s h put w =
    let apart : AreApart from (m ∷ others) (length out) = rw k at h in
    let within : m.end ≤ length out = apart_ends m.end (length out) others apart.2 in
    let held : AreSignaturesOf (m ∷ others) (own ∷ more) out = rw (k, s) at w.own in
    let is : new ≡ signed_at m out = put held.0 in
    record {
      own = rw is (signatures_stay m out others more m.end (length out) apart.1 within (omega arith) apart.2 held.1);
      comes = w.comes ∙ rw (k, is) refl;
    }

pub apart_first : (from size : ℕ) (keys : List UnsignedMessage) (m : UnsignedMessage) (others : List UnsignedMessage) → keys ≡ m ∷ others → AreApart from keys size →
    (m.begin ≤ m.end) × (m.end ≤ size) × AreApart m.end others size
apart_first from size keys m others k h =
    let apart : AreApart from (m ∷ others) size = rw k at h in
    (apart.1, apart_ends m.end size others apart.2, apart.2)

pub writing_ends : (whole out : List ℕ) (keys : List UnsignedMessage) (signatures : List (List ℕ)) → keys ≡ [] → Writing whole keys signatures out → out ≡ whole
unfolding sealed
writing_ends whole out keys signatures k w = sym (w.comes ∙ rw k refl)

pub no_signature : (whole out : List ℕ) (keys : List UnsignedMessage) (m : UnsignedMessage) (others : List UnsignedMessage) (signatures : List (List ℕ)) → keys ≡ m ∷ others → signatures ≡ [] →
    Writing whole keys signatures out → ⊥
no_signature whole out keys m others signatures k s w = rw (k, s) at w.own

-- one of some messages
pub apart_at : (from size : ℕ) (messages : List UnsignedMessage) (i : ℕ) (m : UnsignedMessage) → slice_get messages i ≡ Some m → AreApart from messages size →
    (m.begin ≤ m.end) × (m.end ≤ size)
apart_at from size [] i m e h = absurd (cc)
apart_at from size (first ∷ messages) zero m e h =
    let same : first ≡ m = cc in
    rw (← same) (h.1, apart_ends first.end size messages h.2)
apart_at from size (first ∷ messages) (suc i) m e h = apart_at first.end size messages i m e h.2

-- what is computed of a message that was found is of the message that is there
pub of_found : {M F : Type 0} (at : Option M) (found : Option F) (own : List ℕ) (of_m : M → List ℕ) (of_f : F → List ℕ) →
    IfSome at (λ m. IfSome found (λ f. of_f f ≡ of_m m)) → IfSome at (λ m. is_some found ≡ true) → IfSome found (λ f. own ≡ of_f f) → IfSome at (λ m. own ≡ of_m m)
of_found None found own of_m of_f same some is = tt
of_found (Some m) None own of_m of_f same some is = absurd (false≢true some)
of_found (Some m) (Some f) own of_m of_f same some is = is ∙ same

-- four signatures are those of at most four messages
abbrev pub IsSignatureAt : List UnsignedMessage → List ℕ → ℕ → List ℕ → Type 0
IsSignatureAt messages out i own = IfSome (slice_get messages i) (λ m. own ≡ signature m.key.bytes (message_of m out))

pub four_are : (messages : List UnsignedMessage) (out a b c d : List ℕ) → length messages ≤ 4 → IsSignatureAt messages out 0 a → IsSignatureAt messages out 1 b →
    IsSignatureAt messages out 2 c → IsSignatureAt messages out 3 d → AreSignaturesOf messages (a ∷ b ∷ c ∷ d ∷ []) out
four_are [] out a b c d few h i j k = tt
four_are (m ∷ []) out a b c d few h i j k = (h, tt)
four_are (m ∷ n ∷ []) out a b c d few h i j k = (h, (i, tt))
four_are (m ∷ n ∷ o ∷ []) out a b c d few h i j k = (h, (i, (j, tt)))
four_are (m ∷ n ∷ o ∷ p ∷ []) out a b c d few h i j k = (h, (i, (j, (k, tt))))
four_are (m ∷ n ∷ o ∷ p ∷ q ∷ messages) out a b c d few h i j k = absurd (omega (arith, few))

-- what lies behind the messages is nothing to them
signed_front : (m : UnsignedMessage) (front rest : List ℕ) → m.begin ≤ m.end → m.end ≤ length front → signed_at m (front ++ rest) ≡ signed_at m front ++ rest
signed_front m front rest order within =
    let before : take m.begin (front ++ rest) ≡ take m.begin front = take-append-le m.begin front rest (omega (arith, order, within)) in
    let own : message_of m (front ++ rest) ≡ message_of m front =
    ap (take (m.end - m.begin)) (drop-append-le m.begin front rest (omega (arith, order, within)))
    ∙ take-append-le (m.end - m.begin) (drop m.begin front) rest (omega (arith, length-drop m.begin front, order, within)) in
    let behind : drop m.end (front ++ rest) ≡ drop m.end front ++ rest = drop-append-le m.end front rest within in
    rw (before, own, behind) (simp append_assoc refl)

pub sealed_front : (messages : List UnsignedMessage) (front rest : List ℕ) (from : ℕ) → AreApart from messages (length front) → sealed messages (front ++ rest) ≡ sealed messages front ++ rest
unfolding sealed
sealed_front [] front rest from h = refl
sealed_front (m ∷ messages) front rest from h =
    let within : m.end ≤ length front = apart_ends m.end (length front) messages h.2 in
    ap (sealed messages) (signed_front m front rest h.1 within)
    ∙ sealed_front messages (signed_at m front) rest m.end (rw (length-signed_at m front h.1 within) h.2)
