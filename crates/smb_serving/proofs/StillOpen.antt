-- Behind a piece on one connection, which is open still, all are that were.
use Rattle.std.proofs.Common.{◌≡◌, ℕ, eqb, Bool, true, false, List, Option, None, Some, is_some, if◌then◌else◌, refl, ap, subst, ◌∙◌}
use Rattle.std.specs.Option.{option_map}
use Rattle.std.specs.BTreeMap.{is_at}
use Rattle.std.specs.Ordering.{nat_cmp}
use Rattle.std.proofs.lemmas.Bool.{eqb-true}
use Rattle.smb_session.specs.Authenticator.{Meaning}
use Rattle.smb_engine.specs.State.{ShareState, StreamState, stream_of, is_open, ended}
use Rattle.smb_engine.specs.Stream.{unread}
use Rattle.smb_engine.specs.Parts.{unread_stream}
use Rattle.smb_engine.specs.Run.{bytes_step}
use Rattle.smb_engine.proofs.Streams.{stream_of-unread}
use Rattle.smb_engine.proofs.Order.{other_bytes, other_without}
use Rattle.smb_serving.specs.ServedPeers.{PeerState}
use Rattle.smb_serving.specs.ServingParts.{piece_taken}

still_open : (o : Option StreamState) → is_some (option_map unread_stream o) ≡ is_some o
still_open None = refl
still_open (Some stream) = refl

ended_at : {S : Type 0} (s : ShareState S) (n c : ℕ) (b : Bool) → eqb n c ≡ false → is_open (if b then ended s n else s) c ≡ is_open s c
ended_at s n c true d = ap is_some (other_without n c s.streams d)
ended_at s n c false d = refl

module _ {S : Type 0} (m : Meaning S) (share share' : ShareState S) (peer : PeerState) (moment : ℕ) (piece : List ℕ) where
  abbrev stepped : ShareState S
  stepped = (bytes_step m share peer.connection moment piece).state

  open_at : (c : ℕ) (b : Bool) → eqb peer.connection c ≡ b → share' ≡ (piece_taken m share peer moment piece).share → is_open share' peer.connection ≡ true → is_open share c ≡ true → is_open share' c ≡ true
  open_at c true e same its was =
      let P : ℕ → Type 0 = λ k. is_open share' k ≡ true in
      subst P (eqb-true peer.connection c e) its
  open_at c false e same its was =
      ap (λ s. is_open s c) same
      ∙ ended_at (unread stepped) peer.connection c _ e
      ∙ ap is_some (stream_of-unread (is_at (nat_cmp c)) stepped.streams) ∙ still_open (stream_of c stepped.streams)
      ∙ ap is_some (other_bytes m share peer.connection c moment piece (stream_of peer.connection share.streams) refl e)
      ∙ was

  pub open_behind_piece : share' ≡ (piece_taken m share peer moment piece).share → is_open share' peer.connection ≡ true → (c : ℕ) → is_open share c ≡ true → is_open share' c ≡ true
  open_behind_piece same its c was = open_at c (eqb peer.connection c) refl same its was
