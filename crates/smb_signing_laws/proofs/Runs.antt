-- Over a run: what is not signed as it must be changes nothing, and so no file.
use Rattle.std.proofs.Common.{◌≡◌, ◌⊎◌, inl, inr, ℕ, true, List, Option, refl, subst, sym}
use Rattle.smb_wire.specs.declared.dialect.Dialect.{Dialect}
use Rattle.smb_session.specs.Authenticator.{Meaning}
use Rattle.smb_session.specs.declared.signing.Signing.{Signing}
use Rattle.smb_opens.specs.Readers.{LeavesFiles}
use Rattle.smb_opens.proofs.Readers.{leaves_files_refl, leaves_files_trans}
use Rattle.smb_request.specs.declared.context.Context.{Context}
use Rattle.smb_request.specs.Laws.{IsInOrder, ChangesNoFile}
use Rattle.smb_request.specs.Owners.{AreOwned}
use Rattle.smb_request.specs.Request.{performed}
use Rattle.smb_request.specs.Response.{Performed}
use Rattle.smb_request.specs.State.{ServerState, connection_added, connection_ended}
use Rattle.smb_request.proofs.Alone.{leaves_start, leaves_end}
use Rattle.smb_request.proofs.Apart.{request_order}
use Rattle.smb_request.proofs.Numbers.{order_good}
use Rattle.smb_request.proofs.Owners.{owned_connected}
use Rattle.smb_request.proofs.Readers.{end_reads}
use Rattle.smb_peers.specs.Event.{EventText}
use Rattle.smb_engine.specs.Good.{GoodState}
use Rattle.smb_engine.specs.Run.{PerformedRequest, run}
use Rattle.smb_engine.specs.State.{ShareState}
use Rattle.smb_signing_laws.specs.Requests.{IsSignedBy, IsDenied}
use Rattle.smb_signing_laws.specs.Runs.{IsSignedOrChangesNothing, IsNotSigned, EachRequest}
use Rattle.smb_signing_laws.proofs.Denied.{signed_or_denied}
use Rattle.smb_signing_laws.proofs.Readers.{request_reads}
use Rattle.smb_signing_laws.proofs.Walk.{each_true, came_to, Goes, Known, run_walked}

module _ {S : Type 0} (m : Meaning S) where
  -- EACH REQUEST IS SIGNED, OR CHANGES NOTHING
  module _ (n moment : ℕ) (server : ServerState S) (dialect : Option Dialect) (context : Context) (request : List ℕ) where
    abbrev ran : Performed S
    ran = performed m n moment server dialect context request

    or_nothing : (signing : Signing) → IsSignedBy signing.key request ⊎ IsDenied server dialect request ran → IsSignedBy signing.key request ⊎ (ran.server ≡ server)
    or_nothing signing (inl signed) = inl signed
    or_nothing signing (inr denied) = inr denied.server_stays

    signed_or_nothing : (credits : ℕ) → IsSignedOrChangesNothing n (came_to m n moment server dialect context request credits)
    signed_or_nothing credits = λ signing must. or_nothing signing (signed_or_denied m n moment server dialect context request signing must)

  abbrev Anything : ServerState S → Type 0
  Anything server = Unit {0}

  abbrev Anyhow : ServerState S → ServerState S → Type 0
  Anyhow before after = Unit {0}

  abbrev AnyRequest : ℕ → PerformedRequest S → Type 0
  AnyRequest n came = Unit {0}

  signs : Known m Anything Anyhow AnyRequest IsSignedOrChangesNothing
  signs = record {
    stays = λ server held. tt;
    follows = λ one two three first second. tt;
    starts = λ server n held. record { leads = tt; held = tt };
    finishes = λ server n held. record { leads = tt; held = tt };
    first = λ server n held. refl;
    performs = λ n moment server dialect context request credits held came. (signed_or_nothing n moment server dialect context request credits, record { leads = tt; held = tt });
  }

  pub each_signed : (s : ShareState S) (events : List EventText) → EachRequest m IsSignedOrChangesNothing s events
  each_signed s events =
      (run_walked m Anything Anyhow AnyRequest IsSignedOrChangesNothing signs s events tt (each_true m AnyRequest (λ n came. tt) s events)).0

  -- WHAT IS NOT SIGNED CHANGES NO FILE

  -- the numbers are in order, and each open is owned
  record IsHeld (server : ServerState S) : Type 0 where
    order : IsInOrder server
    owned : AreOwned server.sessions.table server.store.opens

  abbrev LeavesTheFiles : ServerState S → ServerState S → Type 0
  LeavesTheFiles before after = LeavesFiles before.store after.store

  abbrev Reads : ServerState S → ServerState S → Type 0
  Reads before after = Goes m IsHeld LeavesTheFiles IsNotSigned AnyRequest before after

  reads_start : (server : ServerState S) (n : ℕ) → IsHeld server → Reads server (connection_added server n)
  reads_start server n held = record {
    leads = leaves_files_refl server.store;
    held = record { order = (leaves_start (λ n session. ⊥) (λ x. true) server n held.order).order; owned = owned_connected server.sessions.table n server.store.opens held.owned };
  }

  reads_end : (server : ServerState S) (n : ℕ) → IsHeld server → Reads server (connection_ended server n)
  reads_end server n held =
      let changes = end_reads server n held.order held.owned in
      record { leads = changes.files; held = record { order = (leaves_end (λ n session. ⊥) (λ x. true) n refl server held.order).order; owned = changes.owned } }

  module _ (n moment : ℕ) (server : ServerState S) (dialect : Option Dialect) (context : Context) (request : List ℕ) (held : IsHeld server) where
    denied_reads : (signing : Signing) → (IsSignedBy signing.key request → ⊥) → IsSignedBy signing.key request ⊎ IsDenied server dialect request (ran n moment server dialect context request) →
        ChangesNoFile server (ran n moment server dialect context request).server
    denied_reads signing bad (inl signed) = absurd (bad signed)
    denied_reads signing bad (inr denied) =
        subst (λ (after : ServerState S). ChangesNoFile server after) (sym denied.server_stays) (record { files = leaves_files_refl server.store; owned = held.owned })

    unsigned_reads : (credits : ℕ) → IsNotSigned n (came_to m n moment server dialect context request credits) → ChangesNoFile server (ran n moment server dialect context request).server
    unsigned_reads credits (inl reader) = request_reads m n moment server dialect context request held.order held.owned reader
    unsigned_reads credits (inr one) = denied_reads one.0 one.2 (signed_or_denied m n moment server dialect context request one.0 one.1)

    one_reads : (credits : ℕ) → IsNotSigned n (came_to m n moment server dialect context request credits) → Reads server (ran n moment server dialect context request).server
    one_reads credits not =
        let changes = unsigned_reads credits not in
        record { leads = changes.files; held = record { order = request_order m n moment server dialect context request held.order; owned = changes.owned } }

  reads : Known m IsHeld LeavesTheFiles IsNotSigned AnyRequest
  reads = record {
    stays = λ server held. leaves_files_refl server.store;
    follows = λ one two three first second. leaves_files_trans one.store two.store three.store first second;
    starts = reads_start;
    finishes = reads_end;
    first = λ server n held. tt;
    performs = λ n moment server dialect context request credits held came. (tt, one_reads n moment server dialect context request held credits came);
  }

  pub unsigned_changes_no_file : (s : ShareState S) (events : List EventText) → GoodState s → EachRequest m IsNotSigned s events → LeavesFiles s.server.store (run m s events).state.server.store
  unsigned_changes_no_file s events good all =
      let held : IsHeld s.server = record { order = order_good s.server.sessions.table s.server.store good.sessions good.store; owned = good.owned } in
      (run_walked m IsHeld LeavesTheFiles IsNotSigned AnyRequest reads s events held all).1.leads
