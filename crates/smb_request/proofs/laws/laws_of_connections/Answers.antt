use Rattle.std.specs.Prelude.{true, refl}
use Rattle.smb_request.proofs.Alone.{end_alone, leaves_start, leaves_end}
use Rattle.smb_request.proofs.Apart.{request_alone, request_order}
use Rattle.smb_request.proofs.Numbers.{order_good}
use Rattle.smb_request.proofs.Readers.{request_reads, end_reads}
use Rattle.smb_request.proofs.laws.laws_of_connections.Goals as goal

pub returns : goal.returns
returns g c = record {
  order = (
    (λ server table store. order_good server.sessions.table server.store table store),
    (λ server connection o. (leaves_start (λ n session. ⊥) (λ x. true) server connection o).order),
    (λ server connection o. (leaves_end (λ n session. ⊥) (λ x. true) connection refl server o).order),
    (λ connection moment server dialect context request o. request_order g.A.Authenticator.meaning connection moment server dialect context request o),
  );
  end = λ server connection number session o at other. end_alone server connection number session o at other;
  request = λ connection moment server dialect context request number session o at other.
      request_alone g.A.Authenticator.meaning connection moment server dialect context request number session o at other;
  reader = λ connection moment server dialect context request o own all. request_reads g.A.Authenticator.meaning connection moment server dialect context request o own all;
  end_of_reader = λ server connection o own. end_reads server connection o own;
}
