use Rattle.smb_content_laws.proofs.ThroughOpens.{adds_through, takes_through, other_opens, read_locked, write_locked}
use Rattle.smb_content_laws.proofs.Beside.{leaves_beside}
use Rattle.smb_content_laws.proofs.locking.laws_of_locking.Goals as goal

pub returns : goal.returns
returns c = record {
  adds = λ state number asks view good. adds_through state number asks good view;
  takes = λ state number asks view good. takes_through state number asks good view;
  others = λ state number file asks good. other_opens state number asks good file;
  holder = λ state number most minimum buffer asks lock good granted asked. (
    read_locked state number most minimum asks lock good granted asked,
    λ exclusive long apart. write_locked state number most buffer asks lock good granted asked exclusive apart long,
  );
  beside = leaves_beside;
}
