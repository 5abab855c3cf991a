use Rattle.smb_content_laws.proofs.ReadAgain.{read_there, kept_bytes, read_again, read_front, made_empty}
use Rattle.smb_content_laws.proofs.reading.laws_of_reading.Goals as goal

pub returns : goal.returns
returns c = record {
  there = read_there;
  keeps = kept_bytes;
  again = read_again;
  sizes = read_front;
  made = made_empty;
}
