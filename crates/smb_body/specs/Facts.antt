-- For the proofs; nothing here need be believed.
-- What the code looks at of a request before it is performed.
use Rattle.std.specs.Prelude.{min}
use Rattle.smb_body.specs.Requests.{RequestValue, file_id_of, payload_of}
use Rattle.smb_body.specs.Needs.{needs_of}
use Rattle.smb_body.specs.declared.needs.RequestFacts.{RequestFacts}

abbrev pub facts_of : RequestValue → RequestFacts
facts_of asked = record {
  needs = needs_of asked;
  file_id = file_id_of asked;
  payload = min (payload_of asked) 4294967295;
}
