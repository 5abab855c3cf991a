use Rattle.smb_frame.proofs.Streams.{payloads-more, rest-more, payloads-none, framed_so, framed_only}
use Rattle.smb_frame.proofs.Rests.{fault_more}
use Rattle.smb_frame.proofs.buffer.laws_of_frames.Goals as goal

pub returns-clause-one : goal.returns-clause-one
returns-clause-one c = λ limit stream fits. (framed_so limit stream fits, λ those left kind f. framed_only limit those stream left kind f)

pub returns-clause-more : goal.returns-clause-more
returns-clause-more c = λ limit stream piece. (payloads-more limit piece stream, rest-more limit piece stream)

pub returns-clause-faulty : goal.returns-clause-faulty
returns-clause-faulty c = λ limit held piece fault h. let both = fault_more limit held piece fault h in (both.0, payloads-none limit _ both.1)
