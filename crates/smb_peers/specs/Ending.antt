-- The labels of the rules that end a connection.
use Rattle.std.specs.Prelude.{ℕ, List, codes}
use Rattle.smb_frame.specs.declared.fault.FrameFault.{FrameFault}
use Rattle.smb_head.specs.declared.fault.HeadFault.{HeadFault}
use Rattle.smb_peers.specs.declared.ending.Ending.{Ending}
use Rattle.smb_peers.specs.declared.ending.Ending.TheVariants.{Frame, Chain, NegotiateAlone, NegotiateAgain, MessageIdNotInWindow, MessageIdTwice, Smb1Misformed, Smb1Late, Smb1NoDialect}

-- F1 to F4: a fault of a stream
abbrev pub frame_label : FrameFault → List ℕ
frame_label FrameFault.FirstByte = codes "F1"
frame_label FrameFault.TooLong = codes "F2"
frame_label FrameFault.PayloadTooLong = codes "F3"
frame_label FrameFault.NoMemory = codes "F4"

-- H1 to H8: a fault of a chain
abbrev pub chain_label : HeadFault → List ℕ
chain_label HeadFault.Short = codes "H1"
chain_label HeadFault.Protocol = codes "H2"
chain_label HeadFault.Size = codes "H3"
chain_label HeadFault.Next = codes "H4"
chain_label HeadFault.TooMany = codes "H5"
chain_label HeadFault.FromServer = codes "H6"
chain_label HeadFault.RelatedFirst = codes "H7"
chain_label HeadFault.NoMemory = codes "H8"

-- the label of a rule
abbrev pub ending_label : Ending → List ℕ
ending_label (Frame fault) = frame_label fault
ending_label (Chain fault) = chain_label fault
ending_label NegotiateAlone = codes "E1"
ending_label NegotiateAgain = codes "E2"
ending_label (MessageIdNotInWindow number) = codes "E3"
ending_label MessageIdTwice = codes "E4"
ending_label Smb1Misformed = codes "E5"
ending_label Smb1Late = codes "E6"
ending_label Smb1NoDialect = codes "E7"
