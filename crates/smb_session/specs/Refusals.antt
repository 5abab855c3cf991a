-- What refusals of a SESSION_SETUP, LOGOFF, TREE_CONNECT and TREE_DISCONNECT are among the faults of the sessions.
use Rattle.smb_refusals.specs.declared.refused_by.RefusedBy.{RefusedBy}
use Rattle.smb_refusals.specs.declared.refused_by.RefusedBy.TheVariants.{Row}
use Rattle.smb_refusals.specs.declared.session.SetupRefusal.{SetupRefusal}
use Rattle.smb_refusals.specs.declared.session.SetupRefusal.TheVariants.{BindingAsked, NoSessionLeft, SessionFinished, Denied}
use Rattle.smb_refusals.specs.declared.session.LogoffRefusal.{LogoffRefusal}
use Rattle.smb_refusals.specs.declared.session.TreeConnectRefusal.{TreeConnectRefusal}
use Rattle.smb_refusals.specs.declared.session.TreeConnectRefusal.TheVariants.{UnknownShare, NoTreeConnectLeft}
use Rattle.smb_refusals.specs.declared.session.TreeDisconnectRefusal.{TreeDisconnectRefusal}
use Rattle.smb_refusals.specs.declared.session.TreeDisconnectRefusal.TheVariants.{UnknownTreeConnect}
use Rattle.smb_session.specs.declared.fault.SessionFault.{SessionFault}
use Rattle.smb_session.specs.declared.fault.SessionFault.TheVariants.{UnknownSession, UnknownTree, NoShare, NotAccepted, NoMemory}

-- the fault of a refused SESSION_SETUP; a denial is no row of its table, and its fault is never given (3.3.5.5)
abbrev pub setup_refusal_fault : SetupRefusal → SessionFault
setup_refusal_fault BindingAsked = NotAccepted
setup_refusal_fault NoSessionLeft = NotAccepted
setup_refusal_fault SetupRefusal.UnknownSession = UnknownSession
setup_refusal_fault SessionFinished = NotAccepted
setup_refusal_fault Denied = NotAccepted

-- the same, or out of memory
abbrev pub setup_fault : RefusedBy SetupRefusal → SessionFault
setup_fault (Row refusal) = setup_refusal_fault refusal
setup_fault RefusedBy.NoMemory = NoMemory

-- the fault of a refused LOGOFF (3.3.5.6)
abbrev pub logoff_fault : LogoffRefusal → SessionFault
logoff_fault LogoffRefusal.UnknownSession = UnknownSession

-- the fault of a refused TREE_CONNECT (3.3.5.7)
abbrev pub tree_connect_fault : TreeConnectRefusal → SessionFault
tree_connect_fault TreeConnectRefusal.UnknownSession = UnknownSession
tree_connect_fault UnknownShare = NoShare
tree_connect_fault NoTreeConnectLeft = NotAccepted

-- the fault of a refused TREE_DISCONNECT (3.3.5.8)
abbrev pub tree_disconnect_fault : TreeDisconnectRefusal → SessionFault
tree_disconnect_fault TreeDisconnectRefusal.UnknownSession = UnknownSession
tree_disconnect_fault UnknownTreeConnect = UnknownTree
