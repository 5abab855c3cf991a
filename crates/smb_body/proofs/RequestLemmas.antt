-- Requests of all commands.
use Rattle.std.proofs.Common.{◌≡◌, ℕ, List, Bool, true, false, Option, Some, None, refl, sym, subst, inl, inr, nat_eq, ne_eqb, if◌then◌else◌}
use Rattle.std.proofs.lemmas.Bool.Decides.{eqb_tells}
use Rattle.std.specs.Option.{option_map}
use Rattle.smb_body.specs.Requests.{RequestValue, asks_negotiate, asks_session_setup, asks_logoff, asks_tree_connect, asks_tree_disconnect, asks_create, asks_close, asks_flush, asks_read, asks_write, asks_lock, asks_cancel, asks_echo, asks_query_directory, asks_query_info, asks_set_info, SaysRequest, request_of, request_laid, SameButForLayout, FitsRequest, IsReadBack}
use Rattle.smb_body.specs.Negotiate.{NegotiateAsked}
use Rattle.smb_body.specs.Readings.{is_negotiate, negotiate_of, is_session_setup, session_setup_of, is_reserved, reserved_of, is_tree_connect, tree_connect_of, is_create, create_of, is_close, close_of, is_flush, flush_of, is_read, read_of, is_write, write_of, is_lock, lock_of, is_query_directory, query_directory_of, is_query_info, query_info_of, is_set_info, set_info_of}
use Rattle.smb_body.proofs.NegotiateLemmas.{negotiate_told, negotiate_written}
use Rattle.smb_body.specs.SessionSetup.{SessionSetupAsked}
use Rattle.smb_body.proofs.SessionSetupLemmas.{session_setup_told, session_setup_written}
use Rattle.smb_body.specs.declared.reserved.ReservedRequest.{ReservedRequest}
use Rattle.smb_body.proofs.ReservedLemmas.{reserved_told, reserved_written}
use Rattle.smb_body.specs.TreeConnect.{TreeConnectAsked}
use Rattle.smb_body.proofs.TreeConnectLemmas.{tree_connect_told, tree_connect_written}
use Rattle.smb_body.specs.Create.{CreateAsked}
use Rattle.smb_body.proofs.CreateLemmas.{create_told, create_written}
use Rattle.smb_body.specs.declared.close.CloseRequest.{CloseRequest}
use Rattle.smb_body.proofs.CloseLemmas.{close_told, close_written}
use Rattle.smb_body.specs.declared.flush.FlushRequest.{FlushRequest}
use Rattle.smb_body.proofs.FlushLemmas.{flush_told, flush_written}
use Rattle.smb_body.specs.declared.read.ReadRequest.{ReadRequest}
use Rattle.smb_body.proofs.ReadLemmas.{read_told, read_written}
use Rattle.smb_body.specs.Write.{WriteAsked}
use Rattle.smb_body.proofs.WriteLemmas.{write_told, write_written}
use Rattle.smb_body.specs.Lock.{LockAsked}
use Rattle.smb_body.proofs.LockLemmas.{lock_told, lock_written}
use Rattle.smb_body.specs.QueryDirectory.{QueryDirectoryAsked}
use Rattle.smb_body.proofs.QueryDirectoryLemmas.{query_directory_told, query_directory_written}
use Rattle.smb_body.specs.declared.query_info.QueryInfoRequest.{QueryInfoRequest}
use Rattle.smb_body.proofs.QueryInfoLemmas.{query_info_told, query_info_written}
use Rattle.smb_body.specs.SetInfo.{SetInfoAsked}
use Rattle.smb_body.proofs.SetInfoLemmas.{set_info_told, set_info_written}

some_inj : (v w : RequestValue) → Some v ≡ Some w → v ≡ w
some_inj v w h = cc

none_some : (v : RequestValue) → ◌≡◌ {A = Option RequestValue} None (Some v) → ⊥
none_some v h = cc

-- one test of a chain of tests of the command
at_command : (command k : ℕ) (here rest : Option RequestValue) (v : RequestValue) (P : Type 0) → (command ≡ k → here ≡ Some v → P) → (rest ≡ Some v → P) → (if nat_eq command k then here else rest) ≡ Some v → P
at_command command k here rest v P f g h =
    elim (eqb_tells command k) [ inl t ↦ f t.1 (let e = t.0 in rw e at h) | inr t ↦ g (let e = t.0 in rw e at h) ]

-- a value where the test held is said
value_said : {A : Type 0} (readable : Bool) (x : A) (asks : A → RequestValue) (v : RequestValue) (Says : RequestValue → Type 0) → (readable ≡ true → Says (asks x)) →
    option_map asks (if readable then Some x else None) ≡ Some v → Says v
value_said true x asks v Says f h = subst Says (some_inj (asks x) v h) (f refl)
value_said false x asks v Says f h = absurd (none_some v h)

pub request_said : (command : ℕ) (request : List ℕ) (v : RequestValue) → request_of command request ≡ Some v → SaysRequest command request v
unfolding request_of
request_said command request v =
    at_command command 0 _ _ v (SaysRequest command request v) (λ e. value_said (is_negotiate request) (negotiate_of request) asks_negotiate v (SaysRequest command request) (λ r. record { kind = sym e; says = negotiate_told.said request r })) (
    at_command command 1 _ _ v (SaysRequest command request v) (λ e. value_said (is_session_setup request) (session_setup_of request) asks_session_setup v (SaysRequest command request) (λ r. record { kind = sym e; says = session_setup_told.said request r })) (
    at_command command 2 _ _ v (SaysRequest command request v) (λ e. value_said (is_reserved request) (reserved_of request) asks_logoff v (SaysRequest command request) (λ r. record { kind = sym e; says = (reserved_told.said request r).fields })) (
    at_command command 3 _ _ v (SaysRequest command request v) (λ e. value_said (is_tree_connect request) (tree_connect_of request) asks_tree_connect v (SaysRequest command request) (λ r. record { kind = sym e; says = tree_connect_told.said request r })) (
    at_command command 4 _ _ v (SaysRequest command request v) (λ e. value_said (is_reserved request) (reserved_of request) asks_tree_disconnect v (SaysRequest command request) (λ r. record { kind = sym e; says = (reserved_told.said request r).fields })) (
    at_command command 5 _ _ v (SaysRequest command request v) (λ e. value_said (is_create request) (create_of request) asks_create v (SaysRequest command request) (λ r. record { kind = sym e; says = create_told.said request r })) (
    at_command command 6 _ _ v (SaysRequest command request v) (λ e. value_said (is_close request) (close_of request) asks_close v (SaysRequest command request) (λ r. record { kind = sym e; says = (close_told.said request r).fields })) (
    at_command command 7 _ _ v (SaysRequest command request v) (λ e. value_said (is_flush request) (flush_of request) asks_flush v (SaysRequest command request) (λ r. record { kind = sym e; says = (flush_told.said request r).fields })) (
    at_command command 8 _ _ v (SaysRequest command request v) (λ e. value_said (is_read request) (read_of request) asks_read v (SaysRequest command request) (λ r. record { kind = sym e; says = (read_told.said request r).fields })) (
    at_command command 9 _ _ v (SaysRequest command request v) (λ e. value_said (is_write request) (write_of request) asks_write v (SaysRequest command request) (λ r. record { kind = sym e; says = write_told.said request r })) (
    at_command command 10 _ _ v (SaysRequest command request v) (λ e. value_said (is_lock request) (lock_of request) asks_lock v (SaysRequest command request) (λ r. record { kind = sym e; says = lock_told.said request r })) (
    at_command command 12 _ _ v (SaysRequest command request v) (λ e. value_said (is_reserved request) (reserved_of request) asks_cancel v (SaysRequest command request) (λ r. record { kind = sym e; says = (reserved_told.said request r).fields })) (
    at_command command 13 _ _ v (SaysRequest command request v) (λ e. value_said (is_reserved request) (reserved_of request) asks_echo v (SaysRequest command request) (λ r. record { kind = sym e; says = (reserved_told.said request r).fields })) (
    at_command command 14 _ _ v (SaysRequest command request v) (λ e. value_said (is_query_directory request) (query_directory_of request) asks_query_directory v (SaysRequest command request) (λ r. record { kind = sym e; says = query_directory_told.said request r })) (
    at_command command 16 _ _ v (SaysRequest command request v) (λ e. value_said (is_query_info request) (query_info_of request) asks_query_info v (SaysRequest command request) (λ r. record { kind = sym e; says = (query_info_told.said request r).fields })) (
    at_command command 17 _ _ v (SaysRequest command request v) (λ e. value_said (is_set_info request) (set_info_of request) asks_set_info v (SaysRequest command request) (λ r. record { kind = sym e; says = set_info_told.said request r })) (
    λ h. absurd (none_some v h)))))))))))))))))

pub request_told : (command : ℕ) (request : List ℕ) (v : RequestValue) → SaysRequest command request v → request_of command request ≡ Some v
unfolding request_of
request_told command request (asks_negotiate a) s = rw (← s.kind, negotiate_told.readable request a s.says, ← negotiate_told.only request a s.says) refl
request_told command request (asks_session_setup a) s = rw (← s.kind, session_setup_told.readable request a s.says, ← session_setup_told.only request a s.says) refl
request_told command request (asks_logoff a) s = rw (← s.kind, reserved_told.readable request a (record { fields = s.says }), ← reserved_told.only request a (record { fields = s.says })) refl
request_told command request (asks_tree_connect a) s = rw (← s.kind, tree_connect_told.readable request a s.says, ← tree_connect_told.only request a s.says) refl
request_told command request (asks_tree_disconnect a) s = rw (← s.kind, reserved_told.readable request a (record { fields = s.says }), ← reserved_told.only request a (record { fields = s.says })) refl
request_told command request (asks_create a) s = rw (← s.kind, create_told.readable request a s.says, ← create_told.only request a s.says) refl
request_told command request (asks_close a) s = rw (← s.kind, close_told.readable request a (record { fields = s.says }), ← close_told.only request a (record { fields = s.says })) refl
request_told command request (asks_flush a) s = rw (← s.kind, flush_told.readable request a (record { fields = s.says }), ← flush_told.only request a (record { fields = s.says })) refl
request_told command request (asks_read a) s = rw (← s.kind, read_told.readable request a (record { fields = s.says }), ← read_told.only request a (record { fields = s.says })) refl
request_told command request (asks_write a) s = rw (← s.kind, write_told.readable request a s.says, ← write_told.only request a s.says) refl
request_told command request (asks_lock a) s = rw (← s.kind, lock_told.readable request a s.says, ← lock_told.only request a s.says) refl
request_told command request (asks_cancel a) s = rw (← s.kind, reserved_told.readable request a (record { fields = s.says }), ← reserved_told.only request a (record { fields = s.says })) refl
request_told command request (asks_echo a) s = rw (← s.kind, reserved_told.readable request a (record { fields = s.says }), ← reserved_told.only request a (record { fields = s.says })) refl
request_told command request (asks_query_directory a) s = rw (← s.kind, query_directory_told.readable request a s.says, ← query_directory_told.only request a s.says) refl
request_told command request (asks_query_info a) s = rw (← s.kind, query_info_told.readable request a (record { fields = s.says }), ← query_info_told.only request a (record { fields = s.says })) refl
request_told command request (asks_set_info a) s = rw (← s.kind, set_info_told.readable request a s.says, ← set_info_told.only request a s.says) refl

pub read_back : (v : RequestValue) → FitsRequest v → IsReadBack v
read_back (asks_negotiate a) f = λ header e some. record { kind = refl; says = negotiate_written header a e f some }
read_back (asks_session_setup a) f = λ header e some. record { kind = refl; says = session_setup_written header a e f }
read_back (asks_logoff a) f = λ header e some. record { kind = refl; says = (reserved_written header a e f).fields }
read_back (asks_tree_connect a) f = λ header e some. record { kind = refl; says = tree_connect_written header a e f }
read_back (asks_tree_disconnect a) f = λ header e some. record { kind = refl; says = (reserved_written header a e f).fields }
read_back (asks_create a) f = λ header e some. record { kind = refl; says = create_written header a e f }
read_back (asks_close a) f = λ header e some. record { kind = refl; says = (close_written header a e f).fields }
read_back (asks_flush a) f = λ header e some. record { kind = refl; says = (flush_written header a e f).fields }
read_back (asks_read a) f = λ header e some. record { kind = refl; says = (read_written header a e f).fields }
read_back (asks_write a) f = λ header e some. record { kind = refl; says = write_written header a e f }
read_back (asks_lock a) f = λ header e some. record { kind = refl; says = lock_written header a e f some }
read_back (asks_cancel a) f = λ header e some. record { kind = refl; says = (reserved_written header a e f).fields }
read_back (asks_echo a) f = λ header e some. record { kind = refl; says = (reserved_written header a e f).fields }
read_back (asks_query_directory a) f = λ header e some. record { kind = refl; says = query_directory_written header a e f }
read_back (asks_query_info a) f = λ header e some. record { kind = refl; says = (query_info_written header a e f).fields }
read_back (asks_set_info a) f = λ header e some. record { kind = refl; says = set_info_written header a e f }

-- what a request of each command says
pub some_negotiate : (command : ℕ) (request : List ℕ) (a : NegotiateAsked) → command ≡ 0 → true ≡ is_negotiate request → a ≡ negotiate_of request → request_of command request ≡ Some (asks_negotiate a)
unfolding request_of
some_negotiate command request a e r v = rw (e, ← r, v) refl

pub some_session_setup : (command : ℕ) (request : List ℕ) (a : SessionSetupAsked) → command ≡ 1 → true ≡ is_session_setup request → a ≡ session_setup_of request → request_of command request ≡ Some (asks_session_setup a)
unfolding request_of
some_session_setup command request a e r v = rw (e, ← r, v) refl

pub some_logoff : (command : ℕ) (request : List ℕ) (a : ReservedRequest) → command ≡ 2 → true ≡ is_reserved request → a ≡ reserved_of request → request_of command request ≡ Some (asks_logoff a)
unfolding request_of
some_logoff command request a e r v = rw (e, ← r, v) refl

pub some_tree_connect : (command : ℕ) (request : List ℕ) (a : TreeConnectAsked) → command ≡ 3 → true ≡ is_tree_connect request → a ≡ tree_connect_of request → request_of command request ≡ Some (asks_tree_connect a)
unfolding request_of
some_tree_connect command request a e r v = rw (e, ← r, v) refl

pub some_tree_disconnect : (command : ℕ) (request : List ℕ) (a : ReservedRequest) → command ≡ 4 → true ≡ is_reserved request → a ≡ reserved_of request → request_of command request ≡ Some (asks_tree_disconnect a)
unfolding request_of
some_tree_disconnect command request a e r v = rw (e, ← r, v) refl

pub some_create : (command : ℕ) (request : List ℕ) (a : CreateAsked) → command ≡ 5 → true ≡ is_create request → a ≡ create_of request → request_of command request ≡ Some (asks_create a)
unfolding request_of
some_create command request a e r v = rw (e, ← r, v) refl

pub some_close : (command : ℕ) (request : List ℕ) (a : CloseRequest) → command ≡ 6 → true ≡ is_close request → a ≡ close_of request → request_of command request ≡ Some (asks_close a)
unfolding request_of
some_close command request a e r v = rw (e, ← r, v) refl

pub some_flush : (command : ℕ) (request : List ℕ) (a : FlushRequest) → command ≡ 7 → true ≡ is_flush request → a ≡ flush_of request → request_of command request ≡ Some (asks_flush a)
unfolding request_of
some_flush command request a e r v = rw (e, ← r, v) refl

pub some_read : (command : ℕ) (request : List ℕ) (a : ReadRequest) → command ≡ 8 → true ≡ is_read request → a ≡ read_of request → request_of command request ≡ Some (asks_read a)
unfolding request_of
some_read command request a e r v = rw (e, ← r, v) refl

pub some_write : (command : ℕ) (request : List ℕ) (a : WriteAsked) → command ≡ 9 → true ≡ is_write request → a ≡ write_of request → request_of command request ≡ Some (asks_write a)
unfolding request_of
some_write command request a e r v = rw (e, ← r, v) refl

pub some_lock : (command : ℕ) (request : List ℕ) (a : LockAsked) → command ≡ 10 → true ≡ is_lock request → a ≡ lock_of request → request_of command request ≡ Some (asks_lock a)
unfolding request_of
some_lock command request a e r v = rw (e, ← r, v) refl

pub some_cancel : (command : ℕ) (request : List ℕ) (a : ReservedRequest) → command ≡ 12 → true ≡ is_reserved request → a ≡ reserved_of request → request_of command request ≡ Some (asks_cancel a)
unfolding request_of
some_cancel command request a e r v = rw (e, ← r, v) refl

pub some_echo : (command : ℕ) (request : List ℕ) (a : ReservedRequest) → command ≡ 13 → true ≡ is_reserved request → a ≡ reserved_of request → request_of command request ≡ Some (asks_echo a)
unfolding request_of
some_echo command request a e r v = rw (e, ← r, v) refl

pub some_query_directory : (command : ℕ) (request : List ℕ) (a : QueryDirectoryAsked) → command ≡ 14 → true ≡ is_query_directory request → a ≡ query_directory_of request → request_of command request ≡ Some (asks_query_directory a)
unfolding request_of
some_query_directory command request a e r v = rw (e, ← r, v) refl

pub some_query_info : (command : ℕ) (request : List ℕ) (a : QueryInfoRequest) → command ≡ 16 → true ≡ is_query_info request → a ≡ query_info_of request → request_of command request ≡ Some (asks_query_info a)
unfolding request_of
some_query_info command request a e r v = rw (e, ← r, v) refl

pub some_set_info : (command : ℕ) (request : List ℕ) (a : SetInfoAsked) → command ≡ 17 → true ≡ is_set_info request → a ≡ set_info_of request → request_of command request ≡ Some (asks_set_info a)
unfolding request_of
some_set_info command request a e r v = rw (e, ← r, v) refl

pub no_command : (command : ℕ) (request : List ℕ) → (command ≡ 0 → ⊥) → (command ≡ 1 → ⊥) → (command ≡ 2 → ⊥) → (command ≡ 3 → ⊥) → (command ≡ 4 → ⊥) → (command ≡ 5 → ⊥) → (command ≡ 6 → ⊥) → (command ≡ 7 → ⊥) → (command ≡ 8 → ⊥) → (command ≡ 9 → ⊥) → (command ≡ 10 → ⊥) → (command ≡ 12 → ⊥) → (command ≡ 13 → ⊥) → (command ≡ 14 → ⊥) → (command ≡ 16 → ⊥) → (command ≡ 17 → ⊥) → request_of command request ≡ None
unfolding request_of
no_command command request n0 n1 n2 n3 n4 n5 n6 n7 n8 n9 n10 n12 n13 n14 n16 n17 =
    rw (ne_eqb command 0 n0, ne_eqb command 1 n1, ne_eqb command 2 n2, ne_eqb command 3 n3, ne_eqb command 4 n4, ne_eqb command 5 n5, ne_eqb command 6 n6, ne_eqb command 7 n7, ne_eqb command 8 n8, ne_eqb command 9 n9, ne_eqb command 10 n10, ne_eqb command 12 n12, ne_eqb command 13 n13, ne_eqb command 14 n14, ne_eqb command 16 n16, ne_eqb command 17 n17) refl

pub laid_same : (v : RequestValue) → SameButForLayout (request_laid v) v
laid_same (asks_negotiate a) = refl
laid_same (asks_session_setup a) = refl
laid_same (asks_logoff a) = refl
laid_same (asks_tree_connect a) = refl
laid_same (asks_tree_disconnect a) = refl
laid_same (asks_create a) = refl
laid_same (asks_close a) = refl
laid_same (asks_flush a) = refl
laid_same (asks_read a) = refl
laid_same (asks_write a) = refl
laid_same (asks_lock a) = refl
laid_same (asks_cancel a) = refl
laid_same (asks_echo a) = refl
laid_same (asks_query_directory a) = refl
laid_same (asks_query_info a) = refl
laid_same (asks_set_info a) = refl
