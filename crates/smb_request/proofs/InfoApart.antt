-- QUERY_INFO and SET_INFO: what holds of the state that they leave, where it holds with the tree alone changed.
use Rattle.std.proofs.Common.{◌≡◌, ℕ, Bool, true, false, not, nat_lt, if◌then◌else◌, List, length, Option, None, Some, refl}
use Rattle.std.specs.Option.{option_map_or}
use Rattle.smb_wire.specs.NtStatus.{is_success}
use Rattle.smb_wire.specs.Paths.{path_spelled}
use Rattle.smb_body.specs.declared.query_info.QueryInfoRequest.{QueryInfoRequest}
use Rattle.smb_body.specs.Replies.{answers_set_info}
use Rattle.smb_body.specs.SetInfo.{SetInfoAsked}
use Rattle.smb_info.specs.declared.set_info.SetInformationClass.{SetInformationClass}
use Rattle.smb_info.specs.SetInformation.{SetAsked, asks_basic, asks_rename, asks_mark, asks_allocation, asks_end, set_class, set_length, is_readable, asked_of}
use Rattle.smb_tree.specs.Content.{Content, changed_in}
use Rattle.smb_access.specs.declared.open_row.OpenRow.{OpenRow}
use Rattle.smb_access.specs.Opens.{open_of}
use Rattle.smb_entry.specs.Parts.{renamed_tree, delete_set, size_set, entry_set}
use Rattle.smb_opens.specs.State.{StoreState}
use Rattle.smb_request.specs.declared.call.Call.{Call}
use Rattle.smb_wire.specs.declared.nt_status.NtStatus.{NtStatus}
use Rattle.smb_wire.specs.declared.nt_status.NtStatus.TheVariants.{Success}
use Rattle.smb_refusals.specs.declared.refusal.Refusal.{Refusal}
use Rattle.smb_refusals.specs.declared.set_info.SetInfoRefusal.{SetInfoRefusal}
use Rattle.smb_request.proofs.Refused.{set_succeeds}
use Rattle.smb_request.specs.QueryInfo.{information_queried}
use Rattle.smb_request.specs.Response.{CommandStep, refused, through_open, unless_refused}
use Rattle.smb_request.specs.SetInfo.{information_set}
use Rattle.smb_request.specs.Parts.{set_type_refusal, set_as_asked, class_set, success, set_refusal, set_status, set_through, with_store}
use Rattle.smb_request.specs.State.{ServerState}

-- what a store has beside its tree is as it was
with_tree : {X : Type 0} (part : StoreState → X) → ((state : StoreState) (tree : Content) → part (record state { tree = tree }) ≡ part state) → (tree : OpenRow → Content) (store : StoreState) (found : Option OpenRow) →
    part (option_map_or (λ (row : OpenRow). let x : StoreState = record store { tree = tree row } in x) found store) ≡ part store
with_tree part same tree store None = refl
with_tree part same tree store (Some row) = same store (tree row)

set_beside : {X : Type 0} (part : StoreState → X) → ((state : StoreState) (tree : Content) → part (record state { tree = tree }) ≡ part state) → (store : StoreState) (k moment : ℕ) (ask : SetAsked) → part (set_through store k moment ask) ≡ part store
set_beside part same store k moment (asks_basic ask) = with_tree part same (λ row. changed_in (entry_set ask moment) store.tree row.entry) store (open_of store.opens k)
set_beside part same store k moment (asks_rename replace name) = with_tree part same (λ row. renamed_tree store.tree row.entry (path_spelled name) moment) store (open_of store.opens k)
set_beside part same store k moment (asks_mark mark) = with_tree part same (λ row. changed_in (delete_set mark) store.tree row.entry) store (open_of store.opens k)
set_beside part same store k moment (asks_allocation size) = with_tree part same (λ row. changed_in (size_set size true moment) store.tree row.entry) store (open_of store.opens k)
set_beside part same store k moment (asks_end size) = with_tree part same (λ row. changed_in (size_set size false moment) store.tree row.entry) store (open_of store.opens k)

pub set_opens : (store : StoreState) (k moment : ℕ) (ask : SetAsked) → (set_through store k moment ask).opens ≡ store.opens
set_opens = set_beside (λ state. state.opens) (λ state tree. refl)

pub set_next : (store : StoreState) (k moment : ℕ) (ask : SetAsked) → (set_through store k moment ask).next ≡ store.next
set_next = set_beside (λ state. state.next) (λ state tree. refl)

-- a status that is a success
pub yes_success : (status : NtStatus) → is_success status ≡ true → status ≡ Success
unfolding is_success
yes_success Success t = refl
yes_success status t = absurd (cc)

module _ {S : Type 0} (Left : ServerState S → Type 0) (server : ServerState S) (same : Left server) (call : Call) where
  pub queried_left : (asked : QueryInfoRequest) → Left (information_queried server call asked).server
  unfolding information_queried
  queried_left asked = same

  module _ (set : (ask : SetAsked) → set_status server.store call.open_number ask ≡ Success → Left (with_store server (set_through server.store call.open_number call.moment ask))) where
    by_row : (ask : SetAsked) (refusal : Option Refusal) → through_open server.store call.open_number (set_refusal server.store call.open_number ask) ≡ refusal →
        Left (unless_refused server call.ids refusal (record { server = with_store server (set_through server.store call.open_number call.moment ask); response = success call.ids answers_set_info })).server
    by_row ask None is = set ask (set_succeeds server.store call.open_number ask is)
    by_row ask (Some refusal) is = same

    by_class : (buffer : List ℕ) (class : SetInformationClass) (b c : Bool) →
        Left (let x : CommandStep S = if b then refused server call.ids (Refusal.SetInfo SetInfoRefusal.BufferTooShort) else if c then refused server call.ids (Refusal.SetInfo SetInfoRefusal.RenameSaysNoName) else set_as_asked server call (asked_of buffer class) in x).server
    by_class buffer class true c = same
    by_class buffer class false true = same
    by_class buffer class false false =
        by_row (asked_of buffer class) (through_open server.store call.open_number (set_refusal server.store call.open_number (asked_of buffer class))) refl

    by_type : (buffer : List ℕ) (class : Option SetInformationClass) (refusal : Option SetInfoRefusal) →
        Left (option_map_or (λ refusal. refused server call.ids (Refusal.SetInfo refusal)) refusal (option_map_or (class_set server call buffer) class (refused server call.ids (Refusal.SetInfo SetInfoRefusal.UnknownClass)))).server
    by_type buffer class (Some refusal) = same
    by_type buffer None None = same
    by_type buffer (Some class) None = by_class buffer class (nat_lt (length buffer) (set_length class)) (not (is_readable buffer class))

    pub info_set_left : (asked : SetInfoAsked) → Left (information_set server call asked).server
    unfolding information_set
    info_set_left asked = by_type asked.buffer (set_class asked.file_info_class.0) (set_type_refusal asked.info_type.0)
