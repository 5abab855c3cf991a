-- What a CREATE that succeeds does to a store ([MS-SMB2] 3.3.5.9).
use Rattle.std.specs.Prelude.{ℕ, ◌+◌, [], ◌∷◌, ◌++◌, bit_and, None, if◌then◌else◌}
use Rattle.smb_access.specs.declared.view.Created.{Created as CreatedOpen}
use Rattle.smb_access.specs.Asked.{FileAsked}
use Rattle.smb_opens.specs.Create.{access_granted}
use Rattle.smb_opens.specs.Found.{entry_asked}
use Rattle.smb_opens.specs.State.{StoreState}
use Rattle.smb_access.specs.Views.{view_of}
use Rattle.smb_access.specs.Effect.{entry_after, tree_after}
use Rattle.smb_wire.specs.Dispositions.{overwrites_by, supersedes_by}
use Rattle.smb_access.specs.declared.open_row.OpenRow.{OpenRow}
use Rattle.std.specs.Option.{option_map_or}
use Rattle.smb_wire.specs.Access.{has_any, FILE_SHARE_ALL}
use Rattle.smb_access.specs.declared.scan.ScanLast.TheVariants.{Start}
use Rattle.smb_wire.specs.declared.create_action.CreateAction.TheVariants.{Superseded, Created, Overwritten, Opened}
use Rattle.smb_wire.specs.CreateOptions.{FILE_DELETE_ON_CLOSE}

-- the store afterwards: the tree with the entry added or overwritten where that is asked; and the open that is made, the
-- last one, under the next number (3.3.1.10); of the bits of ShareAccess three count (2.2.13)
abbrev pub created : StoreState → FileAsked → ℕ → StoreState
created state ask moment =
    let opened : OpenRow = record {
      number = state.next;
      entry = (entry_after state.tree ask moment (entry_asked state ask)).number;
      session = ask.session;
      tree = ask.tree;
      access = access_granted state ask;
      share = record { 0 = bit_and ask.share FILE_SHARE_ALL };
      delete_on_close = has_any ask.options FILE_DELETE_ON_CLOSE;
      scan = record { pattern = None; last = Start };
    } in
    record {
      tree = tree_after state.tree ask moment (entry_asked state ask);
      opens = state.opens ++ opened ∷ [];
      locks = state.locks;
      next = state.next + 1;
    }

-- what a CREATE answers: the open's number, what was done (2.2.14), and the entry as it stands afterwards
abbrev pub create_result : StoreState → FileAsked → ℕ → CreatedOpen
create_result state ask moment = record {
  number = state.next;
  action =
      option_map_or
      (λ found. if supersedes_by ask.disposition then Superseded else
      if overwrites_by ask.disposition then Overwritten else Opened)
      (entry_asked state ask) Created;
  view = view_of (access_granted state ask) (entry_after state.tree ask moment (entry_asked state ask));
}
