-- The view that a CREATE returns is what its open shows.
use Rattle.std.proofs.Common.{◌≡◌, ℕ, List, [], ◌∷◌, ◌++◌, true, false, cond, Option, None, Some, refl, ap, arith, ◌∙◌}
use Rattle.std.proofs.lemmas.Bool.Decides.{nat_tests}
use Rattle.smb_wire.specs.declared.access.Access.{Access}
use Rattle.smb_wire.specs.Dispositions.{overwrites_by}
use Rattle.smb_wire.specs.Paths.{path_spelled}
use Rattle.smb_tree.specs.Entries.{Entry}
use Rattle.smb_tree.proofs.Apart.{numbered-from_at}
use Rattle.smb_access.specs.declared.open_row.OpenRow.{OpenRow}
use Rattle.smb_access.specs.Asked.{FileAsked, kind_asked, attributes_asked}
use Rattle.smb_opens.specs.Create.{access_granted}
use Rattle.smb_access.specs.Effect.{overwritten, tree_after, entry_after}
use Rattle.smb_access.specs.Parts.{opened_by, view_at, view_through}
use Rattle.smb_opens.specs.Effect.{created, create_result}
use Rattle.smb_opens.specs.Parts.{created_by}
use Rattle.smb_access.specs.Found.{path_asked}
use Rattle.smb_opens.specs.Found.{entry_asked}
use Rattle.smb_opens.specs.Good.{GoodStore}
use Rattle.smb_access.specs.Opens.{open_of, AreAllBelow}
use Rattle.smb_opens.specs.State.{StoreState}
use Rattle.smb_access.specs.Views.{view_of}
use Rattle.smb_opens.specs.Views.{open_view}
use Rattle.smb_opens.proofs.Made.{shown_added, shown_standing}

-- an open that comes last is found by its number, which is above all others
last_open : (rows : List OpenRow) (row : OpenRow) (n : ℕ) → AreAllBelow n rows → row.number ≡ n → open_of (rows ++ row ∷ []) n ≡ Some row
last_open [] row n h e = grind (arith, nat_tests, e)
last_open (x ∷ rows) row n h e = grind (arith, nat_tests, h.0, last_open rows row n h.1 e)

-- the entry of a new open shows itself
entry_shown_after : (state : StoreState) (ask : FileAsked) (moment : ℕ) (access : Access) (stood : Option Entry) → GoodStore state → entry_asked state ask ≡ stood →
    view_at (tree_after state.tree ask moment stood).rows (entry_after state.tree ask moment stood).number access ≡ Some (view_of access (entry_after state.tree ask moment stood))
entry_shown_after state ask moment access None good e =
    shown_added state.tree (tree_after state.tree ask moment None) (path_spelled ask.name) (kind_asked ask) (attributes_asked (kind_asked ask) ask) moment state.tree.next access good.tree refl refl
entry_shown_after state ask moment access (Some entry) good e =
    let same : (entry_after state.tree ask moment (Some entry)).number ≡ entry.number = elim (overwrites_by ask.disposition) as (λ b. (let x : Entry = cond b (overwritten ask moment entry) entry in x).number ≡ entry.number) [ true ↦ refl | false ↦ refl ] in
    ap (λ n. view_at (tree_after state.tree ask moment (Some entry)).rows n access) same
    ∙ shown_standing state.tree (tree_after state.tree ask moment (Some entry)) ask moment entry.number access (path_asked ask) entry refl (numbered-from_at state.tree.rows (path_asked ask) entry good.tree.apart e)

shown_by : (state : StoreState) (ask : FileAsked) (moment : ℕ) (access : Access) (stood : Option Entry) → GoodStore state → entry_asked state ask ≡ stood →
    open_view (created_by state ask moment access stood) state.next ≡ Some (view_of access (entry_after state.tree ask moment stood))
shown_by state ask moment access stood good e =
    ap (view_through (tree_after state.tree ask moment stood).rows) (last_open state.opens (opened_by ask state.next (entry_after state.tree ask moment stood).number access) state.next good.below refl)
    ∙ entry_shown_after state ask moment access stood good e

pub returned_shown : (state : StoreState) (ask : FileAsked) (moment : ℕ) → GoodStore state →
    open_view (created state ask moment) (create_result state ask moment).number ≡ Some (create_result state ask moment).view
returned_shown state ask moment good = shown_by state ask moment (access_granted state ask) (entry_asked state ask) good refl
