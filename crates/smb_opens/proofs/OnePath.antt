-- A new tree, and what a CREATE that does not overwrite leaves.
use Rattle.std.proofs.Common.{lit<, lit≤, ◌≡◌, ◌==◌, ℕ, [], true, false, cond, Option, None, Some, refl, arith}
use Rattle.std.proofs.lemmas.Grind.{common_steps}
use Rattle.std.specs.Option.{option_map_or}
use Rattle.smb_wire.specs.declared.limits.share.Limits.{Limits}
use Rattle.smb_tree.specs.declared.entry.Kind.TheVariants.{Folder}
use Rattle.smb_tree.specs.Entries.{Entry, new_entry}
use Rattle.smb_tree.specs.Content.{Path, Row, Content, entry_at, new_content_within}
use Rattle.smb_tree.proofs.Apart.{at-push}
use Rattle.smb_wire.specs.Dispositions.{overwrites_by}
use Rattle.smb_access.specs.Asked.{FileAsked}
use Rattle.smb_access.specs.Effect.{tree_after, entry_after}
use Rattle.smb_opens.specs.Effect.{created}
use Rattle.smb_access.specs.Found.{path_asked}
use Rattle.smb_opens.specs.Found.{entry_asked}
use Rattle.smb_tree.specs.Good.{GoodContent}
use Rattle.smb_opens.specs.Good.{UnmarkedTree}
use Rattle.smb_opens.specs.State.{StoreState}

good_new : (limits : Limits) (moment capacity : ℕ) → GoodContent (new_content_within limits moment capacity)
good_new limits moment capacity = record {
  root = refl;
  first = refl;
  parents = (refl, tt);
  apart = (refl, refl, tt);
  below = (lit< tt, tt);
  counted = lit< tt;
  few = omega arith;
  shallow = (lit≤ tt, tt);
  small = (omega arith, tt);
  bare = ((λ _. refl), tt);
  fits = omega arith;
}

-- a new tree is good, and its root is not marked
pub new_tree : (limits : Limits) (moment capacity : ℕ) → UnmarkedTree (new_content_within limits moment capacity)
new_tree limits moment capacity = record {
  good = good_new limits moment capacity;
  lawful = (record { number = lit< tt; names = refl; same = refl; spelling = refl; attributes = refl }, tt);
  unmarked = λ number. elim (1 == number) as (λ b. option_map_or (λ (row : Row). row.1.mark) (cond b (Some (let root : Row = ([], new_entry 1 [] Folder 0 moment) in root)) None) false ≡ false) [ true ↦ refl | false ↦ refl ];
}

-- a CREATE that does not overwrite leaves every entry that exists
kept_at : (tree : Content) (ask : FileAsked) (moment : ℕ) (path : Path) (entry : Entry) (stood : Option Entry) → overwrites_by ask.disposition ≡ false → entry_at tree.rows path ≡ Some entry → entry_at (tree_after tree ask moment stood).rows path ≡ Some entry
kept_at tree ask moment path entry None o h = (let more = at-push tree.rows (path_asked ask) path (entry_after tree ask moment None) in grind (arith, common_steps, more, h))
kept_at tree ask moment path entry (Some stood) o h = rw o h

pub opened_leaves : (state : StoreState) (ask : FileAsked) (moment : ℕ) (path : Path) (entry : Entry) → overwrites_by ask.disposition ≡ false → entry_at state.tree.rows path ≡ Some entry → entry_at (created state ask moment).tree.rows path ≡ Some entry
opened_leaves state ask moment path entry o h = kept_at state.tree ask moment path entry (entry_asked state ask) o h
