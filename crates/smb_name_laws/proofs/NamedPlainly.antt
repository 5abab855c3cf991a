-- What a plain name finds.
use Rattle.std.proofs.Common.{◌≡◌, ℕ, ◌==◌, List, [], ◌∷◌, ◌++◌, length, slice_index, true, false, Option, Some, is_some, refl, sym, ap, arith, ◌∙◌}
use Rattle.std.proofs.lemmas.Bool.Decides.{nat_tests}
use Rattle.std.proofs.lemmas.List.{length-map}
use Rattle.std.specs.Option.{option_map, option_map_or}
use Rattle.smb_wire.specs.Names.{folded}
use Rattle.smb_wire.specs.Paths.{is_separator, path_fault, folded_path}
use Rattle.smb_tree.specs.Content.{Path, entry_at, parent}
use Rattle.smb_tree.specs.Entries.{Entry}
use Rattle.smb_access.specs.Found.{is_pending, is_reached}
use Rattle.smb_access.specs.Looked.{target_of, is_folder_target}
use Rattle.smb_access.proofs.Trees.{reached_told}
use Rattle.smb_entry.specs.Rename.{path_named}
use Rattle.smb_opens.specs.Good.{GoodStore}
use Rattle.smb_opens.specs.State.{StoreState}
use Rattle.smb_name_laws.specs.NewNames.{NamesPlainly}
use Rattle.smb_name_laws.proofs.NoneHold.{or_off}
use Rattle.smb_name_laws.proofs.PlainNames.{spells, some_unit, begins, no_fault, parent_of}

module _ (state : StoreState) (name : List ℕ) (good : GoodStore state) (names : NamesPlainly state name) where
  pub path_is : path_named name ≡ folded_path (names.above ++ names.last ∷ [])
  path_is = ap path_named names.spelled ∙ ap folded_path (spells names.above names.last names.plain)

  -- the folder that it is in
  folder_is : entry_at state.tree.rows (parent (path_named name)) ≡ Some names.folder
  folder_is = ap (λ (p : Path). entry_at state.tree.rows (parent p)) path_is ∙ ap (entry_at state.tree.rows) (parent_of names.above names.last) ∙ names.found

  pub reached : is_reached state.tree.rows (path_named name) ≡ true
  reached =
      sym (reached_told state.tree good.tree (path_named name) (option_map target_of (entry_at state.tree.rows (parent (path_named name)))) refl)
      ∙ ap (λ (o : Option Entry). is_folder_target (option_map target_of o)) folder_is ∙ names.kind

  pub pending : (o : Option Entry) → entry_at state.tree.rows (path_named name) ≡ o → option_map_or (λ (entry : Entry). entry.mark) o false ≡ false → is_pending state.tree.rows (path_named name) ≡ false
  pending o is unmarked =
      or_off (option_map_or (λ (entry : Entry). entry.mark) (entry_at state.tree.rows (path_named name)) false) (option_map_or (λ (entry : Entry). entry.mark) (entry_at state.tree.rows (parent (path_named name))) false)
      (ap (λ (o : Option Entry). option_map_or (λ (entry : Entry). entry.mark) o false) is ∙ unmarked)
      (ap (λ (o : Option Entry). option_map_or (λ (entry : Entry). entry.mark) o false) folder_is ∙ names.unmarked)

  pub faultless : is_some (path_fault name) ≡ false
  faultless = ap (λ (n : List ℕ). is_some (path_fault n)) names.spelled ∙ no_fault names.above names.last names.plain names.few

  pub begun : is_separator (slice_index name 0) ≡ false
  begun = ap (λ (n : List ℕ). is_separator (slice_index n 0)) names.spelled ∙ begins names.above names.last names.plain

  pub not_empty : (length name == 0) ≡ false
  not_empty =
      let some = some_unit names.above names.last names.plain in
      let long = ap (λ (n : List ℕ). length n) names.spelled in
      grind (arith, nat_tests, some, long)

  -- how many components it has
  pub components_are : length (path_named name) ≡ length (names.above ++ names.last ∷ [])
  components_are = ap (λ (p : Path). length p) path_is ∙ length-map (names.above ++ names.last ∷ []) folded
