-- Which CREATEs are refused, by their disposition and their options.
use Rattle.std.proofs.Common.{◌≡◌, ◌≢◌, ◌⊎◌, inl, inr, Bool, true, false, not, ◌&&◌, ◌||◌, Option, None, Some, is_some, ap, refl, ◌∙◌}
use Rattle.std.specs.Option.{is_none, option_map_or}
use Rattle.smb_wire.specs.Access.{has_any}
use Rattle.smb_wire.specs.Dispositions.{must_be_new_by, must_exist_by, overwrites_by}
use Rattle.smb_wire.specs.declared.nt_status.NtStatus.TheVariants.{Success}
use Rattle.smb_tree.specs.Entries.{Entry, is_folder, is_folder_kind}
use Rattle.smb_access.specs.Asked.{FileAsked}
use Rattle.smb_access.specs.Access.{is_writing}
use Rattle.smb_access.specs.Found.{is_read_only_file}
use Rattle.smb_opens.specs.Create.{access_granted, create_status}
use Rattle.smb_opens.specs.Found.{entry_asked}
use Rattle.smb_opens.specs.State.{StoreState}
use Rattle.smb_name_laws.specs.Creates.{ACreateIsRefused}
use Rattle.smb_name_laws.proofs.KeptOut.{no_row}

both_on : (a b : Bool) → a ≡ true → b ≡ true → (a && b) ≡ true
both_on a b e f = rw (e, f) refl

first_on : (a b : Bool) → a ≡ true → (a || b) ≡ true
first_on a b e = rw e refl

second_on : (a b : Bool) → b ≡ true → (a || b) ≡ true
second_on true b e = refl
second_on false b e = e

off_on : (b : Bool) → b ≡ false → b ≡ true → ⊥
off_on true e f = cc
off_on false e f = cc

module _ (state : StoreState) (ask : FileAsked) where
  abbrev found : Option Entry
  found = entry_asked state ask

  exists : (entry : Entry) → found ≡ Some entry → ask.disposition ≡ 2 → create_status state ask ≢ Success
  exists entry h d e =
      let p = no_row state ask e in
      off_on (is_some found && must_be_new_by ask.disposition) (p.1.1.1.1.1.1.1.1.1.1.1.0)
      (both_on (is_some found) (must_be_new_by ask.disposition) (ap is_some h) (ap must_be_new_by d))

  is_absent : found ≡ None → (ask.disposition ≡ 1) ⊎ (ask.disposition ≡ 4) → create_status state ask ≢ Success
  is_absent h either e =
      let p = no_row state ask e in
      let must : must_exist_by ask.disposition ≡ true = elim either [ inl d ↦ ap must_exist_by d | inr d ↦ ap must_exist_by d ] in
      off_on (is_none found && must_exist_by ask.disposition) (p.1.1.1.1.1.1.1.1.1.0)
      (both_on (is_none found) (must_exist_by ask.disposition) (ap is_none h) must)

  of_folder : (entry : Entry) → found ≡ Some entry → is_folder_kind entry.kind ≡ true → has_any ask.options 0x40 ≡ true → create_status state ask ≢ Success
  of_folder entry h k o e =
      let p = no_row state ask e in
      off_on (is_folder found && (has_any ask.options 0x40 || overwrites_by ask.disposition)) (p.1.1.1.1.1.1.1.1.1.1.1.1.0)
      (both_on (is_folder found) (has_any ask.options 0x40 || overwrites_by ask.disposition) (ap is_folder h ∙ k) (first_on (has_any ask.options 0x40) (overwrites_by ask.disposition) o))

  abbrev is_file : Option Entry → Bool
  is_file o = option_map_or (λ (it : Entry). not (is_folder_kind it.kind)) o false

  of_file : (entry : Entry) → found ≡ Some entry → is_folder_kind entry.kind ≡ false → has_any ask.options 1 ≡ true → create_status state ask ≢ Success
  of_file entry h k o e =
      let p = no_row state ask e in
      off_on (is_file found && has_any ask.options 1) (p.1.1.1.1.1.1.1.1.1.1.1.1.1.0)
      (both_on (is_file found) (has_any ask.options 1) (ap is_file h ∙ ap not k) o)

  read_only : (entry : Entry) → found ≡ Some entry → is_folder_kind entry.kind ≡ false → has_any entry.basic.attributes.0 1 ≡ true →
      (overwrites_by ask.disposition || is_writing (access_granted state ask)) ≡ true → create_status state ask ≢ Success
  read_only entry h k a w e =
      let p = no_row state ask e in
      off_on (is_read_only_file found && (overwrites_by ask.disposition || is_writing (access_granted state ask))) (p.1.1.1.1.1.1.1.1.1.1.1.1.1.1.0)
      (both_on (is_read_only_file found) (overwrites_by ask.disposition || is_writing (access_granted state ask))
      (ap is_read_only_file h ∙ both_on (not (is_folder_kind entry.kind)) (has_any entry.basic.attributes.0 1) (ap not k) a) w)

  writes : (overwrites_by ask.disposition ≡ true) ⊎ ((has_any (access_granted state ask).0 2 ≡ true) ⊎ (has_any (access_granted state ask).0 4 ≡ true)) →
      (overwrites_by ask.disposition || is_writing (access_granted state ask)) ≡ true
  writes either =
      let over = overwrites_by ask.disposition in
      let rights = (access_granted state ask).0 in
      elim either [
        | inl o ↦ first_on over (is_writing (access_granted state ask)) o
        | inr w ↦ second_on over (is_writing (access_granted state ask)) (elim w [
          | inl whole ↦ first_on (has_any rights 2) (has_any rights 4) whole
          | inr end ↦ second_on (has_any rights 2) (has_any rights 4) end
        ])
      ]

pub not_made : ACreateIsRefused
not_made state ask = (
  λ entry h. (
    exists state ask entry h,
    of_folder state ask entry h,
    of_file state ask entry h,
    λ k a either. read_only state ask entry h k a (writes state ask either),
  ),
  is_absent state ask,
)
