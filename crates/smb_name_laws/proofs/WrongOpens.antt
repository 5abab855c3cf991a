-- Wrong definitions of the open that a CREATE makes, and of a CLOSE, each with a law of specs/Opened that refuses it.
-- A law whose name ends in By says of any definition what that of specs/ says of the right one, as the line below it
-- shows; then come the wrong definitions, and the proofs that the law is false of them.
use Rattle.std.proofs.Common.{◌≡◌, ◌≢◌, ℕ, ◌==◌, [], ◌∷◌, map, Bool, true, false, not, bit_and, bit_or, if◌then◌else◌}
use Rattle.std.proofs.Common.{None, Some, is_some, refl, ap, arith, ◌∙◌}
use Rattle.smb_wire.specs.Access.{has_any, FILE_READ_DATA, FILE_WRITE_DATA, FILE_EXECUTE}
use Rattle.smb_wire.specs.Access.{FILE_ALL_ACCESS, FILE_SHARE_ALL, FILE_GENERIC_READ, FILE_GENERIC_WRITE}
use Rattle.smb_wire.specs.Access.{FILE_GENERIC_EXECUTE}
use Rattle.smb_wire.specs.Access.{MAXIMUM_ALLOWED, GENERIC_ALL, GENERIC_EXECUTE, GENERIC_WRITE, GENERIC_READ}
use Rattle.smb_wire.specs.CreateOptions.{FILE_DELETE_ON_CLOSE}
use Rattle.smb_wire.specs.declared.disposition.CreateDisposition.TheVariants.{Open}
use Rattle.smb_wire.specs.declared.nt_status.NtStatus.TheVariants.{Success}
use Rattle.smb_access.specs.declared.open_row.OpenRow.{OpenRow}
use Rattle.smb_access.specs.Asked.{FileAsked}
use Rattle.smb_access.specs.Found.{is_read_only_file}
use Rattle.smb_access.specs.Opens.{open_of}
use Rattle.smb_opens.specs.Close.{closed}
use Rattle.smb_opens.specs.Create.{create_status}
use Rattle.smb_opens.specs.Effect.{created, create_result}
use Rattle.smb_opens.specs.Found.{entry_asked}
use Rattle.smb_opens.specs.Good.{GoodStore}
use Rattle.smb_opens.specs.State.{StoreState}
use Rattle.smb_name_laws.specs.Opened.{AnOpenIsAsItWasAskedFor, RightsAreGrantedAsAskedFor, rights_to_change}
use Rattle.smb_name_laws.specs.Opened.{NoRightAskedForIsLeftOut, AReaderGetsNoRightToChange, ACloseEndsItsOpenAlone}
use Rattle.smb_name_laws.proofs.ExampleStore.{deleting, sharing, with_opens, file_name, asks, is_good_without_opens}

-- the open of the number that a CREATE returns is as it was asked for
abbrev AnOpenIsAsItWasAskedForBy : (StoreState → FileAsked → ℕ → StoreState) → Type 0
AnOpenIsAsItWasAskedForBy create =
    (state : StoreState) (ask : FileAsked) (moment : ℕ) → GoodStore state →
    let number = (create_result state ask moment).number in
    (row : OpenRow) × (open_of (create state ask moment).opens number ≡ Some row)
    × (open_of state.opens number ≡ None) × (row.session ≡ ask.session) × (row.tree ≡ ask.tree)
    × (row.share.0 ≡ bit_and ask.share FILE_SHARE_ALL)
    × (row.delete_on_close ≡ has_any ask.options FILE_DELETE_ON_CLOSE)

an_open_is_as_it_was_asked_for : AnOpenIsAsItWasAskedFor ≡ AnOpenIsAsItWasAskedForBy created
an_open_is_as_it_was_asked_for = refl

-- a store after a CREATE, with the open that this makes changed
abbrev created_with : (FileAsked → OpenRow → OpenRow) → StoreState → FileAsked → ℕ → StoreState
created_with change state ask moment = record (created state ask moment) {
  opens =
      map (λ (row : OpenRow). if row.number == state.next then change ask row else row)
      (created state ask moment).opens;
}

-- a CREATE of the file that asks for no sharing, and not for FILE_DELETE_ON_CLOSE
abbrev asks_alone : FileAsked
asks_alone = asks file_name 0 Open

-- of two opens that are found alike each part is the same
found_has : {T : Type 0} (of : OpenRow → T) (one other : OpenRow) → Some one ≡ Some other → of one ≡ of other
found_has of one other h = let same : one ≡ other = cc in ap of same

-- wrong: every open of a session that may write deletes its entry once it is closed
abbrev created_to_delete : StoreState → FileAsked → ℕ → StoreState
created_to_delete = created_with (λ ask row. record row { delete_on_close = not ask.read_only })

a_create_to_delete_breaks_it : AnOpenIsAsItWasAskedForBy created_to_delete → ⊥
a_create_to_delete_breaks_it law =
    let made = law (with_opens []) asks_alone 0 is_good_without_opens in
    let yes : true ≡ false = found_has (λ row. row.delete_on_close) _ made.0 made.1 ∙ made.6 in cc

-- wrong: FILE_DELETE_ON_CLOSE is not heeded
abbrev created_to_stay : StoreState → FileAsked → ℕ → StoreState
created_to_stay = created_with (λ ask row. record row { delete_on_close = false })

a_create_to_stay_breaks_it : AnOpenIsAsItWasAskedForBy created_to_stay → ⊥
a_create_to_stay_breaks_it law =
    let made =
    law (with_opens []) (record asks_alone { options = FILE_DELETE_ON_CLOSE }) 0 is_good_without_opens in
    let no : false ≡ true = found_has (λ row. row.delete_on_close) _ made.0 made.1 ∙ made.6 in cc

-- wrong: every open shares all, so that no CREATE keeps anyone out
abbrev created_to_share : StoreState → FileAsked → ℕ → StoreState
created_to_share = created_with (λ ask row. record row { share = record { 0 = FILE_SHARE_ALL } })

a_create_to_share_breaks_it : AnOpenIsAsItWasAskedForBy created_to_share → ⊥
a_create_to_share_breaks_it law =
    let made = law (with_opens []) asks_alone 0 is_good_without_opens in
    let all : 7 ≡ 0 = found_has (λ row. row.share.0) _ made.0 made.1 ∙ made.5 in omega (arith, all)

-- an open has the rights that were asked for, and those that a generic right or MAXIMUM_ALLOWED stands for
abbrev RightsAreGrantedAsAskedForBy : (StoreState → FileAsked → ℕ → StoreState) → Type 0
RightsAreGrantedAsAskedForBy create =
    (state : StoreState) (ask : FileAsked) (moment : ℕ) (row : OpenRow) → GoodStore state →
    open_of (create state ask moment).opens (create_result state ask moment).number ≡ Some row →
    let has : ℕ → Bool = has_any row.access.0 in
    (bit_and ask.access FILE_ALL_ACCESS ≡ ask.access → row.access.0 ≡ ask.access)
    × (ask.access ≡ GENERIC_READ → (has FILE_READ_DATA ≡ true) × (has rights_to_change ≡ false))
    × (ask.access ≡ GENERIC_EXECUTE → (has FILE_EXECUTE ≡ true) × (has rights_to_change ≡ false))
    × (ask.access ≡ GENERIC_WRITE → (has FILE_WRITE_DATA ≡ true) × (has FILE_READ_DATA ≡ false))
    × (ask.access ≡ GENERIC_ALL → row.access.0 ≡ FILE_ALL_ACCESS)
    × (ask.access ≡ MAXIMUM_ALLOWED → ask.read_only ≡ true →
    (has FILE_READ_DATA ≡ true) × (has rights_to_change ≡ false))
    × (ask.access ≡ MAXIMUM_ALLOWED → ask.read_only ≡ false → is_read_only_file (entry_asked state ask) ≡ false →
    row.access.0 ≡ FILE_ALL_ACCESS)

rights_are_granted_as_asked_for : RightsAreGrantedAsAskedFor ≡ RightsAreGrantedAsAskedForBy created
rights_are_granted_as_asked_for = refl

-- wrong: every open has every right
abbrev created_with_all : StoreState → FileAsked → ℕ → StoreState
created_with_all = created_with (λ ask row. record row { access = record { 0 = FILE_ALL_ACCESS } })

a_create_with_all_breaks_it : RightsAreGrantedAsAskedForBy created_with_all → ⊥
a_create_with_all_breaks_it law =
    let all : FILE_ALL_ACCESS ≡ FILE_READ_DATA =
    (law (with_opens []) asks_alone 0 _ is_good_without_opens refl).0 refl in
    omega (arith, all)

-- whatever else is asked for, an open has all that each right asked for stands for
abbrev NoRightAskedForIsLeftOutBy : (StoreState → FileAsked → ℕ → StoreState) → Type 0
NoRightAskedForIsLeftOutBy create =
    (state : StoreState) (ask : FileAsked) (moment : ℕ) (row : OpenRow) → GoodStore state →
    open_of (create state ask moment).opens (create_result state ask moment).number ≡ Some row →
    let HasAll : ℕ → Type 0 = λ rights. bit_and row.access.0 rights ≡ rights in
    let asks : ℕ → Bool = has_any ask.access in
    HasAll (bit_and ask.access FILE_ALL_ACCESS) × (asks GENERIC_READ ≡ true → HasAll FILE_GENERIC_READ)
    × (asks GENERIC_WRITE ≡ true → HasAll FILE_GENERIC_WRITE)
    × (asks GENERIC_EXECUTE ≡ true → HasAll FILE_GENERIC_EXECUTE)
    × (asks GENERIC_ALL ≡ true → HasAll FILE_ALL_ACCESS)
    × (asks MAXIMUM_ALLOWED ≡ true → ask.read_only ≡ true → HasAll 0x1200A9)
    × (asks MAXIMUM_ALLOWED ≡ true → ask.read_only ≡ false → is_read_only_file (entry_asked state ask) ≡ true →
    HasAll 0x1F01F9)
    × (asks MAXIMUM_ALLOWED ≡ true → ask.read_only ≡ false → is_read_only_file (entry_asked state ask) ≡ false →
    HasAll FILE_ALL_ACCESS)

no_right_asked_for_is_left_out : NoRightAskedForIsLeftOut ≡ NoRightAskedForIsLeftOutBy created
no_right_asked_for_is_left_out = refl

-- wrong: of two generic rights one is granted
abbrev created_with_one : StoreState → FileAsked → ℕ → StoreState
created_with_one = created_with
    (λ ask row. if has_any ask.access GENERIC_READ then record row { access = record { 0 = FILE_GENERIC_READ } } else row)

a_create_with_one_breaks_it : NoRightAskedForIsLeftOutBy created_with_one → ⊥
a_create_with_one_breaks_it law =
    let both : FileAsked = record asks_alone { access = bit_or GENERIC_READ GENERIC_WRITE } in
    let gives = law (with_opens []) both 0 _ is_good_without_opens refl in
    let less : bit_and FILE_GENERIC_READ FILE_GENERIC_WRITE ≡ FILE_GENERIC_WRITE = gives.2 refl in omega (arith, less)

-- wrong: beside a right MAXIMUM_ALLOWED adds none
abbrev created_with_that_right : StoreState → FileAsked → ℕ → StoreState
created_with_that_right = created_with (λ ask row.
    if has_any ask.access FILE_ALL_ACCESS then record row { access = record { 0 = bit_and ask.access FILE_ALL_ACCESS } }
    else row)

a_create_with_that_right_breaks_it : NoRightAskedForIsLeftOutBy created_with_that_right → ⊥
a_create_with_that_right_breaks_it law =
    let most : FileAsked = record asks_alone { access = bit_or FILE_READ_DATA MAXIMUM_ALLOWED } in
    let gives = law (with_opens []) most 0 _ is_good_without_opens refl in
    let less : bit_and FILE_READ_DATA FILE_ALL_ACCESS ≡ FILE_ALL_ACCESS = gives.7 refl refl refl in omega (arith, less)

-- no CREATE that succeeds gives a right to change something to a session that may only read
abbrev AReaderGetsNoRightToChangeBy : (StoreState → FileAsked → ℕ → StoreState) → Type 0
AReaderGetsNoRightToChangeBy create =
    (state : StoreState) (ask : FileAsked) (moment : ℕ) (row : OpenRow) → GoodStore state →
    create_status state ask ≡ Success → ask.read_only ≡ true →
    open_of (create state ask moment).opens (create_result state ask moment).number ≡ Some row →
    has_any row.access.0 rights_to_change ≡ false

a_reader_gets_no_right_to_change : AReaderGetsNoRightToChange ≡ AReaderGetsNoRightToChangeBy created
a_reader_gets_no_right_to_change = refl

a_create_with_all_lets_readers_change : AReaderGetsNoRightToChangeBy created_with_all → ⊥
a_create_with_all_lets_readers_change law =
    let can : true ≡ false =
    law (with_opens []) (record asks_alone { share = FILE_SHARE_ALL; read_only = true }) 0 _ is_good_without_opens
    refl refl refl in cc

-- a CREATE of the file with MAXIMUM_ALLOWED, by a session that may only read or by another
abbrev asks_maximum : Bool → FileAsked
asks_maximum read_only = record asks_alone { access = MAXIMUM_ALLOWED; read_only = read_only }

a_create_with_all_gives_readers_all : RightsAreGrantedAsAskedForBy created_with_all → ⊥
a_create_with_all_gives_readers_all law =
    let gives = law (with_opens []) (asks_maximum true) 0 _ is_good_without_opens refl in
    let can : true ≡ false = (gives.5 refl refl).1 in cc

-- wrong: MAXIMUM_ALLOWED is granted as it is asked for, so that it gives no right
abbrev created_with_none : StoreState → FileAsked → ℕ → StoreState
created_with_none = created_with (λ ask row. record row { access = record { 0 = ask.access } })

a_create_with_none_breaks_it : RightsAreGrantedAsAskedForBy created_with_none → ⊥
a_create_with_none_breaks_it law =
    let gives = law (with_opens []) (asks_maximum true) 0 _ is_good_without_opens refl in
    let cannot : false ≡ true = (gives.5 refl refl).0 in cc

a_create_with_none_gives_no_reading : RightsAreGrantedAsAskedForBy created_with_none → ⊥
a_create_with_none_gives_no_reading law =
    let gives = law (with_opens []) (record asks_alone { access = GENERIC_READ }) 0 _ is_good_without_opens refl in
    let cannot : false ≡ true = (gives.1 refl).0 in cc

-- a CLOSE ends the open of its number, and no other
abbrev ACloseEndsItsOpenAloneBy : (StoreState → ℕ → StoreState) → Type 0
ACloseEndsItsOpenAloneBy close =
    (state : StoreState) (number : ℕ) →
    (open_of (close state number).opens number ≡ None)
    × ((other : ℕ) → other ≢ number → open_of (close state number).opens other ≡ open_of state.opens other)

a_close_ends_its_open_alone : ACloseEndsItsOpenAlone ≡ ACloseEndsItsOpenAloneBy closed
a_close_ends_its_open_alone = refl

-- wrong: a CLOSE ends all opens
abbrev closed_for_all : StoreState → ℕ → StoreState
closed_for_all state number = record (closed state number) { opens = [] }

a_close_for_all_breaks_it : ACloseEndsItsOpenAloneBy closed_for_all → ⊥
a_close_for_all_breaks_it law =
    let gone : false ≡ true =
    ap is_some ((law (with_opens (deleting ∷ sharing ∷ [])) 1).1 2 (λ e. omega (arith, e))) in cc
