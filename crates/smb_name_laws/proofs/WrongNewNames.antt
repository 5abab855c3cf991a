-- Wrong definitions of which CREATE succeeds and of what names find, each with a law of specs/NewNames that refuses it.
-- A law whose name ends in By says of any definition what that of specs/ says of the right one, as the line below it
-- shows; then come the wrong definitions, and the proofs that the law is false of them.
use Rattle.std.proofs.Common.{◌≡◌, inl, ℕ, ◌<◌, ◌-◌, ◌^◌, ◌==◌, ◌&&◌, nat_le, None, Some, List, [], ◌∷◌, ◌++◌, length, map, take, All, if◌then◌else◌}
use Rattle.std.proofs.Common.{lit<, lit≤, refl, ap, arith}
use Rattle.smb_wire.specs.Access.{FILE_SHARE_ALL}
use Rattle.smb_wire.specs.declared.disposition.CreateDisposition.TheVariants.{Create, Open}
use Rattle.smb_wire.specs.declared.nt_status.NtStatus.{NtStatus}
use Rattle.smb_wire.specs.declared.nt_status.NtStatus.TheVariants.{Success, ObjectNameInvalid, TooManyOpenedFiles, SharingViolation}
use Rattle.smb_wire.specs.Paths.{joined_by_separators, path_spelled, folded_path}
use Rattle.smb_tree.specs.Content.{Path, entry_at}
use Rattle.smb_tree.specs.Entries.{Entry}
use Rattle.smb_access.specs.declared.open_row.OpenRow.{OpenRow}
use Rattle.smb_access.specs.Asked.{FileAsked}
use Rattle.smb_access.specs.Found.{path_asked}
use Rattle.smb_opens.specs.Create.{create_status}
use Rattle.smb_opens.specs.Found.{entry_asked}
use Rattle.smb_opens.specs.Good.{GoodStore}
use Rattle.smb_opens.specs.State.{StoreState}
use Rattle.smb_name_laws.specs.NewNames.{IsPlain, AsksToMake, NamesPlainly, HasRoom, APlainNameIsMade, AsksToOpen, IsFree, AFreeFileIsOpened, LettersOfEitherCaseAreTheSame}
use Rattle.smb_name_laws.proofs.ExampleStore.{file, file_name, sharing, with_opens, asks, is_good_without_opens, is_good_with_sharing, is_not_gone}
use Rattle.smb_name_laws.proofs.ExampleNames.{two_letters, plain_letter, plain_two_letters, one_part}

-- a CREATE of a plain name that is absent succeeds
abbrev APlainNameIsMadeBy : (StoreState → FileAsked → NtStatus) → Type 0
APlainNameIsMadeBy status =
    (state : StoreState) (ask : FileAsked) → GoodStore state → AsksToMake ask → NamesPlainly state ask.name →
    entry_asked state ask ≡ None → HasRoom state → status state ask ≡ Success

a_plain_name_is_made : APlainNameIsMade ≡ APlainNameIsMadeBy create_status
a_plain_name_is_made = refl

-- a CREATE of a name of two letters
abbrev asks_two : FileAsked
asks_two = asks two_letters FILE_SHARE_ALL Create

two_asked : AsksToMake asks_two
two_asked = record {
  disposition = inl refl;
  some = lit< tt;
  rights = refl;
  kind = inl refl;
  by_name = refl;
  stays = refl;
  writer = refl;
}

two_named : (opens : List OpenRow) → NamesPlainly (with_opens opens) two_letters
two_named opens = record {
  above = [];
  last = two_letters;
  folder = _;
  spelled = refl;
  plain = one_part two_letters plain_two_letters;
  few = lit≤ tt;
  found = refl;
  kind = refl;
  unmarked = refl;
}

-- wrong: a name of two letters is refused
abbrev status_not_of_two : StoreState → FileAsked → NtStatus
status_not_of_two state ask = if length ask.name == 2 then ObjectNameInvalid else create_status state ask

a_status_not_of_two_breaks_it : APlainNameIsMadeBy status_not_of_two → ⊥
a_status_not_of_two_breaks_it law =
    let made : ObjectNameInvalid ≡ Success =
    law (with_opens []) asks_two is_good_without_opens two_asked (two_named []) refl
    (record { opens = lit< tt; open_numbers = lit< tt; entries = lit≤ tt; entry_numbers = lit< tt }) in cc

-- wrong: a store has one open, and no more
abbrev status_of_one : StoreState → FileAsked → NtStatus
status_of_one state ask = if nat_le 1 (length state.opens) then TooManyOpenedFiles else create_status state ask

a_status_of_one_breaks_it : APlainNameIsMadeBy status_of_one → ⊥
a_status_of_one_breaks_it law =
    let made : TooManyOpenedFiles ≡ Success =
    law (with_opens (sharing ∷ [])) asks_two is_good_with_sharing two_asked (two_named (sharing ∷ [])) refl
    (record { opens = lit< tt; open_numbers = lit< tt; entries = lit≤ tt; entry_numbers = lit< tt }) in cc

-- a file that nobody has open is opened
abbrev AFreeFileIsOpenedBy : (StoreState → FileAsked → NtStatus) → Type 0
AFreeFileIsOpenedBy status =
    (state : StoreState) (ask : FileAsked) (file : Entry) → GoodStore state → AsksToOpen ask →
    NamesPlainly state ask.name → entry_asked state ask ≡ Some file → IsFree state file →
    length state.opens < state.tree.limits.opens → state.next < 2 ^ 64 - 1 → status state ask ≡ Success

a_free_file_is_opened : AFreeFileIsOpened ≡ AFreeFileIsOpenedBy create_status
a_free_file_is_opened = refl

-- wrong: a CREATE that shares nothing conflicts with itself
abbrev status_alone : StoreState → FileAsked → NtStatus
status_alone state ask = if ask.share == 0 then SharingViolation else create_status state ask

a_status_alone_breaks_it : AFreeFileIsOpenedBy status_alone → ⊥
a_status_alone_breaks_it law =
    let opened : SharingViolation ≡ Success =
    law (with_opens []) (asks file_name 0 Open) file is_good_without_opens
    (record { disposition = inl refl; some = lit< tt; rights = refl; kind = refl; by_name = refl; stays = refl; writer = refl })
    (record { above = []; last = file_name; folder = _; spelled = refl; plain = one_part file_name (plain_letter 97 refl); few = lit≤ tt; found = refl; kind = refl; unmarked = refl })
    refl (record { kind = refl; unmarked = refl; writable = refl; unopened = refl }) (lit< tt) (lit< tt) in cc

-- names of plain parts find the same where they differ in the case of letters alone, and only such are of one path, by
-- how a name is read as a path
abbrev LettersOfEitherCaseAreTheSameBy : (FileAsked → Path) → Type 0
LettersOfEitherCaseAreTheSameBy asked =
    (state : StoreState) (one other : FileAsked) (above beside : List (List ℕ)) (last least : List ℕ) →
    All IsPlain (above ++ last ∷ []) → All IsPlain (beside ++ least ∷ []) →
    one.name ≡ joined_by_separators (above ++ last ∷ []) → other.name ≡ joined_by_separators (beside ++ least ∷ []) →
    let capital = λ (unit : ℕ). if nat_le 97 unit && nat_le unit 122 then unit - 32 else unit in
    let capitals = λ (parts : List (List ℕ)). map (λ part. map capital part) parts in
    let found = λ (ask : FileAsked). entry_at state.tree.rows (asked ask) in
    (capitals (above ++ last ∷ []) ≡ capitals (beside ++ least ∷ []) → found one ≡ found other)
    × (asked one ≡ asked other → capitals (above ++ last ∷ []) ≡ capitals (beside ++ least ∷ []))

letters_of_either_case_are_the_same : LettersOfEitherCaseAreTheSame ≡ LettersOfEitherCaseAreTheSameBy path_asked
letters_of_either_case_are_the_same = refl

-- the name `A`, as the file is spelled
abbrev spelled_name : List ℕ
spelled_name = 65 ∷ []

-- wrong: a name is read as it is spelled
abbrev path_as_spelled : FileAsked → Path
path_as_spelled ask = path_spelled ask.name

a_path_as_spelled_breaks_it : LettersOfEitherCaseAreTheSameBy path_as_spelled → ⊥
a_path_as_spelled_breaks_it law =
    let same = (law (with_opens []) (asks spelled_name FILE_SHARE_ALL Open) (asks file_name FILE_SHARE_ALL Open) [] []
    spelled_name file_name (one_part spelled_name (plain_letter 65 refl)) (one_part file_name (plain_letter 97 refl))
    refl refl).0 refl in
    is_not_gone same refl

-- wrong: a name is read to its first letter
abbrev path_of_first : FileAsked → Path
path_of_first ask = folded_path (path_spelled (take 1 ask.name))

-- the name `n`
abbrev first_letter : List ℕ
first_letter = 110 ∷ []

a_path_of_first_breaks_it : LettersOfEitherCaseAreTheSameBy path_of_first → ⊥
a_path_of_first_breaks_it law =
    let same = (law (with_opens []) (asks first_letter FILE_SHARE_ALL Open) (asks two_letters FILE_SHARE_ALL Open) [] []
    first_letter two_letters (one_part first_letter (plain_letter 110 refl)) (one_part two_letters plain_two_letters)
    refl refl).1 refl in
    let long : 1 ≡ 2 = ap first_length same in omega (arith, long)
  where
    first_length : Path → ℕ
    first_length [] = 0
    first_length (part ∷ rest) = length part
