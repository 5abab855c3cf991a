-- Names that differ in the case of letters.
use Rattle.std.proofs.Common.{◌≡◌, ℕ, ◌-◌, ◌&&◌, List, [], ◌∷◌, ◌++◌, map, All, nat_le, if◌then◌else◌, sym, ap, ◌∙◌}
use Rattle.smb_wire.specs.Paths.{folded_path, joined_by_separators}
use Rattle.smb_tree.specs.Content.{Path, entry_at}
use Rattle.smb_access.specs.Asked.{FileAsked}
use Rattle.smb_access.specs.Found.{path_asked}
use Rattle.smb_entry.specs.Rename.{path_named}
use Rattle.smb_name_laws.specs.NewNames.{IsPlain, LettersOfEitherCaseAreTheSame}
use Rattle.smb_name_laws.proofs.PlainNames.{spells}

-- a to z as A to Z, and every other unit as it is
abbrev capital : ℕ → ℕ
capital unit = if nat_le 97 unit && nat_le unit 122 then unit - 32 else unit

abbrev capitals : List (List ℕ) → List (List ℕ)
capitals parts = map (λ part. map capital part) parts

-- the path of a name of plain parts is these in capitals
path_is : (ask : FileAsked) (above : List (List ℕ)) (last : List ℕ) → All IsPlain (above ++ last ∷ []) → ask.name ≡ joined_by_separators (above ++ last ∷ []) →
    path_asked ask ≡ capitals (above ++ last ∷ [])
path_is ask above last plain e = ap path_named e ∙ ap folded_path (spells above last plain)

pub either_case : LettersOfEitherCaseAreTheSame
either_case state one other above beside last least plain flat e f =
    let first = path_is one above last plain e in
    let second = path_is other beside least flat f in (
      λ same. ap (λ (path : Path). entry_at state.tree.rows path) (first ∙ same ∙ sym second),
      λ same. sym first ∙ same ∙ second,
    )
