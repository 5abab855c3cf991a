-- For the proofs; nothing here need be believed.
-- How files are stored as a value.
use Rattle.std.specs.Prelude.{ℕ, Bool, List, refl}
use Rattle.std.specs.Coded.{Coded, code_by, coded×, coded_ℕ, coded_bool, coded_list}
use Rattle.std.specs.Ordering.{nat_cmp}
use Rattle.std.specs.FinMap.{FinMap, code}
use Rattle.smb_tree.specs.declared.entry.Basic.{Basic}
use Rattle.smb_tree.specs.declared.entry.Kind.{Kind}
use Rattle.smb_tree.specs.contracts.entry.Basic as basic
use Rattle.smb_tree.specs.contracts.entry.Kind as kind
use Rattle.smb_files.specs.Files.{About, FileEntry, Files}

-- what is known of an entry is the tuple of it
abbrev pub about_code : Coded About
about_code = code_by (Kind × (List ℕ × (Basic × Bool)))
    (coded× kind.the_row.coded (coded× (coded_list coded_ℕ) (coded× basic.the_row.coded coded_bool)))
    (λ about. (about.kind, (about.spelling, (about.basic, about.mark))))
    (λ parts. record { kind = parts.0; spelling = parts.1.0; basic = parts.1.1.0; mark = parts.1.1.1 }) (λ _. refl)

-- an entry is its folder, what is known of it, and its bytes
abbrev pub entry_code : Coded FileEntry
entry_code = code_by (ℕ × (About × List ℕ)) (coded× coded_ℕ (coded× about_code (coded_list coded_ℕ)))
    (λ entry. (entry.parent, (entry.about, entry.bytes)))
    (λ parts. record { parent = parts.0; about = parts.1.0; bytes = parts.1.1 }) (λ _. refl)

-- files are the entries and the next number
abbrev pub files_code : Coded Files
files_code = code_by (FinMap nat_cmp FileEntry × ℕ) (coded× (code coded_ℕ entry_code) coded_ℕ)
    (λ files. (files.entries, files.next)) (λ parts. record { entries = parts.0; next = parts.1 }) (λ _. refl)
