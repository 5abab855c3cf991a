-- Information that was put, cut, and stands.
use Rattle.std.proofs.Common.{◌≡◌, ℕ, zero, suc, ◌+◌, ◌-◌, ◌<◌, ◌≤◌, List, [], ◌∷◌, ◌++◌, length, take, drop, get_or, refl, sym, ap, ◌∙◌, subst, arith, append_assoc, append-nil, length-append, rules}
use Rattle.std.proofs.lemmas.List.{take_at, drop_at, take_more}
use Rattle.smb_wire.specs.Number.{spelling}
use Rattle.smb_wire.specs.Fields.{Field, AllFit, AllStand, InOrder, joined, appended}
use Rattle.smb_wire.specs.Pairs.{unit_bytes}
use Rattle.smb_wire.proofs.FieldTables.{appended-joined, length-joined, stand_behind}
use Rattle.smb_info.specs.Information.{Information}
use Rattle.smb_info.specs.Parts.{whole, fixed_length}
use Rattle.smb_tree.specs.WholeNames.{Copied}
use Rattle.smb_info.specs.FileInformation.{file_information_of}
use Rattle.smb_info.specs.declared.file_class.FileInformationClass.{FileInformationClass}
use Rattle.smb_info.specs.declared.file_class.FileInformationClass.TheVariants.{FileBasic, FileStandard, FileInternal, FileEa, FileAccess, FilePosition, FileMode, FileAlignment, FileAll, FileNetworkOpen, FileAttributeTag}
use Rattle.smb_info.specs.FileSystemInformation.{VolumeFacts, fs_information_of}
use Rattle.smb_info.specs.declared.file_system_class.FileSystemInformationClass.{FileSystemInformationClass}
use Rattle.smb_info.specs.declared.file_system_class.FileSystemInformationClass.TheVariants.{FileFsVolume, FileFsSize, FileFsDevice, FileFsAttribute, FileFsFullSize}

-- a table that was put, and no name
pub told_alone : (old out : List ℕ) (fields : List Field) → out ≡ appended old fields → out ≡ old ++ (joined fields ++ [])
told_alone old out fields e = e ∙ appended-joined old fields ∙ ap (λ (xs : List ℕ). old ++ xs) (sym (append-nil (joined fields)))

-- a table that was put, and a name behind it
pub told_behind : (old first out : List ℕ) (fields : List Field) (name text : List ℕ) → first ≡ appended old fields → out ≡ first ++ name → name ≡ text → out ≡ old ++ (joined fields ++ text)
told_behind old first out fields name text e f g =
    f ∙ ap (λ (xs : List ℕ). first ++ xs) g ∙ ap (λ (xs : List ℕ). xs ++ text) (e ∙ appended-joined old fields) ∙ append_assoc old (joined fields) text

take_past : (xs ys : List ℕ) (n : ℕ) → length xs ≤ n → take n (xs ++ ys) ≡ xs ++ take (n - length xs) ys
take_past [] ys n h = ap (λ (k : ℕ). take k ys) (omega arith)
take_past (x ∷ xs) ys zero h = absurd (omega arith)
take_past (x ∷ xs) ys (suc n) h =
    let k : n - length xs ≡ suc n - suc (length xs) = omega arith in
    ap (λ (zs : List ℕ). x ∷ zs) (take_past xs ys n (omega arith) ∙ ap (λ (j : ℕ). xs ++ take j ys) k)

-- what is cut behind the old bytes
pub cut_behind : (old put out bytes : List ℕ) (before room : ℕ) → before ≡ length old → put ≡ old ++ bytes → out ≡ take before put ++ take room (drop before put) → out ≡ old ++ take room bytes
cut_behind old put out bytes before room b e f =
    let front : take before put ≡ old = ap (λ (xs : List ℕ). take before xs) e ∙ take_at old bytes before (sym b) in
    let back : drop before put ≡ bytes = ap (λ (xs : List ℕ). drop before xs) e ∙ drop_at old bytes before (sym b) in
    f ∙ ap (λ (xs : List ℕ). xs ++ take room (drop before put)) front ∙ ap (λ (xs : List ℕ). old ++ take room xs) back

-- the fixed part stands in the first bytes, where there is room for it
pub told_stands : (info : Information) (old out : List ℕ) (room : ℕ) → AllFit info.fields → InOrder 0 info.fields → fixed_length info ≤ room → out ≡ old ++ take room (whole info) → AllStand (drop (length old) out) info.fields
told_stands info old out room f o h e =
    let long = length-joined info.fields f in
    let bytes : List ℕ = take (room - length (joined info.fields)) info.name in
    let cut : take room (whole info) ≡ joined info.fields ++ bytes = take_past (joined info.fields) info.name room (omega arith) in
    let there : drop (length old) out ≡ joined info.fields ++ bytes = ap (λ (xs : List ℕ). drop (length old) xs) e ∙ drop_at old (take room (whole info)) (length old) refl ∙ cut in
    subst (λ (xs : List ℕ). AllStand xs info.fields) (sym there) (stand_behind [] info.fields bytes 0 refl o f)

-- how many bytes were put
pub put_size : (old put bytes : List ℕ) → put ≡ old ++ bytes → length put - length old ≡ length bytes
put_size old put bytes e = omega (arith, ap length e, length-append old bytes)

-- units one after the other
unit_bytes-append : (xs ys : List ℕ) → unit_bytes (xs ++ ys) ≡ unit_bytes xs ++ unit_bytes ys
unit_bytes-append [] ys = refl
unit_bytes-append (x ∷ xs) ys =
    ap (λ (zs : List ℕ). spelling 2 x ++ zs) (unit_bytes-append xs ys) ∙ sym (append_assoc (spelling 2 x) (unit_bytes xs) (unit_bytes ys))

-- one more unit
pub unit_bytes_more : (xs : List ℕ) (i : ℕ) → i < length xs → unit_bytes (take (i + 1) xs) ≡ unit_bytes (take i xs) ++ spelling 2 (get_or xs i 0)
unit_bytes_more xs i h =
    ap unit_bytes (take_more xs i 0 h) ∙ unit_bytes-append (take i xs) (get_or xs i 0 ∷ []) ∙ ap (λ (zs : List ℕ). unit_bytes (take i xs) ++ zs) (append-nil (spelling 2 (get_or xs i 0)))

-- the fields of each class are in order
pub file_system_in_order : (class : FileSystemInformationClass) (v : VolumeFacts) → InOrder 0 (fs_information_of class v).fields
file_system_in_order FileFsVolume v = search rules
file_system_in_order FileFsSize v = search rules
file_system_in_order FileFsDevice v = search rules
file_system_in_order FileFsAttribute v = search rules
file_system_in_order FileFsFullSize v = search rules

pub file_in_order : (class : FileInformationClass) (e : Copied) (access : ℕ) → InOrder 0 (file_information_of class e access).fields
file_in_order FileBasic e access = search rules
file_in_order FileStandard e access = search rules
file_in_order FileInternal e access = search rules
file_in_order FileEa e access = search rules
file_in_order FileAccess e access = search rules
file_in_order FilePosition e access = search rules
file_in_order FileMode e access = search rules
file_in_order FileAlignment e access = search rules
file_in_order FileAll e access = search rules
file_in_order FileNetworkOpen e access = search rules
file_in_order FileAttributeTag e access = search rules

separator_spelled : spelling 2 92 ≡ 92 ∷ 0 ∷ []
unfolding spelling
separator_spelled = refl

-- a table that was put, a separator behind it, and a name behind that
pub told_named : (old first second out : List ℕ) (fields : List Field) (name text : List ℕ) → first ≡ appended old fields → second ≡ first ++ spelling 2 92 → out ≡ second ++ name → name ≡ text → out ≡ old ++ (joined fields ++ 92 ∷ 0 ∷ text)
told_named old first second out fields name text e g h n =
    h ∙ ap (λ (xs : List ℕ). second ++ xs) n
    ∙ ap (λ (xs : List ℕ). xs ++ text) (g ∙ ap (λ (xs : List ℕ). first ++ xs) separator_spelled)
    ∙ append_assoc first (92 ∷ 0 ∷ []) text
    ∙ ap (λ (xs : List ℕ). xs ++ 92 ∷ 0 ∷ text) (e ∙ appended-joined old fields)
    ∙ append_assoc old (joined fields) (92 ∷ 0 ∷ text)

-- ten numbers that are put in three blocks are put one after the other
pub put_in_three : (out one two all t u v ra rb rc rd re rf rg rh ri rj a b c d e f g h i j : List ℕ) → one ≡ out ++ t → two ≡ one ++ u → all ≡ two ++ v → t ≡ ra ++ (rb ++ []) → u ≡ rc ++ (rd ++ (re ++ (rf ++ (rg ++ (rh ++ []))))) → v ≡ ri ++ (rj ++ []) →
    ra ≡ a → rb ≡ b → rc ≡ c → rd ≡ d → re ≡ e → rf ≡ f → rg ≡ g → rh ≡ h → ri ≡ i → rj ≡ j → all ≡ out ++ a ++ b ++ c ++ d ++ e ++ f ++ g ++ h ++ i ++ j
put_in_three out one two all t u v ra rb rc rd re rf rg rh ri rj a b c d e f g h i j p q s k l m ea eb ec ed ee ef eg eh ei ej =
    let blocks : all ≡ ((out ++ (ra ++ (rb ++ []))) ++ (rc ++ (rd ++ (re ++ (rf ++ (rg ++ (rh ++ []))))))) ++ (ri ++ (rj ++ [])) = cc in
    let flat : ((out ++ (ra ++ (rb ++ []))) ++ (rc ++ (rd ++ (re ++ (rf ++ (rg ++ (rh ++ []))))))) ++ (ri ++ (rj ++ [])) ≡ out ++ ra ++ rb ++ rc ++ rd ++ re ++ rf ++ rg ++ rh ++ ri ++ rj = simp (append_assoc, append-nil) in
    let each : out ++ ra ++ rb ++ rc ++ rd ++ re ++ rf ++ rg ++ rh ++ ri ++ rj ≡ out ++ a ++ b ++ c ++ d ++ e ++ f ++ g ++ h ++ i ++ j = cc in
    blocks ∙ flat ∙ each
