-- A file is overwritten by another size and other times and attributes.
use Rattle.std.proofs.Common.{◌≡◌, ◌≢◌, ◌==◌, ℕ, ◌-◌, List, [], ◌∷◌, length, true, false, cond, Option, None, Some, refl, sym, ap, subst, arith, ◌∙◌}
use Rattle.std.proofs.lemmas.Grind.{common_steps}
use Rattle.std.proofs.lemmas.Bool.Decides.{nat_tests}
use Rattle.std.specs.Option.{option_map}
use Rattle.smb_tree.specs.declared.entry.Basic.{Basic}
use Rattle.smb_tree.specs.declared.fault.TreeFault.{TreeFault}
use Rattle.smb_tree.specs.declared.fault.TreeFault.TheVariants.{Absent, ParentAbsent, Exists, NotEmpty, TooDeep, Full, NoMemory}
use Rattle.smb_tree.specs.Entries.{Entry, is_folder_kind, kept_basic}
use Rattle.smb_tree.specs.Content.{Row, Content, numbered, changed, resized}
use Rattle.smb_tree.specs.Parts.{with_size, with_basic}
use Rattle.smb_tree.specs.Faults.{size_fault, basic_fault}
use Rattle.smb_tree.proofs.Apart.{numbered-changed}
use Rattle.smb_access.specs.declared.found.Target.{Target}
use Rattle.smb_wire.specs.Dispositions.{overwrites_by}
use Rattle.smb_access.specs.Asked.{FileAsked}
use Rattle.smb_access.specs.Effect.{overwritten}
use Rattle.smb_access.specs.Parts.{overwritten_basic, overwritten_tree, standing_tree}
use Rattle.smb_access.specs.Looked.{target_of}
use Rattle.smb_tree.specs.Good.{GoodContent}
use Rattle.smb_access.proofs.Changes.{Shrinks, space_within_changed}

-- the row of a target
pub target_row : (rows : List Row) (n : ℕ) (target : Target) → option_map (λ row. target_of row.1) (numbered rows n) ≡ Some target → (row : Row) × (numbered rows n ≡ Some row) × (target_of row.1 ≡ target)
target_row rows n target e =
    elim (numbered rows n) as (λ o. option_map (λ (row : Row). target_of row.1) o ≡ Some target → (row : Row) × (o ≡ Some row) × (target_of row.1 ≡ target)) [
      | None ↦ λ h. absurd (cc)
      | Some row ↦ λ h. (row, refl, cc)
    ] e

-- a fault that is want of memory, since none other can come
pub only_memory : (fault : TreeFault) (due : Option TreeFault) → due ≡ None → (fault ≢ NoMemory → due ≡ Some fault) → fault ≡ NoMemory
only_memory Absent due e h = (let w : due ≡ Some Absent = h (λ q. cc) in cc)
only_memory ParentAbsent due e h = (let w : due ≡ Some ParentAbsent = h (λ q. cc) in cc)
only_memory Exists due e h = (let w : due ≡ Some Exists = h (λ q. cc) in cc)
only_memory NotEmpty due e h = (let w : due ≡ Some NotEmpty = h (λ q. cc) in cc)
only_memory TooDeep due e h = (let w : due ≡ Some TooDeep = h (λ q. cc) in cc)
only_memory Full due e h = (let w : due ≡ Some Full = h (λ q. cc) in cc)
only_memory NoMemory due e h = refl

emptied : (bytes : List ℕ) → resized 0 bytes ≡ []
emptied bytes = let none : 0 - length bytes ≡ 0 = omega arith in rw none refl

-- a file may lose its bytes
pub size_free : (content : Content) (n : ℕ) (target : Target) → GoodContent content → option_map (λ row. target_of row.1) (numbered content.rows n) ≡ Some target → is_folder_kind target.kind ≡ false → size_fault content n 0 ≡ None
size_free content n target good e file =
    let t = target_row content.rows n target e in
    let kind : is_folder_kind t.0.1.kind ≡ false = ap (λ (x : Target). is_folder_kind x.kind) t.2 ∙ file in
    let space = space_within_changed (λ entry. record entry { bytes = resized 0 entry.bytes }) content.rows n t.0 (λ entry. ap length (emptied entry.bytes)) t.1 in
    rw t.1 (grind (arith, nat_tests, common_steps, kind, space, good.fits))

pub basic_free : (content : Content) (n : ℕ) (target : Target) → option_map (λ row. target_of row.1) (numbered content.rows n) ≡ Some target → basic_fault (with_size content n 0) n ≡ None
basic_free content n target e =
    let t = target_row content.rows n target e in
    let here = numbered-changed (λ entry. record entry { bytes = resized 0 entry.bytes }) content.rows n n (λ _. refl) in
    grind (arith, nat_tests, common_steps, here, t.1)

pub changed-changed : (f g : Entry → Entry) (rows : List Row) (n : ℕ) → ((e : Entry) → (g e).number ≡ e.number) → changed f (changed g rows n) n ≡ changed (λ e. f (g e)) rows n
changed-changed f g [] n k = refl
changed-changed f g (row ∷ rows) n k = grind (arith, k row.1, changed-changed f g rows n k)

pub changed-same : (f h : Entry → Entry) (rows : List Row) (n : ℕ) (row : Row) → numbered rows n ≡ Some row → f row.1 ≡ h row.1 → changed f rows n ≡ changed h rows n
changed-same f h [] n row e s = refl
changed-same f h (x ∷ rows) n row e s =
    elim (x.1.number == n) as (λ b. (cond b (Some x) (numbered rows n)) ≡ Some row → (cond b ((x.0, f x.1) ∷ rows) (x ∷ changed f rows n)) ≡ (cond b ((x.0, h x.1) ∷ rows) (x ∷ changed h rows n))) [
      | true ↦ λ q. (let same : row ≡ x = cc in let t : f x.1 ≡ h x.1 = subst (λ (r : Row). f r.1 ≡ h r.1) same s in λ i. (x.0, t i) ∷ rows)
      | false ↦ λ q. ap (λ (rs : List Row). x ∷ rs) (changed-same f h rows n row q s)
    ] e

overwritten_at : (content : Content) (ask : FileAsked) (moment n : ℕ) (row : Row) (basic : Basic) → numbered content.rows n ≡ Some row → kept_basic basic ≡ overwritten_basic ask moment row.1.basic → with_basic (with_size content n 0) n basic ≡ overwritten_tree content ask moment n
overwritten_at content ask moment n row basic h e =
    let size : Entry → Entry = λ entry. record entry { bytes = resized 0 entry.bytes } in
    let base : Entry → Entry = λ entry. record entry { basic = kept_basic basic } in
    let none = emptied row.1.bytes in
    let same : base (size row.1) ≡ overwritten ask moment row.1 = λ i. record row.1 { bytes = none i; basic = e i } in
    ap (λ (rows : List Row). let c : Content = record content { rows = rows } in c) (changed-changed base size content.rows n (λ _. refl) ∙ changed-same (λ x. base (size x)) (overwritten ask moment) content.rows n row h same)

pub overwritten_done : (content : Content) (ask : FileAsked) (moment n : ℕ) (target : Target) (basic : Basic) → option_map (λ row. target_of row.1) (numbered content.rows n) ≡ Some target → kept_basic basic ≡ overwritten_basic ask moment target.basic → with_basic (with_size content n 0) n basic ≡ overwritten_tree content ask moment n
overwritten_done content ask moment n target basic e k =
    let t = target_row content.rows n target e in
    overwritten_at content ask moment n t.0 basic t.1 (k ∙ ap (λ (x : Target). overwritten_basic ask moment x.basic) (sym t.2))

-- an overwritten file has no bytes
pub empties : (ask : FileAsked) (moment : ℕ) → Shrinks (overwritten ask moment)
empties ask moment = record { number = λ _. refl; kind = λ _. refl; bytes = λ e. omega arith }

-- what overwrites is done
pub standing_over : (tree : Content) (ask : FileAsked) (moment number : ℕ) → overwrites_by ask.disposition ≡ true → overwritten_tree tree ask moment number ≡ standing_tree tree ask moment number
standing_over tree ask moment number e = rw e refl
