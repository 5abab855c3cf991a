use Rattle.std.proofs.Common.{◌≡◌, ◌++◌, ◌≤◌, ℕ, List, length, take, arith}
use Rattle.smb_info.specs.Information.{Information}
use Rattle.smb_info.specs.Parts.{whole, fixed_length}
use Rattle.smb_info.specs.FileInformation.{file_information_of}
use Rattle.smb_tree.specs.WholeNames.{copied}
use Rattle.smb_info.proofs.InformationLemmas.{cut_behind, told_stands, file_in_order}
use Rattle.smb_info.proofs.file.file_info.Goals as goal

pub returns-clause-stand : goal.returns-clause-stand
returns-clause-stand c =
    let info : Information = file_information_of c.in-Some.class (copied c.args.entry.now) c.args.access.0 in
    let old : List ℕ = c.args.out.now.items in
    let out : List ℕ = c.cut.new.out.items in
    let before : c.len-before.result ≡ length old = omega (arith, c.len-before.ensures, c.args.out.now.ok.0) in
    let all : out ≡ old ++ take c.args.room (whole info) =
    cut_behind old c.put_information.new.out.items out (whole info) c.len-before.result c.args.room before c.in_default-put_information.ensures.ok c.cut.ensures.kept in
    let room : fixed_length info ≤ c.args.room = omega (arith, c.fixed_length.ensures (copied c.args.entry.now) c.args.access.0, c.if-room-fixed_length.false) in
    rw (← c.in-Some.ensures) (told_stands info old out c.args.room c.in_default-put_information.ensures.fits (file_in_order c.in-Some.class (copied c.args.entry.now) c.args.access.0) room all)
