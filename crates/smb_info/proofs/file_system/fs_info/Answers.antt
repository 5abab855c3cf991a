use Rattle.std.proofs.Common.{◌≡◌, ◌++◌, ◌≤◌, ℕ, List, length, take, arith}
use Rattle.smb_info.specs.Information.{Information}
use Rattle.smb_info.specs.Parts.{whole, fixed_length}
use Rattle.smb_info.specs.FileSystemInformation.{fs_information_of}
use Rattle.smb_info.specs.Volumes.{volume_facts}
use Rattle.smb_info.proofs.InformationLemmas.{cut_behind, told_stands, file_system_in_order}
use Rattle.smb_info.proofs.file_system.fs_info.Goals as goal

pub returns-clause-stand : goal.returns-clause-stand
returns-clause-stand c =
    let info : Information = fs_information_of c.in-Some.class (volume_facts c.args.volume.now) in
    let old : List ℕ = c.args.out.now.items in
    let out : List ℕ = c.cut.new.out.items in
    let before : c.len-before.result ≡ length old = omega (arith, c.len-before.ensures, c.args.out.now.ok.0) in
    let all : out ≡ old ++ take c.args.room (whole info) =
    cut_behind old c.put_information.new.out.items out (whole info) c.len-before.result c.args.room before c.in_default-put_information.ensures.ok c.cut.ensures.kept in
    let room : fixed_length info ≤ c.args.room = omega (arith, c.fixed_length.ensures (volume_facts c.args.volume.now), c.if-room-fixed_length.false) in
    rw (← c.in-Some.ensures) (told_stands info old out c.args.room c.in_default-put_information.ensures.fits (file_system_in_order c.in-Some.class (volume_facts c.args.volume.now)) room all)
