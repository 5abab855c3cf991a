use Rattle.std.proofs.Common.{◌≡◌, ◌≤◌, ◌*◌, length, drop, ap, arith, rules, sym, ◌∙◌}
use Rattle.std.proofs.lemmas.List.{length-drop}
use Rattle.smb_wire.specs.Fields.{number_in}
use Rattle.smb_body.specs.Buffers.{body}
use Rattle.smb_body.proofs.LockBytes.{elements_only, locks_cut}
use Rattle.smb_body.proofs.lock.read_lock.Goals as goal

pub returns-clause-value : goal.returns-clause-value
returns-clause-value c =
    let count = number_in 2 2 (body c.args.request.now) in
    let bytes = drop 24 (body c.args.request.now) in
    let size : length c.body-body.result.now ≡ length (body c.args.request.now) = ap length c.body-body.ensures in
    let counted : c.u16_in-count.result ≡ count = c.u16_in-count.ensures ∙ ap (number_in 2 2) c.body-body.ensures in
    let room : 24 * count ≤ length bytes = omega (arith, size, counted, length-drop 24 (body c.args.request.now)) in
    let cut = locks_cut count bytes room in
    let same = sym (elements_only _ _ c.in_ok-locks.ensures.locks) in
    search rules
