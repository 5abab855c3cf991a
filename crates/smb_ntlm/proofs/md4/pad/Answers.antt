use Rattle.std.proofs.Common.{◌≡◌, ℕ, ◌-◌, ◌*◌, ◌%◌, ◌^◌, length, take, replicate, ◌∙◌, ap, arith}
use Rattle.std.proofs.lemmas.List.{take-replicate}
use Rattle.std.specs.Int.{to_le_bytes, w64}
use Rattle.smb_ntlm.proofs.Digests.{padded_by}
use Rattle.smb_ntlm.proofs.md4.pad.Goals as goal

pub returns : goal.returns
returns c =
    let size : c.len-size.result ≡ length c.args.message.now.items = c.len-size.ensures ∙ c.args.message.now.ok.0 in
    let zeros : take ((119 - c.len-size.result % 64) % 64) (replicate 64 0) ≡ replicate ((119 - length c.args.message.now.items % 64) % 64) 0 =
    take-replicate ((119 - c.len-size.result % 64) % 64) 64 0 (omega arith) ∙ ap (λ (n : ℕ). replicate ((119 - n % 64) % 64) 0) size in
    let bits : c.as_slice.result.now ≡ to_le_bytes w64 (length c.args.message.now.items * 8 % 2 ^ 64) =
    c.as_slice.ensures ∙ c.to_le_bytes.ensures ∙ ap (λ (n : ℕ). to_le_bytes w64 (n * 8 % 2 ^ 64)) size in
    padded_by c.args.message.now.items c.push.new.self.items c.extend_from_slice.new.self.items c.extend_from_slice-2.new.self.items
    (take ((119 - c.len-size.result % 64) % 64) (replicate 64 0)) c.as_slice.result.now
    c.in_ok-push.ensures.items c.in_ok-extend_from_slice.ensures.items zeros c.in_ok-extend_from_slice-2.ensures.items bits
