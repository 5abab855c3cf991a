use Rattle.std.proofs.Common.{◌∷◌, ◌≡◌, ◌∙◌, ◌-◌, length, refl, ap, rules}
use Rattle.smb_wire.specs.Number.{spelling}
use Rattle.smb_body.proofs.QueryHeads.{closed_is}
use Rattle.smb_body.proofs.ReadHeads.{spelling_4}
use Rattle.smb_body.proofs.query.close_query_response.Goals as goal

pub returns-clause-closed : goal.returns-clause-closed
unfolding spelling
returns-clause-closed c = λ before buffer s o.
    let long : c.len.result ≡ length c.args.out.now.items = search rules in
    let bytes = c.to_le_bytes.ensures ∙ spelling_4 (c.len.result - c.args.start - 8) in
    closed_is before buffer (9 ∷ 0 ∷ 72 ∷ 0 ∷ spelling 4 (c.len.result - c.args.start - 8)) c.args.out.now.items c.set_eight.new.out.items c.args.start (c.len.result - c.args.start - 8) s o
    (ap (λ n. n - c.args.start - 8) long) refl (c.set_eight.ensures.bytes ∙ rw bytes refl)
