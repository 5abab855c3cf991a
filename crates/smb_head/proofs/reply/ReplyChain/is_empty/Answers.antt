use Rattle.std.proofs.Common.{◌≡◌, ◌∙◌, ap, sym, length, eqb, rules}
use Rattle.std.proofs.lemmas.Bool.{eqb-true, eq-eqb}
use Rattle.smb_head.specs.Replies.{Held}
use Rattle.smb_head.proofs.Joining.{holds_none}
use Rattle.smb_head.proofs.reply.ReplyChain.is_empty.Goals as goal

pub returns-clause-replies : goal.returns-clause-replies
returns-clause-replies c = λ replies h.
    let both = holds_none replies c.args.self.now.bytes (ap (λ (k : Held). k.bytes) h) in
    let same : c.is_empty.result ≡ eqb (length c.args.self.now.bytes) 0 = search rules in
    ((λ t. both.0 (eqb-true _ _ (sym same ∙ t))), (λ e. same ∙ eq-eqb _ _ (both.1 e)))
