use Rattle.std.proofs.Common.{◌≡◌, ◌∙◌, ap, sym, length, rules}
use Rattle.std.proofs.lemmas.Bool.{eqb-true, eq-eqb}
use Rattle.smb_head.specs.Placed.{ReplyPlaces}
use Rattle.smb_head.proofs.Placing.{empty_is}
use Rattle.smb_head.proofs.writer.ReplyWriter.is_empty.Goals as goal

pub returns : goal.returns
returns c = λ before replies h o.
    let both = empty_is before c.args.out.now.items replies c.self.inside.base (ap (λ (w : ReplyPlaces). w.base) (c.self.view_is ∙ h)) o in
    let long : c.len.result ≡ length c.args.out.now.items = search rules in
    ((λ t. both.0 (sym long ∙ eqb-true _ _ t)), (λ e. eq-eqb _ _ (long ∙ both.1 e)))
