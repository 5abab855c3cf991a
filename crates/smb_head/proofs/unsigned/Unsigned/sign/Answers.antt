use Rattle.std.proofs.Common.{◌≡◌, [], sym, ◌∙◌, refl}
use Rattle.std.proofs.lemmas.Bool.{eqb-true}
use Rattle.std.proofs.lemmas.List.{nil_from_length}
use Rattle.smb_head.specs.Sealed.{sealed}
use Rattle.smb_head.proofs.unsigned.Unsigned.sign.Goals as goal

pub returns-then-is_empty-clause-signed : goal.returns-then-is_empty-clause-signed
unfolding sealed
returns-then-is_empty-clause-signed c =
    let none : c.args.self.now ≡ [] = sym c.self.view_is ∙ nil_from_length _ (eqb-true _ _ (sym c.if-is_empty.ensures)) in
    rw none refl
