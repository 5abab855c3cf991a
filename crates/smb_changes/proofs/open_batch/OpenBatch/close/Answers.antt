use Rattle.std.proofs.Common.{◌≡◌, ℕ, List, ◌++◌, ◌∷◌, [], length, drop, ◌∙◌, ap}
use Rattle.smb_wire.specs.Number.{spelling}
use Rattle.smb_changes.specs.Batches.{check, front, batch}
use Rattle.smb_changes.proofs.Open.{all_behind, closed, behind_front}
use Rattle.smb_changes.proofs.open_batch.OpenBatch.close.Goals as goal

next_is : (c : goal.After-set_front) → c.check_of-next.result ≡ check c.args.seed (drop 24 c.args.self.now.bytes.items)
next_is c =
    c.check_of-next.ensures ∙ ap (check c.args.seed) (all_behind c.deref.result.now ∙ ap (drop 24) c.deref.ensures.value)
    ∙ ap (check c.args.seed) c.in_ok-make_room.ensures.same

whole_is : (c : goal.After-set_front) → c.set_front.new.bytes.items ≡ batch c.args.seed c.args.number (drop 24 c.args.self.now.bytes.items)
whole_is c =
    closed c.args.seed c.args.number c.make_room.new.bytes.items (drop 24 c.args.self.now.bytes.items) c.front_of.result c.back_of.result _
    c.in_ok-make_room.ensures.ok c.in_ok-make_room.ensures.same
    (c.front_of.ensures ∙ ap (front c.args.seed c.args.number) (c.len-size.ensures ∙ ap (length {A = ℕ}) c.in_ok-make_room.ensures.same))
    (c.back_of.ensures ∙ ap (λ (n : ℕ). spelling 8 n ++ 10 ∷ []) (next_is c))
    (c.set_front.ensures ∙ ap (λ (l : List ℕ). c.front_of.result ++ drop 24 l) c.in_ok-extend_from_slice.ensures.items)

pub returns-clause-ok : goal.returns-clause-ok
returns-clause-ok c = whole_is c

pub returns-clause-behind : goal.returns-clause-behind
returns-clause-behind c = behind_front c.args.seed c.args.number (drop 24 c.args.self.now.bytes.items) _ (whole_is c)

pub returns-clause-next : goal.returns-clause-next
returns-clause-next c = next_is c
