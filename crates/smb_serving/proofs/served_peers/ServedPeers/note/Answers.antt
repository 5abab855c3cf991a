use Rattle.std.proofs.Common.{ℕ, List, length, refl, sym, ap, subst, arith}
use Rattle.smb_serving.specs.Restless.{ArePlaces, is_put}
use Rattle.smb_serving.proofs.Ordered.{ArePassed, passed, fewer_places}
use Rattle.smb_serving.proofs.served_peers.ServedPeers.note.Goals as goal

pub unreachable-requires : goal.unreachable-requires
unreachable-requires c =
    let P : List ℕ → Type 0 = λ xs. ArePlaces xs (length c.args.self.now.peers.items) in
    let h = subst P (sym c.deref.ensures.value) (c.requires.places c.if-self.false) in
    let r = passed c.deref.result.now _ c.in-Err.at c.args.place h c.in-Err.ensures.position in
    omega (arith, fewer_places c.deref.result.now _ c.in-Err.at c.args.place h r.1 r.2 r.0 c.requires.within, ap length c.deref.ensures.value, c.in-Err-insert.ensures.full, c.requires.room)

pub returns-in-Ok-insert-clause-noted : goal.returns-in-Ok-insert-clause-noted
returns-in-Ok-insert-clause-noted c =
    let P : List ℕ → Type 0 = λ xs. ArePlaces xs (length c.args.self.now.peers.items) in
    let h = subst P (sym c.deref.ensures.value) (c.requires.places c.if-self.false) in
    let Q : List ℕ → Type 0 = λ xs. ArePassed xs c.in-Err.at c.args.place in
    let r = subst Q c.deref.ensures.value (passed c.deref.result.now _ c.in-Err.at c.args.place h c.in-Err.ensures.position) in
    is_put c.in-Err.at refl c.in-Ok-insert.ensures.items r.0 r.1 (λ l. r.2 c.in-Err.at (omega arith) l)
