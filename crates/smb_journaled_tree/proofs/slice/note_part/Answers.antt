use Rattle.std.proofs.Common.{◌≡◌, ◌++◌, ℕ, List, take, drop, get_or, ap, sym, ◌∙◌, refl, length, arith}
use Rattle.smb_tree.specs.Content.{bytes_of}
use Rattle.smb_journaled_tree.proofs.Bringing.{puts_zeros, puts_part}
use Rattle.smb_journaled_tree.proofs.slice.note_part.Goals.{then-not-are_zeros+in_ok-note, else-not-are_zeros}
use Rattle.smb_journaled_tree.proofs.slice.note_part.Goals as goal

pub returns : goal.returns
returns g c =
    let bytes = bytes_of (g.T.Tree.content c.args.tree.now).rows c.args.number in
    let piece = c.read.new.bytes.items in
    let is : piece ≡ take 262144 (drop c.args.done bytes) = c.in-Ok.ensures.ok ∙ ap (λ (l : List ℕ). l ++ take 262144 (drop c.args.done bytes)) c.clear.ensures.items in
    let long : c.len.result ≡ length piece = omega (arith, c.len.ensures, c.read.new.bytes.ok.0, c.read.new.bytes.ok.1) in
    elim c.if-not-are_zeros.branch [
      | then-not-are_zeros+in_ok-note w ↦ (
          let same : w.deref-then-not-are_zeros.result.now ≡ piece = w.deref-then-not-are_zeros.ensures.value in
          rw w.batch-is (puts_part c.args.number c.args.done c.len.result 262144 bytes w.deref-then-not-are_zeros.result.now _ _ (same ∙ is) (long ∙ ap (length {A = ℕ}) (sym same)) w.in_ok-note.ensures.ok w.in_ok-note.ensures.writable)
          )
      | else-not-are_zeros w ↦ rw w.batch-is (puts_zeros c.args.number c.args.done c.len.result 262144 bytes piece _ _ is long refl
          (λ i. ap (λ (l : List ℕ). get_or l i 0) (sym c.deref.ensures.value) ∙ c.are_zeros.ensures w.if-not-are_zeros.false i))
    ]
