use Rattle.std.proofs.Common.{◌≡◌, ◌≤◌, length, take, map}
use Rattle.std.specs.List.{AllByRecursion}
use Rattle.smb_head.specs.Parts.{IsOfFirst}
use Rattle.smb_head.proofs.Walks.{Walked}
use Rattle.smb_head.proofs.chain.read_chain.Given as goal

abbrev pub invariant-loop-i : goal.invariant-loop-i
invariant-loop-i l =
    (length l.requests ≡ 16) × AllByRecursion (λ request. 64 ≤ length request.now) (take l.i l.requests)
    × Walked l.payload (map (λ request. request.now) (take l.i l.requests)) l.i l.rest
    × IsOfFirst l.first (map (λ request. request.now) (take l.i l.requests))
    × (l.i ≡ 0 → l.rest ≡ l.payload)
