use Rattle.std.proofs.Common.{◌≡◌, ℕ, List, ◌<◌, ◌≤◌}
use Rattle.sha2.specs.Sha256.{hash_after}
use Rattle.smb_lanes.specs.Lanes.{nth, state_lane}
use Rattle.smb_lanes.specs.Sources.{Supplies}
use Rattle.smb_lanes.proofs.hash.run.Given as goal

abbrev pub invariant-turns : goal.invariant-turns
invariant-turns l = (j : ℕ) → j < 4 → (q : List ℕ) → Supplies (nth l.a l.b l.c l.d j) q
    → (l.t ≤ (nth l.a l.b l.c l.d j).count → state_lane j l.state ≡ hash_after (state_lane j l.fn.start) q l.t)
    × ((nth l.a l.b l.c l.d j).count ≤ l.t
    → nth l.first l.second l.third l.fourth j ≡ hash_after (state_lane j l.fn.start) q (nth l.a l.b l.c l.d j).count)
