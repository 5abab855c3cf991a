use Rattle.std.proofs.Common.{◌≡◌, ◌++◌, ◌≤◌, ◌*◌, ◌-◌, length, take}
use Rattle.smb_wire.specs.Limits.{longest_response}
use Rattle.smb_head.specs.Replies.{rounded_up}
use Rattle.smb_engine.proofs.Chains.{ChainSoFar, first_chain}
use Rattle.smb_peers.specs.Record.{Keeping}
use Rattle.smb_engine.proofs.Observed.{chain_observed}
use Rattle.smb_engine.proofs.chain.chain_payload.Given as goal

abbrev pub invariant-loop-i : goal.invariant-loop-i
invariant-loop-i g l = record {
  so_far : ChainSoFar g.A.Authenticator.meaning l.arrival l.initial.out.items (first_chain l.initial.server l.initial.connection)
      (record { server = l.server; connection = l.connection; context = l.progress.context; writer = l.progress.writer; out = l.out.items }) l.chain l.i;
  known : l.server.sessions.table.connections ≡ l.initial.server.sessions.table.connections;
  base : l.progress.writer.base ≡ length l.initial.out.items;
  order : l.progress.writer.base ≤ l.progress.writer.last;
  within : l.progress.writer.last ≤ length l.out.items;
  few : length l.progress.writer.keys ≤ l.i;
  kept : take (length l.initial.out.items) l.out.items ≡ l.initial.out.items;
  observed : Keeping (g.W.Observer.keeps l.fn.observer) (g.W.Observer.keeps l.observer)
      (g.W.Observer.observed l.observer ≡ g.W.Observer.observed l.fn.observer ++ chain_observed g.A.Authenticator.meaning l.arrival l.payload (first_chain l.initial.server l.initial.connection) l.chain l.i);
  room : rounded_up (length l.out.items - length l.initial.out.items) ≤ longest_response * l.i;
}
