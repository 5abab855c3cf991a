-- For the proofs; nothing here need be believed.
-- Chains and steps as the code holds them: their replies follow the bytes that were in the output before.
use Rattle.std.specs.Prelude.{ℕ, ◌++◌, Bool, List}
use Rattle.std.specs.List.{flat_map}
use Rattle.smb_head.specs.Placed.{ReplyPlaces, placed, replies_written}
use Rattle.smb_request.specs.declared.context.Context.{Context}
use Rattle.smb_request.specs.State.{ServerState}
use Rattle.smb_engine.specs.declared.connection.Connection.{Connection}
use Rattle.smb_engine.specs.Output.{Output}
use Rattle.smb_engine.specs.Run.{ChainState, Step}

-- a chain in progress, with its replies behind the bytes `front`
pub record ChainStatePlaced (S : Type 0) : Type 0 where
  pub server : ServerState S
  pub connection : Connection
  pub context : Context
  pub writer : ReplyPlaces
  pub out : List ℕ

abbrev pub chain_state_behind : {S : Type 0} → List ℕ → ChainState S → ChainStatePlaced S
chain_state_behind front chain = record {
  server = chain.server;
  connection = chain.connection;
  context = chain.context;
  writer = placed front chain.replies;
  out = replies_written front chain.replies;
}

-- a step, with its outputs as a sink holds them, behind `front`
pub record StepPlaced (S X : Type 0) : Type 0 where
  pub server : ServerState S
  pub connection : Connection
  pub stays_open : Bool
  pub out : List X

abbrev pub step_behind : {S X : Type 0} → (Output → List X) → List X → Step S → StepPlaced S X
step_behind hears front step = record {
  server = step.server;
  connection = step.connection;
  stays_open = step.stays_open;
  out = front ++ flat_map hears step.outputs;
}
