use Rattle.smb_head.proofs.Chaining.{chain_is, is_chain}
use Rattle.smb_head.proofs.Faults.{fault_is, is_fault, chain_or_fault}
use Rattle.smb_head.proofs.chain.laws_of_chains.Goals as goal

pub returns-clause-chains : goal.returns-clause-chains
returns-clause-chains c = λ payload requests. (chain_is payload requests, is_chain payload requests)

pub returns-clause-faults : goal.returns-clause-faults
returns-clause-faults c = λ payload fault. (fault_is payload fault, is_fault payload fault)

pub returns-clause-either : goal.returns-clause-either
returns-clause-either c = chain_or_fault
