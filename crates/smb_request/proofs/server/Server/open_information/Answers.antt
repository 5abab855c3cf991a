use Rattle.std.proofs.Common.{◌≡◌, ℕ, true, false, List, [], ◌∷◌, Some, is_some, refl, sym, ap, subst, arith, ◌∙◌}
use Rattle.smb_tree.specs.Content.{Row, Content, numbered}
use Rattle.smb_tree.specs.Parts.{copy_fault}
use Rattle.smb_tree.specs.declared.fault.TreeFault.{TreeFault}
use Rattle.smb_access.specs.declared.open_row.OpenRow.{OpenRow}
use Rattle.smb_opens.specs.Good.{GoodStore}
use Rattle.smb_access.specs.Parts.{ArePresent, has_number}
use Rattle.smb_access.specs.Opens.{open_of}
use Rattle.smb_request.proofs.server.Server.open_information.Goals as goal

-- the entry of an open stands
present : (rows : List Row) (opens : List OpenRow) (k : ℕ) (row : OpenRow) → ArePresent rows opens → open_of opens k ≡ Some row → is_some (numbered rows row.entry) ≡ true
present rows [] k row p o = cc
present rows (x ∷ opens) k row p o =
    elim (has_number k x) as (λ b. has_number k x ≡ b → is_some (numbered rows row.entry) ≡ true) [
      | true ↦ λ t. (
          let found : Some x ≡ Some row = (let q = o in grind (arith, q, t)) in
          let same : x ≡ row = cc in
          ap (λ (r : OpenRow). is_some (numbered rows r.entry)) (sym same) ∙ p.0)
      | false ↦ λ t. present rows opens k row p.1 (let q = o in grind (arith, q, t))
    ] refl

-- so it can be copied
copied : (content tree : Content) (rows opens : List OpenRow) (k : ℕ) (row : OpenRow) (fault : TreeFault) → content ≡ tree → rows ≡ opens → ArePresent tree.rows opens →
    Some row ≡ open_of rows k → copy_fault content row.entry ≡ Some fault → ⊥
copied content tree rows opens k row fault is are p o h =
    let there = present tree.rows opens k row p (sym (o ∙ ap (λ (r : List OpenRow). open_of r k) are)) in
    let e = rw (is, there) at h in cc

pub unreachable-requires-in_default-fault : goal.unreachable-requires-in_default-fault
unreachable-requires-in_default-fault g c =
    let good : GoodStore c.self.inside.store = subst (λ s. GoodStore s.store) (sym c.self.view_is) c.good.ensures.store in
    copied _ _ _ _ _ _ _ c.tree.ensures c.opens.ensures good.present c.in-Some.ensures (c.in-Err.ensures.why c.in_default-fault.not-NoMemory)
