-- A request without a fault.
use Rattle.std.proofs.Common.{◌≡◌, ℕ, ◌+◌, ◌%◌, ◌≤◌, Bool, true, false, ◌&&◌, List, length, Option, Some, None, refl}
use Rattle.std.specs.Prelude.{◌≢◌, ◌==◌, nat_le}
use Rattle.std.specs.Option.{option_or}
use Rattle.std.proofs.lemmas.Bool.{eqb-true, leb-true, not-false, and_parts, ne_eqb}
use Rattle.smb_head.specs.declared.fault.HeadFault.{HeadFault}
use Rattle.smb_head.specs.Headers.{header_fault}
use Rattle.smb_head.specs.Chains.{is_related, request_fault}
use Rattle.smb_head.specs.Parts.{is_from_server, next_of, is_next_right}
use Rattle.smb_head.proofs.Readings.{passed, Begins, begins, faultless}

pub record IsRight (first : Bool) (bytes : List ℕ) : Type 0 where
  pub begins : Begins bytes
  pub to_server : is_from_server bytes ≡ false
  pub unrelated : (first && is_related bytes) ≡ false
  pub next : is_next_right (next_of bytes) (length bytes) ≡ true

neither : (one other : Option HeadFault) → option_or one other ≡ None → (one ≡ None) × (other ≡ None)
neither None other h = (refl, h)
neither (Some fault) other h = cc

pub right : (first : Bool) (bytes : List ℕ) → request_fault first bytes ≡ None → IsRight first bytes
right first bytes h =
    let both = neither (header_fault bytes) _ h in
    let server = passed _ _ _ both.1 in
    let related = passed _ _ _ server.1 in
    let next = passed _ _ _ related.1 in
    record { begins = begins bytes both.0; to_server = server.0; unrelated = related.0; next = not-false _ next.0 }

pub no_fault : (first : Bool) (bytes : List ℕ) → IsRight first bytes → request_fault first bytes ≡ None
no_fault first bytes r = rw (faultless bytes r.begins, r.to_server, r.unrelated, r.next) refl

-- where a next header stands
pub record LeadsOn (next left : ℕ) : Type 0 where
  pub aligned : next % 8 ≡ 0
  pub least : 64 ≤ next
  pub within : next + 64 ≤ left

pub leads_on : (next left : ℕ) → is_next_right next left ≡ true → next ≢ 0 → LeadsOn next left
leads_on next left h more =
    let test : ((next % 8 == 0) && (nat_le 64 next && nat_le (next + 64) left)) ≡ true = rw (ne_eqb next 0 more) at h in
    let both = and_parts _ _ test in
    let parts = and_parts _ _ both.1 in
    record { aligned = eqb-true _ _ both.0; least = leb-true _ _ parts.0; within = leb-true _ _ parts.1 }
