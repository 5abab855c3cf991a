use Rattle.std.proofs.Common.{◌≡◌, ℕ, ◌++◌, List, [], length, is_some, length-append, append-nil, true, arith, refl, sym, subst, ◌∙◌, ap}
use Rattle.smb_changes.specs.Batches.{seed_behind, changes_in}
use Rattle.smb_files.specs.Files.{replayed}
use Rattle.smb_changes.specs.Batches.{batch_at, body_at, check, spelled}
use Rattle.smb_files.specs.Files.{Change}
use Rattle.smb_recovery.specs.Steps.{RefusesOne}
use Rattle.smb_changes.proofs.Cuts.{batch_at-batch, length-batch}
use Rattle.smb_recovery.specs.Steps.{changes_of, refusal_of}
use Rattle.smb_recovery.proofs.Making.{changes_of-spelled}
use Rattle.smb_recovery.proofs.Taking.{taken_of}
use Rattle.smb_recovery.proofs.Whole.{changes_there, whole_read, none_said_of}
use Rattle.smb_recovery.specs.declared.fault.RecoveryFault.{RecoveryFault}
use Rattle.smb_recovery.specs.Recovering.{SaysWhy}
use Rattle.smb_recovery.proofs.Joining.{refusal_stops, batch_why}
use Rattle.smb_recovery.proofs.reading.take_next.Goals as goal

pub returns-in_default-clause-step : goal.returns-in_default-clause-step
returns-in_default-clause-step g c = record {
  same = refl;
  none = none_said_of c.args.found.now.seed c.args.found.now.number c.take_batch.new.buffer.items (c.in_default.ensures.whole ∙ ap (λ (l : List ℕ). is_some (batch_at c.args.found.now.seed c.args.found.now.number l)) c.deref.ensures.value);
}

pub apply_all-requires : goal.apply_all-requires
apply_all-requires g c =
    let there = changes_there c.args.found.now.seed c.args.found.now.number c.deref.result.now c.in-Some.ensures.whole in
    let P : List ℕ → Type 0 = λ bytes. is_some (changes_in (length bytes) bytes) ≡ true in
    subst P (sym c.in-Some.ensures.changes) there

pub returns-clause-step : goal.returns-clause-step
returns-clause-step g c =
    let old = c.args.found.now in
    let buffer = c.take_batch.new.buffer.items in
    let read =
    whole_read old.seed old.number (buffer ++ []) buffer [] c.in_ok-take_batch.ensures.bytes (taken_of old.seed old.number buffer [] c.in_ok-take_batch.ensures.full.within (λ short. refl)) (c.in-Some.ensures.whole ∙ ap (λ (l : List ℕ). is_some (batch_at old.seed old.number l)) c.deref.ensures.value) in
    let body : c.in-Some.batch.changes.now ≡ spelled read.changes = c.in-Some.ensures.changes ∙ ap body_at c.deref.ensures.value ∙ read.body in
    record {
      changes = read.changes;
      fits = read.fits;
      spelled_are = sym (append-nil buffer) ∙ read.all;
      files = c.in_default-apply_all.ensures.ok ∙ ap (replayed old.files) (ap changes_of body ∙ changes_of-spelled read.changes read.fits.each);
      whole = omega (arith, c.in-Some-checked_add.ensures, c.len.ensures, ap length read.is);
      bounded = omega (arith, c.in-Some-checked_add.ensures);
      number = refl;
      seed = c.in-Some.ensures.next ∙ ap (seed_behind old.seed) c.deref.ensures.value ∙ ap (check old.seed) read.body;
    }

pub returns-in-Err-clause-why : goal.returns-in-Err-clause-why
returns-in-Err-clause-why g c = λ first reading later.
    let old = c.args.found.now in
    let buffer = c.take_batch.new.buffer.items in
    let now = g.S.Source.read c.take_batch.new.source in
    let read =
    whole_read old.seed old.number (buffer ++ []) buffer [] c.in_ok-take_batch.ensures.bytes (taken_of old.seed old.number buffer [] c.in_ok-take_batch.ensures.full.within (λ short. refl)) (c.in-Some.ensures.whole ∙ ap (λ (l : List ℕ). is_some (batch_at old.seed old.number l)) c.deref.ensures.value) in
    let body : c.in-Some.batch.changes.now ≡ spelled read.changes = c.in-Some.ensures.changes ∙ ap body_at c.deref.ensures.value ∙ read.body in
    let P : RecoveryFault → Type 0 = λ fault. SaysWhy first (now ++ later) fault in
    let Q : List Change → Type 0 = λ changes. RefusesOne c.in-Err.fault changes in
    subst P (sym c.refusal.ensures)
    (batch_why first (g.S.Source.read c.args.source.now) now buffer later old (refusal_of old.number c.in-Err.fault) reading c.in_ok-take_batch.ensures.read
    (refusal_stops old (buffer ++ later) read.changes later c.in-Err.fault
    (ap (λ (l : List ℕ). batch_at old.seed old.number (l ++ later)) read.is ∙ batch_at-batch old.seed old.number read.changes later read.fits)
    (omega (arith, ap length read.is, length-append buffer later, length-batch old.seed old.number (spelled read.changes)))
    (subst Q (ap changes_of body ∙ changes_of-spelled read.changes read.fits.each) c.in-Err.ensures.why)))
