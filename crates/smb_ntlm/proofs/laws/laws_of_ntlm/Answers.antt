use Rattle.std.proofs.Common.{refl}
use Rattle.smb_ntlm.proofs.Lawful.{answer_lawful}
use Rattle.smb_ntlm.proofs.LoginLaws.{users_proved, none_unasked, all_guests, guests_rights, keys_proved, off_keyless, on_keyed, required_signs, guests_keyless, none_exchanged, none_shows, cut_denied, challenge_read, guests_strangers, guests_no_accounts}
use Rattle.smb_ntlm.proofs.laws.laws_of_ntlm.Goals as goal

pub returns-clause-proved : goal.returns-clause-proved
returns-clause-proved c = users_proved

pub returns-clause-unasked : goal.returns-clause-unasked
returns-clause-unasked c = none_unasked

pub returns-clause-guests : goal.returns-clause-guests
returns-clause-guests c = all_guests

pub returns-clause-rights : goal.returns-clause-rights
returns-clause-rights c = guests_rights

pub returns-clause-keyed : goal.returns-clause-keyed
returns-clause-keyed c = keys_proved

pub returns-clause-off : goal.returns-clause-off
returns-clause-off c = off_keyless

pub returns-clause-on : goal.returns-clause-on
returns-clause-on c = on_keyed

pub returns-clause-required : goal.returns-clause-required
returns-clause-required c = required_signs

pub returns-clause-keyless : goal.returns-clause-keyless
returns-clause-keyless c = guests_keyless

pub returns-clause-unexchanged : goal.returns-clause-unexchanged
returns-clause-unexchanged c = none_exchanged

pub returns-clause-hidden : goal.returns-clause-hidden
returns-clause-hidden c = none_shows

pub returns-clause-cut : goal.returns-clause-cut
returns-clause-cut c = cut_denied

pub returns-clause-lawful : goal.returns-clause-lawful
returns-clause-lawful c = answer_lawful

pub returns-clause-stays : goal.returns-clause-stays
returns-clause-stays c = λ state session token. refl

pub returns-clause-challenge : goal.returns-clause-challenge
returns-clause-challenge c = challenge_read

pub returns-clause-strangers : goal.returns-clause-strangers
returns-clause-strangers c = guests_strangers

pub returns-clause-apart : goal.returns-clause-apart
returns-clause-apart c = guests_no_accounts
