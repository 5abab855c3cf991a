use Rattle.smb_engine.proofs.Endings.{admitted_or_ends}
use Rattle.smb_engine.proofs.Ends.{an_end_is_the_last}
use Rattle.smb_engine.proofs.HeardEnds.{each_end_is_heard}
use Rattle.smb_engine.proofs.Order.{good_in_order, run_in_order, others_left}
use Rattle.smb_engine.proofs.Readers.{reader_changes_no_file}
use Rattle.smb_engine.proofs.Sessions.{good_numbers, run_numbers, sessions_left, over_stays}
use Rattle.smb_engine.proofs.Cuts.{cuts_do_not_matter, however_cut, run_goes_on, run_stays, unread_is_enough}
use Rattle.smb_engine.proofs.laws.laws_of_shares.Goals as goal

pub returns-clause-order : goal.returns-clause-order
returns-clause-order g c = (good_in_order, run_in_order g.A.Authenticator.meaning)

pub returns-clause-cut : goal.returns-clause-cut
returns-clause-cut g c = cuts_do_not_matter g.A.Authenticator.meaning

pub returns-clause-cuts : goal.returns-clause-cuts
returns-clause-cuts g c = λ s h before after connection moment. however_cut g.A.Authenticator.meaning connection moment s h before after

pub returns-clause-one : goal.returns-clause-one
returns-clause-one g c = λ s events others. (run_goes_on g.A.Authenticator.meaning s events others, run_stays g.A.Authenticator.meaning s events others)

pub returns-clause-unread : goal.returns-clause-unread
returns-clause-unread g c = unread_is_enough g.A.Authenticator.meaning

pub returns-clause-alone : goal.returns-clause-alone
returns-clause-alone g c = others_left g.A.Authenticator.meaning

pub returns-clause-numbers : goal.returns-clause-numbers
returns-clause-numbers g c = (good_numbers g.A.Authenticator.meaning, run_numbers g.A.Authenticator.meaning)

pub returns-clause-sessions : goal.returns-clause-sessions
returns-clause-sessions g c = sessions_left g.A.Authenticator.meaning

pub returns-clause-over : goal.returns-clause-over
returns-clause-over g c = over_stays g.A.Authenticator.meaning

pub returns-clause-last : goal.returns-clause-last
returns-clause-last g c = λ s o events connection before after e. an_end_is_the_last g.A.Authenticator.meaning connection s events o before after e

pub returns-clause-endings : goal.returns-clause-endings
returns-clause-endings g c = admitted_or_ends

pub returns-clause-heard : goal.returns-clause-heard
returns-clause-heard g c = each_end_is_heard g.A.Authenticator.meaning

pub returns-clause-readers : goal.returns-clause-readers
returns-clause-readers g c = reader_changes_no_file g.A.Authenticator.meaning
