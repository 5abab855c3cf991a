use Rattle.smb_patterns.proofs.PatternRuns.{asterisk_matches, literals_match, question_marks_match, dos_star_matches, extension_matches, dos_qms_match, dos_dot_matches, trailing_dot_matches, same_folded}
use Rattle.smb_patterns.proofs.PatternTests.{match_decides}
use Rattle.smb_patterns.proofs.laws.laws_of_patterns.Goals as goal

pub returns-clause-asterisk : goal.returns-clause-asterisk
returns-clause-asterisk c = asterisk_matches

pub returns-clause-literals : goal.returns-clause-literals
returns-clause-literals c = literals_match

pub returns-clause-question_marks : goal.returns-clause-question_marks
returns-clause-question_marks c = question_marks_match

pub returns-clause-dos_star : goal.returns-clause-dos_star
returns-clause-dos_star c = dos_star_matches

pub returns-clause-extension : goal.returns-clause-extension
returns-clause-extension c = extension_matches

pub returns-clause-dos_qm : goal.returns-clause-dos_qm
returns-clause-dos_qm c = dos_qms_match

pub returns-clause-dos_dot : goal.returns-clause-dos_dot
returns-clause-dos_dot c = dos_dot_matches

pub returns-clause-trailing_dot : goal.returns-clause-trailing_dot
returns-clause-trailing_dot c = trailing_dot_matches

pub returns-clause-folded : goal.returns-clause-folded
returns-clause-folded c = same_folded

pub returns-clause-test : goal.returns-clause-test
returns-clause-test c = match_decides
