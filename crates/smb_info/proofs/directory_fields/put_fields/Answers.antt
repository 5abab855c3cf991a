use Rattle.smb_info.proofs.directory_fields.put_fields.Goals as goal

pub returns-in_ok-put_directory-in-FileDirectory-clause-ok : goal.returns-in_ok-put_directory-in-FileDirectory-clause-ok
returns-in_ok-put_directory-in-FileDirectory-clause-ok c = rw c.in-FileDirectory.is c.in_ok-put_directory-in-FileDirectory.ensures.ok

pub returns-in_ok-put_directory-in-FileDirectory-clause-fits : goal.returns-in_ok-put_directory-in-FileDirectory-clause-fits
returns-in_ok-put_directory-in-FileDirectory-clause-fits c = rw c.in-FileDirectory.is c.in_ok-put_directory-in-FileDirectory.ensures.fits

pub returns-in_ok-put_full_directory-in-FileFullDirectory-clause-ok : goal.returns-in_ok-put_full_directory-in-FileFullDirectory-clause-ok
returns-in_ok-put_full_directory-in-FileFullDirectory-clause-ok c = rw c.in-FileFullDirectory.is c.in_ok-put_full_directory-in-FileFullDirectory.ensures.ok

pub returns-in_ok-put_full_directory-in-FileFullDirectory-clause-fits : goal.returns-in_ok-put_full_directory-in-FileFullDirectory-clause-fits
returns-in_ok-put_full_directory-in-FileFullDirectory-clause-fits c = rw c.in-FileFullDirectory.is c.in_ok-put_full_directory-in-FileFullDirectory.ensures.fits

pub returns-in_ok-put_both_directory-in-FileBothDirectory-clause-ok : goal.returns-in_ok-put_both_directory-in-FileBothDirectory-clause-ok
returns-in_ok-put_both_directory-in-FileBothDirectory-clause-ok c = rw c.in-FileBothDirectory.is c.in_ok-put_both_directory-in-FileBothDirectory.ensures.ok

pub returns-in_ok-put_both_directory-in-FileBothDirectory-clause-fits : goal.returns-in_ok-put_both_directory-in-FileBothDirectory-clause-fits
returns-in_ok-put_both_directory-in-FileBothDirectory-clause-fits c = rw c.in-FileBothDirectory.is c.in_ok-put_both_directory-in-FileBothDirectory.ensures.fits

pub returns-in_ok-put_id_both_directory-in-FileIdBothDirectory-clause-ok : goal.returns-in_ok-put_id_both_directory-in-FileIdBothDirectory-clause-ok
returns-in_ok-put_id_both_directory-in-FileIdBothDirectory-clause-ok c = rw c.in-FileIdBothDirectory.is c.in_ok-put_id_both_directory-in-FileIdBothDirectory.ensures.ok

pub returns-in_ok-put_id_both_directory-in-FileIdBothDirectory-clause-fits : goal.returns-in_ok-put_id_both_directory-in-FileIdBothDirectory-clause-fits
returns-in_ok-put_id_both_directory-in-FileIdBothDirectory-clause-fits c = rw c.in-FileIdBothDirectory.is c.in_ok-put_id_both_directory-in-FileIdBothDirectory.ensures.fits

pub returns-in_ok-put_id_full_directory-in-FileIdFullDirectory-clause-ok : goal.returns-in_ok-put_id_full_directory-in-FileIdFullDirectory-clause-ok
returns-in_ok-put_id_full_directory-in-FileIdFullDirectory-clause-ok c = rw c.in-FileIdFullDirectory.is c.in_ok-put_id_full_directory-in-FileIdFullDirectory.ensures.ok

pub returns-in_ok-put_id_full_directory-in-FileIdFullDirectory-clause-fits : goal.returns-in_ok-put_id_full_directory-in-FileIdFullDirectory-clause-fits
returns-in_ok-put_id_full_directory-in-FileIdFullDirectory-clause-fits c = rw c.in-FileIdFullDirectory.is c.in_ok-put_id_full_directory-in-FileIdFullDirectory.ensures.fits
