-- What is put at the front of the buffer is all of it, since it fits.
use Rattle.speller.proofs.Fits.{told, left, front}
use Rattle.speller.proofs.remarks.remark.Goals as goal

pub returns-clause-prefix_len : goal.returns-clause-prefix_len
returns-clause-prefix_len c = front _ _ _ _ c.told-out c.put_remark.ensures

pub returns-clause-value : goal.returns-clause-value
returns-clause-value c = told _ _ _ _ c.told-out c.put_remark.ensures

pub returns-clause-out_after : goal.returns-clause-out_after
returns-clause-out_after c = left _ _ _ _ c.told-out c.put_remark.ensures
