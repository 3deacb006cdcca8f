-- `read_back_on` meets its contract: the answer is what the inner call gives. Assumes nothing.
use Rattle.readers.proofs.read_back_on.Goals as goal

pub returns-in-Ok : goal.returns-in-Ok
returns-in-Ok c = c.in-Ok.ensures

pub returns-in-Err : goal.returns-in-Err
returns-in-Err c = rw c.number.ensures c.in-Err.ensures
