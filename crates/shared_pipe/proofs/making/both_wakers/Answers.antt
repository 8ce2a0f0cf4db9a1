use Rattle.shared_pipe.proofs.making.both_wakers.Goals as goal

pub returns : goal.returns
returns c = (c.in_ok-writer.ensures, c.in_ok-reader.ensures)
