use Rattle.zq_call.proofs.edge.serve.Goals as goal

pub returns-clause-exits : goal.returns-clause-exits
returns-clause-exits g c = rw c.in-Ok.is (record {
  status = c.call-status.result;
  code_is = c.code-2.ensures;
  faults = c.call-status.new.script.faults;
  ends = c.call-status.new.script.ends;
  failures = c.call-status.new.out.faults;
  clock = _;
  answers = rw (c.new-source.ensures, c.new-sink.ensures, c.new-clock.ensures, c.deref.ensures.value) at c.call-status.ensures.answers;
})
