use Rattle.zq_base.proofs.endpoint.Endpoint.read.Goals as goal

pub returns-clause-ok : goal.returns-clause-ok
returns-clause-ok c = rw (← c.as_bytes.ensures.value) c.read_octets.ensures.ok

pub returns-clause-bad_scheme : goal.returns-clause-bad_scheme
returns-clause-bad_scheme c = rw (← c.as_bytes.ensures.value) c.read_octets.ensures.bad_scheme

pub returns-clause-bad_name : goal.returns-clause-bad_name
returns-clause-bad_name c = rw (← c.as_bytes.ensures.value) c.read_octets.ensures.bad_name

pub returns-clause-bad_address : goal.returns-clause-bad_address
returns-clause-bad_address c = rw (← c.as_bytes.ensures.value) c.read_octets.ensures.bad_address

pub returns-clause-refused : goal.returns-clause-refused
returns-clause-refused c = rw (← c.as_bytes.ensures.value) c.read_octets.ensures.refused
