use Rattle.std.proofs.Common.{rules, sym}
use Rattle.spec_zmtp.proofs.CommandLemmas.{no_command}
use Rattle.zmtp_meta.proofs.ReadingLemmas.{command_read}
use Rattle.zmtp_meta.proofs.command.read_command.Goals as goal

pub returns-in_default-clause-bad : goal.returns-in_default-clause-bad
returns-in_default-clause-bad c = λ e. no_command c.args.body.now (sym c.in_default.ensures)

pub returns-clause-ok : goal.returns-clause-ok
returns-clause-ok c = (command_read c.args.body.now c.in-Some.name.now c.in-Some.content.now c.in_ok-of_slice.field-0 c.in_ok-of_slice-2.field-0 (search rules) c.in-Some.ensures c.in_ok-of_slice.ensures c.in_ok-of_slice-2.ensures).1

pub returns-clause-formed : goal.returns-clause-formed
returns-clause-formed c = (command_read c.args.body.now c.in-Some.name.now c.in-Some.content.now c.in_ok-of_slice.field-0 c.in_ok-of_slice-2.field-0 (search rules) c.in-Some.ensures c.in_ok-of_slice.ensures c.in_ok-of_slice-2.ensures).0
