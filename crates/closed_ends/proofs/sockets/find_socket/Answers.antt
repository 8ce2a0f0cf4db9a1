use Rattle.std.proofs.Common.{◌∙◌, ap, sym}
use Rattle.std.specs.Option.{option_copied}
use Rattle.closed_ends.specs.Has.{is_socket}
use Rattle.closed_ends.proofs.ListLemmas.{first_of, none_first}
use Rattle.closed_ends.proofs.sockets.find_socket.Goals as goal

pub returns-in-Some-clause-found : goal.returns-in-Some-clause-found
returns-in-Some-clause-found g c = first_of (is_socket c.args.number.0) c.args.closed.now.sockets.items c.in-Some.socket.now (sym (c.requires.indexed c.args.number.0) ∙ sym c.get.ensures.value ∙ ap option_copied c.in-Some.is)

pub returns-in-None-clause-none : goal.returns-in-None-clause-none
returns-in-None-clause-none g c = none_first (is_socket c.args.number.0) c.args.closed.now.sockets.items (sym (c.requires.indexed c.args.number.0) ∙ sym c.get.ensures.value ∙ ap option_copied c.in-None.is)
