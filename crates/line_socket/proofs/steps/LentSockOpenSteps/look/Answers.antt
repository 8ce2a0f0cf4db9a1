use Rattle.line_socket.proofs.steps.LentSockOpenSteps.look.Goals as goal

pub returns-clause-looked : goal.returns-clause-looked
returns-clause-looked g c = let h = c.look.ensures.looked in record { led = h.led; stays = h.stays }
