use Rattle.plain_core.proofs.laws.calls_go_on_so.Goals as goal

pub returns : goal.returns
returns g c = record {
  exact = λ exact. record { exact = exact; one_out = g.met.P.Pipes.one_out exact; one_in = g.met.P.Pipes.one_in exact };
  lend = c.sockets_can_be_lent.ensures;
  told = c.calls_are_told.ensures;
  own = c.own_join_still.ensures;
  agree = c.others_agree_still.ensures;
  keep = c.reapers_keep.ensures;
  apart = c.else_behind.ensures;
  stay = c.else_stay.ensures;
  asked = c.asked_stay.ensures;
  tables = c.tables_go_on.ensures;
}
