use Rattle.reaper.proofs.laws.reaps_are_so.Goals as goal

pub returns : goal.returns
returns g c = record {
  calls = c.reapers_calls_are_so.ensures;
  plugs = c.no_plugs.ensures;
  had = c.taken_are_had.ensures;
  binds = c.closed_binds_fit.ensures;
  takes = c.given_may_be_taken.ensures;
  served = c.served_are_had.ensures;
  stand = c.reaper_calls_stand_so.ensures;
  goes = c.reaper_goes_so.ensures;
  names = c.reaper_keeps_names.ensures;
  unsealed = c.reaper_keeps_unsealed.ensures;
  given = c.reaper_keeps_given.ensures;
  given_asked = c.given_stay.ensures;
  taken = c.reaper_keeps_taken.ensures;
  only = c.keeps_only_taken.ensures;
  agree = c.open_agree_still.ensures;
  looks = c.looks_keep.ensures;
  looked = c.looks_stand.ensures;
  shut = c.looks_are_shut.ensures;
  asks = c.asks_its_own.ensures;
  sides = c.sides_stand_on.ensures;
}
