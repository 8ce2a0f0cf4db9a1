use Rattle.plain_core.proofs.reaping_laws.reaps_go_on_so.Goals as goal

pub returns : goal.returns
returns g c = record {
  go = c.reaps_go_on.ensures;
  told = c.reaps_are_told.ensures;
  only = c.keeps_only_taken.ensures;
  tables = c.tables_go_on.ensures;
}
