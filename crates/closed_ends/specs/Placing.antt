-- Ends that come to closed sockets, each at a place of its own (own choice).
use Rattle.std.specs.Prelude.{true, false, Some, None, is_some}
use Rattle.zq_base.specs.declared.ids.EndId.{EndId}
use Rattle.spec_control.specs.declared.end.EndState.TheVariants.{Active}
use Rattle.desk.specs.declared.given.Given.{Given}
use Rattle.desk.specs.declared.halves.Halves.{Halves}
use Rattle.end_table.specs.declared.table.Place.{Place}

module _ {N O I : Type 0} where
  -- an end that joins with these halves
  abbrev pub given_joined : (out_name : O → N) → EndId → Halves O I → Given N O I
  given_joined out_name e h = record { end = e; written = out_name h.out; out = Some h.out; input = h.input; met = false; sealed = false; state = Active }

  -- an end as it comes, at a place of its own
  abbrev pub place_given : (in_name : I → N) → Given N O I → Place N I
  place_given in_name g = record {
    end = g.end;
    written = g.written;
    read = in_name g.input;
    state = g.state;
    held = true;
    writes = is_some g.out;
    sealed = g.sealed;
    met = g.met;
    peer = false;
    dropped = 0;
    input = None;
  }
