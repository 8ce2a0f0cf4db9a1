use Rattle.std.proofs.Common.{refl}
use Rattle.std.specs.Vec.{with_items}
use Rattle.zq_outer.specs.declared.link.LinkGot.TheVariants.{Bytes, NotReady, Ended, Failed}
use Rattle.spec_link.specs.LinkAct.{Wire as OnWire, Reads}
use Rattle.link_side.specs.declared.wire.Wire.{Wire}
use Rattle.link_side.specs.WireView.{unfed, kept}
use Rattle.link_side.proofs.KeptLemmas.{run_read, unfed_none}
use Rattle.link_side.proofs.CountLemmas.{read_counted}
use Rattle.link_side.proofs.wire.Wire.read.Goals as goal

pub returns-in-Bytes-clause-run : goal.returns-in-Bytes-clause-run
returns-in-Bytes-clause-run g c = λ opts acts r.
    let old : Wire = c.args.self.now in
    let new : Wire = record old { octets = with_items old.octets c.read.new.buf; fed = 0; read = c.in-Bytes.n } in
    run_read opts acts (OnWire (Reads (Bytes c.in-Bytes.n) (unfed new))) (kept old) (kept new) refl refl refl refl (unfed_none old.octets.items old.fed old.read c.requires.fed) refl refl refl r

pub returns-in-NotReady-clause-run : goal.returns-in-NotReady-clause-run
returns-in-NotReady-clause-run g c = λ opts acts r.
    let old : Wire = c.args.self.now in
    let new : Wire = record old { octets = with_items old.octets c.read.new.buf } in
    run_read opts acts _ (kept old) (kept new) refl refl refl refl (unfed_none old.octets.items old.fed old.read c.requires.fed) refl refl refl r

pub returns-in-Ended-clause-run : goal.returns-in-Ended-clause-run
returns-in-Ended-clause-run g c = λ opts acts r.
    let old : Wire = c.args.self.now in
    let new : Wire = record old { octets = with_items old.octets c.read.new.buf } in
    run_read opts acts _ (kept old) (kept new) refl refl refl refl (unfed_none old.octets.items old.fed old.read c.requires.fed) refl refl refl r

pub returns-in-Failed-clause-run : goal.returns-in-Failed-clause-run
returns-in-Failed-clause-run g c = λ opts acts r.
    let old : Wire = c.args.self.now in
    let new : Wire = record old { octets = with_items old.octets c.read.new.buf } in
    run_read opts acts _ (kept old) (kept new) refl refl refl refl (unfed_none old.octets.items old.fed old.read c.requires.fed) refl refl refl r

pub returns-in-Bytes-clause-counts : goal.returns-in-Bytes-clause-counts
returns-in-Bytes-clause-counts g c = read_counted (Bytes c.in-Bytes.n) _ _ _ _ _ _ c.in-Bytes.ensures.faults c.in-Bytes.ensures.stalls c.in-Bytes.ensures.ends

pub returns-in-NotReady-clause-counts : goal.returns-in-NotReady-clause-counts
returns-in-NotReady-clause-counts g c = read_counted NotReady _ _ _ _ _ _ c.in-NotReady.ensures.faults c.in-NotReady.ensures.stalls c.in-NotReady.ensures.ends

pub returns-in-Ended-clause-counts : goal.returns-in-Ended-clause-counts
returns-in-Ended-clause-counts g c = read_counted Ended _ _ _ _ _ _ c.in-Ended.ensures.faults c.in-Ended.ensures.stalls c.in-Ended.ensures.ends

pub returns-in-Failed-clause-counts : goal.returns-in-Failed-clause-counts
returns-in-Failed-clause-counts g c = read_counted Failed _ _ _ _ _ _ c.in-Failed.ensures.faults c.in-Failed.ensures.stalls c.in-Failed.ensures.ends
