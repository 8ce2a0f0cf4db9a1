use Rattle.std.proofs.Common.{◌∙◌, sym}
use Rattle.line_socket.proofs.NewReaderLemmas.{among_next}
use Rattle.line_socket.proofs.readers.new_reader.Goals as goal

pub each-preserved : goal.each-preserved
each-preserved g c = λ all.
    c.each.invariant (among_next c.args.places.now c.each.place c.index-places-place.result c.args.before.now c.each-test.true c.index-places-place.is (sym c.is_new.ensures ∙ c.if-is_new.false) all)
