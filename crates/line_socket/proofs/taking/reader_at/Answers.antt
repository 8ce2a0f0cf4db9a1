use Rattle.std.proofs.Common.{◌∙◌, drop, sym, ap, subst}
use Rattle.std.specs.List.{list_any}
use Rattle.spec_control.specs.Control.{is_end}
use Rattle.line_socket.specs.Readers.{readers_in, AreAmong, IsNewReader}
use Rattle.line_socket.proofs.NewReaderLemmas.{readers_held}
use Rattle.line_socket.proofs.taking.reader_at.Goals as goal

pub ranked-requires : goal.ranked-requires
ranked-requires g c = record { reads = (subst (IsNewReader (λ n. readers_in (drop n c.args.places.now)) c.args.before.now) c.in-Some.is c.new_reader.ensures).0 }

pub returns-in-Some : goal.returns-in-Some
returns-in-Some g c =
    let found = subst (IsNewReader (λ n. readers_in (drop n c.args.places.now)) c.args.before.now) c.in-Some.is c.new_reader.ensures in
    (c.ranked.ensures.reads, ap (λ e. list_any (is_end e) c.args.before.now) c.ranked.ensures.end ∙ found.1)

pub returns-in-None : goal.returns-in-None
returns-in-None g c =
    subst (AreAmong c.args.before.now) (sym (readers_held c.args.places.now))
    (subst (IsNewReader (λ n. readers_in (drop n c.args.places.now)) c.args.before.now) c.in-None.is c.new_reader.ensures)
