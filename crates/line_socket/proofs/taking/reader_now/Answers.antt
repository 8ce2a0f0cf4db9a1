use Rattle.std.proofs.Common.{◌≡◌, true, drop, sym, subst}
use Rattle.std.proofs.lemmas.List.Elements.{All-nil}
use Rattle.std.specs.List.{list_any}
use Rattle.spec_control.specs.Control.{is_end}
use Rattle.line_socket.specs.Readers.{held_places, readers_in, readers_from, AreAmong, IsNewReader}
use Rattle.line_socket.proofs.BeganLemmas.{none_reads}
use Rattle.line_socket.proofs.taking.reader_now.Goals as goal

pub returns-then-not-core : goal.returns-then-not-core
returns-then-not-core g c =
    subst (AreAmong c.args.before.now) (sym (none_reads c.args.socket.now c.in-Some.core c.in-Some.is c.requires.began c.if-not-core.true 0))
    (All-nil (λ e. list_any (is_end e) c.args.before.now ≡ true))

pub returns-in-Some : goal.returns-in-Some
returns-in-Some g c =
    subst (λ s. IsNewReader (readers_from s) c.args.before.now c.reader_at.result) (sym c.in-Some.is)
    (subst (λ ps. IsNewReader (λ n. readers_in (drop n (held_places ps))) c.args.before.now c.reader_at.result) c.deref.ensures.value c.reader_at.ensures)
