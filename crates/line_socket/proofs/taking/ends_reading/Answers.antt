use Rattle.std.proofs.Common.{◌≡◌, ◌∙◌, sym, ap}
use Rattle.std.proofs.lemmas.Result.{IfOk-weaker}
use Rattle.line_socket.specs.Readers.{readers_in, readers_from}
use Rattle.line_socket.proofs.BeganLemmas.{none_reads}
use Rattle.line_socket.proofs.NewReaderLemmas.{readers_held}
use Rattle.line_socket.proofs.taking.ends_reading.Goals as goal

pub returns-then-not-core : goal.returns-then-not-core
returns-then-not-core g c = c.new.ensures.items ∙ sym (none_reads c.args.socket.now c.in-Some.core c.in-Some.is c.requires.began c.if-not-core.true 0)

pub returns-in-Some : goal.returns-in-Some
returns-in-Some g c =
    let ps = c.in-Some.core.ends.places.items in
    IfOk-weaker c.reading_ends.result (λ ends. ends.items ≡ readers_in c.deref.result.now) (λ ends. ends.items ≡ readers_from c.args.socket.now 0)
    (λ ends is. is ∙ ap readers_in c.deref.ensures.value ∙ sym (readers_held ps) ∙ ap (λ s. readers_from s 0) (sym c.in-Some.is)) c.reading_ends.ensures
