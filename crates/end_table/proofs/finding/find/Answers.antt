use Rattle.std.proofs.Common.{◌∙◌, sym, ap}
use Rattle.end_table.specs.Places.{is_of}
use Rattle.end_table.proofs.PlaceLemmas.{found_first, once_in_pairs}
use Rattle.end_table.proofs.finding.find.Goals as goal

pub returns-then-is_held_as : goal.returns-then-is_held_as
returns-then-is_held_as g c =
    sym (found_first (is_of c.args.end) c.args.places.now c.guessed-guess.result c.index-places-guess.result (once_in_pairs c.args.end c.args.places.now c.requires.once)
    c.if-guess-places.true (ap (is_of c.args.end) (sym c.index-places-guess.is) ∙ sym c.is_held_as.ensures ∙ c.if-is_held_as.true))
