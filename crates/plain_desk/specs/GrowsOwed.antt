-- The order where nothing is called (own choice).
use Rattle.std.specs.Prelude.{[], refl}
use Rattle.std.proofs.Common.{sym}
use Rattle.std.proofs.lemmas.List.{append-nil}
use Rattle.std.proofs.lemmas.List.Elements.{All-nil}
use Rattle.plain_desk.specs.Lent.{Lent, GrowsBy}

pub grows_none : {G N S : Type 0} (d : Lent G N S) → GrowsBy d d
grows_none d = record { caller = refl; workers = refl; more = []; items = sym (append-nil d.items); by = All-nil _ }
