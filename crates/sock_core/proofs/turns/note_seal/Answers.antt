use Rattle.std.proofs.Common.{ap, ◌∙◌, map, List}
use Rattle.zq_base.specs.declared.ids.EndId.{EndId}
use Rattle.end_table.proofs.GivingLemmas.{map_more}
use Rattle.sock_core.proofs.turns.note_seal.Goals as goal

pub returns : goal.returns
returns c = ap (λ (l : List (EndId × Unit {0})). map (λ (x : EndId × Unit {0}). x.0) l) c.and.ensures ∙ map_more (λ (x : EndId × Unit {0}). x.0) c.args.sealed.now.items (c.args.end, tt)
