use Rattle.std.proofs.Common.{sym, ◌∙◌, true≢false}
use Rattle.std.proofs.lemmas.List.Elements.{All-contains_itself}
use Rattle.sock_core.proofs.turns.unjoin.Goals as goal

pub returns-else-is_peer-clause-peers : goal.returns-else-is_peer-clause-peers
returns-else-is_peer-clause-peers g c = record {
  none_new = All-contains_itself (g.C.Joins.peers c.args.kind.now);
  gone = λ is. absurd (true≢false (sym is ∙ c.if-is_peer.false));
  stay = λ k ne here. here;
}
