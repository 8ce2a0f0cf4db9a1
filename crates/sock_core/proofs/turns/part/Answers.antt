use Rattle.std.proofs.Common.{sym, ◌∙◌, true≢false}
use Rattle.std.proofs.lemmas.List.Elements.{All-contains_itself}
use Rattle.sock_core.proofs.turns.part.Goals as goal

pub returns-then-not-is_peer-clause-peers : goal.returns-then-not-is_peer-clause-peers
returns-then-not-is_peer-clause-peers g c = record {
  none_new = All-contains_itself (g.C.Joins.peers c.args.kind.now);
  gone = λ is. absurd (true≢false (sym is ∙ c.if-not-is_peer.true));
  stay = λ k ne here. here;
}
