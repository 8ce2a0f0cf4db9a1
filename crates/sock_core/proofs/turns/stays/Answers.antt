use Rattle.std.proofs.Common.{sym, ◌∙◌, true≢false}
use Rattle.std.proofs.lemmas.List.Elements.{All-contains_itself}
use Rattle.sock_core.proofs.turns.stays.Goals as goal

pub returns-in-Active-clause-peers : goal.returns-in-Active-clause-peers
returns-in-Active-clause-peers g c = record {
  none_new = All-contains_itself (g.C.Joins.peers c.args.kind.now);
  gone = λ is off. absurd (true≢false (sym is ∙ off));
  none_back = λ is. is;
  stay = λ k ne here. here;
  stays_too = λ is here. here;
}
