use Rattle.std.proofs.Common.{◌∙◌, Some, List, cond, nat_eq, length, sym, ap}
use Rattle.std.specs.Prelude.{position}
use Rattle.indexmap.specs.IndexMap.{get}
use Rattle.closed_ends.specs.declared.sockets.ClosedSocket.{ClosedSocket}
use Rattle.closed_ends.specs.Has.{is_socket}
use Rattle.closed_ends.proofs.IndexLemmas.{position_added}
use Rattle.closed_ends.proofs.sockets.add.Goals as goal

pub returns-clause-indexed : goal.returns-clause-indexed
returns-clause-indexed g c = λ n.
    c.in-Ok.ensures.updates.0 n
    ∙ ap (λ k. cond (nat_eq c.args.number.0 n) (Some k) (get nat_eq c.args.closed.now.places n)) (c.len-place.ensures ∙ c.args.closed.now.sockets.ok.0)
    ∙ ap (λ x. cond (nat_eq c.args.number.0 n) (Some (length c.args.closed.now.sockets.items)) x) (c.requires.indexed n)
    ∙ sym (position_added n c.args.closed.now.sockets.items (record { number = c.args.number; ends = c.args.ends }) c.requires.new)
    ∙ ap (λ (l : List (ClosedSocket _ _ _)). position (is_socket n) l) (sym c.push_reserved.ensures.items)
