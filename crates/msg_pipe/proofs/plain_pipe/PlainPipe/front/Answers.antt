use Rattle.std.proofs.Common.{◌≡◌, ◌<◌, List, length, take, refl, sym, ap, subst, arith}
use Rattle.std.proofs.lemmas.List.{take_all}
use Rattle.std.specs.VecDeque.{deque_len}
use mathlib.Core.List.{IsPrefix}
use Rattle.zq_base.specs.Message.{Frames}
use Rattle.msg_pipe.specs.PlainPipe.{plain_taken, plain_committed}
use Rattle.msg_pipe.specs.PlainFits.{prefix_take, length-committed, length-taken}
use Rattle.msg_pipe.proofs.PlainPipeLemmas.{before_the_end}
use Rattle.msg_pipe.proofs.plain_pipe.PlainPipe.front.Goals as goal

pub returns-then-self-clause-front : goal.returns-then-self-clause-front
returns-then-self-clause-front c =
    let p = c.args.self.now in
    let some : 0 < deque_len p.waiting = (let k = p.counts in omega (arith, k)) in
    let count = length-committed p in
    let whole : take p.committed (plain_committed p) ≡ plain_committed p = take_all p.committed (plain_committed p) (omega (arith, count)) in
    let fresh = before_the_end p some in
    record {
      taken = refl;
      seen = subst (λ (l : List Frames). IsPrefix (take p.seen (plain_committed p)) l) (sym whole) (prefix_take (plain_committed p) p.seen);
      some = (let long = ap length whole in let t = length-taken p in let k = p.counts in omega (arith, long, count, t, k, some));
      within = subst (λ (l : List Frames). IsPrefix (plain_taken p) l) (sym whole) (p.waiting.items, refl);
      before_the_end = fresh;
      ended = fresh;
      empty_looks = refl;
    }
