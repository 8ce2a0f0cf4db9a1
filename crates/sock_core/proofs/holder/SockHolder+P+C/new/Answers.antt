use Rattle.std.specs.List.{list_any}
use Rattle.std.proofs.Common.{ap, sym, arith, length}
use Rattle.desk.specs.declared.notice.Notice.{Notice}
use Rattle.sock_core.specs.Has.{is_stop}
use Rattle.sock_core.proofs.NewLemmas.{calm_new}
use Rattle.sock_core.proofs.holder.SockHolder+P+C.new.Goals as goal

pub invariant_of-result-clause-stopped : goal.invariant_of-result-clause-stopped
invariant_of-result-clause-stopped g c = sym (ap (list_any (λ (x : Notice × Unit {0}). is_stop x.0)) c.new-9.ensures)

pub returns-clause-calm : goal.returns-clause-calm
returns-clause-calm g c = calm_new c.new-10.result.items c.new-2.result.items c.new-11.result.items c.new-10.ensures c.new-11.ensures

pub invariant_of-result-clause-came : goal.invariant_of-result-clause-came
invariant_of-result-clause-came g c s t e = elim e [ ]

pub invariant_of-result-clause-done : goal.invariant_of-result-clause-done
invariant_of-result-clause-done g c s t e = elim e [ ]

pub invariant_of-result-clause-number : goal.invariant_of-result-clause-number
invariant_of-result-clause-number g c s t e = elim e [ ]

pub invariant_of-result-clause-others : goal.invariant_of-result-clause-others
invariant_of-result-clause-others g c s t e = elim e [ ]

pub invariant_of-result-clause-rest : goal.invariant_of-result-clause-rest
invariant_of-result-clause-rest g c s t e = elim e [ ]

pub invariant_of-result-clause-tied : goal.invariant_of-result-clause-tied
invariant_of-result-clause-tied g c s t e = elim e [ ]

pub invariant_of-result-clause-way : goal.invariant_of-result-clause-way
invariant_of-result-clause-way g c s t e = elim e [ ]

pub invariant_of-result-clause-room : goal.invariant_of-result-clause-room
invariant_of-result-clause-room g c =
    let none = ap length c.new-2.ensures.items in
    record { given = λ is. omega (arith, none); joined = λ is. omega (arith, none); none_given = c.new-4.ensures.items; none_joined = c.new-5.ensures.items }
