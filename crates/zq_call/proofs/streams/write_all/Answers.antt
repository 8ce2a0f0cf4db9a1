use Rattle.std.proofs.Common.{◌≡◌, ◌≤◌, ◌+◌, ◌-◌, take, drop, length, arith}
use Rattle.std.proofs.lemmas.Grind.{common_steps}
use Rattle.zq_call.proofs.WritesOn.{appends_on, front_of}
use Rattle.zq_call.proofs.streams.write_all.Goals as goal

pub writes-preserved : goal.writes-preserved
writes-preserved g c =
    let within : c.writes.at + c.in-Took.count ≤ length c.args.text.now = grind (arith, common_steps, c.in-Took.ensures.counted) in
    let rest : take (length c.args.text.now - c.writes.at) (drop c.writes.at c.args.text.now) ≡ drop c.writes.at c.args.text.now = grind (arith, common_steps) in
    record {
      front = appends_on _ _ _ c.args.text.now c.writes.at c.in-Took.count within c.writes.invariant.front (rw rest at c.in-Took.ensures.bytes);
      within = within;
      faults = omega (arith, c.writes.invariant.faults, c.write.ensures.faults.kept);
    }

pub returns-in-Failed-clause-front : goal.returns-in-Failed-clause-front
returns-in-Failed-clause-front g c = λ _. front_of _ _ _ c.args.text.now c.writes.at _ c.writes.invariant.front c.in-Failed.ensures.bytes
