use Rattle.std.proofs.Common.{◌≡◌, ◌≤◌, take, vec_capacity, length}
use Rattle.zq_base.proofs.options.Seq+Login.copy.Given as goal

-- so far the first logins were copied
abbrev pub invariant-logins : goal.invariant-logins
invariant-logins l = (l.copies.items ≡ take l.login-index l.self) × (length l.self ≤ vec_capacity l.copies)
