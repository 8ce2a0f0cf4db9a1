-- What tells of a call of the reaper tells of it whatever its parts are called.
use Rattle.std.specs.Prelude.{◌≡◌, ℕ, true, [], refl}
use Rattle.std.proofs.Common.{sym, subst}
use Rattle.zq_base.specs.declared.ids.SlotId.{SlotId}
use Rattle.msg_pipe.specs.Known.{Known}
use Rattle.zq_world.specs.Marks.{piece_marks}
use Rattle.reaper.specs.Steps.{acts_at, acts_reaped, ReapedAt, ReapedSo, ReapParts}
use Rattle.plain_core.specs.Letters.{TellsReapAt}
use Rattle.plain_core.specs.Reaping.{TellsReap}

module _ {S N O I T : Type 0} (K : Known S O I N) (k : ℕ) (old new was now : ReapParts S N O I T) (from : was ≡ old) (to : now ≡ new) (r : ReapedSo K old new) where
  pub reap_tells : TellsReap K k was now (piece_marks k true (acts_reaped K old new r) [])
  reap_tells =
      subst (λ (l : ReapParts S N O I T). TellsReap K k l now (piece_marks k true (acts_reaped K old new r) [])) (sym from)
      (subst (λ (l : ReapParts S N O I T). TellsReap K k old l (piece_marks k true (acts_reaped K old new r) [])) (sym to) (record { reaped = r; are = refl }))

-- and so of a letter of one of its mailboxes
module _ {S N O I T : Type 0} (K : Known S O I N) (k : ℕ) (slot : SlotId) (old new was now : ReapParts S N O I T) (from : was ≡ old) (to : now ≡ new) (r : ReapedAt K slot old new) where
  pub reap_at_tells : TellsReapAt K k slot was now (piece_marks k true (acts_at K slot old new r) [])
  reap_at_tells =
      subst (λ (l : ReapParts S N O I T). TellsReapAt K k slot l now (piece_marks k true (acts_at K slot old new r) [])) (sym from)
      (subst (λ (l : ReapParts S N O I T). TellsReapAt K k slot old l (piece_marks k true (acts_at K slot old new r) [])) (sym to) (record { reaped = r; are = refl }))
