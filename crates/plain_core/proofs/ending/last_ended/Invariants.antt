use Rattle.std.proofs.Common.{◌≡◌, ◌++◌, List, length}
use Rattle.zq_base.specs.declared.ids.ObjId.{ObjId}
use Rattle.ctl_plane.specs.Past.{control_of}
use Rattle.plain_core.proofs.LastLemmas.{Walked}
use Rattle.plain_core.proofs.ending.last_ended.Given as goal

-- the last objects are walked over
abbrev pub invariant-loop-object : goal.invariant-loop-object
invariant-loop-object g l =
    (rest : List ObjId) × (l.fn.objects.items ≡ l.objects.items ++ rest) × Walked (control_of l.desk.past) rest l.marks.items l.ended.items

abbrev pub decreases-loop-object : goal.decreases-loop-object
decreases-loop-object g l = length l.objects.items
