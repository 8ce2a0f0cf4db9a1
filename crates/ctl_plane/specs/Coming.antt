-- The ends that join in the events more of a control plane, the objects that their holder has then, and what it was told of them (own choice).
use Rattle.desk.specs.Holding.{Holding}
use Rattle.desk.specs.Joins.{JoinsIn, KeepsObjects}
use Rattle.desk.specs.Heard.{HearsOnce}
use Rattle.ctl_plane.specs.Past.{Past, control_of}

module _ {G N S : Type 0} where
  -- the ends that joined the holder are those that the events more tell, it has the objects that it had, but those that ended, were closed, or came with a Reap, and heard what an event more tells it of them
  abbrev pub ComesWith : (old new : Past G N S) → (h k : Holding N) → Type 0
  ComesWith old new h k = JoinsIn old.events new.events h k × KeepsObjects (control_of old) (control_of new) h k × HearsOnce old.events new.events (control_of old) (control_of new) h k
