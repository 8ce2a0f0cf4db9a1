use Rattle.control_laws.proofs.AttachedOnceLemmas.{ends_are_attached_once}
use Rattle.control_laws.proofs.attached.ends_are_attached_once.Goals as goal

pub returns : goal.returns
returns c start = ends_are_attached_once _ _
