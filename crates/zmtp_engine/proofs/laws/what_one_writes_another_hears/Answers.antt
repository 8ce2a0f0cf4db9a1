use Rattle.zmtp_engine.proofs.Exchanges.{hears_as_offered}
use Rattle.zmtp_engine.proofs.laws.what_one_writes_another_hears.Goals as goal

pub returns : goal.returns
returns c = λ p q x e said heard f now none all is g now' same shake. hears_as_offered p q x e said heard f now none all is g now' same shake
