use Rattle.zmtp_engine.proofs.Exchanges.{decodes_as_offered}
use Rattle.zmtp_engine.proofs.laws.what_is_written_means_what_was_offered.Goals as goal

pub returns : goal.returns
returns c = λ p x said other heard f now none all is shake. decodes_as_offered p x said other heard f now none all is shake
