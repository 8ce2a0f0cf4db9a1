use Rattle.zq_script.proofs.KindLemmas.{kind_word-named, kind_word-other}
use Rattle.zq_script.proofs.line.read_kind.Goals as goal

pub returns-in-Some : goal.returns-in-Some
returns-in-Some c = kind_word-named c.args.word.now c.in-Some.kind c.in-Some.ensures.some

pub returns-in-None : goal.returns-in-None
returns-in-None c = kind_word-other c.args.word.now c.in-None.ensures.none
