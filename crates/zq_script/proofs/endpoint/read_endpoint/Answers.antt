use Rattle.std.proofs.Common.{⊎_elim}
use Rattle.zq_script.proofs.PlaceLemmas.{endpoint_of-read, endpoint_of-other}
use Rattle.zq_script.proofs.endpoint.read_endpoint.Goals as goal

pub returns-in-Ok-Inproc : goal.returns-in-Ok-Inproc
returns-in-Ok-Inproc c = (endpoint_of-read c.args.word.now c.in-Ok-Inproc.field-0 c.in-Ok-Inproc.ensures.ok.0 c.in-Ok-Inproc.ensures.ok.1).0 _ c.in-Ok-Inproc.field-0-is

pub returns-in-Ok-Tcp : goal.returns-in-Ok-Tcp
returns-in-Ok-Tcp c = (endpoint_of-read c.args.word.now c.in-Ok-Tcp.field-0 c.in-Ok-Tcp.ensures.ok.0 c.in-Ok-Tcp.ensures.ok.1).1 _ c.in-Ok-Tcp.field-0-is

pub returns-in-Err-BadScheme : goal.returns-in-Err-BadScheme
returns-in-Err-BadScheme c = ⊎_elim (λ e. cc) (λ none. endpoint_of-other c.args.word.now none) c.in-Err-BadScheme.ensures.refused

pub returns-in-Err-BadName : goal.returns-in-Err-BadName
returns-in-Err-BadName c = ⊎_elim (λ e. cc) (λ none. endpoint_of-other c.args.word.now none) c.in-Err-BadName.ensures.refused

pub returns-in-Err-BadAddress : goal.returns-in-Err-BadAddress
returns-in-Err-BadAddress c = ⊎_elim (λ e. cc) (λ none. endpoint_of-other c.args.word.now none) c.in-Err-BadAddress.ensures.refused
