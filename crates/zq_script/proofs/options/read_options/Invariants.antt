use Rattle.std.proofs.Common.{◌≡◌, drop}
use Rattle.std.specs.Prelude.{map}
use Rattle.zq_script.specs.SocketOption.{default_options, with_options}
use Rattle.zq_script.proofs.options.read_options.Given as goal

-- the other words go on from the options so far
abbrev pub invariant-loop-word : goal.invariant-loop-word
invariant-loop-word l = with_options (map (λ x. x.now) l.words) default_options ≡ with_options (map (λ x. x.now) (drop l.word-index l.words)) l.options
