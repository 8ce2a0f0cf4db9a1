-- A core that does nothing (own choice).
use Rattle.std.specs.Prelude.{[], false}
use Rattle.zq_base.specs.declared.kind.Kind.TheVariants.{Pull}
use Rattle.spec_control.specs.Row.{no_options}
use Rattle.spec_pattern.specs.NewSocket.{new_pattern}
use Rattle.spec_run.specs.OpenSocket.{OpenSock}

-- a socket of it, of which there is none
abbrev pub no_socket : OpenSock
no_socket = record { object = 0; slot = 0; stopped = false; pattern = new_pattern Pull no_options; ends = [] }
