-- Endpoints, as a script writes them: inproc so far (zmq_inproc(7)).
use Rattle.std.specs.Prelude.{◌&&◌, ℕ, Bool, List, Result, Ok, Err, length, nat_eq, nat_le, codes, drop, if◌then◌else◌}
use Rattle.std.specs.Char.{is_ascii_graphic}
use Rattle.std.specs.List.{list_all, starts_with}
use Rattle.zq_base.specs.declared.endpoint.Endpoint.{Endpoint}
use Rattle.zq_base.specs.declared.endpoint.Endpoint.TheVariants.{Inproc}
use Rattle.zq_script.specs.declared.fault.Cause.{Cause}
use Rattle.zq_script.specs.declared.fault.Cause.TheVariants.{BadEndpoint}

-- the name of an inproc endpoint: 1 to 255 printable octets
unfoldable pub is_inproc_name : List ℕ → Bool
is_inproc_name name =
    nat_le 1 (length name) && nat_le (length name) 255 && list_all is_ascii_graphic name

-- the endpoint of a word: `inproc://` and a name
unfoldable pub endpoint_of : List ℕ → Result Endpoint Cause
endpoint_of word =
    if starts_with nat_eq word (codes "inproc://") && is_inproc_name (drop 9 word)
    then Ok (Inproc (drop 9 word)) else Err BadEndpoint
