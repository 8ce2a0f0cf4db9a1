-- The options of a `socket` line: marks, an identity, and how a ROUTER and an XPUB behave (zmq_setsockopt(3), ZMQ_SNDHWM, ZMQ_RCVHWM, ZMQ_IDENTITY, ZMQ_ROUTER_MANDATORY, ZMQ_XPUB_VERBOSE).
use Rattle.std.specs.Prelude.{◌&&◌, ℕ, negsuc, Bool, List, [], ◌∷◌, Result, Ok, Err, ok_or, nat_eq, nat_le, not, length, codes, drop, false, true, if◌then◌else◌}
use Rattle.std.specs.List.{starts_with}
use Rattle.std.specs.Str.{bytes_eq}
use Rattle.zq_base.specs.declared.options.Options.{Options}
use Rattle.zq_base.specs.declared.options.Role.TheVariants.{Null}
use Rattle.zq_script.specs.declared.fault.Cause.{Cause}
use Rattle.zq_script.specs.declared.fault.Cause.TheVariants.{BadWord, BadPart}
use Rattle.zq_script.specs.Answer.{◌>>=◌}
use Rattle.zq_base.specs.Number.{number_in}
use Rattle.zq_script.specs.Part.{part_of}
use Rattle.zq_script.specs.Words.{Words}

-- the options of a socket that is given none
abbrev pub default_options : Options
default_options = record {
  hwm = 1000;
  rcvhwm = 1000;
  linger = negsuc 0;
  reconnect = 100;
  id = [];
  mandatory = false;
  verbose = false;
  role = Null;
  logins = [];
}

-- a mark: a number from 1 to 10,000
unfoldable pub mark_of : List ℕ → Result ℕ Cause
mark_of word = ok_or (number_in 1 10000 word) BadWord

-- octets that may be a socket's identity: 1 to 255 of them, the first not 0
abbrev pub is_identity : List ℕ → Bool
is_identity octets =
    nat_le 1 (length octets) && nat_le (length octets) 255
    && not (starts_with nat_eq octets (0 ∷ []))

-- the identity that a part is
unfoldable pub identity_of : List ℕ → Result (List ℕ) Cause
identity_of word = do
  id ← part_of word
  if is_identity id then Ok id else Err BadPart

-- the options with the one that the word gives; one that the kind has no use for has no effect
unfoldable pub with_option : List ℕ → Options → Result Options Cause
with_option word options =
    if starts_with nat_eq word (codes "hwm=") then (do
      mark ← mark_of (drop 4 word)
      Ok (record options { hwm = mark }))
    else if starts_with nat_eq word (codes "rcvhwm=") then (do
      mark ← mark_of (drop 7 word)
      Ok (record options { rcvhwm = mark }))
    else if starts_with nat_eq word (codes "id=") then (do
      id ← identity_of (drop 3 word)
      Ok (record options { id = id }))
    else if bytes_eq word (codes "mandatory") then Ok (record options { mandatory = true })
    else if bytes_eq word (codes "verbose") then Ok (record options { verbose = true })
    else Err BadWord

-- the options with those that the words give in turn: of two for one thing the last counts
unfoldable pub with_options : Words → Options → Result Options Cause
with_options [] options = Ok options
with_options (word ∷ words) options = with_option word options >>= with_options words
