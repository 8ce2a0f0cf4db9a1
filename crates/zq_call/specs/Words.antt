-- The grammar of the command line (own choice): `run [--threads 0] [--seed N] [--turns N]` and `hear KIND [--user U --pass P]`, behind the program's name. Which word is an option, a value or the kind is as clap says, by its own function of the command and the words; here stand the command and what its values must be.
use Rattle.std.specs.Prelude.{◌&&◌, ◌==◌, Bool, not, List, [], ◌∷◌, Option, Some, None, codes, false, find, length, nat_le, option_map, option_and_then, if◌then◌else◌}
use Rattle.std.specs.List.{list_any}
use Rattle.std.specs.Str.{bytes_eq}
use Rattle.clap.specs.Words.{App, Row, Rule, Text, fault_of, first_of, new_app, new_rule, subcommand_of, with_rule, with_subcommand}
use Rattle.zq_base.specs.declared.options.Login.{Login}
use Rattle.spec_zmtp.specs.PeerMetadata.{kind_named}
use Rattle.zq_call.specs.Number.{number_or}
use Rattle.zq_call.specs.declared.request.Request.{Request}
use Rattle.zq_call.specs.declared.request.Request.TheVariants.{Run, Hear}

-- an option `--name VALUE` or `--name=VALUE`
abbrev pub option_of : Text → Rule
option_of name = record (new_rule name) { long = Some name }

-- the command `run`, with its options
abbrev pub run_command : App
run_command =
    with_rule (with_rule (with_rule (new_app (codes "run"))
    (option_of (codes "threads"))) (option_of (codes "seed"))) (option_of (codes "turns"))

-- the command `hear`, with its word and its options
abbrev pub hear_command : App
hear_command =
    with_rule (with_rule (with_rule (new_app (codes "hear"))
    (new_rule (codes "kind"))) (option_of (codes "user"))) (option_of (codes "pass"))

-- the program, with its commands
abbrev pub program : App
program = with_subcommand (with_subcommand (new_app (codes "zbus")) run_command.top) hear_command.top

abbrev pub is_dash : Text → Bool
is_dash word = bytes_eq word (codes "-")

-- a word behind the program's name is a dash alone, which clap takes for a value
abbrev pub has_lone_dash : List Text → Bool
has_lone_dash [] = false
has_lone_dash (name ∷ words) = list_any is_dash words

-- the words are in order: clap finds no fault with them
abbrev pub are_in_order : List Text → Bool
are_in_order words = not (has_lone_dash words) && length (fault_of program words) == 0

-- what `run` asks for, by its options
abbrev pub run_of : List Row → Option Request
run_of rows =
    option_and_then (λ threads.
    option_and_then (λ seed.
    option_map (λ turns. Run seed turns)
    (number_or 100000 1 1000000000 (first_of (codes "turns") rows)))
    (number_or 0 0 9223372036854775807 (first_of (codes "seed") rows)))
    (number_or 0 0 0 (first_of (codes "threads") rows))

-- a user or a password: at most 255 octets
abbrev pub is_short : Text → Bool
is_short text = nat_le (length text) 255

-- the login, with both options or with neither
abbrev pub login_of : Option Text → Option Text → Option (Option Login)
login_of None None = Some None
login_of None (Some pass) = None
login_of (Some user) None = None
login_of (Some user) (Some pass) =
    if is_short user && is_short pass then Some (Some (record { user = user; pass = pass })) else None

-- what `hear` asks for, by its word and its options
abbrev pub hear_of : List Row → Option Request
hear_of rows =
    option_and_then (λ kind.
    option_map (λ login. Hear kind login)
    (login_of (first_of (codes "user") rows) (first_of (codes "pass") rows)))
    (option_and_then kind_named (first_of (codes "kind") rows))

-- what a command asks for, by its name and what was found behind it
abbrev pub request_of : Text × List Row → Option Request
request_of found =
    if bytes_eq found.0 (codes "run") then run_of found.1
    else (if bytes_eq found.0 (codes "hear") then hear_of found.1 else None)

-- what the words ask for
abbrev pub asked : List Text → Option Request
asked words =
    if are_in_order words then option_and_then request_of (subcommand_of program words) else None
