-- The marks, identities and endpoints of a script are those that a line may have.
use Rattle.std.proofs.Common.{◌≡◌, ◌≤◌, ℕ, List, [], ◌∷◌, true, Some, arith}
use Rattle.std.specs.Prelude.{Ok, Err, ◌&&◌, nat_eq, codes, drop}
use Rattle.std.specs.List.{starts_with}
use Rattle.std.specs.Str.{bytes_eq}
use Rattle.std.proofs.lemmas.Grind.{common_steps}
use Rattle.zq_base.specs.Number.{number_in}
use Rattle.zq_base.specs.declared.endpoint.Endpoint.TheVariants.{Inproc}
use Rattle.zq_base.specs.declared.options.Options.{Options}
use Rattle.zq_script.specs.declared.fault.Cause.TheVariants.{BadWord, BadPart, BadEndpoint}
use Rattle.zq_script.specs.Answer.{◌>>=◌}
use Rattle.zq_script.specs.Grammar.{first_word, line_end, last_endpoint}
use Rattle.zq_script.specs.Part.{part_of}
use Rattle.zq_script.specs.Place.{endpoint_of, is_inproc_name}
use Rattle.zq_script.specs.SocketOption.{default_options, mark_of, is_identity, identity_of, with_option, with_options}
use Rattle.zq_script.specs.Words.{Words}
use Rattle.zq_world.specs.MayAsk.{MayBeSaid, MayMake, IsLocal}
use Rattle.replay_laws.proofs.ReadStepLemmas.{Holds, ok_holds, err_holds, if_then, any_then, by_test, by_some}

-- an endpoint is within the context
local_place : (word : List ℕ) → Holds IsLocal (endpoint_of word)
unfolding endpoint_of
local_place word =
    by_test IsLocal (starts_with nat_eq word (codes "inproc://") && is_inproc_name (drop 9 word)) (Ok (Inproc (drop 9 word))) (Err BadEndpoint)
    (λ e. ok_holds IsLocal (Inproc (drop 9 word)) tt) (err_holds IsLocal BadEndpoint)

pub local_at_last : (words : Words) → Holds IsLocal (last_endpoint words)
unfolding last_endpoint
local_at_last words = any_then IsLocal (first_word words) _ (λ first. if_then IsLocal IsLocal (endpoint_of first.0) _ (local_place first.0) (λ at h. any_then IsLocal (line_end first.1) _ (λ end. ok_holds IsLocal at h)))

-- a mark is in its bounds
abbrev IsMark : ℕ → Type 0
IsMark n = (1 ≤ n) × (n ≤ 10000)

in_range : (least most n : ℕ) (word : List ℕ) → number_in least most word ≡ Some n → (least ≤ n) × (n ≤ most)
unfolding number_in
in_range least most n word e = grind (arith, common_steps)

mark_may : (word : List ℕ) → Holds IsMark (mark_of word)
unfolding mark_of
mark_may word = by_some IsMark (number_in 1 10000 word) BadWord (λ n e. in_range 1 10000 n word e)

-- an identity is one that a peer may say
identity_said : (id : List ℕ) → is_identity id ≡ true → MayBeSaid id
identity_said [] e = tt
identity_said (octet ∷ octets) e = (grind (arith, common_steps), grind (arith, common_steps))

identity_may : (word : List ℕ) → Holds MayBeSaid (identity_of word)
unfolding identity_of
identity_may word = any_then MayBeSaid (part_of word) _ (λ id. by_test MayBeSaid (is_identity id) (Ok id) (Err BadPart) (λ e. ok_holds MayBeSaid id (identity_said id e)) (err_holds MayBeSaid BadPart))

default_may : MayMake default_options
default_may = record { some_out = omega arith; few_out = omega arith; some_in = omega arith; few_in = omega arith; identity = tt }

-- so may the options be that a word changes
option_may : (word : List ℕ) (options : Options) → MayMake options → Holds MayMake (with_option word options)
unfolding with_option
option_may word options may =
    by_test MayMake (starts_with nat_eq word (codes "hwm=")) (mark_of (drop 4 word) >>= λ mark. Ok (record options { hwm = mark })) _
    (λ e. if_then IsMark MayMake (mark_of (drop 4 word)) _ (mark_may (drop 4 word)) (λ n h. ok_holds MayMake (record options { hwm = n }) (record { some_out = h.0; few_out = h.1; some_in = may.some_in; few_in = may.few_in; identity = may.identity })))
    (by_test MayMake (starts_with nat_eq word (codes "rcvhwm=")) (mark_of (drop 7 word) >>= λ mark. Ok (record options { rcvhwm = mark })) _
    (λ e. if_then IsMark MayMake (mark_of (drop 7 word)) _ (mark_may (drop 7 word)) (λ n h. ok_holds MayMake (record options { rcvhwm = n }) (record { some_out = may.some_out; few_out = may.few_out; some_in = h.0; few_in = h.1; identity = may.identity })))
    (by_test MayMake (starts_with nat_eq word (codes "id=")) (identity_of (drop 3 word) >>= λ id. Ok (record options { id = id })) _
    (λ e. if_then MayBeSaid MayMake (identity_of (drop 3 word)) _ (identity_may (drop 3 word)) (λ id h. ok_holds MayMake (record options { id = id }) (record { some_out = may.some_out; few_out = may.few_out; some_in = may.some_in; few_in = may.few_in; identity = h })))
    (by_test MayMake (bytes_eq word (codes "mandatory")) (Ok (record options { mandatory = true })) _
    (λ e. ok_holds MayMake (record options { mandatory = true }) (record { some_out = may.some_out; few_out = may.few_out; some_in = may.some_in; few_in = may.few_in; identity = may.identity }))
    (by_test MayMake (bytes_eq word (codes "verbose")) (Ok (record options { verbose = true })) (Err BadWord)
    (λ e. ok_holds MayMake (record options { verbose = true }) (record { some_out = may.some_out; few_out = may.few_out; some_in = may.some_in; few_in = may.few_in; identity = may.identity }))
    (err_holds MayMake BadWord)))))

options_may : (words : Words) (options : Options) → MayMake options → Holds MayMake (with_options words options)
unfolding with_options
options_may [] options may = ok_holds MayMake options may
options_may (word ∷ words) options may = if_then MayMake MayMake (with_option word options) (with_options words) (option_may word options may) (λ next h. options_may words next h)

-- so may the options of a socket line
pub given_may : (words : Words) → Holds MayMake (with_options words default_options)
given_may words = options_may words default_options default_may
